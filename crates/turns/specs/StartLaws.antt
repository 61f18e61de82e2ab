-- Before the first turn: the rows of one table, the memo as laying out leaves it, and what a turn works on.
use Rattle.std.specs.Prelude.{◌≡◌, refl, Option, List, [], ◌∷◌, ◌++◌, map, ℕ, zero, suc, ◌+◌, ◌-◌, ◌≤◌, ◌<◌, length, get_or, set, take, replicate}
use Rattle.std.proofs.Common.{sym, ap, ◌∙◌, zero-add, add-one, arith, length-take, take-suc, get_or-set_other}
use Rattle.std.proofs.Math.Decide.{dec_lt}
use Rattle.std.proofs.lemmas.List.{length-replicate, get_or-replicate}
use Rattle.rules.specs.Limits.{max_fixed, max_coefficient, cost_bound}
use Rattle.rules.specs.Sets.{size, single}
use Rattle.rules.specs.Query.{Graph, Query, IsTable, table_count, method_count, at}
use Rattle.rules.specs.declared.Group.{Group}
use Rattle.rules.specs.Schedule.{Schedule}
use Rattle.rules.specs.declared.Crew.{Crew}
use Rattle.rules.specs.Connected.{Connected}
use Rattle.rules.proofs.laws.Progress as progress
use Rattle.rules.specs.laws.Standing as standing
use Rattle.rules.proofs.laws.Rows.{rows_all, memo-all, memo-only, memo-once}
use Rattle.pairs.specs.UniqueLaws.{once-at}
use Rattle.rules.specs.Estimate.{estimate}
use Rattle.rules.specs.Rows.{rows_of, memo}
use Rattle.rules.specs.Skips.{skips}
use Rattle.rules.specs.Checked.{GoodGraph, Sound}
use Rattle.rules.specs.laws.Bools.{true-yes}
use Rattle.rules.specs.laws.Lists.{length-map, over-at, at_in, in-at}
use Rattle.rules.specs.laws.Sets.{size-pow, size-pos}
use Rattle.rules.specs.laws.Connected.{connected-single}
use Rattle.rules.specs.laws.Decide.{connected?}
use Rattle.rules.proofs.laws.Estimate.{least-below}
use Rattle.graph.specs.Walk.{walk}
use Rattle.rows.specs.Sizes.{up_to}
use Rattle.rows.specs.WalkLaws.{walk-hit, walk-few, walk_step, rows_start, up_to-none}
use Rattle.skips.specs.Vectors.{written}
use Rattle.starts.specs.Starts.{counts_to, starts, cells_to, cell_starts}
use Rattle.memo.specs.LayoutLaws.{written_over, front, still-long}
use Rattle.starts.specs.CountLaws.{counts-at, length-starts, written-push}
use Rattle.pairs.specs.Places.{start_of, Fit, Ground}
use Rattle.pairs.specs.PlaceLaws.{start-next, start-mono, start-memo, memo-inside, memo-row}
use Rattle.results.specs.Prices.{Methods}
use Rattle.turns.specs.Standing.{Columns, choice_in, row_in, top_of, result_at, Reach, Open, Handing, Final}
use Rattle.crew.specs.declared.Worker.{Worker}
use Rattle.crew.specs.declared.Handed as code
use Rattle.turns.specs.Index.{index_of, index_at}

-- ---- lists
-- a list copied to the front of another: one more of its values
pub copied_more : (v d : List ℕ) (i : ℕ) {l : List ℕ} → i < length v → l ≡ written d 0 (take i v) → set l i (get_or v i 0) ≡ written d 0 (take (i + 1) v)
copied_more v d i h e =
    rw e (
    written-push d 0 i (take i v) (get_or v i 0) (omega (arith, length-take i v))
    ∙ ap (written d 0) (sym (ap (λ (k : ℕ). take k v) (add-one i) ∙ take-suc v i 0 h))
    )

-- what stands in the written part, and behind it
written_at : (v d : List ℕ) (j : ℕ) → length v ≤ length d → j < length v → get_or (written d 0 v) j 0 ≡ get_or v j 0
written_at v d j l h = ap (λ (x : List ℕ). get_or x j 0) (written_over v d l) ∙ over-at v d j h

written_behind : (v d : List ℕ) (i j : ℕ) → i + length v ≤ j → get_or (written d i v) j 0 ≡ get_or d j 0
written_behind [] d i j h = refl
written_behind (x ∷ v) d i j h = written_behind v (set d i x) (suc i) j (omega arith) ∙ get_or-set_other d i j x 0 (λ e. omega arith)

-- nothing stands behind a list
none-behind : (l : List ℕ) (i : ℕ) → length l ≤ i → get_or l i 0 ≡ 0
none-behind [] i h = refl
none-behind (x ∷ l) zero h = absurd (omega arith)
none-behind (x ∷ l) (suc i) h = none-behind l i (omega arith)

-- cleared cells
cleared : (n : ℕ) (d : List ℕ) (j : ℕ) → n ≤ length d → j < n → get_or (written d 0 (replicate n 0)) j 0 ≡ 0
cleared n d j l h =
    let z : ℕ = 0 in
    written_at (replicate n 0) d j (omega (arith, length-replicate n z)) (omega (arith, length-replicate n z)) ∙ get_or-replicate n j 0 0 h

-- ---- the rows of one table
module _ (g : Graph) where
  -- from table t on
  one-first : (t : ℕ) → 1 ≤ t → t ≤ table_count g → walk g 1 t (table_count g + 1 - t) 0 ≡ single t ∷ walk g 1 (t + 1) (table_count g + 1 - (t + 1)) 0
  one-first t f l =
      let n = table_count g + 1 - (t + 1) in
      let e : 0 + single t ≡ single t = zero-add (single t) in
      let c = true-yes (connected? g (single t)) (connected-single g t (record { from_one = f; to-count = l })) in
      let here : walk g (1 - 1) (t + 1) n (0 + single t) ≡ single t ∷ [] = rw e (walk-hit g (t + 1) n (single t) (1 - 1) (omega arith) c) in
      walk_step g (table_count g) 1 t 0 (single t) (omega arith) l refl ∙ ap (λ (x : List ℕ). x ++ walk g 1 (t + 1) n 0) here

  one_from : (n t : ℕ) → 1 ≤ t → t + n ≡ table_count g + 1
      → (length (walk g 1 t (table_count g + 1 - t) 0) ≡ n) × ((j : ℕ) → j < n → get_or (walk g 1 t (table_count g + 1 - t) 0) j 0 ≡ single (t + j))
  one_from zero t f e = (ap length (walk-few g 1 t (table_count g + 1 - t) 0 (omega arith)), λ j l. absurd (omega arith))
  one_from (suc n) t f e = rw (one-first t f (omega arith)) (go (one_from n (t + 1) (omega arith) (omega arith)))
    where
      go : (length (walk g 1 (t + 1) (table_count g + 1 - (t + 1)) 0) ≡ n) × ((j : ℕ) → j < n → get_or (walk g 1 (t + 1) (table_count g + 1 - (t + 1)) 0) j 0 ≡ single (t + 1 + j))
          → (suc (length (walk g 1 (t + 1) (table_count g + 1 - (t + 1)) 0)) ≡ suc n) × ((j : ℕ) → j < suc n → get_or (single t ∷ walk g 1 (t + 1) (table_count g + 1 - (t + 1)) 0) j 0 ≡ single (t + j))
      go ih = (ap suc ih.0, at)
        where
          at : (j : ℕ) → j < suc n → get_or (single t ∷ walk g 1 (t + 1) (table_count g + 1 - (t + 1)) 0) j 0 ≡ single (t + j)
          at zero l = let e : t + 0 ≡ t = omega arith in rw e
          at (suc j) l = let e : t + 1 + j ≡ t + suc j = omega arith in rw e at (ih.1 j (omega arith))

  -- they are the tables, each a set of its own, in their order
  pub one-rows : (length (rows_of g 1) ≡ table_count g) × ((j : ℕ) → j < table_count g → get_or (rows_of g 1) j 0 ≡ single (j + 1))
  one-rows =
      let o = one_from (table_count g) 1 (omega arith) (omega arith) in (
        ap length (sym (rows_start g 1)) ∙ o.0,
        λ j l.
            let e : 1 + j ≡ j + 1 = omega arith in
            ap (λ (x : List ℕ). get_or x j 0) (sym (rows_start g 1)) ∙ (rw e at (o.1 j l)),
      )

  -- and stand first in the memo
  start-one : start_of g 1 ≡ 0
  start-one = ap length (up_to-none g)

  start-two : start_of g 2 ≡ table_count g
  start-two = start-next g 1 (omega arith) ∙ omega (arith, start-one, one-rows.0)

  memo-one : (r : ℕ) → r < table_count g → get_or (memo g) r 0 ≡ single (r + 1)
  memo-one r l =
      let e : r - start_of g 1 ≡ r = omega (arith, start-one) in
      memo-row g 1 r (omega arith) (omega (arith, start-one)) (omega (arith, start-two)) ∙ ap (λ (x : ℕ). get_or (rows_of g 1) x 0) e ∙ one-rows.1 r l

  -- so the memo has a row for each table
  pub tables-fit : GoodGraph g → table_count g ≤ length (memo g)
  tables-fit good = omega (arith, start-two, start-memo g 2 (omega (arith, good.some-table)))

-- the row of a pair's result is one of the memo
pub handing-inside : {g : Graph} {fixed outer inner result : List ℕ} {group : Group} {v v' : Worker} {old new : Columns} {pair : Option code.Handed} (h : Handing g fixed outer inner result group v v' old new pair) → h.row < length (memo g)
handing-inside {g} {group = group} h = go (result_at group h.spot.size) h.row_from h.row-to
  where
    go : (z : ℕ) → start_of g z ≤ h.row → h.row < start_of g (z + 1) → h.row < length (memo g)
    go zero a b = let e : 0 + 1 ≡ 1 = omega arith in absurd (omega (arith, start-one g, ap (start_of g) e))
    go (suc z) a b = memo-inside g (suc z) h.row (omega arith) a b

-- a set's row stands among those of its size
there : (g : Graph) (S : ℕ) → Connected g S → (r : ℕ) → r < length (memo g) → get_or (memo g) r 0 ≡ S → (start_of g (size S) ≤ r) × (r < start_of g (size S + 1))
there g S d r h e =
    let one = size-pos S d.some in
    let i = in-at 0 (rows_of g (size S)) S (rows_all g S d) in
    let p = start_of g (size S) + i.0 in
    let n = start-next g (size S) one in
    let b : p < start_of g (size S + 1) = omega (arith, n, i.1) in
    let f : p - start_of g (size S) ≡ i.0 = omega arith in
    let m : get_or (memo g) p 0 ≡ S = memo-row g (size S) p one (omega arith) b ∙ ap (λ (x : ℕ). get_or (rows_of g (size S)) x 0) f ∙ i.2 in
    let x : r ≡ p = once-at (memo g) (memo-once g) r p h (memo-inside g (size S) p one (omega arith) b) (e ∙ sym m) in
    (omega arith, omega arith)

-- a row before those of k + 1 tables has at most k
pub row_small : (g : Graph) (k r : ℕ) → r < length (memo g) → r < start_of g (k + 1) → size (get_or (memo g) r 0) ≤ k
row_small g k r h l =
    let S = get_or (memo g) r 0 in
    let d = memo-only g S (at_in 0 (memo g) r h) in
    let i = in-at 0 (rows_of g (size S)) S (rows_all g S d) in
    let a : start_of g (size S) ≤ r = (there g S d r h refl).0 in
    go (dec_lt k (size S)) a
  where
    go : Dec (k < size (get_or (memo g) r 0)) → start_of g (size (get_or (memo g) r 0)) ≤ r → size (get_or (memo g) r 0) ≤ k
    go (yes u) a = absurd (omega (arith, start-mono g (k + 1) (size (get_or (memo g) r 0)) (omega arith)))
    go (no u) a = omega arith

-- ---- what the columns hold before the first turn
-- as laying out leaves them, with the scan costs
pub record Starting (q : Query) (old_costs old_outers old_methods : List ℕ) (c : Columns) : Type 0 where
  pub costs-room : length (memo q.graph) ≤ length old_costs
  pub outers-room : length (memo q.graph) ≤ length old_outers
  pub methods-room : length (memo q.graph) ≤ length old_methods
  pub costs-are : c.costs ≡ written (written old_costs 0 (replicate (length (memo q.graph)) 0)) 0 q.scans
  pub outers-are : c.outers ≡ written old_outers 0 (replicate (length (memo q.graph)) 0)
  pub methods-are : c.methods ≡ written old_methods 0 (replicate (length (memo q.graph)) 0)

module _ (q : Query) (sound : Sound q) {old_costs old_outers old_methods : List ℕ} {c : Columns} (z : Starting q old_costs old_outers old_methods c) where
  abbrev rows : ℕ
  rows = length (memo q.graph)

  costs-long : length (written old_costs 0 (replicate rows 0)) ≡ length old_costs
  costs-long = still-long (replicate rows 0) old_costs refl

  -- "Cost of one table is its scan cost."
  cost-one : (r : ℕ) → r < table_count q.graph → get_or c.costs r 0 ≡ get_or q.scans r 0
  cost-one r l =
      ap (λ (x : List ℕ). get_or x r 0) z.costs-are
      ∙ written_at q.scans (written old_costs 0 (replicate rows 0)) r (omega (arith, costs-long, tables-fit q.graph sound.graph, sound.scan-list, z.costs-room)) (omega (arith, sound.scan-list))

  cost-more : (r : ℕ) → table_count q.graph ≤ r → r < rows → get_or c.costs r 0 ≡ 0
  cost-more r l h =
      ap (λ (x : List ℕ). get_or x r 0) z.costs-are
      ∙ written_behind q.scans (written old_costs 0 (replicate rows 0)) 0 r (omega (arith, sound.scan-list))
      ∙ cleared rows old_costs r z.costs-room h

  no_outer : (r : ℕ) → r < rows → get_or c.outers r 0 ≡ 0
  no_outer r h = ap (λ (x : List ℕ). get_or x r 0) z.outers-are ∙ cleared rows old_outers r z.outers-room h

  no-method : (r : ℕ) → r < rows → get_or c.methods r 0 ≡ 0
  no-method r h = ap (λ (x : List ℕ). get_or x r 0) z.methods-are ∙ cleared rows old_methods r z.methods-room h

  -- the rows of one table are final, the others unset
  pub final-start : (crew : Crew) (groups : Schedule) → Final q crew groups 1 c
  final-start crew groups = progress.between_start q crew groups (row_in q.graph c) scans none
    where
      scans : (t : ℕ) → IsTable q.graph t → row_in q.graph c (single t) ≡ record { cost = at q.scans t; outer = 0; method = 0 }
      scans t i =
          let r = t - 1 in
          let e : r + 1 ≡ t = omega (arith, i.from_one) in
          let l : r < table_count q.graph = omega (arith, i.from_one, i.to-count) in
          let h : r < rows = omega (arith, tables-fit q.graph sound.graph) in
          let x : index_of (memo q.graph) (single t) ≡ r = index_at (memo q.graph) (memo-once q.graph) r (single t) h (memo-one q.graph r l ∙ ap single e) in
          rw x (λ z. record { cost = cost-one r l z; outer = no_outer r h z; method = no-method r h z })

      none : (S : ℕ) → Connected q.graph S → 1 < size S → row_in q.graph c S ≡ standing.unset
      none S d l =
          let i = in-at 0 (memo q.graph) S (memo-all q.graph S d) in
          let r = i.0 in
          let x : index_of (memo q.graph) S ≡ r = index_at (memo q.graph) (memo-once q.graph) r S i.1 i.2 in
          let large : table_count q.graph ≤ r = go r i.1 i.2 (dec_lt r (table_count q.graph)) in
          rw x (λ z. record { cost = cost-more r large i.1 z; outer = no_outer r i.1 z; method = no-method r i.1 z })
        where
          go : (r : ℕ) → r < rows → get_or (memo q.graph) r 0 ≡ S → Dec (r < table_count q.graph) → table_count q.graph ≤ r
          go r u e (yes v) = absurd (omega (arith, size-pow (r + 1 - 1), ap size (sym (memo-one q.graph r v) ∙ e)))
          go r u e (no v) = omega arith

  -- the columns have all rows of the memo
  pub reach-start : Reach q.graph c
  reach-start = record {
    costs = omega (arith, ap length z.costs-are, still-long q.scans (written old_costs 0 (replicate rows 0)) refl, costs-long, z.costs-room);
    outers = omega (arith, ap length z.outers-are, still-long (replicate rows 0) old_outers refl, z.outers-room);
    methods = omega (arith, ap length z.methods-are, still-long (replicate rows 0) old_methods refl, z.methods-room);
  }

-- ---- what a turn works on
-- where a size begins, as the table of starts says
known_at : (g : Graph) (f : ℕ → ℕ) (old : List ℕ) {l : List ℕ} → table_count g + 2 ≤ length old → l ≡ written old 0 (0 ∷ counts_to f (table_count g + 1)) → (k : ℕ) → 1 ≤ k → k ≤ table_count g + 1 → get_or l k 0 ≡ f (k - 1)
known_at g f old room e zero a b = absurd (omega arith)
known_at g f old room e (suc k) a b =
    let n = length-starts f (table_count g + 1) in
    let h : suc k - 1 ≡ k = omega arith in
    ap (λ (x : List ℕ). get_or x (suc k) 0) e ∙ written_at (0 ∷ counts_to f (table_count g + 1)) old (suc k) (omega arith) (omega arith) ∙ counts-at f (table_count g + 1) k (omega arith) ∙ ap f (sym h)

-- a memo that is laid out, with where each size begins, is one to search in
pub ground-at : (g : Graph) (old_starts old_cell_starts : List ℕ) {sets cells starts₁ cell_starts₁ : List ℕ}
    → take (length (memo g)) sets ≡ memo g → take (length (skips g)) cells ≡ skips g → table_count g + 2 ≤ length old_starts → table_count g + 2 ≤ length old_cell_starts
    → starts₁ ≡ written old_starts 0 (starts g) → cell_starts₁ ≡ written old_cell_starts 0 (cell_starts g) → Ground g sets cells starts₁ cell_starts₁
ground-at g old_starts old_cell_starts a b c d h i = record {
  sets-laid = a;
  cells-laid = b;
  starts-known = known_at g (λ k. length (up_to g k)) old_starts c h;
  starts-long = omega (arith, still-long (starts g) old_starts h);
  cells-known = known_at g (λ k. length (cells_to g k)) old_cell_starts d i;
  cells-long = omega (arith, still-long (cell_starts g) old_cell_starts i);
}

-- as laying out leaves it
pub ground-of : (g : Graph) (old_sets old_cells old_starts old_cell_starts : List ℕ) {sets cells starts₁ cell_starts₁ : List ℕ}
    → length (memo g) ≤ length old_sets → length (skips g) ≤ length old_cells → table_count g + 2 ≤ length old_starts → table_count g + 2 ≤ length old_cell_starts
    → sets ≡ written old_sets 0 (memo g) → cells ≡ written old_cells 0 (skips g) → starts₁ ≡ written old_starts 0 (starts g) → cell_starts₁ ≡ written old_cell_starts 0 (cell_starts g)
    → Ground g sets cells starts₁ cell_starts₁
ground-of g old_sets old_cells old_starts old_cell_starts a b c d e f h i = ground-at g old_starts old_cell_starts (front (memo g) old_sets a refl e) (front (skips g) old_cells b refl f) c d h i

-- estimates as laying out leaves them
pub estimated-of : (g : Graph) (old : List ℕ) {estimates : List ℕ} → length (memo g) ≤ length old → estimates ≡ written old 0 (map (estimate g) (memo g)) → take (length (memo g)) estimates ≡ map (estimate g) (memo g)
estimated-of g old h e =
    let n : length (map (estimate g) (memo g)) ≡ length (memo g) = length-map (estimate g) (memo g) in
    front (map (estimate g) (memo g)) old (omega arith) (sym n) e

-- a list's limit holds behind it too
all_fit : (l : List ℕ) (n b : ℕ) → length l ≡ n → ((i : ℕ) → i < n → get_or l i 0 ≤ b) → (i : ℕ) → get_or l i 0 ≤ b
all_fit l n b e h i = go (dec_lt i n)
  where
    go : Dec (i < n) → get_or l i 0 ≤ b
    go (yes u) = h i u
    go (no z) = omega (arith, none-behind l i (omega arith))

pub methods-of : (q : Query) → Sound q → Methods q.fixed q.per_outer q.per_inner q.per_result
methods-of q z =
    let n = method_count q in
    record {
      outer-list = z.outer-list;
      inner-list = z.inner-list;
      result-list = z.result-list;
      some = z.some-method;
      few = z.few-methods;
      fixed-fits = all_fit q.fixed n max_fixed refl (λ i l. (z.methods i l).fixed);
      outer-fits = all_fit q.per_outer n max_coefficient z.outer-list (λ i l. (z.methods i l).outer);
      inner-fits = all_fit q.per_inner n max_coefficient z.inner-list (λ i l. (z.methods i l).inner);
      result_fits = all_fit q.per_result n max_coefficient z.result-list (λ i l. (z.methods i l).result);
    }

-- with the sets that the group reads final, as `Final` and `Standing` say, a turn of it may be taken
pub open-of : {q : Query} {group : Group} {c : Columns} → Sound q → Fit q.graph group → top_of group ≤ table_count q.graph → Reach q.graph c → ((S : ℕ) → Connected q.graph S → size S ≤ top_of group → standing.FinalRow q S (row_in q.graph c S)) → Open q.graph group c
open-of {q} {group} {c} sound fit top reach final = record { fit = fit; reach = reach; below = below }
  where
    below : (r : ℕ) → r < start_of q.graph (top_of group + 1) → get_or c.costs r 0 < cost_bound
    below r l =
        let h : r < length (memo q.graph) = omega (arith, start-memo q.graph (top_of group + 1) (omega arith)) in
        let S = get_or (memo q.graph) r 0 in
        let d = memo-only q.graph S (at_in 0 (memo q.graph) r h) in
        let x : index_of (memo q.graph) S ≡ r = index_at (memo q.graph) (memo-once q.graph) r S h refl in
        let f : standing.FinalRow q S (choice_in c r) = rw x at (final S d (row_small q.graph (top_of group) r h l)) in
        least-below q sound S (get_or c.costs r 0) f.least

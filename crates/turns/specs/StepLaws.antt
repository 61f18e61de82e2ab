-- What a turn may rely on at its worker's place, and what makes it a turn.
use Rattle.std.specs.Prelude.{◌≡◌, refl, ◌⊎◌, List, Option, Some, map, ℕ, ◌+◌, ◌-◌, ◌^◌, ◌≤◌, ◌<◌, length, get_or}
use Rattle.std.proofs.Common.{sym, ap, ◌∙◌, inl, inr, ⊎_elim, add_comm, arith, eq-eqb, ne_eqb, length-take, length-set, pow_mono, get_or-take}
use Rattle.std.proofs.Math.Bool.{true}
use Rattle.std.proofs.Math.Seq.{slice}
use Rattle.rules.specs.Limits.{cost_bound}
use Rattle.rules.specs.Sets.{size, Splits}
use Rattle.rules.specs.declared.Group.{Group}
use Rattle.rules.specs.Offers.{union}
use Rattle.rules.specs.Schedule.{inner_at}
use Rattle.rules.specs.Query.{Graph, table_count}
use Rattle.rules.specs.Connected.{Connected}
use Rattle.rules.specs.Estimate.{estimate}
use Rattle.rules.specs.Rows.{rows_of, memo}
use Rattle.rules.specs.Candidates.{joinable}
use Rattle.rules.specs.Shares.{met, owns}
use Rattle.rules.specs.laws.Bools.{true-or-false, and_true_r}
use Rattle.rules.specs.laws.Lists.{at_in, at_map, length-map}
use Rattle.rules.specs.laws.Sets.{splits-size}
use Rattle.rules.specs.laws.Connected.{connected-join}
use Rattle.rules.proofs.laws.Rows.{rows-only, below_all}
use Rattle.rules.proofs.laws.Estimate.{estimate_le}
use Rattle.rules.specs.Offers as rules
use Rattle.rules.specs.Offers.{Way, along, back, sides, Offered}
use Rattle.rules.specs.laws.Choice.{Best, best-same}
use Rattle.rules.specs.laws.Choice.{kept}
use Rattle.rules.proofs.laws.Ways.{side-of, offered-same}
use Rattle.rules.specs.laws.Standing.{JoinablePair, mine}
use Rattle.rules.proofs.laws.Complete.{met-joinable, apart-differ}
use Rattle.rows.specs.Sizes.{up_to}
use Rattle.skips.specs.SizeRows.{SizeRows, InOrder, Stands}
use Rattle.lookup.specs.FindLaws.{rows-sized, rows-in-order, rows-stand}
use Rattle.memo.specs.LayoutLaws.{rows-part}
use Rattle.crew.specs.declared.Worker.{Worker}
use Rattle.crew.specs.declared.Handed as code
use Rattle.shares.specs.declared.places.Place.{Place}
use Rattle.shares.specs.declared.places.Spot.{Spot}
use Rattle.shares.specs.Nowhere.{left}
use Rattle.pairs.specs.Places.{start_of, met_numbered, no_candidate, At, NextFrom}
use Rattle.pairs.specs.PlaceLaws.{start-mono, start-memo, first-from, memo-inside, memo-row, in_size}
use Rattle.pairs.specs.GroundLaws.{ground-set, at-number}
use Rattle.results.specs.declared.price.Choice.{Choice}
use Rattle.results.specs.Prices.{choice_of, Estimates, join_by}
use Rattle.turns.specs.Standing.{Columns, choice_in, stored, row_in, join_in, top_of, result_at, Board, Ready, pair_at, Handing, StepTaken}
use Rattle.turns.specs.StandingLaws.{row_at, at-smaller}

module _ {g : Graph} {fixed outer inner result sets estimates cells starts cell_starts : List ℕ} {group : Group} {c : Columns} (b : Board g fixed outer inner result sets estimates cells starts cell_starts group c) where
  -- the rows of a size, and their estimates
  pub set_at : (r : ℕ) → r < length (memo g) → (r < length sets) × (get_or sets r 0 ≡ get_or (memo g) r 0)
  set_at r l = ground-set g sets cells starts cell_starts b.footing r l

  pub estimate-at : (r : ℕ) → r < length (memo g) → (r < length estimates) × (get_or estimates r 0 ≡ estimate g (get_or (memo g) r 0))
  estimate-at r l =
      let n : length (map (estimate g) (memo g)) ≡ length (memo g) = length-map (estimate g) (memo g) in (
        omega (arith, length-take (length (memo g)) estimates, ap length b.estimated, n),
        sym (get_or-take (length (memo g)) estimates r 0 l) ∙ ap (λ (x : List ℕ). get_or x r 0) b.estimated ∙ at_map (estimate g) 0 (memo g) r l,
      )

  -- where the rows of size z begin and end
  module _ (z : ℕ) (one : 1 ≤ z) (size-known : z ≤ table_count g) where
    from_is : get_or starts z 0 ≡ start_of g z
    from_is = b.footing.starts-known z one (omega arith)

    to_is : get_or starts (z + 1) 0 ≡ start_of g (z + 1)
    to_is = b.footing.starts-known (z + 1) (omega arith) (omega arith)

    part : slice (get_or starts z 0) (get_or starts (z + 1) 0) sets ≡ rows_of g z
    part =
        let e : z - 1 + 1 ≡ z = omega arith in
        let f : z + 1 - 1 ≡ z - 1 + 1 = omega arith in
        rw e at (rows-part g (z - 1) sets {from = get_or starts z 0} {to = get_or starts (z + 1) 0} (omega arith) b.footing.sets-laid from_is (to_is ∙ ap (λ (k : ℕ). length (up_to g k)) f))

    ends : (get_or starts z 0 ≤ get_or starts (z + 1) 0) × (get_or starts (z + 1) 0 ≤ length sets)
    ends = (omega (arith, from_is, to_is, start-mono g z (z + 1) (omega arith)), omega (arith, to_is, start-memo g (z + 1) (omega arith), length-take (length (memo g)) sets, ap length b.footing.sets-laid))

  row-size : (k p : ℕ) → 1 ≤ k → start_of g k ≤ p → p < start_of g (k + 1) → size (get_or (memo g) p 0) ≡ k
  row-size k p one l u = rw (memo-row g k p one l u) (rows-only g k (get_or (rows_of g k) (p - start_of g k) 0) (at_in 0 (rows_of g k) (p - start_of g k) (in_size g k p one l u))).1

  -- ---- the worker's pair
  module _ {v : Worker} (r : Ready g group v) {p : Spot} (at : v.place.pair ≡ Some p) where
    here : At g group v.place.number p
    here = (r.waits.there p at).0

    smaller : (p.row < start_of g (top_of group + 1)) × (p.inner < start_of g (top_of group + 1))
    smaller = at-smaller g group p here

    pub driving-inside : p.row < length (memo g)
    driving-inside = memo-inside g p.size p.row here.from_one here.row_from here.row-to

    inner-from : start_of g (inner_at group p.size) ≤ p.inner
    inner-from = omega (arith, here.inner-from, first-from g group p.size here.from_one here.to_last p.row here.row_from)

    inner-one : 1 ≤ inner_at group p.size
    inner-one = omega (arith, here.from_one, here.to_last)

    pub inner-inside : p.inner < length (memo g)
    inner-inside = memo-inside g (inner_at group p.size) p.inner inner-one inner-from here.inner-to

    -- the result's size
    pub result-one : 1 ≤ result_at group p.size
    result-one = omega (arith, here.from_one)

    pub result-known : result_at group p.size ≤ table_count g
    result-known = omega (arith, here.to_last)

    joined : JoinablePair g (pair_at g p)
    unfolding mine
    joined =
        let n = at-number g group v.place.number p here in
        let x = met_numbered g group v.place.number in
        let t : joinable g x.candidate ≡ true = and_true_r (owns v.share.scheme (length (met g group)) v.share.workers v.share.worker x) (joinable g x.candidate) (r.waits.there p at).1 in
        rw n.1 at (met-joinable g group x (at_in no_candidate (met g group) v.place.number n.0) t)

    -- its result is a connected set of the place's result size
    pub union-connected : Connected g (union (pair_at g p))
    union-connected = connected-join joined.driving-conn joined.inner-conn (record { apart = joined.joinable.apart; whole = refl }) joined.joinable.between

    pub union-size : size (union (pair_at g p)) ≡ result_at group p.size
    union-size =
        let sp : Splits (union (pair_at g p)) (pair_at g p).driving (pair_at g p).inner = record { apart = joined.joinable.apart; whole = refl } in
        omega (arith, splits-size sp, row-size p.size p.row here.from_one here.row_from here.row-to, row-size (inner_at group p.size) p.inner inner-one inner-from here.inner-to)

    -- the two are different sets
    pub apart : get_or sets p.row 0 ≡ get_or sets p.inner 0 → ⊥
    apart = rw ((set_at p.row driving-inside).1, (set_at p.inner inner-inside).1) (apart-differ (pair_at g p).driving (pair_at g p).inner joined.driving-conn.some joined.joinable.apart)

    -- what the two are priced at is what their rows and estimates say
    by_rows : {k : rules.Choice} → let X = (pair_at g p).driving in let Y = (pair_at g p).inner in
        Best (Offered (sides group.both (pair_at g p)) (length fixed) (join_by fixed outer inner result X (estimate g X) (estimate g Y) (estimate g (X + Y)) (get_or c.costs p.row 0 + get_or c.costs p.inner 0))) k
        → Best (Offered (sides group.both (pair_at g p)) (length fixed) (join_in g fixed outer inner result c)) k
    by_rows b = best-same (offered-same (λ w i m. same w m (side-of group.both (pair_at g p) w i))) (offered-same (λ w i m. sym (same w m (side-of group.both (pair_at g p) w i)))) b
      where
        X : ℕ
        X = (pair_at g p).driving

        Y : ℕ
        Y = (pair_at g p).inner

        D : (row_in g c X).cost ≡ get_or c.costs p.row 0
        D = ap (λ (k : rules.Choice). k.cost) (row_at g c p.row X driving-inside refl)

        I : (row_in g c Y).cost ≡ get_or c.costs p.inner 0
        I = ap (λ (k : rules.Choice). k.cost) (row_at g c p.inner Y inner-inside refl)

        same : (w : Way) (m : ℕ) → (w ≡ along (pair_at g p)) ⊎ (w ≡ back (pair_at g p))
            → join_by fixed outer inner result X (estimate g X) (estimate g Y) (estimate g (X + Y)) (get_or c.costs p.row 0 + get_or c.costs p.inner 0) w.outer w.inner m ≡ join_in g fixed outer inner result c w.outer w.inner m
        same w m (inl e) = rw (e, eq-eqb X X refl, D, I) refl
        same w m (inr e) = rw (e, ne_eqb Y X (λ f. apart-differ X Y joined.driving-conn.some joined.joinable.apart (sym f)), D, I, add_comm Y X) (omega arith)

    -- costs of the two are within their limit, so they can be added
    pub cost-bounds : (get_or c.costs p.row 0 < cost_bound) × (get_or c.costs p.inner 0 < cost_bound)
    cost-bounds = (b.below p.row smaller.0, b.below p.inner smaller.1)

    -- the size that the code computes
    module _ (z : ℕ) (ze : z ≡ result_at group p.size) where
      z-one : 1 ≤ z
      z-one = omega (arith, result-one)

      z-known : z ≤ table_count g
      z-known = omega (arith, result-known)

      -- sought among the rows of its size
      pub seek-in : SizeRows sets (get_or starts z 0) (get_or starts (z + 1) 0) (size (union (pair_at g p))) 32 × InOrder sets (get_or starts z 0) (get_or starts (z + 1) 0) × (union (pair_at g p) < 2 ^ 32)
      seek-in =
          let few-tables : table_count g ≤ 32 = omega (arith, b.graph.few-tables) in (
            rw (union-size ∙ sym ze) (rows-sized g z sets (get_or starts z 0) (get_or starts (z + 1) 0) (ends z z-one z-known).0 (ends z z-one z-known).1 (part z z-one z-known) 32 few-tables),
            rows-in-order g z sets (get_or starts z 0) (get_or starts (z + 1) 0) (ends z z-one z-known).0 (ends z z-one z-known).1 (part z z-one z-known) few-tables,
            omega (arith, below_all g (union (pair_at g p)) union-connected, pow_mono {i = table_count g} {j = 32} few-tables),
          )

      -- it is found
      pub seek_found : (row : ℕ) → ((r : ℕ) → Stands sets (get_or starts z 0) (get_or starts (z + 1) 0) (union (pair_at g p)) r → row ≡ r)
          → (start_of g z ≤ row) × (row < start_of g (z + 1)) × (row < length (memo g)) × (get_or (memo g) row 0 ≡ union (pair_at g p))
      seek_found row h =
          let f = rows-stand g z sets (get_or starts z 0) (get_or starts (z + 1) 0) (ends z z-one z-known).0 (ends z z-one z-known).1 (part z z-one z-known) (union (pair_at g p)) row union-connected (union-size ∙ sym ze) h in
          let l : row < length (memo g) = omega (arith, f.ahead, to_is z z-one z-known, start-memo g (z + 1) (omega (arith, z-known))) in
          (omega (arith, f.after, from_is z z-one z-known), omega (arith, f.ahead, to_is z z-one z-known), l, sym (set_at row l).1 ∙ f.there)

      -- ---- the turn, by the values that it computes
      seek-sum : (row : ℕ) → ((r : ℕ) → Stands sets (get_or starts z 0) (get_or starts (z + 1) 0) (get_or sets p.row 0 + get_or sets p.inner 0) r → row ≡ r)
          → (start_of g z ≤ row) × (row < start_of g (z + 1)) × (row < length (memo g)) × (get_or (memo g) row 0 ≡ union (pair_at g p))
      seek-sum row h = seek_found row (rw ((set_at p.row driving-inside).1, (set_at p.inner inner-inside).1) at h)

      -- what is sought
      pub seek-ready : SizeRows sets (get_or starts z 0) (get_or starts (z + 1) 0) (size (get_or sets p.row 0 + get_or sets p.inner 0)) 32 × InOrder sets (get_or starts z 0) (get_or starts (z + 1) 0) × (get_or sets p.row 0 + get_or sets p.inner 0 < 2 ^ 32)
      seek-ready = rw ((set_at p.row driving-inside).1, (set_at p.inner inner-inside).1) seek-in

      module _ (row : ℕ) (found : (r : ℕ) → Stands sets (get_or starts z 0) (get_or starts (z + 1) 0) (get_or sets p.row 0 + get_or sets p.inner 0) r → row ≡ r) where
        pub row_inside : row < length (memo g)
        row_inside = (seek-sum row found).2

        -- the three estimates are within their limit
        pub estimates-fit : Estimates (get_or estimates p.row 0) (get_or estimates p.inner 0) (get_or estimates row 0)
        estimates-fit = record {
          first = rw (estimate-at p.row driving-inside).1 (estimate_le g (get_or (memo g) p.row 0));
          second = rw (estimate-at p.inner inner-inside).1 (estimate_le g (get_or (memo g) p.inner 0));
          result = rw (estimate-at row row_inside).1 (estimate_le g (get_or (memo g) row 0));
        }

        -- THE TURN: pricing and keeping make it
        pub handing : (k : Choice) → Best (Offered (sides group.both (record { driving = get_or sets p.row 0; inner = get_or sets p.inner 0 })) (length fixed)
            (join_by fixed outer inner result (get_or sets p.row 0) (get_or estimates p.row 0) (get_or estimates p.inner 0) (get_or estimates row 0)
            (get_or c.costs p.row 0 + get_or c.costs p.inner 0))) (choice_of k)
            → {cost : ℕ} → cost ≡ (kept (choice_in c row) (choice_of k)).cost → {new : Columns} → new ≡ stored c row (kept (choice_in c row) (choice_of k))
            → (next : Place) → NextFrom g group v.share (v.place.number + 1) next
            → Handing g fixed outer inner result group v (record { share = v.share; place = next; last = row; handed = v.handed + 1 }) c new
            (Some (record { driving = get_or sets p.row 0; inner = get_or sets p.inner 0; cost = cost }))
        handing k best e f next n =
            let r = seek-sum row found in
            let dx = (set_at p.row driving-inside).1 in
            let dy = (set_at p.inner inner-inside).1 in
            let ex = (estimate-at p.row driving-inside).1 in
            let ey = (estimate-at p.inner inner-inside).1 in
            let er = (estimate-at row row_inside).1 ∙ ap (estimate g) r.3 in
            record {
              spot = p;
              at = at;
              row = row;
              row_from = rw ze at r.0;
              row-to = rw ze at r.1;
              row-set = r.3;
              offer = choice_of k;
              best = by_rows (rw (dx, dy, ex, ey, er) at best);
              changed = f;
              answer = λ t. Some (record { driving = dx t; inner = dy t; cost = e t });
              next = n;
              worker = refl;
            }

-- ---- what a turn leaves of columns and table
module _ {g : Graph} {fixed outer inner result : List ℕ} {group : Group} {v v' : Worker} {old new : Columns} {pair : Option code.Handed} (t : StepTaken g fixed outer inner result group v v' old new pair) where
  -- every column keeps its length
  step_kept : (f : Columns → List ℕ) → ((r : ℕ) (k : rules.Choice) → length (f (stored old r k)) ≡ length (f old)) → length (f new) ≡ length (f old)
  step_kept f h = ⊎_elim (λ e. let z = t.some e in ap (λ (c : Columns). length (f c)) z.changed ∙ h z.row _) (λ e. ap (λ (c : Columns). length (f c)) (t.none e).1) (true-or-false (left v.place))

  pub step-costs : length new.costs ≡ length old.costs
  step-costs = step_kept (λ c. c.costs) (λ r k. length-set old.costs r k.cost)

  pub step-outers : length new.outers ≡ length old.outers
  step-outers = step_kept (λ c. c.outers) (λ r k. length-set old.outers r k.outer)

  pub step-methods : length new.methods ≡ length old.methods
  step-methods = step_kept (λ c. c.methods) (λ r k. length-set old.methods r k.method)

-- the result's size, as the code adds it
pub sum_is : (d : ℕ) {w i : ℕ} → w ≡ i → d + w ≡ d + i
sum_is d e = ap (λ (x : ℕ). d + x) e

pub inner-ready-at : {g : Graph} {z : Group} {x : ℕ} {p : Spot} → At g z x p → (1 ≤ p.size) × (p.size ≤ inner_at z p.size)
inner-ready-at a = (a.from_one, a.to_last.rising)

-- the sizes that a group reads are those of tables that there are
pub top-known : {g : Graph} {z : Group} {x : ℕ} {p : Spot} → At g z x p → top_of z ≤ table_count g
top-known {p = p} a = omega (arith, a.to_last.fit.known 1 (omega arith) (omega (arith, a.from_one, a.to_last.to_last)))

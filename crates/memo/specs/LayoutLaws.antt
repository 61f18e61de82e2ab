-- Laws of laying out: the rows of one size in a list of all rows, their skip cells after those of the smaller sizes, the columns, the one outcome.
use Rattle.std.specs.Prelude.{◌≡◌, refl, List, [], ◌++◌, ◌∷◌, ℕ, ◌+◌, ◌-◌, ◌*◌, ◌≤◌, ◌<◌, take, drop, replicate, Result, Err}
use Rattle.std.proofs.Common.{sym, ◌∙◌, zero-add, arith, lt-ltb, le-ltb, length-take, take-take, take_at, drop_at}
use Rattle.std.proofs.Math.Path.{ap}
use Rattle.std.proofs.Math.Decide.{dec_lt}
use Rattle.std.proofs.Math.ListN.{length, get_or, length-append}
use Rattle.std.proofs.lemmas.List.{length-replicate}
use Rattle.std.proofs.Math.Seq.{slice, length-sets}
use Rattle.std.proofs.lemmas.List.Edits.{sets-eq}
use Rattle.rules.specs.Limits.{max_tables}
use Rattle.rules.specs.Lists.{in_row, over}
use Rattle.rules.specs.Query.{Graph, table_count, Query}
use Rattle.rules.specs.Rows.{rows_of, memo}
use Rattle.rules.specs.Skips.{vectors_from, vectors, skips}
use Rattle.rules.specs.Refusals.{Input, refuse, first_of, rooms, groups, checks_of}
use Rattle.rules.specs.laws.Refusals.{AllAre, AllSame, same-groups}
use Rattle.rows.specs.Sizes.{up_to}
use Rattle.rows.specs.Tally.{Tally}
use Rattle.rows.specs.WalkLaws.{wrote-both, up_to-more, length_more}
use Rattle.rules.specs.laws.Lists.{row-split}
use Rattle.skips.specs.SizeRows.{SizeRows}
use Rattle.skips.specs.Vectors.{written}
use Rattle.lookup.specs.FindLaws.{rows-sized}
use Rattle.starts.specs.Starts.{cells_to}
use Rattle.starts.specs.CountLaws.{cells-size, cells_count}
use Rattle.skips.specs.VectorLaws.{vectors-of}
use Rattle.memo.specs.declared.layout.Laid.{Laid}
use Rattle.rules.specs.declared.refusal.Refusal.{Refusal}
use Rattle.memo.specs.Layout.{Lent, lent, lent_of, Room, refusal_of, few_rows, LaidOut, OneLength}

-- ---- lists in a row
row-whole : {C : Type 0} (f : ℕ → List C) (k n : ℕ) → k ≤ n → in_row f 1 n ≡ in_row f 1 k ++ in_row f (1 + k) (n - k)
row-whole f k n h = let e : n ≡ k + (n - k) = omega arith in ap (in_row f 1) e ∙ row-split f 1 k (n - k)

-- a part of a list that begins with a + b + c
part_at : (s whole a b c : List ℕ) {from to : ℕ} → take (length whole) s ≡ whole → whole ≡ (a ++ b) ++ c → from ≡ length a → to ≡ from + length b → slice from to s ≡ b
part_at s whole a b c {from} {to} t w f e =
    let n : length (a ++ b) ≡ to = omega (arith, length-append a b) in
    let m : to ≤ length whole = omega (arith, ap length w, length-append (a ++ b) c) in
    ap (drop from) (sym (take-take to (length whole) s m) ∙ ap (take to) (t ∙ w) ∙ take_at (a ++ b) c to n) ∙ drop_at a b from (sym f)

-- ---- the skip cells of the sizes 1 to k
module _ (g : Graph) where
  pub cells-all : (k : ℕ) → k ≡ table_count g → cells_to g k ≡ skips g
  unfolding skips
  cells-all k e = ap (cells_to g) e

  cells-le : (k : ℕ) → k ≤ table_count g → length (cells_to g k) ≤ length (skips g)
  unfolding skips
  cells-le k h =
      omega (arith, ap length (row-whole (vectors g) k (table_count g) h), length-append (cells_to g k) (in_row (vectors g) (1 + k) (table_count g - k)))

  memo-whole : (k : ℕ) → k ≤ table_count g → memo g ≡ up_to g k ++ in_row (rows_of g) (1 + k) (table_count g - k)
  unfolding memo
  memo-whole k h = row-whole (rows_of g) k (table_count g) h

-- in a list that begins with the memo's rows, those of size k + 1 stand behind those of the smaller sizes
pub rows-part : (g : Graph) (k : ℕ) (s : List ℕ) {from to : ℕ} → k < table_count g → take (length (memo g)) s ≡ memo g → from ≡ length (up_to g k) → to ≡ length (up_to g (k + 1)) → slice from to s ≡ rows_of g (k + 1)
rows-part g k s {from} {to} l t f e =
    let n : to ≡ from + length (rows_of g (k + 1)) = omega (arith, length_more g k) in
    let w = memo-whole g (k + 1) (omega arith) ∙ ap (λ (r : List ℕ). r ++ in_row (rows_of g) (1 + (k + 1)) (table_count g - (k + 1))) (up_to-more g k) in
    part_at s (memo g) (up_to g k) (rows_of g (k + 1)) (in_row (rows_of g) (1 + (k + 1)) (table_count g - (k + 1))) t w f n

-- ---- the rows of size k + 1 in a list s that begins with the memo's rows: where they begin, how many they are, where their cells begin
pub record NextSize (g : Graph) (k from count at : ℕ) (s : List ℕ) : Type 0 where
  pub few : table_count g ≤ max_tables
  pub more : k < table_count g
  pub all-rows : take (length (memo g)) s ≡ memo g
  pub begins : from ≡ length (up_to g k)
  pub many : count ≡ length (rows_of g (k + 1))
  pub cells-begin : at ≡ length (cells_to g k)

pub next-size : {g : Graph} {counts s : List ℕ} (k from at : ℕ) → Tally g counts → table_count g ≤ max_tables → k < table_count g → take (length (memo g)) s ≡ memo g → from ≡ length (up_to g k) → at ≡ length (cells_to g k) → NextSize g k from (get_or counts (k + 1) 0) at s
next-size k from at t a b c d e = record { few = a; more = b; all-rows = c; begins = d; many = t.sizes k b; cells-begin = e }

module _ {g : Graph} {k from count at : ℕ} {s : List ℕ} (z : NextSize g k from count at s) where
  pub rows_next : from + count ≡ length (up_to g (k + 1))
  rows_next = omega (arith, length_more g k)

  part : slice from (from + count) s ≡ rows_of g (k + 1)
  part = rows-part g k s z.more z.all-rows z.begins rows_next

  pub rows_inside : from + count ≤ length s
  rows_inside =
      omega (
        arith,
        rows_next,
        ap length z.all-rows,
        length-take (length (memo g)) s,
        ap length (memo-whole g (k + 1) (omega arith)),
        length-append (up_to g (k + 1)) (in_row (rows_of g) (1 + (k + 1)) (table_count g - (k + 1))),
      )

  pub cells-next-at : at + count * (k + 1) ≡ length (cells_to g (k + 1))
  cells-next-at = omega (arith, cells_count g k z.many)

  pub cells-inside : at + count * (k + 1) ≤ length (skips g)
  cells-inside = omega (arith, cells-next-at, cells-le g (k + 1) (omega arith))

  pub size-ready : {n : ℕ} → length (skips g) ≤ n → SizeRows s from (from + count) (k + 1) 32 × (at + (from + count - from) * (k + 1) ≤ n)
  size-ready h =
      let e : from + count - from ≡ count = omega arith in
      (rows-sized g (k + 1) s from (from + count) (omega arith) rows_inside part 32 (omega arith), rw e (omega (arith, cells-inside)))

  -- and their cells are written after those of the smaller sizes
  pub wrote-size : (old : List ℕ) {mid new : List ℕ} → mid ≡ written old 0 (cells_to g k) → new ≡ written mid at (vectors_from 32 1 (slice from (from + count) s)) → new ≡ written old 0 (cells_to g (k + 1))
  wrote-size old {mid} h n =
      wrote-both old 0 (cells_to g k) (vectors g (k + 1)) (z.cells-begin ∙ sym (zero-add (length (cells_to g k)))) h (n ∙ ap (written mid at) (vectors-of g (k + 1) (slice from (from + count) s) (omega arith) part))
      ∙ ap (written old 0) (sym (cells-size g k))

-- ---- columns
-- what has been written from the first cell on stands at the front
pub written_over : (v d : List ℕ) → length v ≤ length d → written d 0 v ≡ over v d
written_over v d h = let e : 0 + length v ≡ length v = zero-add (length v) in sets-eq v d 0 (rw e h) ∙ rw e

pub front : (v d : List ℕ) {l : List ℕ} {n : ℕ} → length v ≤ length d → n ≡ length v → l ≡ written d 0 v → take n l ≡ v
front v d {l} {n} h e w = ap (take n) (w ∙ written_over v d h) ∙ take_at v (drop (length v) d) n (sym e)

pub still-long : (v d : List ℕ) {l : List ℕ} → l ≡ written d 0 v → length l ≡ length d
still-long v d w = ap length w ∙ length-sets d 0 v

-- a column whose first cells are cleared
pub zeros-laid : (g : Graph) (old : List ℕ) {zeros : List ℕ} {n : ℕ} → n ≡ length (memo g) → length (memo g) ≤ length old → zeros ≡ replicate (length (take n old)) 0 → zeros ++ drop n old ≡ written old 0 (replicate (length (memo g)) 0)
zeros-laid g old e l z =
    let none : ℕ = 0 in
    let long : length (replicate (length (memo g)) none) ≡ length (memo g) = length-replicate (length (memo g)) none in
    let part : length (take (length (memo g)) old) ≡ length (memo g) = omega (arith, length-take (length (memo g)) old) in
    rw (z, e, part) (sym (written_over (replicate (length (memo g)) none) old (omega (arith, long)) ∙ (rw long)))

pub lent_same : {s e c o m k s' e' c' o' m' k' : List ℕ} → s ≡ s' → e ≡ e' → c ≡ c' → o ≡ o' → m ≡ m' → k ≡ k' → lent s e c o m k ≡ lent s' e' c' o' m' k'
lent_same a b c d e f = rw (a, b, c, d, e, f)

-- ---- the three cases
module _ (g : Graph) (old : Lent) where
  pub too-few-rows : {r : Result Laid Refusal} {n : ℕ} → n ≡ length (memo g) → length old.sets < n → r ≡ Err few_rows → LaidOut g old old r
  too-few-rows e h q = record { refused13 = λ a. (q, refl); refused14 = λ a b. absurd (omega arith); given = λ a. absurd (omega arith) }

  -- ONE OUTCOME for what was lent
  pub laid-unique : {new new' : Lent} {r r' : Result Laid Refusal} → LaidOut g old new r → LaidOut g old new' r' → (r ≡ r') × (new ≡ new')
  laid-unique {new} {new'} {r} {r'} a b = go (dec_lt (length old.sets) (length (memo g))) (dec_lt (length old.skips) (length (skips g)))
    where
      both : {q : Result Laid Refusal} {l : Lent} → (r ≡ q) × (new ≡ l) → (r' ≡ q) × (new' ≡ l) → (r ≡ r') × (new ≡ new')
      both x y = (x.0 ∙ sym y.0, x.1 ∙ sym y.1)

      go : Dec (length old.sets < length (memo g)) → Dec (length old.skips < length (skips g)) → (r ≡ r') × (new ≡ new')
      go (yes h) d = both (a.refused13 h) (b.refused13 h)
      go (no h) (yes k) = let l : length (memo g) ≤ length old.sets = omega arith in both (a.refused14 l k) (b.refused14 l k)
      go (no h) (no k) = let l : Room g old = record { rows = omega arith; cells = omega arith } in both (a.given l) (b.given l)

-- the answer's number is what the rules say of refusals 13 and 14
pub laid-verdict : (i : Input) {new : Lent} {r : Result Laid Refusal} → LaidOut i.query.graph (lent_of i.lent) new r → refusal_of r ≡ (first_of (rooms i)).number
unfolding rooms first_of refuse
laid-verdict i {new} {r} a = go (dec_lt (length i.lent.sets) (length (memo g))) (dec_lt (length i.lent.skips) (length (skips g)))
  where
    g : Graph
    g = i.query.graph

    number : {q : Result Laid Refusal} → r ≡ q → refusal_of r ≡ refusal_of q
    number e = ap refusal_of e

    go : Dec (length i.lent.sets < length (memo g)) → Dec (length i.lent.skips < length (skips g)) → refusal_of r ≡ (first_of (rooms i)).number
    go (yes h) d = rw (lt-ltb (length i.lent.sets) (length (memo g)) h) (number (a.refused13 h).0)
    go (no h) (yes k) =
        let l : length (memo g) ≤ length i.lent.sets = omega arith in
        rw (le-ltb (length i.lent.sets) (length (memo g)) l, lt-ltb (length i.lent.skips) (length (skips g)) k) (number (a.refused14 l k).0)
    go (no h) (no k) =
        let l : length (memo g) ≤ length i.lent.sets = omega arith in
        let m : length (skips g) ≤ length i.lent.skips = omega arith in
        rw (le-ltb (length i.lent.sets) (length (memo g)) l, le-ltb (length i.lent.skips) (length (skips g)) m) (number (a.given (record { rows = l; cells = m })).0)

-- ---- what check has seen to
-- the memo's columns have one length where the checks of a query pass with their lengths
pub one-length : (q : Query) (workers scheme : ℕ) (turns log : List ℕ) (old : Lent)
    → (first_of (checks_of q workers scheme turns (length old.sets ∷ length old.estimates ∷ length old.costs ∷ length old.outers ∷ length old.methods ∷ []) log)).number ≡ 0 → OneLength old
unfolding AllSame AllAre groups
one-length q workers scheme turns log old e =
    let h = (same-groups q workers scheme turns (length old.sets ∷ length old.estimates ∷ length old.costs ∷ length old.outers ∷ length old.methods ∷ []) log e).1.1.1.0 in
    record { estimates = h.0; costs = h.1.0; outers = h.1.1.0; methods = h.1.1.1.0 }

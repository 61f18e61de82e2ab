-- Skip tables hold the least later row that lacks the table; a jump passes only rows that overlap; how many cells there are.
use Rattle.std.specs.Prelude.{◌≡◌, refl, ◌⊎◌, true, false, cond, ℕ, zero, suc, ◌+◌, ◌≤◌, ◌<◌, ◌^◌, ◌*◌, ◌-◌, eqb, length, get_or, drop}
use Rattle.std.proofs.Common.{ap, ◌∙◌, inl, inr, zero-mul, suc-mul, add-one, arith, length-append, get_or-append-add, drop-cons, eqb-true}
use mathlib.Core.List.{List, [], ◌∷◌, ◌++◌, map, Memᴰ}
use Rattle.std.proofs.Math.Decide.{dec_lt, ℕ_discrete}
use Rattle.std.proofs.Math.ListN.{get_or-append}
use Rattle.std.proofs.Math.Seq.{drop-length}
use Rattle.std.proofs.lemmas.Bool.{eqb-false}
use Rattle.rules.specs.Lists.{in_row}
use Rattle.rules.specs.Sets.{holds, Disjoint, size, tables}
use Rattle.rules.specs.Query.{Graph, table_count}
use Rattle.rules.specs.Rows.{rows_of, memo}
use Rattle.rules.specs.Skips.{row, Skip, skip_from, vectors_from, vectors, skips}
use Rattle.rules.specs.laws.Bools.{true-or-false}
use Rattle.rules.specs.laws.Lists.{at_map, length-map, sum, sum-append}
use Rattle.rules.specs.laws.Sets.{holds-apart}
use Rattle.rules.specs.laws.Tables.{tables-size}
use Rattle.rules.proofs.laws.Rows.{rows-only, below_all}

-- the value that a vector holds is THE LEAST LATER ROW THAT LACKS THE TABLE
pub skip-right : (rows : List ℕ) (t n i : ℕ) → i + n ≡ length rows → Skip rows i t (skip_from t (suc i) (drop i rows))
unfolding skip_from
skip-right rows t zero i e =
    let f : i ≡ length rows = omega arith in
    rw (f, drop-length) (record { after = omega arith; inside = omega arith; passed = λ j l u. absurd (omega arith); lacks = λ l h. omega arith })
skip-right rows t (suc n) i e = rw (drop-cons rows i 0 l) (go (skip-right rows t n (suc i) (omega arith)) (true-or-false (eqb (holds (get_or rows i 0) t) 1)))
  where
    l : i < length rows
    l = omega arith

    go : Skip rows (suc i) t (skip_from t (suc (suc i)) (drop (suc i) rows)) → (eqb (holds (get_or rows i 0) t) 1 ≡ true) ⊎ (eqb (holds (get_or rows i 0) t) 1 ≡ false)
        → Skip rows i t (cond (eqb (holds (get_or rows i 0) t) 1) (skip_from t (suc (suc i)) (drop (suc i) rows)) (suc i))
    go ih (inl h) = rw h (record { after = omega (arith, ih.after); inside = ih.inside; passed = λ j a b. last j a b (ℕ_discrete j (suc i)); lacks = ih.lacks })
      where
        last : (j : ℕ) → i < j → j < skip_from t (suc (suc i)) (drop (suc i) rows) → Dec (j ≡ suc i) → holds (row rows j) t ≡ 1
        last j a b (yes p) = rw p (eqb-true (holds (get_or rows i 0) t) 1 h)
        last j a b (no z) = ih.passed j (omega arith) b
    go ih (inr h) = rw h (record { after = omega arith; inside = omega arith; passed = λ j a b. absurd (omega arith); lacks = λ a. eqb-false (holds (get_or rows i 0) t) 1 h })

pub skip-unique : {rows : List ℕ} {i t k k' : ℕ} → Skip rows i t k → Skip rows i t k' → k ≡ k'
skip-unique {rows} {i} {t} {k} {k'} a b = go (dec_lt k k') (dec_lt k' k)
  where
    go : Dec (k < k') → Dec (k' < k) → k ≡ k'
    go (yes l) d = absurd (a.lacks (omega (arith, b.inside)) (b.passed k a.after l))
    go (no z) (yes l) = absurd (b.lacks (omega (arith, a.inside)) (a.passed k' b.after l))
    go (no z) (no h) = omega arith

-- A JUMP PASSES ONLY OVERLAPPING ROWS: row i shares table t with D, and so do all that its skip value for t passes
pub skip-overlaps : {rows : List ℕ} {i t k : ℕ} (D : ℕ) → Skip rows i t k → holds D t ≡ 1 → holds (row rows i) t ≡ 1 → (j : ℕ) → i ≤ j → j < k → Disjoint D (row rows j) → ⊥
skip-overlaps {rows} {i} {t} {k} D s hd hi j l u d = go (dec_lt i j)
  where
    both : holds (row rows j) t ≡ 1 → ⊥
    both hj = omega (arith, holds-apart D (row rows j) t d)

    go : Dec (i < j) → ⊥
    go (yes a) = both (s.passed j a u)
    go (no z) = let e : i ≡ j = omega arith in both (rw e at hi)

-- ---- where a value stands
-- rows of k tables each: the cell of row p, from 0, and its j-th table, from 0
cell_at : (n k : ℕ) (rows : List ℕ) (i p j : ℕ) → ((S : ℕ) → Memᴰ S rows → length (tables n S) ≡ k) → p < length rows → j < k
    → get_or (vectors_from n i rows) (p * k + j) 0 ≡ skip_from (get_or (tables n (get_or rows p 0)) j 0) (suc (i + p)) (drop (suc p) rows)
unfolding vectors_from
cell_at n k [] i p j h l u = absurd (omega arith)
cell_at n k (S ∷ rest) i zero j h l u =
    let c : length (tables n S) ≡ k = h S (Memᴰ.head refl) in
    let e : 0 * k + j ≡ j = omega (arith, zero-mul k) in
    let f : i + 0 ≡ i = omega arith in
    rw (e, f, get_or-append (map (λ (t : ℕ). skip_from t (suc i) rest) (tables n S)) (vectors_from n (suc i) rest) 0 j (omega (arith, length-map (λ (t : ℕ). skip_from t (suc i) rest) (tables n S))))
    (at_map (λ (t : ℕ). skip_from t (suc i) rest) 0 (tables n S) j (omega arith))
cell_at n k (S ∷ rest) i (suc p) j h l u =
    let v : List ℕ = map (λ (t : ℕ). skip_from t (suc i) rest) (tables n S) in
    let c : length v ≡ k = length-map (λ (t : ℕ). skip_from t (suc i) rest) (tables n S) ∙ h S (Memᴰ.head refl) in
    let e : suc p * k + j ≡ length v + (p * k + j) = omega (arith, suc-mul p k) in
    let f : suc i + p ≡ i + suc p = omega arith in
    rw (e, get_or-append-add v (vectors_from n (suc i) rest) (p * k + j) 0) (rw f at (cell_at n k rest (suc i) p j (λ X m. h X (Memᴰ.tail m)) (omega arith) u))

-- THE SKIP TABLE OF A SIZE: for row p + 1 and the (j + 1)-th table of its set, the cell holds the least later row that lacks it
pub vector-right : (g : Graph) (k p j : ℕ) → p < length (rows_of g k) → j < k
    → Skip (rows_of g k) (p + 1) (get_or (tables (table_count g) (get_or (rows_of g k) p 0)) j 0) (get_or (vectors g k) (p * k + j) 0)
unfolding vectors tables
vector-right g k p j l u =
    let t : ℕ = get_or (tables (table_count g) (get_or (rows_of g k) p 0)) j 0 in
    let sized : (S : ℕ) → Memᴰ S (rows_of g k) → length (tables (table_count g) S) ≡ k =
    (λ S m. let r = rows-only g k S m in tables-size 1 (table_count g) S (below_all g S r.0) ∙ r.1) in
    let e : 1 + p ≡ suc p = omega arith in
    rw (add-one p, cell_at (table_count g) k (rows_of g k) 1 p j sized l u, e) (skip-right (rows_of g k) t (length (rows_of g k) - suc p) (suc p) (omega arith))

-- ---- "the sum of those sets' sizes"
vectors-length : (n i : ℕ) (rows : List ℕ) → ((S : ℕ) → Memᴰ S rows → S < 2 ^ n) → length (vectors_from n i rows) ≡ sum (map size rows)
unfolding vectors_from sum tables
vectors-length n i [] h = refl
vectors-length n i (S ∷ rest) h =
    let v : List ℕ = map (λ (t : ℕ). skip_from t (suc i) rest) (tables n S) in
    omega (
      arith,
      length-append v (vectors_from n (suc i) rest),
      length-map (λ (t : ℕ). skip_from t (suc i) rest) (tables n S),
      tables-size 1 n S (h S (Memᴰ.head refl)),
      vectors-length n (suc i) rest (λ X m. h X (Memᴰ.tail m)),
    )

map-over : (xs ys : List ℕ) → map size (xs ++ ys) ≡ map size xs ++ map size ys
map-over [] ys = refl
map-over (x ∷ xs) ys = ap (λ (l : List ℕ). size x ∷ l) (map-over xs ys)

cells-from : (g : Graph) (k n : ℕ) → length (in_row (vectors g) k n) ≡ sum (map size (in_row (rows_of g) k n))
unfolding in_row vectors sum
cells-from g k zero = refl
cells-from g k (suc n) =
    length-append (vectors_from (table_count g) 1 (rows_of g k)) (in_row (vectors g) (suc k) n)
    ∙ omega (
      arith,
      vectors-length (table_count g) 1 (rows_of g k) (λ S m. below_all g S (rows-only g k S m).0),
      cells-from g (suc k) n,
      ap sum (map-over (rows_of g k) (in_row (rows_of g) (suc k) n)),
      sum-append (map size (rows_of g k)) (map size (in_row (rows_of g) (suc k) n)),
    )

-- the skip cells of a query are as many as its connected sets have tables
pub cells-sizes : (g : Graph) → length (skips g) ≡ sum (map size (memo g))
unfolding skips memo
cells-sizes g = cells-from g 1 (table_count g)

-- Laws of writing skip vectors from the last row back.
use Rattle.std.specs.Prelude.{◌≡◌, refl, ◌⊎◌, Bool, true, false, cond, set}
use Rattle.std.proofs.Common.{sym, ap₂, ◌∙◌, inl, inr, le_refl, mul-le-mul, le_of_suc-le-suc, lit<, add-one, arith, length-set, length-append, get_or-set_same, get_or-set_other}
use Rattle.std.proofs.Math.Path.{ap}
use mathlib.Core.List.{List, [], ◌∷◌, ◌++◌, map, Memᴰ}
use Prim.Native.Nat.{ℕ, zero, suc, ◌+◌, ◌-◌, ◌*◌, ◌/◌, ◌^◌, ◌≤◌, ◌<◌}
use Rattle.std.proofs.Math.Decide.{dec_lt}
use Rattle.std.proofs.Math.ListN.{length, get_or, get_or-append}
use Rattle.std.proofs.lemmas.List.Edits.{sets}
use Rattle.std.proofs.Math.Seq.{length-sets, slice, slice_empty, slice-cons}
use Rattle.std.proofs.lemmas.List.{set_comm}
use borrow.Author.Tests.{eqb-true}
use Rattle.rules.specs.Sets.{holds, has, size, single, rank, tables_from, tables, Lowest}
use Rattle.rules.specs.Query.{Graph, table_count}
use Rattle.rules.specs.Rows.{rows_of}
use Rattle.rules.specs.Skips.{skip_from, vectors_from, vectors}
use Rattle.rules.specs.laws.Bools.{true-or-false}
use Rattle.rules.specs.laws.Lists.{length-map, at_map}
use Rattle.rules.specs.laws.Sets.{bit, holds-bit, holds-none, bit-lt, holds-minus, holds-pos, splits-size, single-suc, size-pow, size-zero, Parity, parity}
use Rattle.rules.specs.laws.Tables.{tables-with, tables-without, tables-zero, tables-size}
use Rattle.rules.proofs.laws.Rows.{rows-only, below_all}
use Rattle.sets.specs.Laws.{rank-at, rank_lt, tables-width}
use Rattle.skips.specs.SizeRows.{SizeRows}
use Rattle.skips.specs.Vectors.{value_of}

-- ---- runs of stores
-- a run leaves what stands ahead of it
ahead-kept : (l : List ℕ) (i j : ℕ) (vs : List ℕ) → j < i → get_or (sets l i vs) j 0 ≡ get_or l j 0
ahead-kept l i j [] h = refl
ahead-kept l i j (v ∷ vs) h = ahead-kept (set l i v) (suc i) j vs (omega arith) ∙ get_or-set_other l i j v 0 (λ e. omega arith)

-- what a run has written
written_at : (l : List ℕ) (i r : ℕ) (vs : List ℕ) → r < length vs → i + r < length l → get_or (sets l i vs) (i + r) 0 ≡ get_or vs r 0
written_at l i r [] a b = absurd (omega arith)
written_at l i zero (v ∷ vs) a b =
    let e : i + 0 ≡ i = omega arith in
    rw e (ahead-kept (set l i v) (suc i) i vs (omega arith) ∙ get_or-set_same l i v 0 (omega arith))
written_at l i (suc r) (v ∷ vs) a b =
    let e : i + suc r ≡ suc i + r = omega arith in
    rw e (written_at (set l i v) (suc i) r vs (omega arith) (omega (arith, length-set l i v)))

-- a store ahead of a run may come first
store-first : (l : List ℕ) (i b v : ℕ) (vs : List ℕ) → i < b → set (sets l b vs) i v ≡ sets (set l i v) b vs
store-first l i b v [] h = refl
store-first l i b v (w ∷ vs) h =
    store-first (set l b w) i (suc b) v vs (omega arith) ∙ ap (λ (x : List ℕ). sets x (suc b) vs) (set_comm l b i w v (λ e. omega arith))

-- a run written ahead of another makes one run
written-ahead : (l : List ℕ) (i b : ℕ) (vs ws : List ℕ) → i + length vs ≡ b → sets (sets l b ws) i vs ≡ sets l i (vs ++ ws)
written-ahead l i b [] ws e = let f : b ≡ i = omega arith in rw f
written-ahead l i b (v ∷ vs) ws e =
    ap (λ (x : List ℕ). sets x (suc i) vs) (store-first l i b v ws (omega arith)) ∙ written-ahead (set l i v) (suc i) b vs ws (omega arith)

-- ---- the ascending sequence by its lowest table
lowest-from : (u n i S : ℕ) → S < 2 ^ n → bit i S ≡ 1 → ((j : ℕ) → bit j S ≡ 1 → i ≤ j) → tables_from u n S ≡ (u + i) ∷ tables_from u n (S - 2 ^ i)
unfolding bit
lowest-from u zero i S l b h = absurd (omega (arith, bit-lt 0 i S l b))
lowest-from u (suc n) zero S l b h =
    let e : (S - 2 ^ 0) / 2 ≡ S / 2 = omega arith in
    let f : u + 0 ≡ u = omega arith in
    rw (tables-with u n S b, tables-without u n (S - 2 ^ 0) (omega arith), e, f)
lowest-from u (suc n) (suc i) S l b h = go (parity S) (lowest-from (suc u) n i (S / 2) (omega arith) b (λ j c. le_of_suc-le-suc (h (suc j) c)))
  where
    go : Parity S → tables_from (suc u) n (S / 2) ≡ (suc u + i) ∷ tables_from (suc u) n (S / 2 - 2 ^ i) → tables_from u (suc n) S ≡ (u + suc i) ∷ tables_from u (suc n) (S - 2 ^ suc i)
    go (inl e) ih =
        let f : (S - 2 ^ suc i) / 2 ≡ S / 2 - 2 ^ i = omega arith in
        let g : u + suc i ≡ suc u + i = omega arith in
        rw (tables-without u n S e, tables-without u n (S - 2 ^ suc i) (omega arith), f, g) ih
    go (inr o) ih = absurd (omega (arith, h 0 o))

pub tables-lowest : (n S t : ℕ) → S < 2 ^ n → Lowest S t → tables n S ≡ t ∷ tables n (S - single t)
unfolding tables
tables-lowest n S zero l h = absurd (omega (arith, holds-none S, h.stands))
tables-lowest n S (suc i) l h =
    let f : 1 + i ≡ suc i = omega arith in
    let e = lowest-from 1 n i S l (rw holds-bit at h.stands) (λ j c. le_of_suc-le-suc (h.least (suc j) (rw holds-bit c))) in
    rw (single-suc i) (rw f at e)

module _ (S t : ℕ) (h : Lowest S t) where
  pub lowest-le : single t ≤ S
  lowest-le = omega (arith, (holds-minus S t h.stands).whole)

  pub lowest-size : size (S - single t) + 1 ≡ size S
  lowest-size = omega (arith, splits-size (holds-minus S t h.stands), size-pow (t - 1))

-- ---- one cell
-- the next row lacks the table, or there is none
skip-here : (t k : ℕ) (rest : List ℕ) → has (get_or rest 0 0) t ≡ false → skip_from t k rest ≡ k
unfolding skip_from
skip-here t k [] e = refl
skip-here t k (S ∷ rest) e = rw e

vectors-cons : (n i S : ℕ) (rest : List ℕ) → vectors_from n i (S ∷ rest) ≡ map (λ (t : ℕ). skip_from t (suc i) rest) (tables n S) ++ vectors_from n (suc i) rest
unfolding vectors_from
vectors-cons n i S rest = refl

row-size : (n S : ℕ) (f : ℕ → ℕ) → S < 2 ^ n → length (map f (tables n S)) ≡ size S
unfolding tables
row-size n S f l = length-map f (tables n S) ∙ tables-size 1 n S l

-- the next row has it: the value is the next row's, at the rank that the table has there
module _ (n t k : ℕ) where
  cell-inside : (rest : List ℕ) → get_or rest 0 0 < 2 ^ n → has (get_or rest 0 0) t ≡ true → rank (get_or rest 0 0) t < length (vectors_from n k rest)
  cell-inside [] l e = absurd (omega (arith, holds-pos 0 t (eqb-true (holds 0 t) 1 e)))
  cell-inside (S ∷ rest) l e =
      let v : List ℕ = map (λ (u : ℕ). skip_from u (suc k) rest) (tables n S) in
      let a : length v ≡ size S = row-size n S (λ (u : ℕ). skip_from u (suc k) rest) l in
      let b : rank S t < length (v ++ vectors_from n (suc k) rest) = omega (arith, a, rank_lt S t (eqb-true (holds S t) 1 e), length-append v (vectors_from n (suc k) rest)) in
      rw (vectors-cons n k S rest) b

  skip-next : (rest : List ℕ) → get_or rest 0 0 < 2 ^ n → has (get_or rest 0 0) t ≡ true → get_or (vectors_from n k rest) (rank (get_or rest 0 0) t) 0 ≡ skip_from t k rest
  unfolding skip_from
  skip-next [] l e = absurd (omega (arith, holds-pos 0 t (eqb-true (holds 0 t) 1 e)))
  skip-next (S ∷ rest) l e =
      let h : holds S t ≡ 1 = eqb-true (holds S t) 1 e in
      let f : ℕ → ℕ = λ (u : ℕ). skip_from u (suc k) rest in
      let i : rank S t < length (map f (tables n S)) = omega (arith, rank_lt S t h, row-size n S f l) in
      let own : get_or (map f (tables n S)) (rank S t) 0 ≡ f t = at_map f 0 (tables n S) (rank S t) (omega (arith, length-map f (tables n S))) ∙ ap f (rank-at n S t l h) in
      rw (e, vectors-cons n k S rest) (get_or-append (map f (tables n S)) (vectors_from n (suc k) rest) 0 (rank S t) i ∙ own)

-- ---- the value, as the code finds it
module _ (next t : ℕ) {b : Bool} (e : b ≡ has next t) where
  pub rank-inside : {r : ℕ} → b ≡ true → r ≡ rank next t → r < size next
  rank-inside h f = omega (arith, rank_lt next t (eqb-true (holds next t) 1 (sym e ∙ h)))

-- ---- one more cell of a row; the cells from `behind` on, which the values are read of, stay as they were
module _ (behind i : ℕ) (out out₀ : List ℕ) (kept : (j : ℕ) → behind ≤ j → get_or out j 0 ≡ get_or out₀ j 0) where
  pub still_kept : (v : ℕ) → i < behind → (j : ℕ) → behind ≤ j → get_or (set out i v) j 0 ≡ get_or out₀ j 0
  still_kept v l j h = get_or-set_other out i j v 0 (λ e. omega arith) ∙ kept j h

  pub row_more : (next number left t : ℕ) {v s : ℕ} → left < 2 ^ 32 → Lowest left t → s ≡ single t → v ≡ value_of next number out behind t
      → sets (set out i v) (i + 1) (map (value_of next number out₀ behind) (tables 32 (left - s))) ≡ sets out i (map (value_of next number out₀ behind) (tables 32 left))
  row_more next number left t l h e d =
      let f : value_of next number out behind t ≡ value_of next number out₀ behind t = ap (λ (x : ℕ). cond (has next t) x number) (kept (behind + rank next t) (omega arith)) in
      rw (tables-lowest 32 left t l h, e, d, f, add-one i)

pub row_done : (f : ℕ → ℕ) (out : List ℕ) (i left : ℕ) {goal : List ℕ} → left ≡ 0 → sets out i (map f (tables 32 left)) ≡ goal → out ≡ goal
unfolding tables
row_done f out i left e g = rw (e, tables-zero 1 32) at g

-- ---- one row, written ahead of the vectors of the rows behind it
module _ (n k : ℕ) (rest l : List ℕ) (b : ℕ) (low : get_or rest 0 0 < 2 ^ n) (room : b + size (get_or rest 0 0) ≤ length l) where
  value-is : (t : ℕ) → value_of (get_or rest 0 0) k (sets l b (vectors_from n k rest)) b t ≡ skip_from t k rest
  value-is t = go (true-or-false (has (get_or rest 0 0) t))
    where
      go : (has (get_or rest 0 0) t ≡ true) ⊎ (has (get_or rest 0 0) t ≡ false) → value_of (get_or rest 0 0) k (sets l b (vectors_from n k rest)) b t ≡ skip_from t k rest
      go (inl e) =
          let r : rank (get_or rest 0 0) t < size (get_or rest 0 0) = rank_lt (get_or rest 0 0) t (eqb-true (holds (get_or rest 0 0) t) 1 e) in
          rw e (written_at l b (rank (get_or rest 0 0) t) (vectors_from n k rest) (cell-inside n t k rest low e) (omega arith) ∙ skip-next n t k rest low e)
      go (inr e) = rw e (sym (skip-here t k rest e))

map_same : (f g : ℕ → ℕ) (l : List ℕ) → ((x : ℕ) → f x ≡ g x) → map f l ≡ map g l
map_same f g [] h = refl
map_same f g (x ∷ l) h = ap₂ (λ (y : ℕ) (m : List ℕ). y ∷ m) (h x) (map_same f g l h)

row-ahead : (n i S a b : ℕ) (rest l : List ℕ) → S < 2 ^ n → get_or rest 0 0 < 2 ^ n → a + size S ≡ b → b + size (get_or rest 0 0) ≤ length l
    → sets (sets l b (vectors_from n (suc i) rest)) a (map (value_of (get_or rest 0 0) (suc i) (sets l b (vectors_from n (suc i) rest)) b) (tables n S)) ≡ sets l a (vectors_from n i (S ∷ rest))
row-ahead n i S a b rest l h low e room =
    ap (sets (sets l b (vectors_from n (suc i) rest)) a)
    (map_same (value_of (get_or rest 0 0) (suc i) (sets l b (vectors_from n (suc i) rest)) b) (λ (t : ℕ). skip_from t (suc i) rest) (tables n S) (value-is n (suc i) rest l b low room))
    ∙ written-ahead l a b (map (λ (t : ℕ). skip_from t (suc i) rest) (tables n S)) (vectors_from n (suc i) rest) (omega (arith, row-size n S (λ (t : ℕ). skip_from t (suc i) rest) h))
    ∙ ap (sets l a) (sym (vectors-cons n i S rest))

-- ---- the rows of one size, from the last back; i of them are still to be written
pub times-le : (a b k : ℕ) → a ≤ b → a * k ≤ b * k
times-le a b k h = mul-le-mul h (le_refl k)

times_more : (j i k : ℕ) → j + 1 ≡ i → j * k + k ≡ i * k
times_more j i k e = rw (← e) (omega arith)

module _ (rows : List ℕ) (from to k : ℕ) (z : SizeRows rows from to k 32) where
  -- the set behind the first i rows, or the empty one
  abbrev pub behind_of : ℕ → ℕ
  behind_of i = get_or (slice (from + i) to rows) 0 0

  pub behind-some : (i : ℕ) → i < to - from → behind_of i ≡ get_or rows (from + i) 0
  behind-some i h = ap (λ (l : List ℕ). get_or l 0 0) (slice-cons (from + i) to rows 0 (omega arith) z.inside)

  behind-none : (i : ℕ) → from + i ≡ to → slice (from + i) to rows ≡ []
  behind-none i e = rw e (slice_empty to rows)

  pub behind-last : 0 ≡ behind_of (to - from)
  behind-last = rw (behind-none (to - from) (omega (arith, z.forward)))

  behind-low : (i : ℕ) → i ≤ to - from → behind_of i < 2 ^ 32
  behind-low i h = go (dec_lt i (to - from))
    where
      go : Dec (i < to - from) → behind_of i < 2 ^ 32
      go (yes l) = rw (behind-some i l) (z.below (from + i) (omega arith) (omega arith))
      go (no g) = rw (behind-none i (omega (arith, z.forward))) (lit< tt)

  -- the cells of the row behind have room
  behind-room : (i : ℕ) → i ≤ to - from → i * k + size (behind_of i) ≤ (to - from) * k
  behind-room i h = go (dec_lt i (to - from))
    where
      go : Dec (i < to - from) → i * k + size (behind_of i) ≤ (to - from) * k
      go (yes l) = omega (arith, ap size (behind-some i l), z.sized (from + i) (omega arith) (omega arith), times-le (suc i) (to - from) k l)
      go (no g) =
          let e : i ≡ to - from = omega arith in
          omega (arith, ap size (ap (λ (l : List ℕ). get_or l 0 0) (behind-none i (omega (arith, z.forward)))), size-zero, times-le i (to - from) k h)

  -- nothing is written yet
  pub vectors-none : (out : List ℕ) (at : ℕ) → out ≡ sets out (at + (to - from) * k) (vectors_from 32 (to - from + 1) (slice (from + (to - from)) to rows))
  unfolding vectors_from
  vectors-none out at = rw (behind-none (to - from) (omega (arith, z.forward)))

  -- one row more, the row j
  module _ (at i j : ℕ) (e : j + 1 ≡ i) (h : i ≤ to - from) where
    pub row_fits : {next S n : ℕ} → next ≡ behind_of i → S ≡ get_or rows (from + j) 0 → at + (to - from) * k ≤ n → (S < 2 ^ 32) × (at + j * k + size S + size next ≤ n)
    row_fits {next} {S} {n} a b c = (
      rw b (z.below (from + j) (omega arith) (omega arith)),
      omega (arith, ap size a, ap size b, z.sized (from + j) (omega arith) (omega arith), behind-room i h, times_more j i k e),
    )

    row-split : {S : ℕ} → S ≡ get_or rows (from + j) 0 → slice (from + j) to rows ≡ S ∷ slice (from + i) to rows
    row-split b =
        let f : suc (from + j) ≡ from + i = omega arith in
        slice-cons (from + j) to rows 0 (omega arith) z.inside ∙ ap₂ (λ (x q : ℕ). x ∷ slice q to rows) (sym b) f

    pub vectors-more : (out₀ : List ℕ) {next S : ℕ} {out out' : List ℕ} → next ≡ behind_of i → S ≡ get_or rows (from + j) 0 → at + (to - from) * k ≤ length out₀
        → out ≡ sets out₀ (at + i * k) (vectors_from 32 (i + 1) (slice (from + i) to rows))
        → out' ≡ sets out (at + j * k) (map (value_of next (j + 2) out (at + j * k + size S)) (tables 32 S))
        → (length out' ≡ length out₀) × (out' ≡ sets out₀ (at + j * k) (vectors_from 32 (j + 1) (slice (from + j) to rows)))
    vectors-more out₀ {next} {S} {out} {out'} a b room o w =
        let fits = row_fits {next = next} {S = S} {n = length out₀} a b room in
        let g : at + j * k + size S ≡ at + i * k = omega (arith, ap size b, z.sized (from + j) (omega arith) (omega arith), times_more j i k e) in
        let m : j + 2 ≡ suc (j + 1) = omega arith in
        let d : i + 1 ≡ suc (j + 1) = omega arith in
        let r = row-ahead 32 (j + 1) S (at + j * k) (at + i * k) (slice (from + i) to rows) out₀ fits.0 (behind-low i h) g (omega (arith, behind-room i h)) in
        let v : out' ≡ sets out₀ (at + j * k) (vectors_from 32 (j + 1) (slice (from + j) to rows)) = rw (row-split b) ((rw (a, g, m, o, d) at w) ∙ r) in
        (ap length v ∙ length-sets out₀ (at + j * k) (vectors_from 32 (j + 1) (slice (from + j) to rows)), v)

-- ---- what callers know
-- the width does not matter
vectors-width : (n m i : ℕ) (rows : List ℕ) → n ≤ m → ((S : ℕ) → Memᴰ S rows → S < 2 ^ n) → vectors_from m i rows ≡ vectors_from n i rows
unfolding vectors_from
vectors-width n m i [] h low = refl
vectors-width n m i (S ∷ rest) h low =
    rw (tables-width n m S (low S (Memᴰ.head refl)) h, vectors-width n m (suc i) rest h (λ X x. low X (Memᴰ.tail x)))

-- the vectors of a query's rows of one size are its skip table of that size
pub vectors-of : (g : Graph) (k : ℕ) (rows : List ℕ) → table_count g ≤ 32 → rows ≡ rows_of g k → vectors_from 32 1 rows ≡ vectors g k
unfolding vectors
vectors-of g k rows h e = rw e (vectors-width (table_count g) 32 1 (rows_of g k) h (λ S m. below_all g S (rows-only g k S m).0))

cells-from : (n k i : ℕ) (rows : List ℕ) → ((S : ℕ) → Memᴰ S rows → (S < 2 ^ n) × (size S ≡ k)) → length (vectors_from n i rows) ≡ length rows * k
unfolding vectors_from
cells-from n k i [] h = omega arith
cells-from n k i (S ∷ rest) h =
    let s = h S (Memᴰ.head refl) in
    omega (
      arith,
      s.1,
      row-size n S (λ (t : ℕ). skip_from t (suc i) rest) s.0,
      length-append (map (λ (t : ℕ). skip_from t (suc i) rest) (tables n S)) (vectors_from n (suc i) rest),
      cells-from n k (suc i) rest (λ X x. h X (Memᴰ.tail x)),
    )

-- it has k cells for each row
pub vectors-cells : (g : Graph) (k : ℕ) → length (vectors g k) ≡ length (rows_of g k) * k
unfolding vectors
vectors-cells g k = cells-from (table_count g) k 1 (rows_of g k) (λ S m. let r = rows-only g k S m in (below_all g S r.0, r.1))

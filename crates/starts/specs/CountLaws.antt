-- Laws of where each size begins: one more store, one more size; what a reader finds.
use Rattle.std.specs.Prelude.{◌≡◌, length, set}
use Rattle.std.proofs.Math.Path.{refl, ap}
use Rattle.std.proofs.Common.{◌∙◌, mul-le-mul}
use mathlib.Core.List.{List, [], ◌∷◌, ◌++◌, append-nil}
use Prim.Native.Nat.{ℕ, zero, suc, ◌+◌, ◌*◌, ◌≤◌, ◌<◌}
use Rattle.std.proofs.Math.Decide.{dec_lt}
use native.Mathlib.Omega.{arith}
use Rattle.std.proofs.Math.Numerals.{add-one}
use Rattle.std.proofs.Math.ListN.{get_or, length-append, get_or-append}
use Rattle.std.proofs.lemmas.List.{set_comm}
use Rattle.std.proofs.Math.Seq.{get_or_at}
use Rattle.rules.specs.Limits.{max_tables}
use Rattle.rules.specs.Lists.{in_row}
use Rattle.rules.specs.Query.{Graph, table_count}
use Rattle.rules.specs.Rows.{rows_of}
use Rattle.rules.specs.Skips.{vectors}
use Rattle.rules.specs.laws.Lists.{row-split}
use Rattle.rows.specs.WalkLaws.{rows_fit}
use Rattle.skips.specs.VectorLaws.{vectors-cells}
use Rattle.skips.specs.Vectors.{written}
use Rattle.starts.specs.Starts.{counts_to, cells_to}

-- one more store after a run of stores
pub written-push : (d : List ℕ) (at i : ℕ) (p : List ℕ) (v : ℕ) → at + length p ≡ i → set (written d at p) i v ≡ written d at (p ++ v ∷ [])
written-push d at i [] v e = let f : i ≡ at = omega arith in ap (λ (k : ℕ). set d k v) f
written-push d at i (x ∷ p) v e = written-push (set d at x) (suc at) i p v (omega arith)

-- a store ahead of a run of stores may come first
store-ahead : (d : List ℕ) (i j v : ℕ) (p : List ℕ) → j < i → set (written d i p) j v ≡ written (set d j v) i p
store-ahead d i j v [] h = refl
store-ahead d i j v (x ∷ p) h = store-ahead (set d i x) (suc i) j v p (omega arith) ∙ ap (λ (l : List ℕ). written l (suc i) p) (set_comm d i j x v (λ e. omega arith))

-- how many rows and cells a size has, at most
pub count_fits : (g : Graph) (k : ℕ) {r : ℕ} → k < table_count g → table_count g ≤ max_tables → r ≡ length (rows_of g (k + 1)) → (r ≤ 65536) × (r * (k + 1) ≤ 1048576)
count_fits g k {r} l few e =
    let fit : r ≤ 65536 = omega (arith, e, rows_fit g (k + 1) few) in
    (fit, omega (arith, mul-le-mul {n₁ = r} {m₁ = k + 1} {n₂ = 65536} {m₂ = 16} fit (omega arith)))

-- ---- where each size begins, by f: how many rows, or cells, have the sizes 1 to k
module _ (f : ℕ → ℕ) where
  length-counts : (k : ℕ) → length (counts_to f k) ≡ k
  unfolding counts_to
  length-counts zero = refl
  length-counts (suc k) = omega (arith, length-append (counts_to f k) (f k ∷ []), length-counts k)

  pub counts-none : (d : List ℕ) → d ≡ written d 1 (counts_to f 0)
  unfolding counts_to
  counts-none d = refl

  -- one more size, where v is the number of the smaller ones
  pub counts-more : (d : List ℕ) (k : ℕ) {l : List ℕ} {v : ℕ} → l ≡ written d 1 (counts_to f k) → v ≡ f k → set l (k + 1) v ≡ written d 1 (counts_to f (k + 1))
  unfolding counts_to
  counts-more d k e w = rw (e, w, add-one k) (written-push d 1 (suc k) (counts_to f k) (f k) (omega (arith, length-counts k)))

  -- the last number, and the first cell
  pub counts_end : (d : List ℕ) (n k : ℕ) {l : List ℕ} {v : ℕ} → k ≡ n → l ≡ written d 1 (counts_to f k) → v ≡ f k → set (set l (n + 1) v) 0 0 ≡ written d 0 (0 ∷ counts_to f (n + 1))
  counts_end d n k {l} {v} e o w = rw (counts-more d n (rw e at o) (rw e at w)) (store-ahead d 1 0 0 (counts_to f (n + 1)) (omega arith))

  -- what a reader finds in cell k + 1
  pub counts-at : (n k : ℕ) → k < n → get_or (counts_to f n) k 0 ≡ f k
  unfolding counts_to
  counts-at zero k h = absurd (omega arith)
  counts-at (suc n) k h = go (λ l. counts-at n k l) (dec_lt k n)
    where
      go : (k < n → get_or (counts_to f n) k 0 ≡ f k) → Dec (k < n) → get_or (counts_to f n ++ f n ∷ []) k 0 ≡ f k
      go ih (yes l) = get_or-append (counts_to f n) (f n ∷ []) 0 k (omega (arith, length-counts n)) ∙ ih l
      go ih (no z) =
          let e : n ≡ k = omega arith in
          get_or_at (counts_to f n) (f n) [] 0 k (length-counts n ∙ e) ∙ ap f e

pub length-starts : (f : ℕ → ℕ) (n : ℕ) → length (0 ∷ counts_to f n) ≡ suc n
length-starts f n = ap suc (length-counts f n)

-- ---- the skip cells of the sizes 1 to k
module _ (g : Graph) where
  pub cells-start : cells_to g 0 ≡ []
  unfolding in_row
  cells-start = refl

  pub cells-size : (k : ℕ) → cells_to g (k + 1) ≡ cells_to g k ++ vectors g (k + 1)
  unfolding in_row
  cells-size k =
      let e : 1 + k ≡ k + 1 = omega arith in
      row-split (vectors g) 1 k 1 ∙ ap (λ (l : List ℕ). cells_to g k ++ l) (append-nil (vectors g (1 + k)) ∙ ap (vectors g) e)

  pub cells_count : (k : ℕ) {r : ℕ} → r ≡ length (rows_of g (k + 1)) → length (cells_to g (k + 1)) ≡ length (cells_to g k) + r * (k + 1)
  cells_count k e = omega (arith, ap (λ (x : ℕ). x * (k + 1)) e, vectors-cells g (k + 1), ap length (cells-size k), length-append (cells_to g k) (vectors g (k + 1)))

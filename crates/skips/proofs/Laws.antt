-- Laws that no proof cites any more, since the check finds their goals: they hold as before.
use Rattle.std.specs.Prelude.{◌≡◌, Bool, true, false}
use Rattle.std.proofs.Common.{sym, ◌∙◌, pow_pos, arith}
use mathlib.Core.List.{List}
use Prim.Native.Nat.{ℕ, ◌+◌, ◌-◌, ◌*◌, ◌<◌}
use Rattle.std.proofs.Math.ListN.{get_or}
use Rattle.std.proofs.lemmas.List.Edits.{sets}
use Rattle.std.proofs.Math.Seq.{slice}
use Rattle.rules.specs.Sets.{has, single, rank, Lowest}
use Rattle.rules.specs.Skips.{vectors_from}
use Rattle.skips.specs.SizeRows.{SizeRows}
use Rattle.skips.specs.Vectors.{value_of}
use Rattle.skips.specs.VectorLaws.{lowest-le}

-- one table fewer is left
pub lowest-less : (S t : ℕ) → Lowest S t → S - single t < S
lowest-less S t h = omega (arith, lowest-le S t h, pow_pos (t - 1))

-- ---- the value, as the code finds it
module _ (next t : ℕ) {b : Bool} (e : b ≡ has next t) where
  pub value-next : (number : ℕ) (cells : List ℕ) (at : ℕ) {r : ℕ} → b ≡ true → r ≡ rank next t → get_or cells (at + r) 0 ≡ value_of next number cells at t
  value-next number cells at h f = rw (sym e ∙ h, f)

  pub value-here : (number : ℕ) (cells : List ℕ) (at : ℕ) → b ≡ false → number ≡ value_of next number cells at t
  value-here number cells at h = rw (sym e ∙ h)

-- ---- the rows of one size, all of them written
pub vectors-done : (rows : List ℕ) (from to k : ℕ) → SizeRows rows from to k 32 → (out₀ : List ℕ) (at i : ℕ) {out : List ℕ} → i ≡ 0 → out ≡ sets out₀ (at + i * k) (vectors_from 32 (i + 1) (slice (from + i) to rows))
    → out ≡ sets out₀ at (vectors_from 32 1 (slice from to rows))
vectors-done rows from to k z out₀ at i e o =
    let a : at + 0 * k ≡ at = omega arith in
    let b : 0 + 1 ≡ 1 = omega arith in
    let c : from + 0 ≡ from = omega arith in
    rw (e, a, b, c) at o

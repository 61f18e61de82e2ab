-- Laws that no proof cites any more, since the arrays that they are about are lists now: they hold as before.
use Rattle.std.specs.Prelude.{ℕ, ◌+◌, ◌<◌, ◌≤◌, length, replicate}
use Rattle.std.proofs.Common.{arith, Fits}
use Rattle.std.proofs.lemmas.List.{length-replicate}
use Rattle.std.specs.Int.{w64}

-- of an array of n marks, its first cells
pub of-marks : {l : ℕ} (n : ℕ) → l ≤ n → l ≤ length {A = ℕ} (replicate n 77)
of-marks n h = rw length-replicate h

-- the list at a, of at most `most` cells
module _ (a most : ℕ) {r : ℕ} (few : r ≤ most) where
  pub end_fits : a + most ≤ 4096 → Fits w64 (a + r)
  end_fits h = omega arith

  pub end-in : {n : ℕ} → a + most ≤ 4096 → 4096 ≤ n → a + r ≤ n
  end-in h l = omega arith

-- it starts before it ends
pub start_first : (a r : ℕ) → a ≤ a + r
start_first a r = omega arith

-- the list at 0
pub first-in : {r n : ℕ} → r ≤ 128 → 4096 ≤ n → r ≤ n
first-in h l = omega arith

-- a single number's place
pub cell_in : {n : ℕ} (a : ℕ) → a + 1 ≤ 4096 → 4096 ≤ n → a < n
cell_in a h l = omega arith

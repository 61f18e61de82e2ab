-- Laws that no proof cites any more, since the arrays that they are about are lists now: they hold as before.
use Rattle.std.specs.Prelude.{ℕ, ◌+◌, ◌≤◌, length, replicate}
use Rattle.std.proofs.Common.{arith}
use Rattle.std.proofs.lemmas.List.{length-replicate}

-- of an array of n marks, its first cells
pub of-marks : {l : ℕ} (n : ℕ) → l ≤ n → l ≤ length {A = ℕ} (replicate n 77)
of-marks n h = rw length-replicate h

-- the list whose numbers begin at `from` ends inside the cells
pub inside : {r n : ℕ} (from : ℕ) → r ≤ from + 31 → from + 31 ≤ 480 → 480 ≤ n → r ≤ n
inside from h k l = omega arith

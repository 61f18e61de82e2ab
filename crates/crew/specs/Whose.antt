-- Whose turn it is.
use Rattle.std.specs.Prelude.{◌≡◌, true, false, cond, List, ℕ, ◌+◌, ◌≤◌, ◌<◌, ltb, length, get_or, Option, unwrap_or, IfSome}
use Rattle.shares.specs.Nowhere.{left}
use Rattle.crew.specs.declared.Worker.{Worker}
use Rattle.crew.specs.Workers.{worker_at}

-- r is the lowest of m workers with a pair left, or m
pub record LowestLeft (workers : List Worker) (m r : ℕ) : Type 0 where
  pub inside : r ≤ m
  pub lower : (v : ℕ) → v < r → left (worker_at workers v).place ≡ false
  pub left : r < m → left (worker_at workers r).place ≡ true

-- r is the lowest of m workers with a pair left, or none has one
pub record Lowest (workers : List Worker) (m : ℕ) (r : Option ℕ) : Type 0 where
  pub is : LowestLeft workers m (unwrap_or r m)
  pub inside : IfSome r (λ w. w < m)

-- "Each entry of the list is one turn"; "When the list is used up, the lowest-numbered worker with a pair left has the turn"
abbrev pub whose : List ℕ → ℕ → ℕ → ℕ
whose turns at low = cond (ltb at (length turns)) (get_or turns at 0) low

-- the entries used after one more turn
abbrev pub entries_on : ℕ → ℕ → ℕ
entries_on n at = cond (ltb at n) (at + 1) at

-- none of the first w workers has a pair left
abbrev pub NoneLeft : List Worker → ℕ → Type 0
NoneLeft workers w = (v : ℕ) → v < w → left (worker_at workers v).place ≡ false

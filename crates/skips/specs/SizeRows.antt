-- The rows of one size, as they stand in a list of sets.
use Rattle.std.specs.Prelude.{◌≡◌, true, List, ℕ, ◌^◌, ◌≤◌, ◌<◌, length, get_or}
use Rattle.rules.specs.Sets.{size, tables}
use Rattle.rules.specs.Rows.{before}

-- rows `from` to `to` are sets of k of the tables 1 to n
pub record SizeRows (sets : List ℕ) (from to k n : ℕ) : Type 0 where
  pub forward : from ≤ to
  pub inside : to ≤ length sets
  pub sized : (p : ℕ) → from ≤ p → p < to → size (get_or sets p 0) ≡ k
  pub below : (p : ℕ) → from ≤ p → p < to → get_or sets p 0 < 2 ^ n

-- each stands before all that come after it, in memo order
pub record InOrder (sets : List ℕ) (from to : ℕ) : Type 0 where
  pub ascends : (p q : ℕ) → from ≤ p → p < q → q < to → before (tables 32 (get_or sets p 0)) (tables 32 (get_or sets q 0)) ≡ true

-- the row of s is p
pub record Stands (sets : List ℕ) (from to s p : ℕ) : Type 0 where
  pub after : from ≤ p
  pub ahead : p < to
  pub there : get_or sets p 0 ≡ s

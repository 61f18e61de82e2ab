use Prim.Native.Nat.{ℕ, ◌+◌, ◌-◌, ◌≤◌}
use Rattle.lookup.specs.Search.{StandsAt}
use Rattle.lookup.proofs.Search.seek.Given as goal

abbrev pub invariant-loop-high : goal.invariant-loop-high
invariant-loop-high l = (l.self.from ≤ l.low) × (l.low ≤ l.high) × (l.low ≤ l.self.to) × (1 ≤ l.stride) × (l.stride ≤ l.high + 1) × ((p : ℕ) → StandsAt l.self p → l.low ≤ p)

abbrev pub decreases-loop-high : goal.decreases-loop-high
decreases-loop-high l = l.self.to - l.high

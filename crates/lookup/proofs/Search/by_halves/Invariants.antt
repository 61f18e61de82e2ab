use Prim.Native.Nat.{ℕ, ◌-◌, ◌≤◌}
use Rattle.lookup.specs.Search.{StandsAt}
use Rattle.lookup.proofs.Search.by_halves.Given as goal

abbrev pub invariant-loop-low : goal.invariant-loop-low
invariant-loop-low l = (l.self.from ≤ l.low) × (l.low ≤ l.high) × (l.high ≤ l.self.to) × ((p : ℕ) → StandsAt l.self p → (l.low ≤ p) × (p ≤ l.high))

abbrev pub decreases-loop-low : goal.decreases-loop-low
decreases-loop-low l = l.high - l.low

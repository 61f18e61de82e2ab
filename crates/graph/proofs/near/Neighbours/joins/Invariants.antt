use mathlib.Core.Path.{◌≡◌}
use Prim.Native.Nat.{ℕ, ◌+◌, ◌-◌, ◌*◌, ◌^◌, ◌<◌}
use Rattle.rules.specs.Sets.{holds}
use Rattle.rules.specs.Query.{Graph, table_count}
use Rattle.graph.specs.Near.{Near, Flood, Reached}
use Rattle.graph.proofs.near.Neighbours.joins.Given as goal

abbrev pub invariant-loop-inside : goal.invariant-loop-inside
invariant-loop-inside l = Flood l.inside l.seen l.todo × ((u : ℕ) × (holds l.goal u ≡ 1) × (holds l.seen u ≡ 1)) × ((g : Graph) → Near g l.self.of → l.inside < 2 ^ table_count g → Reached g l.inside l.seen l.todo)

abbrev pub decreases-loop-inside : goal.decreases-loop-inside
decreases-loop-inside l = 2 * (l.inside - l.seen) + l.todo

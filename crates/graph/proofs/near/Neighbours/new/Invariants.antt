use mathlib.Core.Path.{◌≡◌}
use Prim.Native.Nat.{ℕ, ◌+◌, ◌<◌}
use lib.ListN.{length, get_or}
use Rattle.rules.specs.Query.{edge_count}
use Rattle.graph.specs.Near.{NextTo}
use Rattle.graph.proofs.near.Neighbours.new.Given as goal

abbrev pub invariant-loop-k : goal.invariant-loop-k
invariant-loop-k l = (length l.of ≡ 16) × ((j : ℕ) → j < l.k → NextTo l.graph (j + 1) (edge_count l.graph) (get_or l.of j 0))

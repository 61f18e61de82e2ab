use mathlib.Core.Path.{◌≡◌}
use mathlib.Core.List.{map}
use Prim.Native.Nat.{◌*◌, ◌≤◌}
use Rattle.rules.specs.Sets.{size}
use Rattle.rules.specs.laws.Lists as lists
use Rattle.rows.specs.Sizes.{up_to}
use Rattle.rows.proofs.tally.Tally.cells.Given as goal

abbrev pub invariant-loop-k : goal.invariant-loop-k
invariant-loop-k l = (l.sum ≤ l.k * 1048576) × (l.sum ≡ lists.sum (map size (up_to l.self.graph.now l.k)))

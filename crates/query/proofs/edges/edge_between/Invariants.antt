use mathlib.Core.Path.{◌≡◌}
use mathlib.Core.Bool.{false}
use Rattle.rules.specs.laws.Bools.{any}
use Rattle.rules.specs.laws.Decide.{crosses_in}
use Rattle.query.proofs.edges.edge_between.Given as goal

abbrev pub invariant-loop-i : goal.invariant-loop-i
invariant-loop-i l = any (crosses_in l.graph-inside.left.now l.graph-inside.right.now l.x l.y) l.i ≡ false

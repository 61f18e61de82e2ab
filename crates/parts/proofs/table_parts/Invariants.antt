use mathlib.Core.Path.{◌≡◌}
use lib.ListN.{length}
use Rattle.rules.specs.Query.{graph_of}
use Rattle.parts.specs.Parts.{Parts}
use Rattle.parts.proofs.table_parts.Given as goal

abbrev pub invariant-loop-i : goal.invariant-loop-i
invariant-loop-i l =
    let g = l.graph-inside in
    (length l.parts ≡ 256) × Parts (graph_of g.rows.now g.left.now g.right.now g.divisors.now) l.i l.parts

use mathlib.Core.Path.{sym}
use native.Mathlib.Omega.{arith}
use Rattle.query.specs.EdgeLaws.{any-start, any-more, crosses-is, crosses-not, between_none}
use Rattle.query.proofs.edges.edge_between.Goals as goal
use Rattle.query.proofs.edges.edge_between.Goals.{else-has_table-via-then-has_table+else-crosses, else-has_table-via-else-has_table}

pub loop-i-init : goal.loop-i-init
loop-i-init c = any-start _

pub loop-i-preserved : goal.loop-i-preserved
loop-i-preserved c =
    let g = c.graph.inside in
    any-more _ c.loop-i.i c.loop-i.invariant
    (elim c.else-has_table.branch [ else-has_table-via-then-has_table+else-crosses w ↦ crosses-is g.left.now g.right.now _ _ c.loop-i.i w.crosses.ensures w.if-crosses.false | else-has_table-via-else-has_table w ↦ crosses-not g.left.now g.right.now _ _ c.loop-i.i c.has_table.ensures w.if-has_table.false ])

pub returns : goal.returns
returns c = rw (← c.graph.view_is) (sym (between_none _ _ _ c.loop-i.i (omega arith) c.loop-i.invariant))

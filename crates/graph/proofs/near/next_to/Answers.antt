use Rattle.graph.specs.NearLaws.{next-none}
use Rattle.graph.specs.NextLaws.{next_edge}
use Rattle.graph.proofs.near.next_to.Goals as goal

pub loop-i-init : goal.loop-i-init
loop-i-init c = next-none _ _

pub loop-i-preserved : goal.loop-i-preserved
loop-i-preserved c =
    next_edge _ c.args.t c.loop-i.i c.far_table-r.result c.graph.invariant c.loop-i-test.true c.loop-i.invariant c.far_table-r.ensures

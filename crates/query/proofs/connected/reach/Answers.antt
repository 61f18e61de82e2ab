use native.Mathlib.Omega.{arith}
use Rattle.query.specs.ConnectedLaws.{grown-start, grown-more, grown-end}
use Rattle.query.proofs.connected.reach.Goals as goal

pub loop-i-init : goal.loop-i-init
loop-i-init c = grown-start _ _ _ (rw c.graph.view_is c.requires)

pub loop-i-preserved : goal.loop-i-preserved
loop-i-preserved c =
    rw c.grow-grown.ensures (grown-more _ _ _ c.graph.invariant c.loop-i.i c.loop-i.grown c.loop-i-test.true c.loop-i.invariant)

pub returns : goal.returns
returns c = rw (← c.graph.view_is) (grown-end _ _ _ c.loop-i.i c.loop-i.grown (omega arith) c.loop-i.invariant)

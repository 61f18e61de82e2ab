use Prim.Native.Nat.{◌-◌}
use Rattle.query.specs.ConnectedLaws.{Part}
use Rattle.query.proofs.connected.connected.Given as goal

abbrev pub invariant-loop-part : goal.invariant-loop-part
invariant-loop-part l = Part l.graph l.s l.part

abbrev pub decreases-loop-part : goal.decreases-loop-part
decreases-loop-part l = l.s - l.part

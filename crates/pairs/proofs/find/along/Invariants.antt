use Prim.Native.Nat.{◌-◌}
use Rattle.pairs.specs.LeafLaws.{Walked}
use Rattle.pairs.proofs.find.along.Given as goal

abbrev pub invariant-loop-inner : goal.invariant-loop-inner
invariant-loop-inner l = Walked l.graph l.rows.sets.now l.x l.own l.inner

abbrev pub decreases-loop-inner : goal.decreases-loop-inner
decreases-loop-inner l = l.own.end - l.inner

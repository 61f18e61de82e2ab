use mathlib.Core.Path.{◌≡◌}
use Prim.Native.Nat.{◌-◌}
use Rattle.parts.specs.Parts.{by_parts, Divides}
use Rattle.parts.proofs.by_linked.Given as goal

abbrev pub invariant-loop-left : goal.invariant-loop-left
invariant-loop-left l = Divides l.parts l.t l.left × (by_parts l.parts l.left l.t (l.t - 1) l.r ≡ by_parts l.parts l.linked l.t (l.t - 1) l.e)

abbrev pub decreases-loop-left : goal.decreases-loop-left
decreases-loop-left l = l.left

use Rattle.std.proofs.Common.{◌≡◌, ◌≤◌, length}
use Rattle.plan.specs.declared.TheConstants.{ROOM}
use Rattle.plan.proofs.main.Given as goal

-- what was read stands within the room
abbrev pub invariant-loop : goal.invariant-loop
invariant-loop l = (length l.query ≡ ROOM) × (l.length ≤ ROOM)

use Rattle.std.proofs.Common.{◌≡◌, ◌≤◌, length}
use Rattle.cases.specs.declared.TheConstants.{ROOM}
use Rattle.cases.proofs.main.Given as goal

-- what was read stands within the room
abbrev pub invariant-loop : goal.invariant-loop
invariant-loop l = (length l.text ≡ ROOM) × (l.length ≤ ROOM)

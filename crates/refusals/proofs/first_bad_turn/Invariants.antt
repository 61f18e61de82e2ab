use Rattle.std.proofs.Common.{length}
use Rattle.rules.specs.Refusals.{bad_turn}
use Rattle.refusals.specs.CheckLaws.{Rest}
use Rattle.refusals.proofs.first_bad_turn.Given as goal

abbrev pub invariant-loop-i : goal.invariant-loop-i
invariant-loop-i l = Rest (bad_turn l.workers l.turns) (length l.turns) l.i

use Rattle.std.proofs.Common.{◌+◌, ◌-◌, length}
use Rattle.turns.specs.QueueLaws.{still_met}
use Rattle.turns.specs.Taken.{columns_of}
use Rattle.rounds.specs.Rounds.{query_by, Within, SameRows}
use Rattle.rounds.proofs.take_turns.Given as goal

abbrev pub invariant-loop-low : goal.invariant-loop-low
invariant-loop-low g l = Within (query_by l.setting l.scans) l.crew l.k l.workers (columns_of l.columns) × SameRows l.columns l.initial.columns

abbrev pub decreases-loop-low : goal.decreases-loop-low
decreases-loop-low g l = length l.turns - l.used + still_met l.setting.footing.graph.now l.group l.crew.workers l.workers

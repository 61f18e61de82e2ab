use lib.ListN.{length}
use Rattle.reader.specs.Records.{lists_of, SameColumns}
use Rattle.reader.specs.LoopLaws.{Reads}
use Rattle.reader.proofs.reading.read.Given as goal

abbrev pub invariant-loop-rest : goal.invariant-loop-rest
invariant-loop-rest l = Reads l.text l.rest l.place l.progress (lists_of l.initial.columns) (lists_of l.columns) × SameColumns l.columns l.initial.columns

abbrev pub decreases-loop-rest : goal.decreases-loop-rest
decreases-loop-rest l = length l.rest

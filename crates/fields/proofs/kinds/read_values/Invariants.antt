use Rattle.fields.specs.ValueLaws.{Taken}
use Rattle.fields.proofs.kinds.read_values.Given as goal

abbrev pub invariant-loop-k : goal.invariant-loop-k
invariant-loop-k l = Taken l.line l.k l.cells

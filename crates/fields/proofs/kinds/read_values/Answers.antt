use Rattle.std.proofs.Common.{◌∙◌, ap}
use Rattle.rules.specs.Lines.{number_of}
use Rattle.fields.specs.ValueLaws.{taken-bad, taken_next, taken-all, taken-values}
use Rattle.fields.proofs.kinds.read_values.Goals as goal

pub returns-in_err-cells : goal.returns-in_err-cells
returns-in_err-cells c = rw c.from_residual.ensures (taken-bad c.loop-k.invariant _ c.requires.0 c.read_number.result c.loop-k-test.true (c.read_number.ensures ∙ ap number_of c.field_of.ensures) (c.in_err-cells.was))

pub loop-k-preserved : goal.loop-k-preserved
loop-k-preserved c = taken_next c.loop-k.invariant _ c.requires.0 c.read_number.result _ c.requires.1 c.loop-k-test.true (c.read_number.ensures ∙ ap number_of c.field_of.ensures) (c.in_ok-cells.was)

pub returns : goal.returns
returns c = (taken-all c.loop-k.invariant _ c.requires.0 c.loop-k-test.false, taken-values c.loop-k.invariant _ c.requires.0 c.loop-k-test.false c.loop-k.auto.k-end)

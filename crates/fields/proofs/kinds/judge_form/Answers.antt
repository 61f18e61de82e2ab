use Rattle.std.proofs.Common.{rules, tests, arith, refl, ◌≡◌, Some}
use Rattle.rules.specs.Reading.{line_number_as}
use Rattle.fields.specs.Recorded.{ReadAs}
use Rattle.fields.proofs.kinds.judge_form.Goals as goal

pub returns : goal.returns
unfolding line_number_as
returns c =
    let e : c.read_values.result ≡ Some c.in_ok-cells.cells = grind arith in
    let r : ReadAs c.args.line.now (Some c.in_ok-cells.cells) = rw e at c.read_values.ensures in
    (search (rules, tests), record { numbers = c.args.form.numbers; form = refl; cells_are = r.1 })

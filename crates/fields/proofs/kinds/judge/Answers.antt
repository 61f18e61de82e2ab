use Rattle.std.proofs.Common.{arith, ◌≡◌, Some}
use Rattle.fields.specs.KindLaws.{known-few}
use Rattle.fields.proofs.kinds.judge.Goals as goal

pub judge_form-requires : goal.judge_form-requires
judge_form-requires c =
    let e : c.form_of.result ≡ Some c.in_ok-form.form = grind arith in
    (c.requires, known-few c.field_of.result.now _ _ c.form_of.ensures e)

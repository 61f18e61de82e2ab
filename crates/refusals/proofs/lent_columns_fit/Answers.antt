use Rattle.std.proofs.Common.{◌∷◌, [], ◌∙◌}
use Rattle.refusals.specs.CheckLaws.{same-on, same_not, same-last}
use Rattle.refusals.proofs.lent_columns_fit.Goals as goal

pub returns-then-alike : goal.returns-then-alike
returns-then-alike c =
    let l = c.args.lent.now in
    same-on l.memo (l.log ∷ []) c.alike.ensures c.if-alike.true (same-last l.log c.alike-then-alike.ensures)

pub returns-else-alike : goal.returns-else-alike
returns-else-alike c =
    let l = c.args.lent.now in
    same_not l.memo (l.log ∷ []) c.alike.ensures c.if-alike.false

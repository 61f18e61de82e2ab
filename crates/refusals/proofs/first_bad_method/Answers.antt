use Rattle.std.proofs.Common.{rules}
use Rattle.rules.specs.Refusals.{bad_method}
use Rattle.refusals.specs.CheckLaws.{method-number}
use Rattle.refusals.proofs.first_bad_method.Goals as goal

pub returns : goal.returns
returns c =
    let a = c.args in
    c.first_bad.ensures (bad_method a.fixed.now a.outer.now a.inner.now a.res.now) (λ i r l h. search (rules, method-number))

use Rattle.std.proofs.Common.{ap, not, length}
use Rattle.rules.specs.Limits.{methods_fit}
use Rattle.rules.specs.Refusals.{bad_method}
use Rattle.rules.specs.Verdict.{verdict_of}
use Rattle.refusals.specs.CheckLaws.{count-refused, count_fits}
use Rattle.refusals.proofs.check_methods.Goals as goal

pub returns-then-not-count_fits : goal.returns-then-not-count_fits
returns-then-not-count_fits c =
    let q = c.args.query.now in
    let n = length q.fixed.now in
    rw c.at.ensures (count-refused 3 (methods_fit n) (bad_method q.fixed.now q.per_outer.now q.per_inner.now q.per_result.now) n c.count_fits.result c.count_fits.ensures (ap not c.if-not-count_fits.true))

pub returns : goal.returns
returns c =
    let q = c.args.query.now in
    let n = length q.fixed.now in
    count_fits 3 (methods_fit n) (bad_method q.fixed.now q.per_outer.now q.per_inner.now q.per_result.now) n c.count_fits.result c.count_fits.ensures (ap not c.if-not-count_fits.false) (verdict_of c.first_bad_method.result) c.first_bad_method.ensures

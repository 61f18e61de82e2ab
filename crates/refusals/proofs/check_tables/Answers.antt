use Rattle.std.proofs.Common.{ap, not, length}
use Rattle.rules.specs.Limits.{tables_fit}
use Rattle.rules.specs.Refusals.{bad_table}
use Rattle.rules.specs.Verdict.{verdict_of}
use Rattle.refusals.specs.CheckLaws.{count-refused, count_fits}
use Rattle.refusals.proofs.check_tables.Goals as goal

pub returns-then-not-count_fits : goal.returns-then-not-count_fits
returns-then-not-count_fits c =
    let q = c.args.query.now in
    let n = length q.rows.now in
    rw c.at.ensures (count-refused 1 (tables_fit n) (bad_table q.rows.now q.scans.now) n c.count_fits.result c.count_fits.ensures (ap not c.if-not-count_fits.true))

pub returns : goal.returns
returns c =
    let q = c.args.query.now in
    let n = length q.rows.now in
    count_fits 1 (tables_fit n) (bad_table q.rows.now q.scans.now) n c.count_fits.result c.count_fits.ensures (ap not c.if-not-count_fits.false) (verdict_of c.first_bad_table.result) c.first_bad_table.ensures

use Rattle.shares.specs.ShareLaws.{in-cut-yes, in-cut-no}
use Rattle.shares.proofs.in_cut.Goals as goal

pub returns-then-cut-row : goal.returns-then-cut-row
returns-then-cut-row c =
    let a = c.args in
    in-cut-yes a.rows a.workers a.worker a.row c.cut.ensures c.cut-then-cut-row.ensures c.if-cut-row.true

pub returns-else-cut-row : goal.returns-else-cut-row
returns-else-cut-row c =
    let a = c.args in
    in-cut-no a.rows a.workers a.worker a.row c.cut.ensures c.if-cut-row.false

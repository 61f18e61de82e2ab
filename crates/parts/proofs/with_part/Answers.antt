use Rattle.parts.specs.PartLaws.{cut-is, uncut-is}
use Rattle.parts.proofs.with_part.Goals as goal

pub returns-then-r-gt-MAX_ESTIMATE : goal.returns-then-r-gt-MAX_ESTIMATE
returns-then-r-gt-MAX_ESTIMATE c =
    cut-is c.args.parts.now c.args.t c.args.linked c.args.e c.cell.result c.cell.ensures c.by_linked-r.ensures c.if-r-gt-MAX_ESTIMATE.true

pub returns : goal.returns
returns c =
    uncut-is c.args.parts.now c.args.t c.args.linked c.args.e c.cell.result c.cell.ensures c.by_linked-r.ensures c.if-r-gt-MAX_ESTIMATE.false

use Rattle.std.proofs.Common.{refl}
use Rattle.memo.specs.Layout.{held}
use Rattle.memo.specs.LayoutLaws.{too-few-rows}
use Rattle.memo.proofs.layout.lay_out.Goals as goal

pub returns-then-lent-rows-clause-laid : goal.returns-then-lent-rows-clause-laid
returns-then-lent-rows-clause-laid c =
    rw c.at.ensures (too-few-rows c.args.tally.now.graph.now (held c.args.lent.now) c.rows-rows.ensures c.if-lent-rows.true refl)

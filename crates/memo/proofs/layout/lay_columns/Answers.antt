use Rattle.std.proofs.Common.{refl}
use native.Mathlib.Omega.{arith}
use Rattle.rules.specs.Rows.{memo}
use Rattle.memo.specs.LayoutLaws.{front, zeros-laid, lent_same}
use Rattle.memo.proofs.layout.lay_columns.Goals as goal

pub lay_skips-requires-clause-sets : goal.lay_skips-requires-clause-sets
lay_skips-requires-clause-sets c =
    front (memo c.args.tally.now.graph.now) c.args.lent.now.sets.now c.requires.room.rows refl c.lay_rows.ensures.out

pub returns-clause-laid : goal.returns-clause-laid
returns-clause-laid c =
    let g = c.args.tally.now.graph.now in
    let old = c.args.lent.now in
    lent_same c.lay_rows.ensures.out c.lay_rows.ensures.estimates (zeros-laid g old.costs.now c.requires.count (omega arith) (c.fill.ensures.after (λ y e. e))) (zeros-laid g old.outers.now c.requires.count (omega arith) (c.fill-2.ensures.after (λ y e. e))) (zeros-laid g old.methods.now c.requires.count (omega arith) (c.fill-3.ensures.after (λ y e. e))) c.lay_skips.ensures

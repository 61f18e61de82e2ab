use native.Mathlib.Omega.{arith}
use Rattle.pairs.specs.LeafLaws.{overlap-held, onward-next, hop-ahead, onward-hop}
use Rattle.pairs.proofs.find.onward.Goals as goal

pub returns-then-both-eq0 : goal.returns-then-both-eq0
returns-then-both-eq0 c =
    let a = c.args in
    onward-next a.rows.now.sets.now a.x a.inner a.step c.requires.stride.0 c.requires.row_cells.early

pub hop-requires : goal.hop-requires
hop-requires c = record { row_cells = c.requires.row_cells; shared = overlap-held c.args.x _ c.if-both-eq0.false }

pub aligned-requires : goal.aligned-requires
aligned-requires c =
    let b = hop-ahead c.args.x c.requires.row_cells.below c.if-both-eq0.false c.hop.ensures in
    (b.0, b.1, omega arith, omega arith)

pub returns : goal.returns
returns c =
    onward-hop c.args.x c.requires.row_cells.below c.if-both-eq0.false c.hop.ensures c.aligned.ensures

use native.Mathlib.Omega.{arith}
use Rattle.rules.specs.laws.Sets.{holds-lt}
use Rattle.pairs.specs.LeafLaws.{held_below, cell-inside, cell-hops, for-lowest}
use Rattle.pairs.proofs.find.hop.Goals as goal

pub lowest_table-t-requires : goal.lowest_table-t-requires
lowest_table-t-requires c =
    let s = c.requires in
    (s.shared.0, held_below s.row_cells s.shared.1)

pub rank_of-rank-requires : goal.rank_of-rank-requires
rank_of-rank-requires c =
    let s = c.requires in
    holds-lt 32 _ _ s.row_cells.below (s.shared.1 _ c.lowest_table-t.ensures.stands)

pub overflow_add-next-2 : goal.overflow_add-next-2
overflow_add-next-2 c = omega (arith, cell-inside c.requires.row_cells _ (c.requires.shared.1 _ c.lowest_table-t.ensures.stands) c.rank_of-rank.ensures)

pub offset_bounds-rows-rows : goal.offset_bounds-rows-rows
offset_bounds-rows-rows c = omega (arith, cell-inside c.requires.row_cells _ (c.requires.shared.1 _ c.lowest_table-t.ensures.stands) c.rank_of-rank.ensures)

pub bounds-rows-rows : goal.bounds-rows-rows
bounds-rows-rows c =
    cell-inside c.requires.row_cells _ (c.requires.shared.1 _ c.lowest_table-t.ensures.stands) c.rank_of-rank.ensures

pub overflow_add-result : goal.overflow_add-result
overflow_add-result c =
    let h = cell-hops c.requires.row_cells _ (c.requires.shared.1 _ c.lowest_table-t.ensures.stands) c.rank_of-rank.ensures in
    omega (arith, h.inside)

pub overflow_sub-result : goal.overflow_sub-result
overflow_sub-result c =
    let h = cell-hops c.requires.row_cells _ (c.requires.shared.1 _ c.lowest_table-t.ensures.stands) c.rank_of-rank.ensures in
    omega (arith, h.after)

pub returns : goal.returns
returns c =
    for-lowest c.lowest_table-t.ensures (cell-hops c.requires.row_cells _ (c.requires.shared.1 _ c.lowest_table-t.ensures.stands) c.rank_of-rank.ensures)

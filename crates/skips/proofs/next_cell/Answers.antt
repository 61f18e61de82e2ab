use native.Mathlib.Omega.{arith}
use Rattle.skips.specs.VectorLaws.{rank-inside}
use Rattle.skips.proofs.next_cell.Goals as goal

pub bounds-cells-at : goal.bounds-cells-at
bounds-cells-at c =
    omega (arith, rank-inside _ _ c.has_table.ensures c.if-has_table.true c.rank_of.ensures)

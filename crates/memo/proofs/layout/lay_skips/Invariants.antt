use mathlib.Core.Path.{◌≡◌}
use lib.ListN.{length}
use Rattle.rows.specs.Sizes.{up_to}
use Rattle.skips.specs.Vectors.{written}
use Rattle.starts.specs.Starts.{cells_to}
use Rattle.memo.proofs.layout.lay_skips.Given as goal

abbrev pub invariant-loop-k : goal.invariant-loop-k
invariant-loop-k l =
    let g = l.tally.graph.now in
    (length l.out ≡ length l.initial.out) × (l.from ≡ length (up_to g l.k))
    × (l.at ≡ length (cells_to g l.k)) × (l.out ≡ written l.initial.out 0 (cells_to g l.k))

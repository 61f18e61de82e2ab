use mathlib.Core.Path.{◌≡◌}
use Prim.Native.Nat.{◌*◌, ◌≤◌}
use lib.ListN.{length}
use Rattle.rows.specs.Sizes.{up_to}
use Rattle.skips.specs.Vectors.{written}
use Rattle.starts.specs.Starts.{cells_to, counts_to}
use Rattle.starts.proofs.lay_starts.Given as goal

abbrev pub invariant-loop-k : goal.invariant-loop-k
invariant-loop-k l =
    let g = l.tally.graph.now in
    (length l.firsts ≡ length l.initial.firsts) × (length l.cells ≡ length l.initial.cells)
    × (l.row ≤ l.k * 65536) × (l.cell ≤ l.k * 1048576)
    × (l.row ≡ length (up_to g l.k)) × (l.cell ≡ length (cells_to g l.k))
    × (l.firsts ≡ written l.initial.firsts 1 (counts_to (λ j. length (up_to g j)) l.k))
    × (l.cells ≡ written l.initial.cells 1 (counts_to (λ j. length (cells_to g j)) l.k))

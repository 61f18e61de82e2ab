use mathlib.Core.Path.{◌≡◌}
use lib.ListN.{length, take}
use Rattle.skips.specs.Vectors.{written}
use Rattle.turns.proofs.scans.lay_scans.Given as goal

abbrev pub invariant-loop-i : goal.invariant-loop-i
invariant-loop-i l = (length l.costs ≡ length l.initial.costs) × (l.costs ≡ written l.initial.costs 0 (take l.i l.scans))

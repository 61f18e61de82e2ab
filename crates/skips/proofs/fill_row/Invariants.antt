use mathlib.Core.Path.{◌≡◌}
use mathlib.Core.List.{map}
use Prim.Native.Nat.{ℕ, ◌+◌, ◌^◌, ◌≤◌, ◌<◌}
use lib.ListN.{length, get_or}
use Rattle.rules.specs.Sets.{size, tables}
use Rattle.skips.specs.Vectors.{written, value_of}
use Rattle.skips.proofs.fill_row.Given as goal

abbrev pub invariant-loop-left : goal.invariant-loop-left
invariant-loop-left l =
    (l.left < 2 ^ 32) × (l.i + size l.left ≡ l.behind) × (length l.out ≡ length l.initial.out) × ((j : ℕ) → l.behind ≤ j → get_or l.out j 0 ≡ get_or l.initial.out j 0)
    × (written l.out l.i (map (value_of l.next l.number l.initial.out l.behind) (tables 32 l.left)) ≡ written l.initial.out l.at (map (value_of l.next l.number l.initial.out (l.at + size l.set)) (tables 32 l.set)))

abbrev pub decreases-loop-left : goal.decreases-loop-left
decreases-loop-left l = l.left

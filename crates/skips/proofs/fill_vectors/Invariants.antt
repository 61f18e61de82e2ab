use mathlib.Core.Path.{◌≡◌}
use Prim.Native.Nat.{◌+◌, ◌-◌, ◌*◌, ◌≤◌}
use lib.ListN.{length, get_or}
use lib.Seq.{slice}
use Rattle.rules.specs.Skips.{vectors_from}
use Rattle.skips.specs.Vectors.{written}
use Rattle.skips.proofs.fill_vectors.Given as goal

abbrev pub invariant-loop-i : goal.invariant-loop-i
invariant-loop-i l =
    (l.i ≤ l.to - l.from) × (l.next ≡ get_or (slice (l.from + l.i) l.to l.sets) 0 0) × (length l.out ≡ length l.initial.out)
    × (l.out ≡ written l.initial.out (l.at + l.i * l.k) (vectors_from 32 (l.i + 1) (slice (l.from + l.i) l.to l.sets)))

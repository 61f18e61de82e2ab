use mathlib.Core.Path.{◌≡◌}
use Prim.Native.Nat.{◌-◌, ◌*◌, ◌≤◌}
use Rattle.pairs.specs.Places.{count_to}
use Rattle.pairs.proofs.find.count_candidates.Given as goal

abbrev pub invariant-loop-d : goal.invariant-loop-d
invariant-loop-d l = (l.count ≤ (l.d - 1) * 4294967296) × (l.count ≡ count_to l.starts l.group (l.d - 1))

use Prim.Native.Nat.{◌+◌, ◌-◌, ◌≤◌}
use Rattle.rules.specs.Writing.{set_text}
use Rattle.digits.specs.Put.{Put}
use Rattle.digits.proofs.Line.put_set.Given as goal

abbrev pub invariant-loop-t : goal.invariant-loop-t
invariant-loop-t l = (l.t ≤ l.n + 1) × Put l.initial.self l.self (set_text (l.t - 1) l.set)

use mathlib.Core.Path.{sym, ap}
use Prim.Native.Nat.{ℕ}
use native.Mathlib.Omega.{arith}
use lib.Dec.{eqb}
use Rattle.sets.specs.Laws.{holds-digit}
use Rattle.sets.proofs.has_table.Goals as goal

pub returns : goal.returns
returns c = ap (λ (x : ℕ). eqb x 1) (sym (holds-digit c.args.s c.args.t (omega arith)))

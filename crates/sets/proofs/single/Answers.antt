use Prim.Native.Nat.{◌-◌}
use native.Mathlib.Omega.{arith}
use Rattle.sets.specs.Laws.{shifted_one}
use Rattle.sets.proofs.single.Goals as goal

pub returns : goal.returns
returns c = shifted_one (c.args.t - 1) (omega arith)

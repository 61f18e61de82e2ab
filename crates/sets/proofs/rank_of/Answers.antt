use mathlib.Core.Path.{ap, ◌∙◌}
use Prim.Native.Nat.{ℕ, ◌-◌, ◌%◌}
use native.Mathlib.Omega.{arith}
use lib.Pow.{pow_pos}
use Rattle.rules.specs.Sets.{size}
use Rattle.sets.proofs.rank_of.Goals as goal

pub nonzero_rem-s : goal.nonzero_rem-s
nonzero_rem-s c = omega (arith, c.single.ensures, pow_pos (c.args.t - 1))

pub returns : goal.returns
returns c = c.size.ensures ∙ ap (λ (x : ℕ). size (c.args.s % x)) c.single.ensures

use mathlib.Core.Path.{◌≡◌, refl, ap, ◌∙◌}
use Prim.Native.Nat.{ℕ}
use native.Mathlib.Omega.{arith}
use lib.ListN.{length, length-set}
use Rattle.rules.specs.laws.Copies.{copied, copied_none, copied_more, copied_all}
use Rattle.text.proofs.copy.Goals as goal

pub loop-i-init : goal.loop-i-init
loop-i-init c = (refl, copied_none c.args.from.now c.args.to.now)

pub loop-i-preserved : goal.loop-i-preserved
loop-i-preserved c =
    let l = c.loop-i in
    (length-set l.to l.i _ ∙ l.invariant.0, copied_more c.args.from.now c.args.to.now l.i (omega arith) c.requires l.invariant.1)

pub returns : goal.returns
returns c =
    let l = c.loop-i in
    let s = c.args in
    let e : l.i ≡ length s.from.now = omega arith in
    l.invariant.1 ∙ ap (λ (k : ℕ). copied s.from.now k s.to.now) e ∙ copied_all s.from.now s.to.now

use mathlib.Core.Path.{◌≡◌, refl, ap, ◌∙◌}
use Prim.Native.Nat.{ℕ}
use native.Mathlib.Omega.{arith}
use lib.ListN.{length, length-set, take}
use lib.Seq.{take-length}
use Rattle.skips.specs.Vectors.{written}
use Rattle.turns.specs.StartLaws.{copied_more}
use Rattle.turns.proofs.scans.lay_scans.Goals as goal

pub loop-i-init : goal.loop-i-init
loop-i-init c = (refl, refl)

pub loop-i-preserved : goal.loop-i-preserved
loop-i-preserved c =
    let l = c.loop-i in
    (length-set l.costs l.i _ ∙ l.invariant.0, copied_more c.args.scans.now c.args.costs.now l.i (omega arith) l.invariant.1)

pub returns : goal.returns
returns c =
    let l = c.loop-i in
    let e : l.i ≡ length c.args.scans.now = omega arith in
    l.invariant.1 ∙ ap (λ (k : ℕ). written c.args.costs.now 0 (take k c.args.scans.now)) e ∙ ap (written c.args.costs.now 0) (take-length c.args.scans.now)

use mathlib.Core.Path.{refl, sym}
use Prim.Native.Nat.{◌-◌}
use native.Mathlib.Omega.{arith}
use Rattle.skips.specs.VectorLaws.{behind-some, behind-last, vectors-none, vectors-more}
use Rattle.skips.proofs.fill_vectors.Goals as goal

pub loop-i-init : goal.loop-i-init
loop-i-init c =
    let a = c.args in (
      omega arith,
      behind-last a.sets.now a.from a.to a.k c.requires.0,
      refl,
      vectors-none a.sets.now a.from a.to a.k c.requires.0 a.out.now a.at,
    )

pub loop-i-preserved : goal.loop-i-preserved
loop-i-preserved c =
    let a = c.args in
    let r = vectors-more a.sets.now a.from a.to a.k c.requires.0 a.at c.loop-i.i (c.loop-i.i - 1) (omega arith) c.loop-i.invariant.0 a.out.now c.loop-i.invariant.1 refl c.requires.1 c.loop-i.invariant.3 c.fill_row.ensures in
    (omega arith, sym (behind-some a.sets.now a.from a.to a.k c.requires.0 (c.loop-i.i - 1) (omega arith)), r.0, r.1)

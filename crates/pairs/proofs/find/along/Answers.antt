use native.Mathlib.Omega.{arith}
use Rattle.pairs.specs.LeafLaws.{walked_none, walked_on, walked-found, walked_all}
use Rattle.pairs.proofs.find.along.Goals as goal

pub loop-inner-init : goal.loop-inner-init
loop-inner-init c = walked_none _ _ _ _

pub onward-inner-requires : goal.onward-inner-requires
onward-inner-requires c =
    let z = c.requires in
    record { row_cells = z.rows _ c.loop-inner.invariant.from c.loop-inner-test.true; stride = (z.some-step, z.few-step) }

pub loop-inner-smaller : goal.loop-inner-smaller
loop-inner-smaller c = omega (arith, c.onward-inner.ensures.after)

pub loop-inner-preserved : goal.loop-inner-preserved
loop-inner-preserved c =
    walked_on _ _ _ _ c.loop-inner.invariant c.joinable.ensures c.if-joinable.false c.onward-inner.ensures

pub returns-after-loop-inner : goal.returns-after-loop-inner
returns-after-loop-inner c = walked_all _ _ _ _ c.loop-inner.invariant c.loop-inner-test.false

pub returns-then-joinable : goal.returns-then-joinable
returns-then-joinable c =
    walked-found _ _ _ _ c.loop-inner.invariant c.loop-inner-test.true c.joinable.ensures c.if-joinable.true

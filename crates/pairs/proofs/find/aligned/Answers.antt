use Prim.Native.Nat.{◌+◌, ◌-◌}
use native.Mathlib.Nat.{div-mul-le_self}
use native.Mathlib.Omega.{arith}
use Rattle.pairs.specs.SpanLaws.{aligned-one, aligned_next, aligned-far}
use Rattle.pairs.proofs.find.aligned.Goals as goal

pub returns-then-step-eq1 : goal.returns-then-step-eq1
returns-then-step-eq1 c = aligned-one _ _ _ c.if-step-eq1.true

pub returns-then-to-inner : goal.returns-then-to-inner
returns-then-to-inner c = aligned_next _ _ _ c.requires.0 c.if-to-inner.true

pub overflow_mul-result : goal.overflow_mul-result
overflow_mul-result c =
    let a = c.args in
    omega (arith, div-mul-le_self (a.to - a.inner + a.step - 1) a.step)

pub overflow_add-result-3 : goal.overflow_add-result-3
overflow_add-result-3 c =
    let a = c.args in
    omega (arith, div-mul-le_self (a.to - a.inner + a.step - 1) a.step)

pub returns : goal.returns
returns c =
    aligned-far c.args.inner c.args.to c.args.step c.requires.0 c.requires.2

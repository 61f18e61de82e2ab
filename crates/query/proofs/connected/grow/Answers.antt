use mathlib.Core.Path.{◌≡◌, sym, ap, ◌∙◌}
use mathlib.Core.Bool.{true, false, ◌&&◌}
use Prim.Native.Nat.{ℕ, ◌+◌, ◌-◌}
use native.Mathlib.Omega.{arith}
use Rattle.rules.specs.Sets.{has}
use Rattle.rules.specs.laws.Bools.{and_true_r}
use Rattle.query.specs.ConnectedLaws.{joined-le, grow-right, grow-left, grow-not}
use Rattle.query.proofs.connected.grow.Goals as goal
use Rattle.query.proofs.connected.grow.Goals.{Else-both_stand, Else-both_stand-2, Then-both_stand, Then-both_stand-2}

-- what the tests told
on-right : (c : Then-both_stand) → let a = c.args in (has a.part a.a && has (a.s - a.part) a.b) ≡ true
on-right c = sym c.both_stand.ensures ∙ c.if-both_stand.true

not_right : (c : Else-both_stand) → let a = c.args in (has a.part a.a && has (a.s - a.part) a.b) ≡ false
not_right c = sym c.both_stand.ensures ∙ c.if-both_stand.false

on-left : (c : Then-both_stand-2) → let a = c.args in (has a.part a.b && has (a.s - a.part) a.a) ≡ true
on-left c = sym c.both_stand-2.ensures ∙ c.if-both_stand-2.true

not_left : (c : Else-both_stand-2) → let a = c.args in (has a.part a.b && has (a.s - a.part) a.a) ≡ false
not_left c = sym c.both_stand-2.ensures ∙ c.if-both_stand-2.false

pub overflow_add-result : goal.overflow_add-result
overflow_add-result c =
    let a = c.args in
    omega (arith, c.single.ensures, c.ranges.s, joined-le a.s a.part a.b c.requires.4 (and_true_r (has a.part a.a) _ (on-right c.before)))

pub returns-then-both_stand : goal.returns-then-both_stand
returns-then-both_stand c =
    let a = c.args in
    ap (λ (n : ℕ). a.part + n) c.single.ensures ∙ sym (grow-right a.s a.part a.a a.b (on-right c.before))

pub overflow_add-result-then-both_stand-2 : goal.overflow_add-result-then-both_stand-2
overflow_add-result-then-both_stand-2 c =
    let a = c.args in
    omega (arith, c.single-then-both_stand-2.ensures, c.ranges.s, joined-le a.s a.part a.a c.requires.4 (and_true_r (has a.part a.b) _ (on-left c.before)))

pub returns-then-both_stand-2 : goal.returns-then-both_stand-2
returns-then-both_stand-2 c =
    let a = c.args in
    ap (λ (n : ℕ). a.part + n) c.single-then-both_stand-2.ensures ∙ sym (grow-left a.s a.part a.a a.b (not_right c.before.before.before) (on-left c.before))

pub returns : goal.returns
returns c =
    let a = c.args in
    sym (grow-not a.s a.part a.a a.b (not_right c.before.before) (not_left c))

use Rattle.std.proofs.Common.{sym, ◌∙◌}
use Rattle.fields.specs.NumberLaws.{digits-none, digits-next, digits-end, power-next}
use Rattle.fields.proofs.numbers.digits.Goals as goal

pub returns-then-not-is_ascii_digit : goal.returns-then-not-is_ascii_digit
returns-then-not-is_ascii_digit c = sym (c.loop-b.invariant.rest ∙ digits-none _ _ _ c.loop-b-test.true (sym c.is_ascii_digit.ensures.value ∙ c.if-not-is_ascii_digit.true))

pub loop-b-preserved : goal.loop-b-preserved
loop-b-preserved c =
    let d = sym c.is_ascii_digit.ensures.value ∙ c.if-not-is_ascii_digit.false in
    rw c.from.ensures (record { small = power-next _ _ _ c.loop-b.invariant.small d; rest = c.loop-b.invariant.rest ∙ digits-next _ _ _ c.loop-b-test.true d })

pub returns : goal.returns
returns c = sym (c.loop-b.invariant.rest ∙ digits-end _ _ _ c.loop-b-test.false)

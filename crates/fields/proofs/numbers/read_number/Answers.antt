use Rattle.std.proofs.Common.{rules, tests, sym, ◌∙◌, cond, Some, None, MatchOption, ◌≡◌, leb}
use Rattle.rules.specs.Limits.{max_number}
use Rattle.fields.specs.NumberLaws.{number-empty, number-long, number-led, number-kept}
use Rattle.fields.proofs.numbers.read_number.Goals as goal
use Rattle.fields.proofs.numbers.read_number.Goals.{then-is_empty-via-then-is_empty, then-is_empty-via-else-is_empty+then-s-gt-MAX_DIGITS, then-is_empty-via-else-is_empty+else-s-gt-MAX_DIGITS+then-zero_led}

pub returns-then-is_empty : goal.returns-then-is_empty
returns-then-is_empty c =
    let e = sym c.is_empty.ensures in
    elim c.then-is_empty.branch [
      | then-is_empty-via-then-is_empty w ↦ number-empty _ (e ∙ w.if-is_empty.true)
      | then-is_empty-via-else-is_empty+then-s-gt-MAX_DIGITS w ↦ number-long _ (e ∙ w.if-is_empty.false) w.if-s-gt-MAX_DIGITS.true
      | then-is_empty-via-else-is_empty+else-s-gt-MAX_DIGITS+then-zero_led w ↦ number-led _ (e ∙ w.if-is_empty.false) w.if-s-gt-MAX_DIGITS.false (sym w.zero_led.ensures ∙ w.if-zero_led.true)
    ]

pub returns : goal.returns
returns c =
    let m : MatchOption c.digits.result (c.filter.result ≡ None) (λ v. c.filter.result ≡ cond (leb v max_number) (Some v) None) = search (rules, tests) in
    number-kept _ (sym c.is_empty.ensures ∙ c.if-is_empty.false) c.if-s-gt-MAX_DIGITS.false (sym c.zero_led.ensures ∙ c.if-zero_led.false) c.digits.result _ c.digits.ensures m

-- Any two answers that the contract of `plan` allows are equal, with what they leave.
use Rattle.std.specs.Prelude.{◌≡◌, Result, Ok, Err}
use Rattle.std.proofs.Common.{sym, ap}
use Rattle.rules.specs.declared.refusal.Refusal.{Refusal}
use Rattle.rules.specs.Refusals.{Memory, Input}
use Rattle.rules.specs.Answers as rules
use Rattle.rules.specs.Answers.{Planned}
use Rattle.rules.proofs.laws.Answers.{planned-unique}
use Rattle.rules.proofs.laws.Told.{number-some, told-unique}
use Rattle.planner.specs.declared.Answer.{Answer}
use Rattle.planner.specs.Plans.{answer_of, outcome_of}

-- answers that the rules see as one are one
pub answer-unique : (a a' : Result Answer Refusal) → answer_of a ≡ answer_of a' → a ≡ a'
answer-unique (Ok a) (Ok a') e =
    ap Ok (λ t. record { best = ap (λ (x : rules.Answer). x.best) e t; rows = ap (λ (x : rules.Answer). x.rows) e t; cells = ap (λ (x : rules.Answer). x.cells) e t; pairs = ap (λ (x : rules.Answer). x.pairs) e t; counts = ap (λ (x : rules.Answer). x.counts) e t })
answer-unique (Ok a) (Err r') e = absurd (number-some r'.reason (sym (ap (λ (x : rules.Answer). x.refusal) e)))
answer-unique (Err r) (Ok a') e = absurd (number-some r.reason (ap (λ (x : rules.Answer). x.refusal) e))
answer-unique (Err r) (Err r') e = ap Err (told-unique (λ t. record { number = ap (λ (x : rules.Answer). x.refusal) e t; place = ap (λ (x : rules.Answer). x.place) e t }))

-- ONE ANSWER, and one memory after it, for each input
pub plan-unique : {i : Input} {a a' : Result Answer Refusal} {l l' : Memory} → Planned i (outcome_of a l) → Planned i (outcome_of a' l') → (a ≡ a') × (l ≡ l')
plan-unique {a = a} {a' = a'} p p' = let e = planned-unique p p' in (answer-unique a a' (ap (λ (o : rules.Outcome). o.answer) e), ap (λ (o : rules.Outcome). o.left) e)

-- Any two answers that the contracts of the checks allow are equal.
use Rattle.std.specs.Prelude.{◌≡◌, ℕ, Result, Ok, Some, IfOk}
use Rattle.std.proofs.Common.{sym, ◌∙◌}
use Rattle.std.proofs.lemmas.Option.{same_Some}
use Rattle.rules.specs.declared.Crew.{Crew}
use Rattle.rules.specs.declared.refusal.Reason.{Reason}
use Rattle.rules.specs.declared.refusal.Refusal.{Refusal}
use Rattle.rules.specs.Kinds.{new_crew}
use Rattle.rules.specs.Verdict.{Verdict, number_in, verdict_of}
use Rattle.rules.proofs.laws.Told.{number-in-unique, verdict-unique, answers-unique}

-- of one record: what is told of it decides
pub record-unique : {n : ℕ} {r r' : Result (Unit {0}) Reason} → number_in r ≡ n → number_in r' ≡ n → r ≡ r'
record-unique e e' = number-in-unique (e ∙ sym e')

-- of a list of records, or of more than one
pub list-unique : {v : Verdict} {r r' : Result (Unit {0}) Refusal} → verdict_of r ≡ v → verdict_of r' ≡ v → r ≡ r'
list-unique e e' = verdict-unique (e ∙ sym e')

-- of `check` and `check_crew`: the numbers have one crew
pub checked-unique : (workers scheme : ℕ) {v : Verdict} {r r' : Result Crew Refusal} → (verdict_of r ≡ v) × IfOk r (λ c. new_crew workers scheme ≡ Some c) → (verdict_of r' ≡ v) × IfOk r' (λ c. new_crew workers scheme ≡ Some c) → r ≡ r'
checked-unique workers scheme {r = r} {r' = r'} z z' = answers-unique r r' (z.0 ∙ sym z'.0) (λ c c' e e'. same_Some c c' (sym (named e z.1) ∙ named e' z'.1))
  where
    named : {q : Result Crew Refusal} {c : Crew} → q ≡ Ok c → IfOk q (λ x. new_crew workers scheme ≡ Some x) → new_crew workers scheme ≡ Some c
    named e h = rw e at h

-- Laws that no proof cites any more, since the check finds their goals: they hold as before.
use Rattle.std.specs.Prelude.{◌≡◌, ℕ, Result, Err, Some, None}
use Rattle.std.proofs.Common.{sym, ap, ◌∙◌}
use Rattle.std.proofs.lemmas.Option.{none-some}
use Rattle.rules.specs.declared.Crew.{Crew}
use Rattle.rules.specs.declared.refusal.Refusal.{Refusal}
use Rattle.rules.specs.Kinds.{new_crew}
use Rattle.rules.specs.Verdict.{told}
use Rattle.rules.specs.Refusals.{Input, first_of, checks}
use Rattle.rules.specs.Answers.{refusal}
use Rattle.rules.specs.laws.Refusals.{checked, crew-named}
use Rattle.planner.specs.declared.Answer.{Answer}
use Rattle.planner.specs.Plans.{answer_of}

-- numbers that have a crew are not refused one
pub no-crew : (workers scheme : ℕ) → new_crew workers scheme ≡ None → (c : Crew) × (new_crew workers scheme ≡ Some c) → ⊥
no-crew workers scheme e k = none-some k.0 (sym e ∙ k.1)

-- "All return the number, the place and zeros"
abbrev pub refused_with : Refusal → Result Answer Refusal
refused_with r = Err r

pub refused-answer : {a : Result Answer Refusal} (r : Refusal) → a ≡ refused_with r → answer_of a ≡ refusal (told r)
refused-answer r e = ap answer_of e

-- past the checks, the crew is one
pub crew-known : (i : Input) → (first_of (checks i)).number ≡ 0 → (c : Crew) × (new_crew i.workers i.scheme ≡ Some c)
crew-known i e = (_, crew-named (checked i e).crew)

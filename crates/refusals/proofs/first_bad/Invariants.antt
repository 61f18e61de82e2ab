use Rattle.std.proofs.Common.{◌≡◌, ℕ, Result, ◌<◌}
use Rattle.rules.specs.declared.refusal.Reason.{Reason}
use Rattle.rules.specs.Verdict.{number_in}
use Rattle.refusals.specs.CheckLaws.{Rest}
use Rattle.refusals.proofs.first_bad.Given as goal

abbrev pub invariant-loop-i : goal.invariant-loop-i
invariant-loop-i g l =
    (numbers : ℕ → ℕ) → ((i : ℕ) (r : Result (Unit {0}) Reason) → i < l.count → goal.F-post g l.test i r → number_in r ≡ numbers i) → Rest numbers l.count l.i

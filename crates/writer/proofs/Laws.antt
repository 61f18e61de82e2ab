-- Laws that no proof cites any more, since the check finds their goals: they hold as before.
use Rattle.std.specs.Prelude.{◌≡◌, refl, List, [], ◌∷◌, ℕ, ◌+◌, ◌≤◌, ◌<◌, length, get_or}
use Rattle.std.proofs.Common.{arith}
use Rattle.std.proofs.Math.Decide.{ℕ_discrete}
use Rattle.rules.specs.Verdict.{Verdict}
use Rattle.rules.specs.Writing.{digits_of, answer_line, plan_line, refusal_line}

-- ---- looking for a row
-- the row of S is the place, or behind it
pub record Ahead (sets : List ℕ) (S row : ℕ) : Type 0 where
  pub at : ℕ
  pub behind : row ≤ at
  pub inside : at < length sets
  pub holds : get_or sets at 0 ≡ S

pub ahead-start : (sets : List ℕ) (S : ℕ) → ((j : ℕ) × (j < length sets) × (get_or sets j 0 ≡ S)) → Ahead sets S 0
ahead-start sets S h = record { at = h.0; behind = omega arith; inside = h.1; holds = h.2 }

pub ahead-on : {sets : List ℕ} {S row : ℕ} → Ahead sets S row → (get_or sets row 0 ≡ S → ⊥) → Ahead sets S (row + 1)
ahead-on {sets} {S} {row} h z = record { at = h.at; behind = go (ℕ_discrete row h.at); inside = h.inside; holds = h.holds }
  where
    go : Dec (row ≡ h.at) → row + 1 ≤ h.at
    go (yes e) = absurd (z (rw e h.holds))
    go (no y) = omega (arith, h.behind)

-- ---- the lines' names
pub plan-is : (best pairs : ℕ) → answer_line 80 (digits_of best ∷ digits_of pairs ∷ []) ≡ plan_line best pairs
unfolding plan_line
plan-is best pairs = refl

pub refusal_is : (v : Verdict) → answer_line 88 (digits_of v.number ∷ digits_of v.place ∷ []) ≡ refusal_line v
unfolding refusal_line
refusal_is v = refl

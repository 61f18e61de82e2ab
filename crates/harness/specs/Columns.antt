-- What `plan_columns` and `lay_columns` promise: `Handed`, `Laying`.
use Rattle.std.specs.Prelude.{◌≡◌, List, [], ◌∷◌, ℕ, ◌≤◌, ◌<◌, length, Result}
use Rattle.rules.specs.Lists.{over}
use Rattle.rules.specs.Refusals.{Memory, Input, first_of, checks}
use Rattle.rules.specs.declared.refusal.Refusal.{Refusal}
use Rattle.rules.specs.Answers.{Planned}
use Rattle.rules.specs.Answers as rules
use Rattle.planner.specs.declared.Answer.{Answer}
use Rattle.query.specs.Lists.{query_of}
use Rattle.memo.specs.declared.layout.Laid.{Laid}
use Rattle.memo.specs.Layout.{Lent, lent_of, refusal_of, LaidOut}
use Rattle.planner.specs.Plans.{memory_of, input_of, answer_of, outcome_of}

-- the fourteen numbers of an answer: the counts are eight
abbrev pub numbers : rules.Answer → List ℕ
numbers a = a.refusal ∷ a.place ∷ a.best ∷ a.rows ∷ a.cells ∷ a.pairs ∷ a.counts

abbrev pub numbers_of : Result Answer Refusal → List ℕ
numbers_of a = numbers (answer_of a)

-- planning has answered, and its numbers stand in the first cells
pub record Shown (i : Input) (before : List ℕ) (left : Memory) (after : List ℕ) (r : ℕ) : Type 0 where
  pub result : r ≡ 14
  pub answer : Result Answer Refusal
  pub planned : Planned i (outcome_of answer left)
  pub shown : after ≡ over (numbers_of answer) before

-- nothing was done
pub record Untouched (i : Input) (before : List ℕ) (left : Memory) (after : List ℕ) (r : ℕ) : Type 0 where
  pub result : r ≡ 0
  pub lent : left ≡ i.lent
  pub answer : after ≡ before

-- 14, or 0 where there are fewer cells than numbers: "before" and "after" are the cells for the answer
pub record Handed (i : Input) (before : List ℕ) (left : Memory) (after : List ℕ) (r : ℕ) : Type 0 where
  pub enough : 14 ≤ length before → Shown i before left after r
  pub short : length before < 14 → Untouched i before left after r

-- the query that is laid out: its scan costs are the rows, and its one method costs nothing
abbrev pub lay_input : (rows left right divisors sets estimates costs outers methods skips : List ℕ) → Input
lay_input rows left right divisors sets estimates costs outers methods skips =
    input_of (query_of rows rows left right divisors (0 ∷ []) (0 ∷ []) (0 ∷ []) (0 ∷ [])) 1 1 [] (memory_of sets estimates costs outers methods skips [] [] [] [])

-- refused by a check with nothing changed, or what laying out promises
pub record Laying (i : Input) (new : Lent) (r : ℕ) : Type 0 where
  pub refused : ((first_of (checks i)).number ≡ 0 → ⊥) → (r ≡ (first_of (checks i)).number) × (new ≡ lent_of i.lent)
  pub laid : (first_of (checks i)).number ≡ 0 → (l : Result Laid Refusal) × LaidOut i.query.graph (lent_of i.lent) new l × (r ≡ refusal_of l)

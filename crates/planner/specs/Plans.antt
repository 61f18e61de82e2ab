-- What `plan` takes and gives, as the rules see it.
use Rattle.std.specs.Prelude.{◌≡◌, List, ℕ, Result, Ok, Err, Some}
use Rattle.rules.specs.declared.refusal.Refusal.{Refusal}
use Rattle.rules.specs.Verdict.{told}
use Rattle.rules.specs.declared.Crew.{Crew}
use Rattle.rules.specs.Kinds.{new_crew}
use Rattle.rules.specs.Query.{Graph, Query}
use Rattle.rules.specs.Refusals.{Memory, Input, first_of, checks}
use Rattle.memo.specs.Layout.{Lent}
use Rattle.results.specs.declared.price.Rates.{Rates}
use Rattle.runs.specs.Views.{query_by}
use Rattle.rules.specs.Answers as rules
use Rattle.planner.specs.declared.Answer.{Answer}

-- the ten lent columns
abbrev pub memory_of : List ℕ → List ℕ → List ℕ → List ℕ → List ℕ → List ℕ → List ℕ → List ℕ → List ℕ → List ℕ → Memory
memory_of sets estimates costs outers methods skips log_workers log_driving log_inner log_costs = record {
  sets = sets;
  estimates = estimates;
  costs = costs;
  outers = outers;
  methods = methods;
  skips = skips;
  log_workers = log_workers;
  log_driving = log_driving;
  log_inner = log_inner;
  log_costs = log_costs;
}

abbrev pub input_of : Query → ℕ → ℕ → List ℕ → Memory → Input
input_of q workers scheme turns lent = record { query = q; workers = workers; scheme = scheme; turns = turns; lent = lent }

-- the code's answer; "All return the number, the place and zeros" of a refusal
abbrev pub answer_of : Result Answer Refusal → rules.Answer
answer_of (Ok a) = record { refusal = 0; place = 0; best = a.best; rows = a.rows; cells = a.cells; pairs = a.pairs; counts = a.counts }
answer_of (Err r) = rules.refusal (told r)

abbrev pub outcome_of : Result Answer Refusal → Memory → rules.Outcome
outcome_of a left = record { answer = answer_of a; left = left }

-- ---- between the checks and the answer
-- lent memory by its two parts
abbrev pub memory_in : Lent → Memory → Memory
memory_in m log = memory_of m.sets m.estimates m.costs m.outers m.methods m.skips log.log_workers log.log_driving log.log_inner log.log_costs

-- an input by what the code holds of it
abbrev pub input_by : Graph → List ℕ → Rates → ℕ → ℕ → List ℕ → Lent → Memory → Input
input_by g scans rates workers scheme turns m log = input_of (query_by g scans rates) workers scheme turns (memory_in m log)

-- it has passed checks 1 to 12, and has this crew
pub record Passed (i : Input) (crew : Crew) : Type 0 where
  pub checks : (first_of (checks i)).number ≡ 0
  pub named : new_crew i.workers i.scheme ≡ Some crew

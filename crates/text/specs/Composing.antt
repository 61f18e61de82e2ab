-- What stands between a text and the lent buffer: an answer's bytes at the start of a buffer of the entry's own.
use Rattle.std.specs.Prelude.{◌≡◌, List, ℕ, ◌≤◌, length, Result}
use Rattle.rules.specs.declared.refusal.Refusal.{Refusal}
use Rattle.rules.specs.Verdict.{Verdict}
use Rattle.rules.specs.Limits.{text_rows, answer_room}
use Rattle.rules.specs.Query.{table_count}
use Rattle.rules.specs.Refusals.{Input}
use Rattle.rules.specs.Answers.{Planned}
use Rattle.rules.specs.Text.{blanks, Lined}
use Rattle.planner.specs.declared.Answer.{Answer}
use Rattle.planner.specs.Plans.{memory_of, outcome_of}
use Rattle.digits.specs.declared.Line.{Line}
use Rattle.digits.specs.Put.{Put}
use Rattle.writer.specs.declared.joins.Memo.{Memo}

-- planning has answered an input, in a memo whose rows were blank
pub record Answered (i : Input) (a : Result Answer Refusal) (m : Memo) : Type 0 where
  pub tables : m.tables ≡ table_count i.query.graph
  pub blank : i.lent.sets ≡ blanks text_rows
  pub skips : List ℕ
  pub log_workers : List ℕ
  pub log_driving : List ℕ
  pub log_inner : List ℕ
  pub log_costs : List ℕ
  pub planned : Planned i (outcome_of a (memory_of m.sets.now m.estimates.now m.costs.now m.outers.now m.methods.now skips log_workers log_driving log_inner log_costs))

-- the lines of an answer are put
pub record Composed (v : Verdict) (i : Input) (before after : Line) : Type 0 where
  pub bytes : List ℕ
  pub lined : Lined v i bytes
  pub put : Put before after bytes
  pub short : length bytes ≤ answer_room

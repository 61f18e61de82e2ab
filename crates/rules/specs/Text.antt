-- What the text entry promises: `Written`, the one relation between a text, a lent buffer and what is returned.
use Rattle.std.specs.Prelude.{◌≡◌, List, [], ◌∷◌, ◌++◌, ℕ, ◌≤◌, ◌<◌, length, replicate}
use Rattle.rules.specs.Verdict.{Verdict}
use Rattle.rules.specs.Limits.{text_rows, text_cells, answer_room}
use Rattle.rules.specs.Lists.{over}
use Rattle.rules.specs.Sets.{full}
use Rattle.rules.specs.Query.{Query, table_count}
use Rattle.rules.specs.Trees.{Tree, tables_of, cost_of, Picked}
use Rattle.rules.specs.Shares.{Numbered}
use Rattle.rules.specs.Turns.{Hand}
use Rattle.rules.specs.Refusals.{Memory, Input, first_of, verdict}
use Rattle.rules.specs.Answers.{InTurn}
use Rattle.rules.specs.Reading.{Read, reading}
use Rattle.rules.specs.Writing.{plan_line, join_lines, refusal_line}

-- n cells
abbrev pub blanks : ℕ → List ℕ
blanks n = replicate n 0

-- "The text entry plans in 1,023 rows and 5,120 cells of its own", with no log
abbrev pub own_memory : Memory
own_memory = record {
  sets = blanks text_rows;
  estimates = blanks text_rows;
  costs = blanks text_rows;
  outers = blanks text_rows;
  methods = blanks text_rows;
  skips = blanks text_cells;
  log_workers = [];
  log_driving = [];
  log_inner = [];
  log_costs = [];
}

-- the library's input from the text entry: "The list of turns is empty."
abbrev pub text_input : Query → (workers scheme : ℕ) → Input
text_input q workers scheme = record { query = q; workers = workers; scheme = scheme; turns = []; lent = own_memory }

-- the same for what was read
abbrev pub input_for : Read → Input
input_for s = text_input s.query s.workers s.scheme

-- the same by the text's bytes
abbrev pub input_of : List ℕ → Input
input_of text = input_for (reading text).read

-- "Refusals before those above": the text's own, then the library's
unfoldable pub text_verdict : List ℕ → Verdict
text_verdict text = first_of ((reading text).verdict ∷ verdict (input_of text) ∷ [])

-- the answer of a plan: its P line, and the J lines of the tree that the tie rule picks
pub record PlanText (i : Input) (bytes : List ℕ) : Type 0 where
  pub tree : Tree
  pub picked : Picked i.query tree
  pub whole : tables_of tree ≡ full (table_count i.query.graph)
  pub handed : List (Hand Numbered)
  pub turns : InTurn i handed
  pub bytes-are : bytes ≡ plan_line (cost_of i.query tree) (length handed) ++ join_lines i.query tree

-- the lines of an answer under a verdict: of a plan where there is no refusal, else its X line
pub record Lined (v : Verdict) (i : Input) (bytes : List ℕ) : Type 0 where
  pub planned : v.number ≡ 0 → PlanText i bytes
  pub refused : 0 < v.number → bytes ≡ refusal_line v

-- the answer to a text, whatever buffer is lent
abbrev pub Answers : List ℕ → List ℕ → Type 0
Answers text bytes = Lined (text_verdict text) (input_of text) bytes

-- "It writes the lines below from the buffer's start, returns only their length (0 exactly with 15), and leaves the bytes after them unchanged."
pub record Written (text before after : List ℕ) (r : ℕ) : Type 0 where
  pub bytes : List ℕ
  pub answer : Answers text bytes
  -- "a 4,096-byte buffer, which every answer fits"
  pub short : length bytes ≤ answer_room
  pub fits : length bytes ≤ length before → (r ≡ length bytes) × (after ≡ over bytes before)
  -- 15: "the answer is longer than its buffer; nothing is written"
  pub long : length before < length bytes → (r ≡ 0) × (after ≡ before)

-- Text in: which lines are refused, and what query a good text means.
use Rattle.std.specs.Prelude.{Bool, true, false, cond, ◌&&◌, ◌||◌, not, List, [], ◌∷◌, ◌++◌, map, ℕ, suc, ◌-◌, eqb, ltb, leb, length, get_or, drop}
use Rattle.rules.specs.Verdict.{Verdict, none}
use Rattle.rules.specs.declared.forms.Kind.{Kind}
use Rattle.rules.specs.declared.forms.Kind.TheVariants.{Table, Method, Edge, Crew}
use Rattle.rules.specs.Limits.{max_tables, max_methods, max_edge_lines, max_bytes}
use Rattle.rules.specs.declared.Shape.TheVariants.{Bushy}
use Rattle.rules.specs.Query.{Query, table_count, edge_count, method_count}
use Rattle.rules.specs.Lines.{newline, lines, fields, is_number, value_of}
use Rattle.std.specs.Prelude.{None, Option, Some}
use Rattle.rules.specs.declared.forms.Form.{Form}

-- a kind of line with so many numbers
abbrev pub known : Kind → ℕ → Option Form
known kind numbers = Some (record { kind = kind; numbers = numbers })

-- "`T` number rows scan; `M` fixed outer inner result; `E` table table divisor; `W` workers scheme", by the letter's byte
unfoldable pub letter_of : ℕ → Option Form
letter_of b = cond (eqb b 84) (known Table 3) (cond (eqb b 77) (known Method 4) (cond (eqb b 69) (known Edge 3) (cond (eqb b 87) (known Crew 2) None)))

-- "What a line is follows from its first field": one byte, and its letter
abbrev pub form_of : List ℕ → Option Form
form_of [] = None
form_of (b ∷ []) = letter_of b
form_of (b ∷ c ∷ s) = None

-- "T lines first ..; then M, E, and one W.": where a kind stands in this order, from 1
abbrev pub stage : Kind → ℕ
stage Table = 1
stage Method = 2
stage Edge = 3
stage Crew = 4

-- every field is a number
unfoldable pub all_numbers : List (List ℕ) → Bool
all_numbers [] = true
all_numbers (f ∷ fs) = is_number f && all_numbers fs

-- the fields of a line after its letter
abbrev pub number_fields : List ℕ → List (List ℕ)
number_fields line = drop 1 (fields line)

-- the numbers of a line
abbrev pub values : List ℕ → List ℕ
values line = map value_of (number_fields line)

-- 23: "T number not the next, a kind after a later kind, or a second W"; `latest` is the stage of the line before, 0 at the start
unfoldable pub misplaced : Kind → (latest tables first : ℕ) → Bool
misplaced Table latest tables first = not (eqb first (suc tables)) || ltb (stage Table) latest
misplaced Method latest tables first = ltb (stage Method) latest
misplaced Edge latest tables first = ltb (stage Edge) latest
misplaced Crew latest tables first = leb (stage Crew) latest

-- 25: "a 17th T, fifth M or 121st E"
unfoldable pub excess : Kind → (tables methods edges : ℕ) → Bool
excess Table tables methods edges = leb max_tables tables
excess Method tables methods edges = leb max_methods methods
excess Edge tables methods edges = leb max_edge_lines edges
excess Crew tables methods edges = false

-- the refusal of a line by what its letter says, 0 for none: "the first that applies in this order: 21 .. 22 .. 23 .. 25"
unfoldable pub line_number_as : Option Form → (latest tables methods edges : ℕ) → List ℕ → ℕ
line_number_as None latest tables methods edges line = 21
line_number_as (Some f) latest tables methods edges line =
    cond (not (eqb (length (fields line)) (suc f.numbers))) 21
    (cond (not (all_numbers (number_fields line))) 22
    (cond (misplaced f.kind latest tables (get_or (values line) 0 0)) 23
    (cond (excess f.kind tables methods edges) 25 0)))

-- what the lines so far hold
pub record Read : Type 0 where
  pub query : Query
  -- of the W line; 0 before it
  pub workers : ℕ
  pub scheme : ℕ
  -- the stage of the latest line
  pub latest : ℕ

-- no line yet
abbrev pub nothing : Read
nothing = record {
  query = record { graph = record { rows = []; left = []; right = []; divisors = [] }; scans = []; fixed = []; per_outer = []; per_inner = []; per_result = []; shape = Bushy };
  workers = 0;
  scheme = 0;
  latest = 0;
}

-- the form of a line
abbrev pub line_form : List ℕ → Option Form
line_form line = form_of (get_or (fields line) 0 [])

-- the refusal of the next line, 0 for none
abbrev pub line_number : Read → List ℕ → ℕ
line_number s line = line_number_as (line_form line) s.latest (table_count s.query.graph) (method_count s.query) (edge_count s.query.graph) line

-- a number at the end of a list
abbrev pub push : List ℕ → ℕ → List ℕ
push l v = l ++ v ∷ []

-- the record of a good line goes to the lists of its kind
unfoldable pub with_record : Kind → List ℕ → Read → Read
with_record Table v s = record {
  query = record {
    graph = record { rows = push s.query.graph.rows (get_or v 1 0); left = s.query.graph.left; right = s.query.graph.right; divisors = s.query.graph.divisors };
    scans = push s.query.scans (get_or v 2 0);
    fixed = s.query.fixed;
    per_outer = s.query.per_outer;
    per_inner = s.query.per_inner;
    per_result = s.query.per_result;
    shape = s.query.shape;
  };
  workers = s.workers;
  scheme = s.scheme;
  latest = stage Table;
}
with_record Method v s = record {
  query = record {
    graph = s.query.graph;
    scans = s.query.scans;
    fixed = push s.query.fixed (get_or v 0 0);
    per_outer = push s.query.per_outer (get_or v 1 0);
    per_inner = push s.query.per_inner (get_or v 2 0);
    per_result = push s.query.per_result (get_or v 3 0);
    shape = s.query.shape;
  };
  workers = s.workers;
  scheme = s.scheme;
  latest = stage Method;
}
with_record Edge v s = record {
  query = record {
    graph = record { rows = s.query.graph.rows; left = push s.query.graph.left (get_or v 0 0); right = push s.query.graph.right (get_or v 1 0); divisors = push s.query.graph.divisors (get_or v 2 0) };
    scans = s.query.scans;
    fixed = s.query.fixed;
    per_outer = s.query.per_outer;
    per_inner = s.query.per_inner;
    per_result = s.query.per_result;
    shape = s.query.shape;
  };
  workers = s.workers;
  scheme = s.scheme;
  latest = stage Edge;
}
with_record Crew v s = record { query = s.query; workers = get_or v 0 0; scheme = get_or v 1 0; latest = stage Crew }

-- the same by what the line's letter says
abbrev pub with_line_as : Option Form → List ℕ → Read → Read
with_line_as None line s = s
with_line_as (Some f) line s = with_record f.kind (values line) s

-- one good line more
abbrev pub with_line : Read → List ℕ → Read
with_line s line = with_line_as (line_form line) line s

-- the verdict on a text, and what its lines held as far as they were good
pub record Reading : Type 0 where
  pub verdict : Verdict
  pub read : Read

-- refused with a number at a place
abbrev pub stopped : ℕ → ℕ → Read → Reading
stopped number place s = record { verdict = record { number = number; place = place }; read = s }

-- after the last line: "A missing W is 23 at the line after the last."
abbrev pub ended : ℕ → Read → Reading
ended k s = cond (eqb s.latest (stage Crew)) (record { verdict = none; read = s }) (stopped 23 k s)

-- "line by line, place the line from 1", from line k on
unfoldable pub read_from : ℕ → Read → List (List ℕ) → Reading
read_from k s [] = ended k s
read_from k s (l ∷ ls) = cond (eqb (line_number s l) 0) (read_from (suc k) (with_line s l) ls) (stopped (line_number s l) k s)

-- 24: "too long, or last byte not LF (place 0; empty text passes this)"
unfoldable pub unfit : List ℕ → Bool
unfit text = ltb max_bytes (length text) || not (eqb (get_or text (length text - 1) newline) newline)

-- what a text means
unfoldable pub reading : List ℕ → Reading
reading text = cond (unfit text) (stopped 24 0 nothing) (read_from 1 nothing (lines text))

-- What the reader's structs mean.
use Rattle.std.specs.Prelude.{◌≡◌, ◌≤◌, take, Result, Ok, Err}
use Rattle.rules.specs.declared.Shape.TheVariants.{Bushy}
use Rattle.rules.specs.Limits.{max_tables, max_methods, max_edge_lines}
use Rattle.rules.specs.Answers.{Spared}
use Rattle.rules.specs.Verdict.{none, told}
use Rattle.rules.specs.Reading.{Read, Reading}
use Rattle.fields.specs.declared.kinds.Progress.{Progress}
use Rattle.reader.specs.declared.columns.Columns.{Columns}
use Rattle.reader.specs.Lists.{Lists, lists}
use Rattle.reader.specs.declared.reading.Stopped.{Stopped}

-- what the columns hold
abbrev pub lists_of : Columns → Lists
lists_of c = lists c.rows.now c.scans.now c.left.now c.right.now c.divisors.now c.fixed.now c.per_outer.now c.per_inner.now c.per_result.now

-- they are the same lent columns
pub record SameColumns (c c' : Columns) : Type 0 where
  pub rows : c.rows.ghost_name ≡ c'.rows.ghost_name
  pub scans : c.scans.ghost_name ≡ c'.scans.ghost_name
  pub left : c.left.ghost_name ≡ c'.left.ghost_name
  pub right : c.right.ghost_name ≡ c'.right.ghost_name
  pub divisors : c.divisors.ghost_name ≡ c'.divisors.ghost_name
  pub fixed : c.fixed.ghost_name ≡ c'.fixed.ghost_name
  pub per_outer : c.per_outer.ghost_name ≡ c'.per_outer.ghost_name
  pub per_inner : c.per_inner.ghost_name ≡ c'.per_inner.ghost_name
  pub per_result : c.per_result.ghost_name ≡ c'.per_result.ghost_name

-- what the lines so far hold, where their records stand in the columns' first cells
abbrev pub read_of : Progress → Lists → Read
read_of p a = record {
  query = record {
    graph = record { rows = take p.tables a.rows; left = take p.edges a.left; right = take p.edges a.right; divisors = take p.edges a.divisors };
    scans = take p.tables a.scans;
    fixed = take p.methods a.fixed;
    per_outer = take p.methods a.per_outer;
    per_inner = take p.methods a.per_inner;
    per_result = take p.methods a.per_result;
    shape = Bushy;
  };
  workers = p.workers;
  scheme = p.scheme;
  latest = p.latest;
}

-- no more records than a text may have
pub record Within (p : Progress) : Type 0 where
  pub tables : p.tables ≤ max_tables
  pub methods : p.methods ≤ max_methods
  pub edges : p.edges ≤ max_edge_lines

-- the nine columns beyond the records so far are as they were
pub record Spare (p : Progress) (a b : Lists) : Type 0 where
  pub rows-spare : Spared p.tables a.rows b.rows
  pub scans-spare : Spared p.tables a.scans b.scans
  pub left-spare : Spared p.edges a.left b.left
  pub right-spare : Spared p.edges a.right b.right
  pub divisors-spare : Spared p.edges a.divisors b.divisors
  pub fixed-spare : Spared p.methods a.fixed b.fixed
  pub outer-spare : Spared p.methods a.per_outer b.per_outer
  pub inner-spare : Spared p.methods a.per_inner b.per_inner
  pub result-spare : Spared p.methods a.per_result b.per_result

-- how far the lines were good
abbrev pub progress_of : Result Progress Stopped → Progress
progress_of (Ok p) = p
progress_of (Err s) = s.progress

-- the reading of a text, as the code holds it
abbrev pub reading_of : Result Progress Stopped → Lists → Reading
reading_of (Ok p) a = record { verdict = none; read = read_of p a }
reading_of (Err s) a = record { verdict = told s.refusal; read = read_of s.progress a }

-- no line yet
abbrev pub no_line : Progress
no_line = record { tables = 0; methods = 0; edges = 0; latest = 0; workers = 0; scheme = 0 }

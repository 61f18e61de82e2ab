-- A search by the structs that it is given.
use Rattle.std.specs.Prelude.{List, ℕ}
use Rattle.std.proofs.Common.{◌∙◌}
use Rattle.rules.specs.declared.Shape.TheVariants.{Bushy}
use Rattle.rules.specs.Query.{Graph, Query}
use Rattle.crew.specs.declared.log.Log.{Log}
use Rattle.crew.specs.Lent as logs
use Rattle.results.specs.declared.keep.Columns.{Columns}
use Rattle.results.specs.Kept as rows
use Rattle.results.specs.declared.price.Rates.{Rates}

-- the query of a graph, its scan costs and what its methods cost
abbrev pub query_by : Graph → List ℕ → Rates → Query
query_by g scans r = record { graph = g; scans = scans; fixed = r.fixed.now; per_outer = r.outer.now; per_inner = r.inner.now; per_result = r.res.now; shape = Bushy }

-- columns and log are of the same lent lists
pub record SameLists (c c' : Columns) (l l' : Log) : Type 0 where
  pub columns : rows.SameColumns c c'
  pub log : logs.SameColumns l l'

-- still those, after a turn
pub same_on : {c c' c'' : Columns} {l l' l'' : Log} → SameLists c' c l' l → rows.SameColumns c'' c' → logs.SameColumns l'' l' → SameLists c'' c l'' l
same_on s a b = record {
  columns = record { costs = a.costs ∙ s.columns.costs; outers = a.outers ∙ s.columns.outers; methods = a.methods ∙ s.columns.methods };
  log = record { workers = b.workers ∙ s.log.workers; driving = b.driving ∙ s.log.driving; inner = b.inner ∙ s.log.inner; costs = b.costs ∙ s.log.costs };
}

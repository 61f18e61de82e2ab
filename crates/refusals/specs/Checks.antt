-- The checks of document 01 in the groups in which the code goes through them.
use Rattle.std.specs.Prelude.{◌≡◌, not, List, [], ◌∷◌, ℕ, ◌≤◌, ◌<◌, length, get_or}
use Rattle.rules.specs.Limits.{max_tables, max_rows, tables_fit, methods_fit}
use Rattle.rules.specs.Kinds.{new_crew}
use Rattle.rules.specs.Lists.{is_yes}
use Rattle.rules.specs.Sets.{full}
use Rattle.rules.specs.Query.{Graph, Query, table_count, edge_count}
use Rattle.rules.specs.Refusals.{refuse, first_bad, bad_table, bad_method, bad_edge, is_refused, bad_turn}
use Rattle.rules.specs.laws.Decide.{connected?}
use Rattle.rules.specs.Verdict.{Verdict}
use Rattle.std.specs.Prelude.{None, Option, Some}
use Rattle.rules.specs.declared.Method.{Method}
use Rattle.rules.specs.declared.Table.{Table}

-- the lengths of a query's lists: those of tables, of edges, of methods
abbrev pub query_groups : Query → List (List ℕ)
query_groups q =
    (length q.graph.rows ∷ length q.scans ∷ [])
    ∷ (length q.graph.left ∷ length q.graph.right ∷ length q.graph.divisors ∷ [])
    ∷ (length q.fixed ∷ length q.per_outer ∷ length q.per_inner ∷ length q.per_result ∷ [])
    ∷ []

-- refusal 3 of one table, 0 for none
abbrev pub table_number : Option Table → ℕ
table_number (Some t) = 0
table_number None = 3

-- refusal 5 of one method, 0 for none
abbrev pub method_number : Option Method → ℕ
method_number (Some m) = 0
method_number None = 5

-- refusals 2 and 3
abbrev pub table_checks : List ℕ → List ℕ → List Verdict
table_checks rows scans = refuse 2 (not (tables_fit (length rows))) ∷ first_bad (bad_table rows scans) 0 (length rows) ∷ []

-- refusals 4 and 5
abbrev pub method_checks : List ℕ → List ℕ → List ℕ → List ℕ → List Verdict
method_checks fixed outer inner result = refuse 4 (not (methods_fit (length fixed))) ∷ first_bad (bad_method fixed outer inner result) 0 (length fixed) ∷ []

-- refusals 6 to 9, and 10
abbrev pub graph_checks : Graph → List Verdict
graph_checks g = first_bad (bad_edge g) 0 (edge_count g) ∷ refuse 10 (not (is_yes (connected? g (full (table_count g))))) ∷ []

-- refusals 11 and 12
abbrev pub crew_checks : ℕ → ℕ → List ℕ → List Verdict
crew_checks workers scheme turns = refuse 11 (is_refused (new_crew workers scheme)) ∷ first_bad (bad_turn workers turns) 0 (length turns) ∷ []

-- a graph that passes 1, 2 and 3: what is known of it before its edges are looked at
pub record TablesGood (g : Graph) : Type 0 where
  pub right : length g.right ≡ edge_count g
  pub divisors : length g.divisors ≡ edge_count g
  pub some-table : 1 ≤ table_count g
  pub few-tables : table_count g ≤ max_tables
  pub rows : (i : ℕ) → i < table_count g → get_or g.rows i 0 ≤ max_rows

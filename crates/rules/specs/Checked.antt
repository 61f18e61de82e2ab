-- What an input that passes the checks is like: the facts behind "A plan is given exactly for the queries" that 01 accepts.
use Rattle.std.specs.Prelude.{◌≡◌, ℕ, ◌≤◌, ◌<◌, length, get_or}
use Rattle.rules.specs.declared.Scheme.{Scheme}
use Rattle.rules.specs.Limits.{max_tables, max_rows, max_scan, max_divisor, max_methods, max_fixed, max_coefficient, max_workers}
use Rattle.rules.specs.Kinds.{scheme_of}
use Rattle.rules.specs.Sets.{full}
use Rattle.rules.specs.Query.{Graph, Query, table_count, edge_count, method_count, Joins}
use Rattle.rules.specs.Connected.{Connected}
use Rattle.rules.specs.Rows.{memo}
use Rattle.rules.specs.Skips.{skips}
use Rattle.rules.specs.Refusals.{Memory, Input}
use Rattle.std.specs.Prelude.{Some}

-- not 5: method i, from 0
pub record MethodGood (q : Query) (i : ℕ) : Type 0 where
  pub fixed : get_or q.fixed i 0 ≤ max_fixed
  pub outer : get_or q.per_outer i 0 ≤ max_coefficient
  pub inner : get_or q.per_inner i 0 ≤ max_coefficient
  pub result : get_or q.per_result i 0 ≤ max_coefficient

-- not 6, 7, 8 and 9: edge i, from 0
pub record EdgeGood (g : Graph) (i : ℕ) : Type 0 where
  pub left-some : 1 ≤ get_or g.left i 0
  pub left-known : get_or g.left i 0 ≤ table_count g
  pub right-some : 1 ≤ get_or g.right i 0
  pub right-known : get_or g.right i 0 ≤ table_count g
  pub different : get_or g.left i 0 ≡ get_or g.right i 0 → ⊥
  pub divisor-some : 1 ≤ get_or g.divisors i 0
  pub divisor-fits : get_or g.divisors i 0 ≤ max_divisor
  pub new : (j : ℕ) → j < i → Joins g j (get_or g.left i 0) (get_or g.right i 0) → ⊥

-- a graph that passes 1, 2, 3 and 6 to 9
pub record GoodGraph (g : Graph) : Type 0 where
  pub right : length g.right ≡ edge_count g
  pub divisors : length g.divisors ≡ edge_count g
  pub some-table : 1 ≤ table_count g
  pub few-tables : table_count g ≤ max_tables
  pub rows : (i : ℕ) → i < table_count g → get_or g.rows i 0 ≤ max_rows
  pub edges : (i : ℕ) → i < edge_count g → EdgeGood g i

-- a query that passes 1 to 10
pub record Sound (q : Query) : Type 0 where
  pub graph : GoodGraph q.graph
  pub scan-list : length q.scans ≡ table_count q.graph
  pub scans : (i : ℕ) → i < table_count q.graph → get_or q.scans i 0 ≤ max_scan
  pub outer-list : length q.per_outer ≡ method_count q
  pub inner-list : length q.per_inner ≡ method_count q
  pub result-list : length q.per_result ≡ method_count q
  pub some-method : 1 ≤ method_count q
  pub few-methods : method_count q ≤ max_methods
  pub methods : (i : ℕ) → i < method_count q → MethodGood q i
  pub connected : Connected q.graph (full (table_count q.graph))

-- not 1: the columns of memo and log have their lengths
pub record Columns (lent : Memory) : Type 0 where
  pub estimates : length lent.estimates ≡ length lent.sets
  pub costs : length lent.costs ≡ length lent.sets
  pub outers : length lent.outers ≡ length lent.sets
  pub methods : length lent.methods ≡ length lent.sets
  pub driving : length lent.log_driving ≡ length lent.log_workers
  pub inner : length lent.log_inner ≡ length lent.log_workers
  pub log-costs : length lent.log_costs ≡ length lent.log_workers

-- not 11: workers and scheme in range
pub record CrewGood (workers scheme : ℕ) : Type 0 where
  pub some-worker : 1 ≤ workers
  pub few-workers : workers ≤ max_workers
  pub named : Scheme
  pub is-named : scheme_of scheme ≡ Some named

-- an input that passes 1 to 12
pub record Checked (i : Input) : Type 0 where
  pub sound : Sound i.query
  pub columns : Columns i.lent
  pub crew : CrewGood i.workers i.scheme
  pub turns : (j : ℕ) → j < length i.turns → get_or i.turns j 0 < i.workers

-- an input that passes 13 and 14 too
pub record Accepted (i : Input) : Type 0 where
  pub checked : Checked i
  pub rows : length (memo i.query.graph) ≤ length i.lent.sets
  pub cells : length (skips i.query.graph) ≤ length i.lent.skips

-- 01's "Numbered refusals": which number and place an input gets, or 0 where it is accepted.
use Rattle.std.specs.Prelude.{Bool, true, false, cond, ◌&&◌, ◌||◌, not, List, [], ◌∷◌, ◌++◌, ℕ, zero, suc, eqb, ltb, length, get_or}
use Rattle.rules.specs.Limits.{tables_fit, methods_fit, table_fits, method_fits}
use Rattle.rules.specs.Kinds.{new_edge, edge_number, new_crew}
use Rattle.rules.specs.Verdict.{Verdict, none}
use Rattle.rules.specs.Lists.{is_yes}
use Rattle.rules.specs.Sets.{full}
use Rattle.rules.specs.Query.{Graph, Query, table_count, edge_count, method_count}
use Rattle.rules.specs.Estimate.{joins_at}
use Rattle.rules.specs.Rows.{memo}
use Rattle.rules.specs.Skips.{skips}
use Rattle.rules.specs.laws.Decide.{connected?}
use Rattle.std.specs.Prelude.{None, Option, Some}
use Rattle.rules.specs.declared.Crew.{Crew}

-- the memory that a caller lends: memo, skip cells and log, each column a list
pub record Memory : Type 0 where
  pub sets : List ℕ
  pub estimates : List ℕ
  pub costs : List ℕ
  pub outers : List ℕ
  pub methods : List ℕ
  pub skips : List ℕ
  pub log_workers : List ℕ
  pub log_driving : List ℕ
  pub log_inner : List ℕ
  pub log_costs : List ℕ

-- "a library that takes a query .., a worker count, a sharing scheme and a list of turns, and fills a memo, skip tables and a log"
pub record Input : Type 0 where
  pub query : Query
  pub workers : ℕ
  pub scheme : ℕ
  pub turns : List ℕ
  pub lent : Memory

-- refusal `number` at place 0, where the test says so
unfoldable pub refuse : ℕ → Bool → Verdict
refuse number bad = cond bad (record { number = number; place = 0 }) none

-- the first of n records, from record i on, whose number is not 0
unfoldable pub first_bad : (ℕ → ℕ) → ℕ → ℕ → Verdict
first_bad f i zero = none
first_bad f i (suc n) = cond (eqb (f i) 0) (first_bad f (suc i) n) (record { number = f i; place = i })

-- "Checked in this order": the first refusal of the list
unfoldable pub first_of : List Verdict → Verdict
first_of [] = none
first_of (v ∷ vs) = cond (eqb v.number 0) (first_of vs) v

-- all numbers are n
unfoldable pub all_are : ℕ → List ℕ → Bool
all_are n [] = true
all_are n (k ∷ ks) = eqb k n && all_are n ks

-- in each group all numbers are the same
unfoldable pub all_same : List (List ℕ) → Bool
all_same [] = true
all_same ([] ∷ gs) = all_same gs
all_same ((n ∷ ks) ∷ gs) = all_are n ks && all_same gs

-- the lengths of the lent columns of the memo
abbrev pub memo_lengths : Memory → List ℕ
memo_lengths lent = length lent.sets ∷ length lent.estimates ∷ length lent.costs ∷ length lent.outers ∷ length lent.methods ∷ []

-- and of the log
abbrev pub log_lengths : Memory → List ℕ
log_lengths lent = length lent.log_workers ∷ length lent.log_driving ∷ length lent.log_inner ∷ length lent.log_costs ∷ []

-- refusal 1: "lent lists holding fields of the same records": the lengths of those of tables, edges, methods, memo rows and log entries
unfoldable pub groups : Query → List ℕ → List ℕ → List (List ℕ)
groups q memo_columns log_columns =
    (length q.graph.rows ∷ length q.scans ∷ [])
    ∷ (length q.graph.left ∷ length q.graph.right ∷ length q.graph.divisors ∷ [])
    ∷ (length q.fixed ∷ length q.per_outer ∷ length q.per_inner ∷ length q.per_result ∷ [])
    ∷ memo_columns
    ∷ log_columns
    ∷ []

-- refusal 3: "rows or scan cost of a table over its limit"
unfoldable pub bad_table : List ℕ → List ℕ → ℕ → ℕ
bad_table rows scans i = cond (table_fits (get_or rows i 0) (get_or scans i 0)) 0 3

-- refusal 5: "fixed cost or coefficient over its limit"
unfoldable pub bad_method : List ℕ → List ℕ → List ℕ → List ℕ → ℕ → ℕ
bad_method fixed outer inner result i = cond (method_fits (get_or fixed i 0) (get_or outer i 0) (get_or inner i 0) (get_or result i 0)) 0 5

-- one of the first n edges joins tables a and b
unfoldable pub joined_below : Graph → ℕ → ℕ → ℕ → Bool
joined_below g a b zero = false
joined_below g a b (suc n) = joined_below g a b n || joins_at g a b n

-- "edge repeats an earlier pair"
unfoldable pub repeats : Graph → ℕ → Bool
repeats g i = joined_below g (get_or g.left i 0) (get_or g.right i 0) i

-- 9 is the last of an edge's refusals
unfoldable pub edge_or : ℕ → Bool → ℕ
edge_or zero repeated = cond repeated 9 0
edge_or (suc n) repeated = suc n

-- "Rows 6 to 9 are tried edge by edge."
unfoldable pub bad_edge : Graph → ℕ → ℕ
bad_edge g i = edge_or (edge_number (new_edge (table_count g) (get_or g.left i 0) (get_or g.right i 0) (get_or g.divisors i 0))) (repeats g i)

-- refusal 11: "workers or scheme out of range"
unfoldable pub is_refused : Option Crew → Bool
is_refused (Some c) = false
is_refused None = true

-- refusal 12: "a turn names a worker not below the count"
unfoldable pub bad_turn : ℕ → List ℕ → ℕ → ℕ
bad_turn workers turns i = cond (ltb (get_or turns i 0) workers) 0 12

-- refusals 1 to 12: they look at the query, the crew, the turns, and of the lent memory only at lengths
unfoldable pub checks_of : Query → ℕ → ℕ → List ℕ → List ℕ → List ℕ → List Verdict
checks_of q workers scheme turns memo_columns log_columns =
    refuse 1 (not (all_same (groups q memo_columns log_columns)))
    ∷ refuse 2 (not (tables_fit (table_count q.graph)))
    ∷ first_bad (bad_table q.graph.rows q.scans) 0 (table_count q.graph)
    ∷ refuse 4 (not (methods_fit (method_count q)))
    ∷ first_bad (bad_method q.fixed q.per_outer q.per_inner q.per_result) 0 (method_count q)
    ∷ first_bad (bad_edge q.graph) 0 (edge_count q.graph)
    ∷ refuse 10 (not (is_yes (connected? q.graph (full (table_count q.graph)))))
    ∷ refuse 11 (is_refused (new_crew workers scheme))
    ∷ first_bad (bad_turn workers turns) 0 (length turns)
    ∷ []

-- the same of an input
unfoldable pub checks : Input → List Verdict
checks i = checks_of i.query i.workers i.scheme i.turns (memo_lengths i.lent) (log_lengths i.lent)

-- refusals 13 and 14: "memo rows fewer than connected sets", "skip cells fewer than the sum of those sets' sizes"
unfoldable pub rooms : Input → List Verdict
rooms i =
    refuse 13 (ltb (length i.lent.sets) (length (memo i.query.graph)))
    ∷ refuse 14 (ltb (length i.lent.skips) (length (skips i.query.graph)))
    ∷ []

-- "Checked in this order."
unfoldable pub verdict : Input → Verdict
verdict i = first_of (checks i ++ rooms i)

-- The memo that a plan left, as the writer reads it.
use Rattle.std.specs.Prelude.{◌≡◌, ℕ, ◌≤◌, ◌<◌, ◌+◌, length, get_or}
use mathlib.Core.List.{Memᴰ}
use Rattle.rules.specs.Limits.{max_tables}
use Rattle.rules.specs.Query.{Query, table_count}
use Rattle.rules.specs.Estimate.{estimate}
use Rattle.rules.specs.Rows.{memo}
use Rattle.rules.specs.Answers.{Row}
use Rattle.rules.specs.Sets.{single}
use Rattle.rules.specs.Trees.{Tree, scan, join, tables_of, Picked}
use Rattle.rules.specs.Writing.{join_lines}
use Rattle.digits.specs.declared.Line.{Line}
use Rattle.writer.specs.declared.joins.Memo.{Memo}

-- the root of a tree is what a row of set S, outer part x and method m says
unfoldable pub Rooted : Tree → (S x m : ℕ) → Type 0
Rooted (scan t) S x m = (1 ≤ t) × (single t ≡ S) × (x ≡ 0)
Rooted (join a b k) S x m = (tables_of a ≡ x) × (tables_of a + tables_of b ≡ S) × (k ≡ m)

-- the memo is one that planning filled: a row for each of the query's sets, and cost, outer part and method as they are defined
pub record Kept (q : Query) (m : Memo) : Type 0 where
  pub tables : m.tables ≡ table_count q.graph
  pub few : m.tables ≤ max_tables
  pub stands : (S : ℕ) → Memᴰ S (memo q.graph) → (j : ℕ) × (j < length m.sets.now) × (get_or m.sets.now j 0 ≡ S)
  pub lengths : (length m.estimates.now ≡ length m.sets.now) × (length m.costs.now ≡ length m.sets.now) × (length m.outers.now ≡ length m.sets.now) × (length m.methods.now ≡ length m.sets.now)
  pub holds : (j : ℕ) → Memᴰ (get_or m.sets.now j 0) (memo q.graph) → j < length m.sets.now → (get_or m.estimates.now j 0 ≡ estimate q.graph (get_or m.sets.now j 0)) × Row q (get_or m.sets.now j 0) (get_or m.costs.now j 0) (get_or m.outers.now j 0) (get_or m.methods.now j 0)

-- a tree that is to be put, and there is room for its lines
pub record ToPut (q : Query) (S : ℕ) (line : Line) : Type 0 where
  pub tree : Tree
  pub picked : Picked q tree
  pub covers : tables_of tree ≡ S
  pub room-left : line.at + length (join_lines q tree) ≤ length line.out.now

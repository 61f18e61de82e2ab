-- What each table brings to an estimate, by the cells of one array; and one table's divisions by them.
use Rattle.std.specs.Prelude.{◌≡◌, cond, List, ℕ, zero, suc, ◌+◌, ◌-◌, ◌*◌, ◌^◌, ◌≤◌, ◌<◌, max, get_or}
use Rattle.rules.specs.Limits.{max_tables}
use Rattle.rules.specs.Sets.{holds, has}
use Rattle.rules.specs.Query.{Graph, table_count, edge_count, at, Joins}
use Rattle.rules.specs.Checked.{GoodGraph}
use Rattle.rules.specs.Estimate.{divided, running}

-- the cell of the tables t and u
abbrev pub cell_of : ℕ → ℕ → ℕ
cell_of t u = (t - 1) * 16 + (u - 1)

-- the rows of the tables 1 to n, "(0 counts as 1)", each in the cell of the table with itself
pub record Own (rows : List ℕ) (n : ℕ) (parts : List ℕ) : Type 0 where
  pub rows_of : (t : ℕ) → 1 ≤ t → t ≤ n → get_or parts (cell_of t t) 0 ≡ max 1 (at rows t)

-- the rows of all tables, and the divisors of the first n edges, "whichever way round"
pub record Parts (g : Graph) (n : ℕ) (parts : List ℕ) : Type 0 where
  pub own : Own g.rows (table_count g) parts
  pub divisors : (t u i : ℕ) → i < n → Joins g i t u → get_or parts (cell_of t u) 0 ≡ get_or g.divisors i 0

-- r after the tables 1 to k of S, each of which divides by its cell with t
unfoldable pub by_parts : List ℕ → ℕ → ℕ → ℕ → ℕ → ℕ
by_parts parts S t zero r = r
by_parts parts S t (suc k) r = cond (has S (suc k)) (divided (get_or parts (cell_of t (suc k)) 0) (by_parts parts S t k r)) (by_parts parts S t k r)

-- tables lower than t, each of which has a divisor in its cell with t
pub record Divides (parts : List ℕ) (t S : ℕ) : Type 0 where
  pub some : 1 ≤ t
  pub few : t ≤ max_tables
  pub below : S < 2 ^ (t - 1)
  pub divisor : (u : ℕ) → holds S u ≡ 1 → 1 ≤ get_or parts (cell_of t u) 0

-- what a node of the walk knows of estimates: every table's part, and the chosen tables' value
pub record Valued (g : Graph) (parts : List ℕ) (t chosen e : ℕ) : Type 0 where
  pub good : GoodGraph g
  pub all : Parts g (edge_count g) parts
  pub value : e ≡ running g chosen (t - 1)

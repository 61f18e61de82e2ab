-- What nine lent columns hold, and what they have room for.
use Rattle.std.specs.Prelude.{List, ℕ, ◌≤◌, length}
use Rattle.rules.specs.Limits.{max_tables, max_methods, max_edge_lines}

pub record Lists : Type 0 where
  pub rows : List ℕ
  pub scans : List ℕ
  pub left : List ℕ
  pub right : List ℕ
  pub divisors : List ℕ
  pub fixed : List ℕ
  pub per_outer : List ℕ
  pub per_inner : List ℕ
  pub per_result : List ℕ

abbrev pub lists : (rows scans left right divisors fixed per_outer per_inner per_result : List ℕ) → Lists
lists rows scans left right divisors fixed per_outer per_inner per_result =
    record { rows = rows; scans = scans; left = left; right = right; divisors = divisors; fixed = fixed; per_outer = per_outer; per_inner = per_inner; per_result = per_result }

-- there is room for all records of their kind
pub record Room (a : Lists) : Type 0 where
  pub rows_fit : max_tables ≤ length a.rows
  pub scans-fit : max_tables ≤ length a.scans
  pub left-fit : max_edge_lines ≤ length a.left
  pub right-fit : max_edge_lines ≤ length a.right
  pub divisors-fit : max_edge_lines ≤ length a.divisors
  pub fixed-fit : max_methods ≤ length a.fixed
  pub outer-fit : max_methods ≤ length a.per_outer
  pub inner-fit : max_methods ≤ length a.per_inner
  pub result-fit : max_methods ≤ length a.per_result

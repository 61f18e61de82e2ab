-- A query as its lent lists: tables and edges ("join predicates"), which are its graph, and methods (the "cost table").
use Rattle.std.specs.Prelude.{◌≡◌, ◌⊎◌, List, ℕ, ◌-◌, ◌≤◌, ◌<◌, length, get_or}
use Rattle.rules.specs.declared.Shape.{Shape}
use Rattle.rules.specs.Sets.{holds}

-- tables and edges: all that connected sets and estimates look at
pub record Graph : Type 0 where
  -- "Each has rows": table t stands at t - 1
  pub rows : List ℕ
  -- "Edges: two different tables and a divisor"
  pub left : List ℕ
  pub right : List ℕ
  pub divisors : List ℕ

-- "a query (tables, join predicates, a cost table)"
pub record Query : Type 0 where
  pub graph : Graph
  -- "and a scan cost": table t stands at t - 1
  pub scans : List ℕ
  -- "a fixed cost .. and three coefficients": method m stands at m - 1
  pub fixed : List ℕ
  pub per_outer : List ℕ
  pub per_inner : List ℕ
  pub per_result : List ℕ
  -- the shape that its plans are to have (02, R-2)
  pub shape : Shape

-- from the lists as they are lent
abbrev pub graph_of : List ℕ → List ℕ → List ℕ → List ℕ → Graph
graph_of rows left right divisors = record { rows = rows; left = left; right = right; divisors = divisors }

-- N
abbrev pub table_count : Graph → ℕ
table_count g = length g.rows

-- how many edges
abbrev pub edge_count : Graph → ℕ
edge_count g = length g.left

-- how many methods
abbrev pub method_count : Query → ℕ
method_count q = length q.fixed

-- tables are "numbered from 1"
pub record IsTable (g : Graph) (t : ℕ) : Type 0 where
  pub from_one : 1 ≤ t
  pub to-count : t ≤ table_count g

-- methods are "numbered from 1"
pub record IsMethod (q : Query) (m : ℕ) : Type 0 where
  pub from_one : 1 ≤ m
  pub to-count : m ≤ method_count q

-- what stands in a list of tables, or of methods, at number t
abbrev pub at : List ℕ → ℕ → ℕ
at l t = get_or l (t - 1) 0

-- edge i joins tables a and b, "whichever way round it is written"
abbrev pub Joins : Graph → ℕ → ℕ → ℕ → Type 0
Joins g i a b = ((get_or g.left i 0 ≡ a) × (get_or g.right i 0 ≡ b)) ⊎ ((get_or g.left i 0 ≡ b) × (get_or g.right i 0 ≡ a))

-- some edge joins tables a and b
pub record Linked (g : Graph) (a b : ℕ) : Type 0 where
  pub edge : ℕ
  pub known : edge < edge_count g
  pub joins : Joins g edge a b

-- "an edge runs between them": from a table of X to a table of Y
pub record Between (g : Graph) (X Y : ℕ) : Type 0 where
  pub from : ℕ
  pub to : ℕ
  pub from_in : holds X from ≡ 1
  pub to_in : holds Y to ≡ 1
  pub linked : Linked g from to

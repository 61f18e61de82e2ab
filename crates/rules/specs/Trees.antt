-- Trees over a query, their cost, the least cost of a set, and the join that 01's tie rule picks.
use Rattle.std.specs.Prelude.{◌≡◌, Bool, true, ℕ, ◌+◌, ◌*◌, ◌≤◌, eqb}
use Rattle.rules.specs.declared.Shape.{Shape}
use Rattle.rules.specs.declared.Shape.TheVariants.{Bushy, Single}
use Rattle.rules.specs.declared.Step.{Step}
use Rattle.rules.specs.declared.Step.TheVariants.{Scan, Join}
use Rattle.rules.specs.Sets.{Disjoint, single, size}
use Rattle.rules.specs.Query.{Graph, Query, IsTable, IsMethod, Between, at}
use Rattle.rules.specs.Estimate.{estimate}

-- "A step of a plan is a scan of one table or a join": outer part, inner part, method
pub data Tree : Type 0 where
  scan : ℕ → Tree
  join : Tree → Tree → ℕ → Tree

-- the set of a tree's tables
unfoldable pub tables_of : Tree → ℕ
tables_of (scan t) = single t
tables_of (join x y m) = tables_of x + tables_of y

-- the step at a tree's root
unfoldable pub step_of : Tree → Step
step_of (scan t) = Scan t
step_of (join x y m) = Join (record { outer = tables_of x; inner = tables_of y; method = m })

-- outer X and inner Y may be joined: they "are disjoint .. and have an edge between them"
pub record Joinable (g : Graph) (X Y : ℕ) : Type 0 where
  pub apart : Disjoint X Y
  pub between : Between g X Y

-- an inner part of n tables fits the shape: any does, or "the inner part of each join is a single table"
unfoldable pub fits : Shape → ℕ → Bool
fits Bushy n = true
fits Single n = eqb n 1

-- the set Y may be the inner part of a join
abbrev pub Inner : Query → ℕ → Type 0
Inner q Y = fits q.shape (size Y) ≡ true

-- "Both parts of a join are disjoint, connected, and have an edge between them", and the inner one fits the shape. That they are connected follows: laws.Connected, connected-tree.
unfoldable pub Valid : Query → Tree → Type 0
Valid q (scan t) = IsTable q.graph t
Valid q (join x y m) = Valid q x × Valid q y × Joinable q.graph (tables_of x) (tables_of y) × IsMethod q m × Inner q (tables_of y)

-- "fixed + a·est(X) + b·est(Y) + c·est(X and Y together)"
unfoldable pub price : Query → ℕ → ℕ → ℕ → ℕ
price q X Y m = at q.fixed m + at q.per_outer m * estimate q.graph X + at q.per_inner m * estimate q.graph Y + at q.per_result m * estimate q.graph (X + Y)

-- "Cost of one table is its scan cost. A join of outer X and inner Y costs cost(X) + cost(Y) + .."
unfoldable pub cost_of : Query → Tree → ℕ
cost_of q (scan t) = at q.scans t
cost_of q (join x y m) = cost_of q x + cost_of q y + price q (tables_of x) (tables_of y) m

-- "The best cost of a set is the least over all its trees": some tree costs c, and none costs less
pub record Least (q : Query) (S c : ℕ) : Type 0 where
  pub tree : Tree
  pub valid : Valid q tree
  pub covers : tables_of tree ≡ S
  pub costs : cost_of q tree ≡ c
  pub least : (t : Tree) → Valid q t → tables_of t ≡ S → c ≤ cost_of q t

-- "joins that reach the best cost, with best parts": outer x and method m do so for S
pub record Reaches (q : Query) (S x m : ℕ) : Type 0 where
  pub inner : ℕ
  pub outer-cost : ℕ
  pub inner-cost : ℕ
  pub outer-best : Least q x outer-cost
  pub inner-best : Least q inner inner-cost
  pub joinable : Joinable q.graph x inner
  pub shaped : Inner q inner
  pub whole : x + inner ≡ S
  pub method : IsMethod q m
  pub reaches : Least q S (outer-cost + inner-cost + price q x inner m)

-- "the least outer set number wins, then the least method"
pub record Pick (q : Query) (S x m : ℕ) : Type 0 where
  pub among : Reaches q S x m
  pub outer-first : (x' m' : ℕ) → Reaches q S x' m' → x ≤ x'
  pub method-first : (x' m' : ℕ) → Reaches q S x' m' → x ≡ x' → m ≤ m'

-- the tree that the tie rule picks: each of its joins is the pick of its set
unfoldable pub Picked : Query → Tree → Type 0
Picked q (scan t) = IsTable q.graph t
Picked q (join x y m) = Picked q x × Picked q y × Pick q (tables_of x + tables_of y) (tables_of x) m

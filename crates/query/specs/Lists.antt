-- A query from the lists as they are lent, and when two tables are two others.
use Rattle.std.specs.Prelude.{Bool, ◌&&◌, ◌||◌, List, ℕ, eqb}
use Rattle.rules.specs.declared.Shape.TheVariants.{Bushy}
use Rattle.rules.specs.Query.{Query, graph_of}
use Rattle.query.specs.declared.lists.Query.{Query as Lent}

-- from the lists as they are lent
abbrev pub query_of : List ℕ → List ℕ → List ℕ → List ℕ → List ℕ → List ℕ → List ℕ → List ℕ → List ℕ → Query
query_of rows scans left right divisors fixed outer inner result = record {
  graph = graph_of rows left right divisors;
  scans = scans;
  fixed = fixed;
  per_outer = outer;
  per_inner = inner;
  per_result = result;
  shape = Bushy;
}

-- the query that lent lists are
abbrev pub query_in : Lent → Query
query_in l = query_of l.rows.now l.scans.now l.left.now l.right.now l.divisors.now l.fixed.now l.per_outer.now l.per_inner.now l.per_result.now

-- x and y are a and b, in this order
abbrev pub is_pair : ℕ → ℕ → ℕ → ℕ → Bool
is_pair x y a b = eqb x a && eqb y b

-- x and y are a and b, "whichever way round"
abbrev pub same_pair : ℕ → ℕ → ℕ → ℕ → Bool
same_pair x y a b = is_pair x y a b || is_pair x y b a

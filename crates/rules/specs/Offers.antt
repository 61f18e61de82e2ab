-- What a candidate offers: the ways round in which it may be joined, each by every method. The log's costs, the laws and the promise of a turn all speak of this.
use Rattle.std.specs.Prelude.{◌≡◌, Bool, cond, ℕ, ◌+◌, ◌≤◌}
use mathlib.Core.List.{List, [], ◌∷◌, Memᴰ}
use Rattle.rules.specs.declared.Shape.{Shape}
use Rattle.rules.specs.Lists.{keep}
use Rattle.rules.specs.Sets.{size}
use Rattle.rules.specs.Query.{Query, method_count}
use Rattle.rules.specs.Trees.{fits, price}

-- a pair as its two sets
pub record Pair : Type 0 where
  pub driving : ℕ
  pub inner : ℕ

-- the set of the pair's result
abbrev pub union : Pair → ℕ
union p = p.driving + p.inner

-- an outer and an inner part
pub record Way : Type 0 where
  pub outer : ℕ
  pub inner : ℕ

-- the driving set as the outer part
abbrev pub along : Pair → Way
along p = record { outer = p.driving; inner = p.inner }

-- and as the inner part
abbrev pub back : Pair → Way
back p = record { outer = p.inner; inner = p.driving }

-- "Either part may be the outer one", where the inner part then fits the shape: so "Above result size 2 a turn prices only the choice with the driving table on the plan's inner side" (laws.Ways)
unfoldable pub ways : Shape → Pair → List Way
ways shape p = keep (λ (w : Way). fits shape (size w.inner)) (along p ∷ back p ∷ [])

-- the same, as a group says it of all its pairs
abbrev pub sides : Bool → Pair → List Way
sides both p = cond both (along p ∷ back p ∷ []) (back p ∷ [])

-- a join of a set: its cost, outer set and method
pub record Choice : Type 0 where
  pub cost : ℕ
  pub outer : ℕ
  pub method : ℕ

-- k joins outer X and inner Y by one of n methods, where that costs `cost X Y m` by method m
pub record Priced (n : ℕ) (cost : ℕ → ℕ → ℕ → ℕ) (X Y : ℕ) (k : Choice) : Type 0 where
  pub outer : k.outer ≡ X
  pub from_one : 1 ≤ k.method
  pub to-count : k.method ≤ n
  pub costs : k.cost ≡ cost X Y k.method

-- "Both outer choices and all methods of a joinable pair are priced in one turn": k is one of these, the outer choices being ws
pub record Offered (ws : List Way) (n : ℕ) (cost : ℕ → ℕ → ℕ → ℕ) (k : Choice) : Type 0 where
  pub way : Way
  pub offered : Memᴰ way ws
  pub priced : Priced n cost way.outer way.inner k

-- "A join of outer X and inner Y costs cost(X) + cost(Y) + .."
abbrev pub join_cost : Query → (ℕ → ℕ) → ℕ → ℕ → ℕ → ℕ
join_cost q costs X Y m = costs X + costs Y + price q X Y m

-- what a pair offers, with its parts at these costs
abbrev pub Offers : Query → (ℕ → ℕ) → Pair → Choice → Type 0
Offers q costs p = Offered (ways q.shape p) (method_count q) (join_cost q costs)

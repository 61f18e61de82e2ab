-- The log's standing cost: "the cost in the result's row after that turn, which is the least over the logged pairs of that set so far".
use Rattle.std.specs.Prelude.{◌≡◌, ℕ, ◌≤◌}
use mathlib.Core.List.{List, Memᴰ}
use Rattle.rules.specs.Query.{Query}
use Rattle.rules.specs.Trees.{Least}
use Rattle.rules.specs.Offers.{Pair, union, Choice, Offers}
use Rattle.rules.specs.Shares.{Numbered}
use Rattle.rules.specs.Turns.{Hand}

-- the pair of a candidate
abbrev pub sets_of : Numbered → Pair
sets_of x = record { driving = x.candidate.driving; inner = x.candidate.inner }

-- the pair that a turn handed
abbrev pub pair_of : Hand Numbered → Pair
pair_of x = sets_of x.candidate

-- c is the cost of one of the choices that the pair offers, over best parts
pub record Prices (q : Query) (p : Pair) (c : ℕ) : Type 0 where
  pub best : ℕ → ℕ
  pub driving-best : Least q p.driving (best p.driving)
  pub inner-best : Least q p.inner (best p.inner)
  pub choice : Choice
  pub offers : Offers q best p choice
  pub costs : c ≡ choice.cost

-- c is the least of the costs that the pairs h price for the set S
pub record Stands (q : Query) (h : List Pair) (S c : ℕ) : Type 0 where
  pub by : Pair
  pub handed : Memᴰ by h
  pub result : union by ≡ S
  pub prices : Prices q by c
  pub least : (p : Pair) → Memᴰ p h → union p ≡ S → (c' : ℕ) → Prices q p c' → c ≤ c'

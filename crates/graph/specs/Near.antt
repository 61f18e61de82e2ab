-- The neighbours of each table as sets, a flood along them, and what it tells.
use Rattle.std.specs.Prelude.{◌≡◌, Bool, true, false, cond, List, ℕ, ◌-◌, ◌^◌, ◌<◌, eqb}
use Rattle.rules.specs.Sets.{holds, Splits, single}
use Rattle.rules.specs.Query.{Graph, table_count, at, IsTable, Linked, Joins}
use Rattle.rules.specs.Connected.{Connected}
use Rattle.rules.specs.laws.Connected.{Within}
use Rattle.graph.specs.Walk.{Apart}

-- the other table of an edge of a and b, as a set, where one of them is t
abbrev pub far_of : ℕ → ℕ → ℕ → ℕ
far_of a b t = cond (eqb a t) (single b) (cond (eqb b t) (single a) 0)

-- r is the set of the tables that one of the first n edges joins to t
pub record NextTo (g : Graph) (t n r : ℕ) : Type 0 where
  pub joined : (u : ℕ) → holds r u ≡ 1 → (i : ℕ) × (i < n) × Joins g i t u
  pub all : (u i : ℕ) → i < n → Joins g i t u → holds r u ≡ 1

-- neighbour sets: table t's stands at t - 1
pub record Near (g : Graph) (near : List ℕ) : Type 0 where
  pub linked : (t u : ℕ) → IsTable g t → holds (at near t) u ≡ 1 → Linked g t u
  pub all : (t u : ℕ) → Linked g t u → holds (at near t) u ≡ 1

-- a flood inside a set: what has been seen, and which of it is still to do
pub record Flood (inside seen todo : ℕ) : Type 0 where
  pub splits : Splits inside seen (inside - seen)
  pub known : Within todo seen

-- what has been seen is connected, and an edge that leads on starts at a table that is still to do
pub record Reached (g : Graph) (inside seen todo : ℕ) : Type 0 where
  pub connected : Connected g seen
  pub onward : (u v : ℕ) → holds seen u ≡ 1 → holds (inside - seen) v ≡ 1 → Linked g u v → holds todo u ≡ 1

-- a flood inside a set from one of the goal's tables: where it misses one, no connected set has the goal; a goal that is all of the set is connected where it misses none
pub record Told (near : List ℕ) (inside goal : ℕ) (r : Bool) : Type 0 where
  pub misses : r ≡ false → (g : Graph) → Near g near → inside < 2 ^ table_count g → Apart g goal inside
  pub meets : r ≡ true → goal ≡ inside → (g : Graph) → Near g near → inside < 2 ^ table_count g → Connected g inside

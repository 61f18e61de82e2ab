-- Writing the rows of all sizes in one walk: places in the list of all rows, and what a node needs and leaves that fills.
use Rattle.std.specs.Prelude.{◌≡◌, List, ◌++◌, map, ◌⊎◌, ℕ, ◌+◌, ◌-◌, ◌≤◌, ◌<◌, length, get_or}
use Rattle.rules.specs.Query.{Graph}
use Rattle.rules.specs.Estimate.{estimate}
use Rattle.rules.specs.Rows.{memo}
use Rattle.graph.specs.declared.chosen.Chosen.{Chosen}
use Rattle.graph.specs.Node.{Node}
use Rattle.parts.specs.Parts.{Valued}
use Rattle.rows.specs.Tally.{found, Tallied}

-- xs stand in M from place a on
pub record Ahead (M : List ℕ) (a : ℕ) (xs : List ℕ) : Type 0 where
  pub front : List ℕ
  pub behind : List ℕ
  pub whole : front ++ (xs ++ behind) ≡ M
  pub place : length front ≡ a

-- a cell is as it was, or holds what W has there
pub record Kept (W old new : List ℕ) : Type 0 where
  pub cells : (i : ℕ) → (get_or new i 0 ≡ get_or old i 0) ⊎ ((i < length W) × (get_or new i 0 ≡ get_or W i 0))

-- where the rows of each size begin that a node finds, in the list of all rows
pub record Placed (g : Graph) (n t chosen z : ℕ) (starts : List ℕ) : Type 0 where
  pub sizes : (s : ℕ) → s ≤ n → Ahead (memo g) (get_or starts s 0) (found g s z t (n + 1 - t) chosen)

-- the cells of each size from its old place to its new one hold what W has there; each other cell is as it was, or does so too
pub record Laid (W : List ℕ) (n : ℕ) (starts ends old new : List ℕ) : Type 0 where
  pub kept : Kept W old new
  pub cells : (s i : ℕ) → s ≤ n → get_or starts s 0 ≤ i → i < get_or ends s 0 → get_or new i 0 ≡ get_or W i 0

-- what a node leaves that fills: each size's place after the rows found, those rows, and their estimates
pub record Filled (g : Graph) (n t chosen z : ℕ) (starts ends out out' values values' : List ℕ) : Type 0 where
  pub places : Tallied g n t chosen z starts ends
  pub sets : Laid (memo g) n starts ends out out'
  pub estimates : Laid (map (estimate g) (memo g)) n starts ends values values'

-- a node that fills: what it knows, and both lists have room for all rows
pub record Filling (g : Graph) (near parts : List ℕ) (n t : ℕ) (chosen : Chosen) (e : ℕ) (starts out values : List ℕ) : Type 0 where
  pub node : Node g near n t chosen
  pub valued : Valued g parts t chosen.set e
  pub smaller : chosen.size < t
  pub long : n < length starts
  pub placed : Placed g n t chosen.set chosen.size starts
  pub room : length (memo g) ≤ length out
  pub estimates-room : length (memo g) ≤ length values

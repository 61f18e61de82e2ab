-- Counting the rows of all sizes in one walk: what a node finds and counts, and the tally.
use Rattle.std.specs.Prelude.{◌≡◌, Bool, cond, List, [], ◌∷◌, ℕ, ◌+◌, ◌-◌, ◌≤◌, ◌<◌, ltb, eqb, length, get_or}
use Rattle.rules.specs.Query.{Graph, table_count}
use Rattle.rules.specs.Rows.{rows_of}
use Rattle.graph.specs.Walk.{walk}
use Rattle.graph.specs.declared.chosen.Chosen.{Chosen}
use Rattle.graph.specs.Node.{Node}

-- the rows of size s that a node finds, where the chosen tables count as z: they have more tables than the chosen ones
unfoldable pub found : Graph → ℕ → ℕ → ℕ → ℕ → ℕ → List ℕ
found g s z t n chosen = cond (ltb z s) (walk g (s - z) t n chosen) []

-- the row of size s that taking one table makes
unfoldable pub here : Bool → ℕ → ℕ → ℕ → List ℕ
here row with z s = cond (eqb s (z + 1)) (cond row (with ∷ []) []) []

-- each size has been counted on by what a node finds of it
pub record Tallied (g : Graph) (n t chosen z : ℕ) (old new : List ℕ) : Type 0 where
  pub sizes : (s : ℕ) → s ≤ n → get_or new s 0 ≡ get_or old s 0 + length (found g s z t (n + 1 - t) chosen)

-- a node that counts: some graph's node, and no count overflows
pub record Counting (near : List ℕ) (n t : ℕ) (chosen : Chosen) (counts : List ℕ) : Type 0 where
  pub g : Graph
  pub node : Node g near n t chosen
  pub smaller : chosen.size < t
  pub long : n < length counts
  pub room : (s : ℕ) → s ≤ n → get_or counts s 0 + length (found g s chosen.size t (n + 1 - t) chosen.set) ≤ 65536

-- how many rows of each size there are: size k's number stands at k
pub record Tally (g : Graph) (counts : List ℕ) : Type 0 where
  pub long : table_count g < length counts
  pub sizes : (k : ℕ) → k < table_count g → get_or counts (k + 1) 0 ≡ length (rows_of g (k + 1))

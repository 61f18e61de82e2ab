-- A node of the walk: what it knows of the tables chosen there, and the two questions that it asks.
use Rattle.std.specs.Prelude.{◌≡◌, Bool, true, List, [], ℕ, ◌+◌, ◌-◌, ◌^◌, ◌≤◌, ◌<◌}
use Rattle.std.specs.Int.Bits.{bit_or}
use Rattle.rules.specs.Limits.{max_tables}
use Rattle.rules.specs.Lists.{is_yes}
use Rattle.rules.specs.Sets.{holds, single}
use Rattle.rules.specs.Query.{Graph, table_count, Linked}
use Rattle.rules.specs.laws.Decide.{connected?}
use Rattle.graph.specs.Walk.{walk, onward}
use Rattle.graph.specs.Near.{Near}
use Rattle.graph.specs.declared.chosen.Chosen.{Chosen}

-- the chosen tables with the one of x, whose neighbours are beside
abbrev pub taking : Chosen → ℕ → ℕ → Bool → Chosen
taking chosen x beside joined = record { set = chosen.set + x; size = chosen.size + 1; around = bit_or chosen.around beside; joined = joined }

-- what is known at a node, where the tables 1 to t - 1 have been taken or left: the chosen ones' neighbours, and whether they are connected
pub record Node (g : Graph) (near : List ℕ) (n t : ℕ) (chosen : Chosen) : Type 0 where
  pub near-sets : Near g near
  pub count : n ≡ table_count g
  pub few : n ≤ max_tables
  pub some : 1 ≤ t
  pub last : t ≤ n + 1
  pub below : chosen.set < 2 ^ (t - 1)
  pub touched : (u : ℕ) → holds chosen.around u ≡ 1 → (v : ℕ) × (holds chosen.set v ≡ 1) × Linked g v u
  pub touches : (u v : ℕ) → holds chosen.set v ≡ 1 → Linked g v u → holds chosen.around u ≡ 1
  pub told : chosen.joined ≡ is_yes (connected? g chosen.set)

-- whether the chosen tables with one more are connected, whichever node asks
pub record Grows (near : List ℕ) (chosen : Chosen) (x : ℕ) (r : Bool) : Type 0 where
  pub told : (g : Graph) (n t : ℕ) → Node g near n t chosen → t ≤ n → x ≡ single t → r ≡ is_yes (connected? g (chosen.set + x))

-- true only where a node's walk meets nothing more
pub record Stuck (near : List ℕ) (chosen : Chosen) (rest : ℕ) (r : Bool) : Type 0 where
  pub none : r ≡ true → (g : Graph) (n t : ℕ) → Node g near n t chosen → rest ≡ onward n t → (k : ℕ) → 0 < k → walk g k t (n + 1 - t) chosen.set ≡ []

-- The rows as a recursion meets them: some tables are chosen, and the ones from table t on are still to be chosen from.
use Rattle.std.specs.Prelude.{List, map, ℕ, ◌+◌, ◌-◌, ◌^◌}
use Rattle.rules.specs.Lists.{keep, is_yes}
use Rattle.rules.specs.Sets.{number}
use Rattle.rules.specs.Query.{Graph}
use Rattle.rules.specs.Connected.{Connected}
use Rattle.rules.specs.Rows.{combos}
use Rattle.rules.specs.laws.Connected.{Within}
use Rattle.rules.specs.laws.Decide.{connected?}

-- the connected sets that add k of the n tables t, t + 1, .. to the chosen ones, in memo order
unfoldable pub walk : Graph → ℕ → ℕ → ℕ → ℕ → List ℕ
walk g k t n chosen = keep (λ (S : ℕ). is_yes (connected? g S)) (map (λ (s : List ℕ). chosen + number s) (combos k t n))

-- the set of the tables t to n
abbrev pub onward : ℕ → ℕ → ℕ
onward n t = 2 ^ n - 2 ^ (t - 1)

-- the chosen tables cannot be joined inside A: no connected set has them all and else only tables of A
pub record Apart (g : Graph) (chosen A : ℕ) : Type 0 where
  pub none : (S : ℕ) → Connected g S → Within chosen S → Within S A → ⊥

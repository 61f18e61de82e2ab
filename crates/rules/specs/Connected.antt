-- A connected set: from any of its tables to any other one walks along edges inside the set.
use Rattle.std.specs.Prelude.{◌≡◌, ℕ, ◌<◌}
use Rattle.rules.specs.Sets.{holds}
use Rattle.rules.specs.Query.{Graph, Linked, IsTable}

-- a walk inside S from table a to table b
pub data Walk (g : Graph) (S a : ℕ) : ℕ → Type 0 where
  here : {b : ℕ} → a ≡ b → holds S b ≡ 1 → Walk g S a b
  step : {b c : ℕ} → Walk g S a b → Linked g b c → holds S c ≡ 1 → Walk g S a c

-- "each nonempty connected set" of a query's tables
pub record Connected (g : Graph) (S : ℕ) : Type 0 where
  pub some : 0 < S
  pub known : (t : ℕ) → holds S t ≡ 1 → IsTable g t
  pub walks : (a b : ℕ) → holds S a ≡ 1 → holds S b ≡ 1 → Walk g S a b

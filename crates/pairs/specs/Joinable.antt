-- "A candidate is joinable if the sets are disjoint and an edge runs between them."
use Rattle.std.specs.Prelude.{Bool, ◌&&◌, ℕ}
use Rattle.rules.specs.Lists.{is_yes}
use Rattle.rules.specs.Sets.{disjoint}
use Rattle.rules.specs.Query.{Graph}
use Rattle.rules.specs.laws.Decide.{between?}

-- the test of rules' `joinable`, of two sets
abbrev pub is_joinable : Graph → ℕ → ℕ → Bool
is_joinable g X Y = disjoint X Y && is_yes (between? g X Y)

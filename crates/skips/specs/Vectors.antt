-- The cells of a skip vector, as they stand in a lent list.
use Rattle.std.specs.Prelude.{cond, List, ℕ, ◌+◌, get_or}
use Rattle.std.proofs.lemmas.List.Edits.{sets}
use Rattle.rules.specs.Sets.{has, rank}

-- the list once the values have been written from a place on
abbrev pub written : List ℕ → ℕ → List ℕ → List ℕ
written = sets

-- the value of table t where the next row has this set and number, and its cells begin at `at`
abbrev pub value_of : ℕ → ℕ → List ℕ → ℕ → ℕ → ℕ
value_of next number cells at t = cond (has next t) (get_or cells (at + rank next t) 0) number

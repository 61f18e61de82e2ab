-- What one table adds to the text of a set.
use Rattle.std.specs.Prelude.{Bool, cond, List, [], ◌∷◌, ℕ}
use Rattle.rules.specs.Sets.{has}
use Rattle.rules.specs.Writing.{comma, digits_of}

-- table t of S, where some lower table stands before it or none does
unfoldable pub table_text : (S t : ℕ) → Bool → List ℕ
table_text S t some = cond (has S t) (cond some (comma ∷ digits_of t) (digits_of t)) []

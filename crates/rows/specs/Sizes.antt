-- The rows of several sizes in a row.
use Rattle.std.specs.Prelude.{List, ℕ}
use Rattle.rules.specs.Lists.{in_row}
use Rattle.rules.specs.Query.{Graph}
use Rattle.rules.specs.Rows.{rows_of}

-- the rows of the sizes 1 to k
abbrev pub up_to : Graph → ℕ → List ℕ
up_to g k = in_row (rows_of g) 1 k

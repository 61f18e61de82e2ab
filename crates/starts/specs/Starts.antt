-- Where each size begins: how many rows, and how many skip cells, the smaller sizes have.
use Rattle.std.specs.Prelude.{List, [], ◌∷◌, ◌++◌, ℕ, zero, suc, ◌+◌, length}
use Rattle.rules.specs.Lists.{in_row}
use Rattle.rules.specs.Query.{Graph, table_count}
use Rattle.rules.specs.Skips.{vectors}
use Rattle.rows.specs.Sizes.{up_to}

-- f 0, f 1, .., n numbers
unfoldable pub counts_to : (ℕ → ℕ) → ℕ → List ℕ
counts_to f zero = []
counts_to f (suc n) = counts_to f n ++ f n ∷ []

-- how many rows have sizes below 0, below 1, .., below N + 1: in cell k, where the rows of size k begin
abbrev pub starts : Graph → List ℕ
starts g = 0 ∷ counts_to (λ k. length (up_to g k)) (table_count g + 1)

-- the skip cells of the sizes 1 to k
abbrev pub cells_to : Graph → ℕ → List ℕ
cells_to g k = in_row (vectors g) 1 k

-- how many skip cells have sizes below 0, below 1, .., below N + 1: in cell k, where the cells of size k begin
abbrev pub cell_starts : Graph → List ℕ
cell_starts g = 0 ∷ counts_to (λ k. length (cells_to g k)) (table_count g + 1)

-- Skip tables (000, section 5.1): "For row i and the j-th table of its set, the value is the least k > i whose row lacks that table, or the row count plus 1."
use Rattle.std.specs.Prelude.{◌≡◌, cond, List, [], ◌∷◌, ◌++◌, map, ℕ, zero, suc, ◌+◌, ◌≤◌, ◌<◌, length, get_or}
use Rattle.rules.specs.Lists.{in_row}
use Rattle.rules.specs.Sets.{holds, has, tables}
use Rattle.rules.specs.Query.{Graph, table_count}
use Rattle.rules.specs.Rows.{rows_of}

-- the row numbered k, "from 1", of the rows of one size
abbrev pub row : List ℕ → ℕ → ℕ
row rows zero = 0
row rows (suc k) = get_or rows k 0

-- k is "the least k > i whose row lacks that table, or the row count plus 1"
pub record Skip (rows : List ℕ) (i t k : ℕ) : Type 0 where
  pub after : i < k
  pub inside : k ≤ length rows + 1
  pub passed : (j : ℕ) → i < j → j < k → holds (row rows j) t ≡ 1
  pub lacks : k ≤ length rows → holds (row rows k) t ≡ 1 → ⊥

-- of the rows that are left, the first of them numbered k, the first that lacks table t
unfoldable pub skip_from : ℕ → ℕ → List ℕ → ℕ
skip_from t k [] = k
skip_from t k (S ∷ rest) = cond (has S t) (skip_from t (suc k) rest) k

-- the vectors of the rows that are left, the first of them numbered i: a value for each table of its set, ascending
unfoldable pub vectors_from : ℕ → ℕ → List ℕ → List ℕ
vectors_from n i [] = []
vectors_from n i (S ∷ rest) = map (λ (t : ℕ). skip_from t (suc i) rest) (tables n S) ++ vectors_from n (suc i) rest

-- the skip table of size k: "rows of one size are numbered from 1"
unfoldable pub vectors : Graph → ℕ → List ℕ
vectors g k = vectors_from (table_count g) 1 (rows_of g k)

-- "Vectors for all sizes, N included, stand one after another in memo order"
unfoldable pub skips : Graph → List ℕ
skips g = in_row (vectors g) 1 (table_count g)

-- The candidates of one group, "met smaller size first, then driving row, then inner row", and which are joinable.
use Rattle.std.specs.Prelude.{Bool, cond, ◌&&◌, List, [], ◌∷◌, ◌++◌, ℕ, suc, eqb, length}
use Rattle.rules.specs.Lists.{is_yes, in_row}
use Rattle.rules.specs.Sets.{disjoint}
use Rattle.rules.specs.Query.{Graph}
use Rattle.rules.specs.Rows.{rows_of}
use Rattle.rules.specs.declared.Group.{Group}
use Rattle.rules.specs.Schedule.{inner_at}
use Rattle.rules.specs.laws.Decide.{between?}

-- a driving row and an inner row that are met
pub record Candidate : Type 0 where
  -- "all D rows of each driving size"
  pub rows : ℕ
  -- "Driving row i, counted from 0 within its size"
  pub row : ℕ
  -- "its inner candidates counted from 0"
  pub count : ℕ
  -- the sets of the two rows
  pub driving : ℕ
  pub inner : ℕ

-- driving row i of D, set X, with each inner set of the list, the first of them counted j
unfoldable pub with_row : ℕ → ℕ → ℕ → ℕ → List ℕ → List Candidate
with_row D i X j [] = []
with_row D i X j (Y ∷ ys) = record { rows = D; row = i; count = j; driving = X; inner = Y } ∷ with_row D i X (suc j) ys

-- driving rows from i on, each with all inner rows of another size
unfoldable pub across : ℕ → ℕ → List ℕ → List ℕ → List Candidate
across D i [] ys = []
across D i (X ∷ xs) ys = with_row D i X 0 ys ++ across D (suc i) xs ys

-- "Where the two are equal the inner row comes after the driving row"
unfoldable pub within : ℕ → ℕ → List ℕ → List Candidate
within D i [] = []
within D i (X ∷ xs) = with_row D i X 0 xs ++ within D (suc i) xs

-- the candidates of a group with driving size d
unfoldable pub driven : (ℕ → List ℕ) → Group → ℕ → List Candidate
driven rows group d = cond (eqb d (inner_at group d)) (within (length (rows d)) 0 (rows d)) (across (length (rows d)) 0 (rows d) (rows (inner_at group d)))

-- with all its driving sizes
unfoldable pub candidates_of : (ℕ → List ℕ) → Group → List Candidate
candidates_of rows group = in_row (driven rows group) 1 group.last

-- all candidates of a group, over the memo's rows
unfoldable pub candidates : Graph → Group → List Candidate
candidates g group = candidates_of (rows_of g) group

-- "A candidate is joinable if the sets are disjoint and an edge runs between them."
unfoldable pub joinable : Graph → Candidate → Bool
joinable g c = disjoint c.driving c.inner && is_yes (between? g c.driving c.inner)

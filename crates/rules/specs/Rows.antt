-- The rows of the memo: "One memo row for each nonempty connected set, ordered by size and then by the ascending sequence of table numbers, compared as numbers".
use Rattle.std.specs.Prelude.{◌≡◌, ◌⊎◌, Bool, true, false, ◌&&◌, ◌||◌, ℕ, zero, suc, ◌<◌, eqb, ltb}
use mathlib.Core.List.{List, [], ◌∷◌, ◌++◌, map, Memᴰ}
use Rattle.rules.specs.Lists.{keep, is_yes, in_row}
use Rattle.rules.specs.Sets.{number}
use Rattle.rules.specs.Query.{Graph, table_count}
use Rattle.rules.specs.laws.Decide.{connected?}

-- sequences "compared as numbers", place by place
unfoldable pub Before : List ℕ → List ℕ → Type 0
Before [] [] = ⊥
Before [] (y ∷ ys) = Unit {0}
Before (x ∷ xs) [] = ⊥
Before (x ∷ xs) (y ∷ ys) = (x < y) ⊎ ((x ≡ y) × Before xs ys)

-- the same as a test
unfoldable pub before : List ℕ → List ℕ → Bool
before [] [] = false
before [] (y ∷ ys) = true
before (x ∷ xs) [] = false
before (x ∷ xs) (y ∷ ys) = ltb x y || (eqb x y && before xs ys)

-- each stands before all that come after it
unfoldable pub Ordered : List (List ℕ) → Type 0
Ordered [] = Unit {0}
Ordered (s ∷ ss) = ((s' : List ℕ) → Memᴰ s' ss → Before s s') × Ordered ss

-- the ascending sequences of k of the n tables t, t + 1, ..: those with t, then those without
unfoldable pub combos : ℕ → ℕ → ℕ → List (List ℕ)
combos zero t n = [] ∷ []
combos (suc k) t zero = []
combos (suc k) t (suc n) = map (λ (s : List ℕ). t ∷ s) (combos k (suc t) n) ++ combos (suc k) (suc t) n

-- the sequences of the connected sets of k tables
unfoldable pub sequences : Graph → ℕ → List (List ℕ)
sequences g k = keep (λ (s : List ℕ). is_yes (connected? g (number s))) (combos k 1 (table_count g))

-- the sets of the memo's rows of size k
unfoldable pub rows_of : Graph → ℕ → List ℕ
rows_of g k = map number (sequences g k)

-- all rows of the memo, by size
unfoldable pub memo : Graph → List ℕ
memo g = in_row (rows_of g) 1 (table_count g)

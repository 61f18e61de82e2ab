-- Tools on lists that several definitions use.
use Rattle.std.specs.Prelude.{Bool, true, false, cond, List, [], ◌∷◌, ◌++◌, ℕ, zero, suc, length, drop}

-- those that pass, in order
unfoldable pub keep : {C : Type 0} → (C → Bool) → List C → List C
keep f [] = []
keep f (c ∷ cs) = cond (f c) (c ∷ keep f cs) (keep f cs)

-- a decision as a test
abbrev pub is_yes : {A : Type 0} → Dec A → Bool
is_yes (yes a) = true
is_yes (no n) = false

-- f k, f (k + 1), .., n of them, one after another
unfoldable pub in_row : {C : Type 0} → (ℕ → List C) → ℕ → ℕ → List C
in_row f k zero = []
in_row f k (suc n) = f k ++ in_row f (suc k) n

-- what stands in a lent list once its first cells hold the values: "spare" ones "are unchanged"
abbrev pub over : List ℕ → List ℕ → List ℕ
over values lent = values ++ drop (length values) lent

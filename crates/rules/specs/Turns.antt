-- The turns of one group, and of all groups in a row. Each worker has a queue of pairs; C is what a pair is.
use Rattle.std.specs.Prelude.{◌≡◌, cond, List, [], ◌∷◌, ◌++◌, ℕ, zero, suc, ◌<◌, eqb}

-- a pair and the worker that was handed it
pub record Hand (C : Type 0) : Type 0 where
  pub worker : ℕ
  pub candidate : C

module _ {C : Type 0} where
  -- a queue after its next pair is handed; "with none left it changes nothing"
  unfoldable pub rest : List C → List C
  rest [] = []
  rest (c ∷ cs) = cs

  -- the queues after worker w's turn
  unfoldable pub pop : ℕ → (ℕ → List C) → ℕ → List C
  pop w qs v = cond (eqb v w) (rest (qs v)) (qs v)

  -- "A turn hands its worker that worker's next joinable pair", or nothing
  unfoldable pub hand : ℕ → List C → List (Hand C)
  hand w [] = []
  hand w (c ∷ cs) = record { worker = w; candidate = c } ∷ []

  -- "no worker has a joinable pair left"
  unfoldable pub Empty : ℕ → (ℕ → List C) → Type 0
  Empty m qs = (w : ℕ) → w < m → qs w ≡ []

  -- "the lowest-numbered worker with a pair left"
  pub record Lowest (m : ℕ) (qs : ℕ → List C) (w : ℕ) : Type 0 where
    pub worker : w < m
    pub left : qs w ≡ [] → ⊥
    pub lower : (v : ℕ) → v < w → qs v ≡ []

  -- one group: from queues qs and entries ts it hands h and leaves the entries u
  pub data Run (m : ℕ) : (ℕ → List C) → List ℕ → List (Hand C) → List ℕ → Type 0 where
    -- "A size closes as soon as no worker has a joinable pair left .. the next entry belongs to the next size"
    closed : {qs : ℕ → List C} {ts : List ℕ} {h : List (Hand C)} {u : List ℕ} → Empty m qs → h ≡ [] → u ≡ ts → Run m qs ts h u
    -- "Each entry of the list is one turn"
    listed : {qs : ℕ → List C} {w : ℕ} {ts : List ℕ} {h h' : List (Hand C)} {u : List ℕ}
        → (Empty m qs → ⊥) → Run m (pop w qs) ts h' u → h ≡ hand w (qs w) ++ h' → Run m qs (w ∷ ts) h u
    -- "When the list is used up, the lowest-numbered worker with a pair left has the turn"
    lowest : {qs : ℕ → List C} {w : ℕ} {h h' : List (Hand C)} {u : List ℕ}
        → Lowest m qs w → Run m (pop w qs) [] h' u → h ≡ hand w (qs w) ++ h' → Run m qs [] h u

  -- n groups from k on, each with the entries that the one before left: they hand h. "Entries left at the end are ignored"
  unfoldable pub Groups : ℕ → (ℕ → ℕ → List C) → ℕ → ℕ → List ℕ → List (Hand C) → Type 0
  Groups m queues k zero ts h = h ≡ []
  Groups m queues k (suc n) ts h = (h₁ h₂ : List (Hand C)) × (u : List ℕ) × Run m (queues k) ts h₁ u × Groups m queues (suc k) n u h₂ × (h ≡ h₁ ++ h₂)

  -- the pairs that worker w was handed, in order
  unfoldable pub only : ℕ → List (Hand C) → List C
  only w [] = []
  only w (x ∷ xs) = cond (eqb x.worker w) (x.candidate ∷ only w xs) (only w xs)

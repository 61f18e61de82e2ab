-- The lines of an answer as runs of bytes, one for each field.
use Rattle.std.specs.Prelude.{◌≡◌, refl, List, [], ◌∷◌, ◌++◌, ℕ}
use Rattle.std.proofs.Common.{sym, ap, ◌∙◌, append_assoc}
use Rattle.rules.specs.Lines.{newline}
use Rattle.rules.specs.Writing.{blank, digits_of, set_text, follow, answer_line, join_line}

-- a field before the rest of a line
field : (p : List ℕ) (ps : List (List ℕ)) (rest : List ℕ) → rest ≡ follow blank ps ++ (newline ∷ []) → (blank ∷ p) ++ rest ≡ follow blank (p ∷ ps) ++ (newline ∷ [])
unfolding follow
field p ps rest e = ap (λ (l : List ℕ). (blank ∷ p) ++ l) e ∙ sym (append_assoc (blank ∷ p) (follow blank ps) (newline ∷ []))

last : newline ∷ [] ≡ follow blank [] ++ (newline ∷ [])
unfolding follow
last = refl

line : (letter : ℕ) (ps : List (List ℕ)) (rest : List ℕ) → rest ≡ follow blank ps ++ (newline ∷ []) → (letter ∷ []) ++ rest ≡ answer_line letter ps
unfolding answer_line
line letter ps rest e = ap (λ (l : List ℕ). letter ∷ l) e

pub two-line : (letter : ℕ) (p r : List ℕ) → (letter ∷ []) ++ ((blank ∷ p) ++ ((blank ∷ r) ++ (newline ∷ []))) ≡ answer_line letter (p ∷ r ∷ [])
two-line letter p r = line letter _ _ (field p _ _ (field r _ _ last))

pub five-line : (letter : ℕ) (p r s t u : List ℕ)
    → (letter ∷ []) ++ ((blank ∷ p) ++ ((blank ∷ r) ++ ((blank ∷ s) ++ ((blank ∷ t) ++ ((blank ∷ u) ++ (newline ∷ [])))))) ≡ answer_line letter (p ∷ r ∷ s ∷ t ∷ u ∷ [])
five-line letter p r s t u = line letter _ _ (field p _ _ (field r _ _ (field s _ _ (field t _ _ (field u _ _ last)))))

-- a J line
pub join_is : (n x y m e c : ℕ)
    → (74 ∷ []) ++ ((blank ∷ set_text n x) ++ ((blank ∷ set_text n y) ++ ((blank ∷ digits_of m) ++ ((blank ∷ digits_of e) ++ ((blank ∷ digits_of c) ++ (newline ∷ [])))))) ≡ join_line n x y m e c
unfolding join_line
join_is n x y m e c = five-line 74 (set_text n x) (set_text n y) (digits_of m) (digits_of e) (digits_of c)

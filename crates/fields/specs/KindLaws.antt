-- What a letter says, and what a good line shows.
use Rattle.std.specs.Prelude.{◌≡◌, refl, Bool, true, false, cond, not, List, [], ◌∷◌, ℕ, suc, ◌≤◌, eqb, length, get_or, None, Option, Some}
use Rattle.std.proofs.Common.{sym, ◌∙◌, ap, arith}
use Rattle.rules.specs.declared.forms.Kind.TheVariants.{Table, Method, Edge, Crew}
use Rattle.rules.specs.declared.forms.Form.{Form}
use Rattle.rules.specs.Lines.{fields}
use Rattle.rules.specs.Reading.{known, letter_of, form_of, all_numbers, number_fields, values, misplaced, excess, line_form, line_number_as}
use Rattle.fields.specs.declared.kinds.Progress.{Progress}
use Rattle.fields.specs.declared.kinds.Record.{Record}
use Rattle.fields.specs.Recorded.{number_as, Recorded}

-- no letter has more than four numbers
abbrev pub numbers_of : Option Form → ℕ
numbers_of (Some f) = f.numbers
numbers_of None = 0

pub letter-few : (b : ℕ) → numbers_of (letter_of b) ≤ 4
unfolding letter_of
letter-few b = go (eqb b 84) (eqb b 77) (eqb b 69) (eqb b 87)
  where
    go : (t m e w : Bool) → numbers_of (cond t (known Table 3) (cond m (known Method 4) (cond e (known Edge 3) (cond w (known Crew 2) None)))) ≤ 4
    go true m e w = omega arith
    go false true e w = omega arith
    go false false true w = omega arith
    go false false false true = omega arith
    go false false false false = omega arith

form-few : (s : List ℕ) → numbers_of (form_of s) ≤ 4
form-few [] = omega arith
form-few (b ∷ []) = letter-few b
form-few (b ∷ c ∷ s) = omega arith

pub known-few : (s : List ℕ) (l : Option Form) (f : Form) → l ≡ form_of s → l ≡ Some f → f.numbers ≤ 4
known-few s l f p q = let e : numbers_of (form_of s) ≡ f.numbers = ap numbers_of (sym p ∙ q) in omega (arith, form-few s)

-- a good line is none too many
pub good-fits : {line : List ℕ} {r : Record} (p : Progress) → 0 ≡ number_as (line_form line) p line → Recorded (line_form line) line r → excess r.kind p.tables p.methods p.edges ≡ false
unfolding line_number_as
good-fits {line} {r} p e d =
    go (not (eqb (length (fields line)) (suc d.numbers))) (not (all_numbers (number_fields line))) (misplaced r.kind p.latest p.tables (get_or (values line) 0 0)) (excess r.kind p.tables p.methods p.edges)
    (sym (ap (λ (l : Option Form). number_as l p line) d.form) ∙ sym e)
  where
    go : (a b c x : Bool) → ◌≡◌ {A = ℕ} (cond a 21 (cond b 22 (cond c 23 (cond x 25 0)))) 0 → x ≡ false
    go true b c x e = absurd (omega arith)
    go false true c x e = absurd (omega arith)
    go false false true x e = absurd (omega arith)
    go false false false true e = absurd (omega arith)
    go false false false false e = refl

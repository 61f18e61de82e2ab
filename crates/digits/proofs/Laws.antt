-- Laws that no proof cites any more, since the check finds their goals: they hold as before.
use Rattle.std.specs.Prelude.{◌≡◌, refl, List, [], ◌∷◌, ◌++◌, map, ℕ, ◌+◌, ◌/◌, ◌%◌, ◌≤◌, ◌<◌}
use Rattle.std.proofs.Common.{sym, ap, ◌∙◌, arith}
use Rattle.rules.specs.Lines.{zero_digit}
use Rattle.rules.specs.Writing.{digits_of}
use Rattle.digits.specs.DigitLaws as laws

map-append : (xs ys : List ℕ) → map digits_of (xs ++ ys) ≡ map digits_of xs ++ map digits_of ys
map-append [] ys = refl
map-append (x ∷ xs) ys = ap (λ (l : List (List ℕ)). digits_of x ∷ l) (map-append xs ys)

pub digits-one : (n : ℕ) → n < 10 → (zero_digit + n) ∷ [] ≡ digits_of n
digits-one n h = let e : n % 10 ≡ n = omega arith in ap (λ (k : ℕ). (zero_digit + k) ∷ []) (sym e) ∙ laws.digits-one n h

-- the tenth is a smaller number
pub tenth-less : (n t : ℕ) → 10 ≤ n → n ≡ t → n / 10 < t
tenth-less n t h e = omega arith

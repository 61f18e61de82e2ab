-- The digits of a number: one below ten, and otherwise those of its tenth and one more.
use Rattle.std.specs.Prelude.{◌≡◌, refl, Bool, true, false, cond, List, [], ◌∷◌, ◌++◌, ℕ, zero, suc, ◌+◌, ◌/◌, ◌%◌, ◌≤◌, ◌<◌, ltb, length}
use Rattle.std.proofs.Common.{ap, not-suc-le-zero, arith, length-append, lt-ltb, le-ltb}
use Rattle.digits.specs.declared.Line.{Line}
use Rattle.digits.specs.PutLaws.{room-first, room_of}
use Rattle.rules.specs.Lines.{zero_digit}
use Rattle.rules.specs.Writing.{digits_by, digits_of}

-- a count of digits is enough where it is no less than the number
by-enough : (k j n : ℕ) → n ≤ k → n ≤ j → digits_by k n ≡ digits_by j n
unfolding digits_by
by-enough zero zero n h g = refl
by-enough zero (suc j) zero h g = refl
by-enough zero (suc j) (suc n) h g = absurd (not-suc-le-zero h)
by-enough (suc k) zero zero h g = refl
by-enough (suc k) zero (suc n) h g = absurd (not-suc-le-zero g)
by-enough (suc k) (suc j) n h g = ap (λ (u : List ℕ). cond (ltb n 10) ((zero_digit + n) ∷ []) (u ++ (zero_digit + n % 10) ∷ [])) (by-enough k j (n / 10) (omega arith) (omega arith))

pub digits-one : (n : ℕ) → n < 10 → (zero_digit + n % 10) ∷ [] ≡ digits_of n
unfolding digits_of digits_by
digits-one zero h = refl
digits-one (suc n) h = let e : suc n % 10 ≡ suc n = omega arith in rw (lt-ltb (suc n) 10 h, e)

pub digits_more : (n : ℕ) → 10 ≤ n → digits_of (n / 10) ++ (zero_digit + n % 10) ∷ [] ≡ digits_of n
unfolding digits_of digits_by
digits_more zero h = absurd (not-suc-le-zero h)
digits_more (suc n) h = rw (le-ltb (suc n) 10 h) (ap (λ (u : List ℕ). u ++ (zero_digit + suc n % 10) ∷ []) (by-enough (suc n / 10) n (suc n / 10) (omega arith) (omega arith)))

by-some : (k n : ℕ) → 0 < length (digits_by k n)
unfolding digits_by
by-some zero n = omega arith
by-some (suc k) n = go (ltb n 10)
  where
    go : (b : Bool) → 0 < length (cond b ((zero_digit + n) ∷ []) (digits_by k (n / 10) ++ (zero_digit + n % 10) ∷ []))
    go true = omega arith
    go false = rw length-append (omega arith)

-- a number has a digit
pub digits-some : (n : ℕ) → 0 < length (digits_of n)
unfolding digits_of
digits-some n = by-some n n

-- the tenth has room where the number has
pub tenth-room : (a : Line) (n : ℕ) → 10 ≤ n → a.at + length (digits_of n) ≤ length a.out.now → a.at + length (digits_of (n / 10)) ≤ length a.out.now
tenth-room a n h l = room-first (digits_of (n / 10)) ((zero_digit + n % 10) ∷ []) (room_of a (digits_more n h) l)

-- A set's number and its ascending sequence of tables: each gives the other back.
use Rattle.std.specs.Prelude.{◌≡◌, refl, List, [], ◌∷◌, ℕ, zero, suc, ◌+◌, ◌*◌, ◌/◌, ◌%◌, ◌^◌, ◌<◌, length}
use Rattle.std.proofs.Common.{sym, ap, ◌∙◌, inl, inr, zero-mul, mul-one, arith, eq-eqb, ne_eqb}
use Rattle.std.proofs.Math.Decide.{ℕ_discrete}
use Rattle.std.specs.Int.Count.{ones_step}
use Rattle.rules.specs.Sets.{size, number, tables_from, tables, Ascending}
use Rattle.rules.specs.laws.Sets.{single-suc, size-zero, Parity, parity}

-- a sequence that ascends from a later table on ascends from an earlier one on
pub ascending-less : (t e : ℕ) (s : List ℕ) → Ascending (suc t) e s → Ascending t e s
unfolding Ascending
ascending-less t e [] r = tt
ascending-less t e (x ∷ s) r = (omega (arith, r.0), r.1, r.2)

-- what tables_from makes, by the lowest digit
module _ (t n S : ℕ) where
  pub tables-with : S % 2 ≡ 1 → tables_from t (suc n) S ≡ t ∷ tables_from (suc t) n (S / 2)
  unfolding tables_from
  tables-with e = rw (eq-eqb (S % 2) 1 e)

  pub tables-without : S % 2 ≡ 0 → tables_from t (suc n) S ≡ tables_from (suc t) n (S / 2)
  unfolding tables_from
  tables-without e = rw (ne_eqb (S % 2) 1 (λ f. omega arith))

pub tables-size : (t n S : ℕ) → S < 2 ^ n → length (tables_from t n S) ≡ size S
unfolding tables_from
tables-size t zero S l = let e : S ≡ 0 = omega arith in rw e (sym size-zero)
tables-size t (suc n) S l = go (tables-size (suc t) n (S / 2) (omega arith)) (parity S)
  where
    go : length (tables_from (suc t) n (S / 2)) ≡ size (S / 2) → Parity S → length (tables_from t (suc n) S) ≡ size S
    go ih (inr e) = rw (tables-with t n S e) (omega (arith, ones_step S))
    go ih (inl e) = rw (tables-without t n S e) (omega (arith, ones_step S))

pub tables-ascending : (t n S : ℕ) → Ascending t (t + n) (tables_from t n S)
unfolding tables_from Ascending
tables-ascending t zero S = tt
tables-ascending t (suc n) S = go (tables-ascending (suc t) n (S / 2)) (parity S)
  where
    shift : suc t + n ≡ t + suc n
    shift = omega arith

    go : Ascending (suc t) (suc t + n) (tables_from (suc t) n (S / 2)) → Parity S → Ascending t (t + suc n) (tables_from t (suc n) S)
    go ih (inr e) = rw (tables-with t n S e) (omega arith, omega arith, rw shift at ih)
    go ih (inl e) = rw (tables-without t n S e) (ascending-less t (t + suc n) (tables_from (suc t) n (S / 2)) (rw shift at ih))

odd : (h p : ℕ) → p + h * (2 * p) ≡ (2 * h + 1) * p
odd h p = omega arith

even : (h p : ℕ) → h * (2 * p) ≡ (2 * h) * p
even h p = omega arith

-- the number of the list is the set, shifted to its first table
pub tables-number : (i n S : ℕ) → S < 2 ^ n → number (tables_from (suc i) n S) ≡ S * 2 ^ i
unfolding tables_from number
tables-number i zero S l = let e : S ≡ 0 = omega arith in rw (e, zero-mul)
tables-number i (suc n) S l = go (tables-number (suc i) n (S / 2) (omega arith)) (parity S)
  where
    double : 2 ^ suc i ≡ 2 * 2 ^ i
    double = omega arith

    go : number (tables_from (suc (suc i)) n (S / 2)) ≡ S / 2 * 2 ^ suc i → Parity S → number (tables_from (suc i) (suc n) S) ≡ S * 2 ^ i
    go ih (inr e) =
        let f : S ≡ 2 * (S / 2) + 1 = omega arith in
        rw (tables-with (suc i) n S e, ih, single-suc i, double, odd (S / 2) (2 ^ i)) (ap (λ (x : ℕ). x * 2 ^ i) (sym f))
    go ih (inl e) =
        let f : S ≡ 2 * (S / 2) = omega arith in
        rw (tables-without (suc i) n S e, ih, double, even (S / 2) (2 ^ i)) (ap (λ (x : ℕ). x * 2 ^ i) (sym f))

-- there and back
pub tables-back : (n S : ℕ) → S < 2 ^ n → number (tables n S) ≡ S
unfolding tables
tables-back n S l = tables-number 0 n S l ∙ mul-one S

-- a list that rises is what its number holds
pub tables-zero : (t n : ℕ) → tables_from t n 0 ≡ []
unfolding tables_from
tables-zero t zero = refl
tables-zero t (suc n) = tables-zero (suc t) n

unfoldable pub From : ℕ → ℕ → List ℕ → Type 0
From i n s = (M : ℕ) × (number s ≡ M * 2 ^ i) × (tables_from (suc i) n M ≡ s)

number-from : (i n : ℕ) (s : List ℕ) → Ascending (suc i) (suc i + n) s → From i n s
unfolding From Ascending number
number-from i n [] r = (0, sym (zero-mul (2 ^ i)), tables-zero (suc i) n)
number-from i zero (x ∷ s) r = absurd (omega (arith, r.0, r.1))
number-from i (suc n) (x ∷ s) r = go (ℕ_discrete x (suc i)) (number-from (suc i) n s) (number-from (suc i) n (x ∷ s))
  where
    shift : suc i + suc n ≡ suc (suc i) + n
    shift = omega arith

    double : 2 ^ suc i ≡ 2 * 2 ^ i
    double = omega arith

    go : Dec (x ≡ suc i) → (Ascending (suc (suc i)) (suc (suc i) + n) s → From (suc i) n s) → (Ascending (suc (suc i)) (suc (suc i) + n) (x ∷ s) → From (suc i) n (x ∷ s)) → From i (suc n) (x ∷ s)
    go (yes e) wi wo =
        let o = wi (rw (e, shift) at r.2) in
        let f : (2 * o.0 + 1) / 2 ≡ o.0 = omega arith in
        (2 * o.0 + 1, rw (e, single-suc i, o.1, double) (odd o.0 (2 ^ i)), rw (tables-with (suc i) n (2 * o.0 + 1) (omega arith), f, o.2, e))
    go (no ne) wi wo =
        let o = wo (omega (arith, r.0), omega (arith, r.1), rw shift at r.2) in
        let f : (2 * o.0) / 2 ≡ o.0 = omega arith in
        (2 * o.0, rw (o.1, double) (even o.0 (2 ^ i)), rw (tables-without (suc i) n (2 * o.0) (omega arith), f) o.2)

pub number-back : (n : ℕ) (s : List ℕ) → Ascending 1 (1 + n) s → tables n (number s) ≡ s
unfolding From tables
number-back n s r = let o = number-from 0 n s r in rw (o.1, mul-one) o.2

-- two rising lists with one number are one list
pub number-inj : (n : ℕ) (s s' : List ℕ) → Ascending 1 (1 + n) s → Ascending 1 (1 + n) s' → number s ≡ number s' → s ≡ s'
number-inj n s s' r r' e = sym (number-back n s r) ∙ ap (tables n) e ∙ number-back n s' r'

-- A number's digits read one by one, and what each way out of the reader shows.
use Rattle.std.specs.Prelude.{◌≡◌, ◌⊎◌, MatchOption, true, false, cond, ◌&&◌, List, ℕ, ◌≤◌, ◌<◌, ◌+◌, ◌*◌, ◌-◌, ◌^◌, eqb, leb, length, drop, get_or}
use Rattle.std.proofs.Common.{sym, ◌∙◌, inl, inr, pow-suc, arith, add-one, drop_of_length-le, drop-cons}
use borrow.Author.Tests.{le-leb, lt-leb}
use Rattle.rules.specs.Limits.{max_digits, max_number}
use Rattle.std.specs.Char.{is_ascii_digit}
use Rattle.rules.specs.Lines.{zero_digit, is_digit, all_digits, value_from, value_of, zero_led, is_number, number_of}
use Rattle.rules.specs.laws.Bools.{true-or-false, and_true_r}
use Rattle.std.proofs.lemmas.Bool.{leb-true, eqb-true, eqb-false}
use Rattle.std.specs.Prelude.{None, Option, Some}

-- ---- digits
-- the digits of v and then the bytes; None where one is no digit
abbrev pub digits_from : ℕ → List ℕ → Option ℕ
digits_from v s = cond (all_digits s) (Some (value_from v s)) None

module _ (s : List ℕ) (v i : ℕ) (l : i < length s) where
  abbrev b : ℕ
  b = get_or s i 0

  opened : digits_from v (drop i s) ≡ cond (is_digit b && all_digits (drop (i + 1) s)) (Some (value_from (v * 10 + (b - zero_digit)) (drop (i + 1) s))) None
  unfolding all_digits value_from
  opened = rw (drop-cons s i 0 l, add-one)

  pub digits-none : is_ascii_digit b ≡ false → digits_from v (drop i s) ≡ None
  digits-none h = opened ∙ rw h

  pub digits-next : is_ascii_digit b ≡ true → digits_from v (drop i s) ≡ digits_from (v * 10 + (b - zero_digit)) (drop (i + 1) s)
  digits-next h = opened ∙ rw h

pub digits-end : (s : List ℕ) (v i : ℕ) → length s ≤ i → digits_from v (drop i s) ≡ Some v
unfolding all_digits value_from
digits-end s v i l = rw (drop_of_length-le s {i = i} l)

-- a value of i digits is below 10 ^ i
pub power-next : (v i b : ℕ) → v < 10 ^ i → is_ascii_digit b ≡ true → v * 10 + (b - zero_digit) < 10 ^ (i + 1)
power-next v i b h d = let k = leb-true b (zero_digit + 9) (and_true_r (leb zero_digit b) (leb b (zero_digit + 9)) d) in rw (add-one, pow-suc) (omega arith)

-- ---- a number
pub number-empty : (s : List ℕ) → eqb (length s) 0 ≡ true → None ≡ number_of s
unfolding is_number
number-empty s h = rw (eqb-true (length s) 0 h)

module _ (s : List ℕ) (f : eqb (length s) 0 ≡ false) where
  some : 0 < length s
  some = let n = eqb-false (length s) 0 f in omega arith

  pub number-long : max_digits < length s → None ≡ number_of s
  unfolding is_number
  number-long l = rw (le-leb 1 (length s) (omega (arith, some)), lt-leb (length s) max_digits l)

  module _ (l : length s ≤ max_digits) where
    pub number-led : zero_led s ≡ true → None ≡ number_of s
    unfolding is_number
    number-led z = rw (le-leb 1 (length s) (omega (arith, some)), le-leb (length s) max_digits l, z)

    -- what is left to ask is its digits
    module _ (z : zero_led s ≡ false) where
      plain : number_of s ≡ cond (all_digits s && leb (value_of s) max_number) (Some (value_of s)) None
      unfolding is_number
      plain = rw (le-leb 1 (length s) (omega (arith, some)), le-leb (length s) max_digits l, z)

      pub number-kept : (d r : Option ℕ) → d ≡ digits_from 0 s → MatchOption d (r ≡ None) (λ v. r ≡ cond (leb v max_number) (Some v) None) → r ≡ number_of s
      number-kept d r p m = go (true-or-false (all_digits s))
        where
          go : (all_digits s ≡ true) ⊎ (all_digits s ≡ false) → r ≡ number_of s
          go (inl a) = let f : r ≡ cond (leb (value_of s) max_number) (Some (value_of s)) None = rw (p, a) at m in f ∙ sym (plain ∙ rw a)
          go (inr a) = let f : r ≡ None = rw (p, a) at m in f ∙ sym (plain ∙ rw a)

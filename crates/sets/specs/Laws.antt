-- Laws of sets of tables that the code leans on, for any width.
use Rattle.std.specs.Prelude.{◌≡◌, refl, ◌⊎◌, true, false, List, [], ◌∷◌, ℕ, zero, suc, ◌+◌, ◌-◌, ◌*◌, ◌/◌, ◌%◌, ◌^◌, ◌≤◌, ◌<◌, eqb, ltb, get_or}
use Rattle.std.proofs.Common.{sym, ap, ◌∙◌, inl, inr, ⊎_elim, one-mul, le_antisymm, add-one, arith, lit<, shl_exact, pow_mono, lt-ltb, le-ltb, eq-eqb, ne_eqb}
use Rattle.std.proofs.Math.Nat.{mod-one}
use Rattle.std.proofs.Math.Decide.{dec_lt}
use Rattle.std.specs.Int.Bits.{bit_xor, xor_shr, xor_add_and}
use Rattle.std.proofs.lemmas.Nat.{and_le_l, and_le_r}
use Rattle.std.specs.Int.Count.{ones, ones_step, count_trailing_zeros}
use Rattle.std.proofs.Math.Pow.{field, mod-mod-pow}
use Rattle.rules.specs.Sets.{holds, size, tables_from, tables, rank, Lowest}
use Rattle.rules.specs.Rows.{before}
use Rattle.rules.specs.laws.Sets.{bit, bit-div, bit-lt, bit-of-zero, holds-bit, holds-none, single-suc, size-zero, Parity, parity}
use Rattle.rules.specs.laws.Tables.{tables-with, tables-without, tables-zero}
use Rattle.sets.specs.Order.{key}

-- ---- the code's forms

-- table t is digit t - 1
pub holds-digit : (S t : ℕ) → 1 ≤ t → holds S t ≡ S / 2 ^ (t - 1) % 2
holds-digit S zero h = absurd (omega arith)
holds-digit S (suc i) h = let e : suc i - 1 ≡ i = omega arith in rw (e, holds-bit) (bit-div i S)

-- a shifted one loses nothing
pub shifted_one : (k : ℕ) → k < 64 → 1 * 2 ^ k % 2 ^ 64 ≡ 2 ^ k
shifted_one k h = shl_exact 1 k 64 (lit< tt) (omega arith) ∙ one-mul (2 ^ k)

-- ---- the lowest table
tz-none : (S : ℕ) → count_trailing_zeros 0 S ≡ 0
unfolding count_trailing_zeros
tz-none S = refl

module _ (k S : ℕ) where
  tz-even : S % 2 ≡ 0 → count_trailing_zeros (suc k) S ≡ suc (count_trailing_zeros k (S / 2))
  unfolding count_trailing_zeros
  tz-even e = rw e

  tz_odd : S % 2 ≡ 1 → count_trailing_zeros (suc k) S ≡ 0
  unfolding count_trailing_zeros
  tz_odd e = rw e

pub trailing-in : (k S : ℕ) → 0 < S → S < 2 ^ k → bit (count_trailing_zeros k S) S ≡ 1
unfolding bit
trailing-in zero S h l = absurd (omega arith)
trailing-in (suc k) S h l =
    ⊎_elim (λ e. rw (tz-even k S e) (trailing-in k (S / 2) (omega arith) (omega arith))) (λ e. rw (tz_odd k S e) e) (parity S)

pub trailing-least : (k S j : ℕ) → bit j S ≡ 1 → count_trailing_zeros k S ≤ j
unfolding bit
trailing-least zero S j h = omega (arith, tz-none S)
trailing-least (suc k) S zero h = omega (arith, tz_odd k S h)
trailing-least (suc k) S (suc j) h =
    ⊎_elim (λ e. omega (arith, tz-even k S e, trailing-least k (S / 2) j h)) (λ e. omega (arith, tz_odd k S e)) (parity S)

-- below the width of the set, whatever the width that was looked at
pub trailing_lt : (k n S : ℕ) → 0 < S → S < 2 ^ n → n ≤ k → count_trailing_zeros k S < n
trailing_lt k n S h l g = bit-lt n (count_trailing_zeros k S) S l (trailing-in k S h (omega (arith, pow_mono {i = n} {j = k} g)))

-- a set has one lowest table
pub lowest-unique : {S t u : ℕ} → Lowest S t → Lowest S u → t ≡ u
lowest-unique {S} {t} {u} a b = le_antisymm (a.least u b.stands) (b.least t a.stands)

-- as the code finds it: a digit's place, plus 1
pub lowest-is : (k S : ℕ) → 0 < S → S < 2 ^ k → Lowest S (count_trailing_zeros k S + 1)
lowest-is k S h l = record {
  stands = rw (add-one (count_trailing_zeros k S), holds-bit) (trailing-in k S h l);
  least = least;
}
  where
    least : (u : ℕ) → holds S u ≡ 1 → count_trailing_zeros k S + 1 ≤ u
    least zero e = absurd (omega (arith, holds-none S))
    least (suc j) e = omega (arith, trailing-least k S j (rw holds-bit at e))

-- ---- the ascending sequence, by the lowest digit
tables-none : (t S : ℕ) → tables_from t 0 S ≡ []
unfolding tables_from
tables-none t S = refl

-- a set below 2 ^ n has one sequence, whatever the width from n on
tables-from-width : (t n m S : ℕ) → S < 2 ^ n → n ≤ m → tables_from t n S ≡ tables_from t m S
tables-from-width t zero m S l h = let e : S ≡ 0 = omega arith in rw e (tables-none t 0 ∙ sym (tables-zero t m))
tables-from-width t (suc n) zero S l h = absurd (omega arith)
tables-from-width t (suc n) (suc m) S l h =
    let ih : tables_from (suc t) n (S / 2) ≡ tables_from (suc t) m (S / 2) = tables-from-width (suc t) n m (S / 2) (omega arith) (omega arith) in
    ⊎_elim (λ e. rw (tables-without t n S e, tables-without t m S e) ih) (λ e. rw (tables-with t n S e, tables-with t m S e, ih)) (parity S)

pub tables-width : (n m S : ℕ) → S < 2 ^ n → n ≤ m → tables n S ≡ tables m S
unfolding tables
tables-width = tables-from-width 1

-- ---- the rank of a table
module _ (S i : ℕ) where
  mod-half : S % 2 ^ suc i / 2 ≡ S / 2 % 2 ^ i
  mod-half = ap (λ (k : ℕ). S % 2 ^ k / 2) (sym (add-one i)) ∙ field S i 1

  mod_low : S % 2 ^ suc i % 2 ≡ S % 2
  mod_low = ap (λ (k : ℕ). S % 2 ^ k % 2) (sym (add-one i)) ∙ mod-mod-pow S i 1

  ones-mod : ones (S % 2 ^ suc i) ≡ S % 2 + ones (S / 2 % 2 ^ i)
  ones-mod = ones_step (S % 2 ^ suc i) ∙ rw (mod-half, mod_low)

  ones-mod-even : S % 2 ≡ 0 → ones (S % 2 ^ suc i) ≡ ones (S / 2 % 2 ^ i)
  ones-mod-even e = omega (arith, ones-mod)

  ones-mod-odd : S % 2 ≡ 1 → ones (S % 2 ^ suc i) ≡ suc (ones (S / 2 % 2 ^ i))
  ones-mod-odd e = omega (arith, ones-mod)

ones-mod-none : (S : ℕ) → ones (S % 2 ^ 0) ≡ 0
ones-mod-none S = ap ones (mod-one S) ∙ size-zero

digit_at : (t n i S : ℕ) → i < n → bit i S ≡ 1 → get_or (tables_from t n S) (ones (S % 2 ^ i)) 0 ≡ t + i
unfolding bit
digit_at t zero i S h b = absurd (omega arith)
digit_at t (suc n) zero S h b = rw (tables-with t n S b, ones-mod-none S) (omega arith)
digit_at t (suc n) (suc i) S h b =
    let ih : get_or (tables_from (suc t) n (S / 2)) (ones (S / 2 % 2 ^ i)) 0 ≡ suc t + i = digit_at (suc t) n i (S / 2) (omega arith) b in
    let e : suc t + i ≡ t + suc i = omega arith in
    ⊎_elim (λ o. rw (tables-without t n S o, ones-mod-even S i o) (ih ∙ e)) (λ o. rw (tables-with t n S o, ones-mod-odd S i o) (ih ∙ e)) (parity S)

-- the table at rank S t, from 0, is t
pub rank-at : (n S t : ℕ) → S < 2 ^ n → holds S t ≡ 1 → get_or (tables n S) (rank S t) 0 ≡ t
unfolding tables
rank-at n S zero l h = absurd (omega (arith, holds-none S))
rank-at n S (suc i) l h =
    let b : bit i S ≡ 1 = rw holds-bit at h in
    rw (single-suc i) (digit_at 1 n i S (bit-lt n i S l b) b ∙ omega arith)

ones-mod-lt : (i S : ℕ) → bit i S ≡ 1 → ones (S % 2 ^ i) < ones S
unfolding bit
ones-mod-lt zero S b = omega (arith, ones-mod-none S, ones_step S)
ones-mod-lt (suc i) S b = omega (arith, ones-mod S i, ones_step S, ones-mod-lt i (S / 2) b)

pub rank_lt : (S t : ℕ) → holds S t ≡ 1 → rank S t < size S
rank_lt S zero h = absurd (omega (arith, holds-none S))
rank_lt S (suc i) h = rw (single-suc i) (ones-mod-lt i S (rw holds-bit at h))

-- ---- memo order

before-less : (x y : ℕ) (l m : List ℕ) → x < y → before (x ∷ l) (y ∷ m) ≡ true
unfolding before
before-less x y l m h = rw (lt-ltb x y h)

before_more : (x y : ℕ) (l m : List ℕ) → y < x → before (x ∷ l) (y ∷ m) ≡ false
unfolding before
before_more x y l m h = rw (le-ltb x y (omega arith), ne_eqb x y (λ e. omega arith))

before_same : (x : ℕ) (l m : List ℕ) → before (x ∷ l) (x ∷ m) ≡ before l m
unfolding before
before_same x l m = rw (le-ltb x x (omega arith), eq-eqb x x refl)

before-none : before [] [] ≡ false
unfolding before
before-none = refl

pub before_self : (l : List ℕ) → before l l ≡ false
before_self [] = before-none
before_self (x ∷ l) = before_same x l l ∙ before_self l

-- a sequence that begins with a lower table stands before
before-low : (t n u S : ℕ) (l : List ℕ) → u < t → 0 < S → S < 2 ^ n → before (u ∷ l) (tables_from t n S) ≡ true
before-low t zero u S l h p q = absurd (omega arith)
before-low t (suc n) u S l h p q = go (before-low (suc t) n u (S / 2) l (omega arith)) (parity S)
  where
    go : (0 < S / 2 → S / 2 < 2 ^ n → before (u ∷ l) (tables_from (suc t) n (S / 2)) ≡ true) → Parity S → before (u ∷ l) (tables_from t (suc n) S) ≡ true
    go ih (inl e) = rw (tables-without t n S e) (ih (omega arith) (omega arith))
    go ih (inr e) = rw (tables-with t n S e) (before-less u t l (tables_from (suc t) n (S / 2)) h)

before-high : (t n u S : ℕ) (l : List ℕ) → u < t → 0 < S → S < 2 ^ n → before (tables_from t n S) (u ∷ l) ≡ false
before-high t zero u S l h p q = absurd (omega arith)
before-high t (suc n) u S l h p q = go (before-high (suc t) n u (S / 2) l (omega arith)) (parity S)
  where
    go : (0 < S / 2 → S / 2 < 2 ^ n → before (tables_from (suc t) n (S / 2)) (u ∷ l) ≡ false) → Parity S → before (tables_from t (suc n) S) (u ∷ l) ≡ false
    go ih (inl e) = rw (tables-without t n S e) (ih (omega arith) (omega arith))
    go ih (inr e) = rw (tables-with t n S e) (before_more t u (tables_from (suc t) n (S / 2)) l h)

-- two sets, by their lowest digits: they agree there, or the table is a's, or it is b's
abbrev Digits : ℕ → ℕ → Type 0
Digits a b = (a % 2 ≡ b % 2) ⊎ (((a % 2 ≡ 1) × (b % 2 ≡ 0)) ⊎ ((a % 2 ≡ 0) × (b % 2 ≡ 1)))

digits : (a b : ℕ) → Digits a b
digits a b = go (parity a) (parity b)
  where
    go : Parity a → Parity b → Digits a b
    go (inl e) (inl f) = inl (e ∙ sym f)
    go (inl e) (inr f) = inr (inr (e, f))
    go (inr e) (inl f) = inr (inl (e, f))
    go (inr e) (inr f) = inl (e ∙ sym f)

-- of two sets of one size, where the lowest digit is a's alone, b has a higher table
other-table : (a b : ℕ) → size a ≡ size b → a % 2 ≡ 1 → b % 2 ≡ 0 → 0 < b / 2
other-table a b h ea eb = some (b / 2) (omega (arith, ones_step a, ones_step b))
  where
    some : (S : ℕ) → 0 < size S → 0 < S
    some zero p = absurd (omega (arith, size-zero))
    some (suc S) p = omega arith

half-size : (a b : ℕ) → size a ≡ size b → a % 2 ≡ b % 2 → size (a / 2) ≡ size (b / 2)
half-size a b h e = omega (arith, ones_step a, ones_step b)

module _ (t n a b : ℕ) (ha : a < 2 ^ suc n) (hb : b < 2 ^ suc n) (h : size a ≡ size b) where
  first-a : a % 2 ≡ 1 → b % 2 ≡ 0 → before (tables_from t (suc n) a) (tables_from t (suc n) b) ≡ true
  first-a ea eb =
      rw (tables-with t n a ea, tables-without t n b eb) (before-low (suc t) n t (b / 2) (tables_from (suc t) n (a / 2)) (omega arith) (other-table a b h ea eb) (omega arith))

  first-b : a % 2 ≡ 0 → b % 2 ≡ 1 → before (tables_from t (suc n) a) (tables_from t (suc n) b) ≡ false
  first-b ea eb =
      rw (tables-without t n a ea, tables-with t n b eb) (before-high (suc t) n t (a / 2) (tables_from (suc t) n (b / 2)) (omega arith) (other-table b a (sym h) eb ea) (omega arith))

before-half : (t n a b : ℕ) → a % 2 ≡ b % 2
    → before (tables_from t (suc n) a) (tables_from t (suc n) b) ≡ before (tables_from (suc t) n (a / 2)) (tables_from (suc t) n (b / 2))
before-half t n a b e = go (parity b)
  where
    go : Parity b → before (tables_from t (suc n) a) (tables_from t (suc n) b) ≡ before (tables_from (suc t) n (a / 2)) (tables_from (suc t) n (b / 2))
    go (inl f) = rw (tables-without t n a (e ∙ f), tables-without t n b f)
    go (inr f) = rw (tables-with t n a (e ∙ f), tables-with t n b f) (before_same t (tables_from (suc t) n (a / 2)) (tables_from (suc t) n (b / 2)))

-- sets differ where their exclusive or has a digit
pub xor_same : (a b : ℕ) → bit_xor a b ≡ 0 → a ≡ b
xor_same a b h = omega (arith, xor_add_and a b, and_le_l a b, and_le_r a b)

xor_low : (a b : ℕ) → bit_xor a b % 2 ≡ (a + b) % 2
xor_low a b = omega (arith, xor_add_and a b)

-- a's digit at the lowest place where a and b differ: this one, or one of their halves
module _ (k a b : ℕ) where
  here : bit_xor a b % 2 ≡ 1 → bit (count_trailing_zeros (suc k) (bit_xor a b)) a ≡ a % 2
  unfolding bit
  here e = rw (tz_odd k (bit_xor a b) e)

  later : bit_xor a b % 2 ≡ 0 → bit (count_trailing_zeros (suc k) (bit_xor a b)) a ≡ bit (count_trailing_zeros k (bit_xor (a / 2) (b / 2))) (a / 2)
  unfolding bit
  later e = rw (tz-even k (bit_xor a b) e, xor_shr a b 1)

-- of two sets of one size, the one that holds the lowest table in which they differ stands first
before-lowest-from : (t n k a b : ℕ) → n ≤ k → a < 2 ^ n → b < 2 ^ n → size a ≡ size b
    → before (tables_from t n a) (tables_from t n b) ≡ eqb (bit (count_trailing_zeros k (bit_xor a b)) a) 1
before-lowest-from t zero k a b g ha hb h = let e : a ≡ 0 = omega arith in rw (tables-none t a, tables-none t b, e, bit-of-zero) before-none
before-lowest-from t (suc n) zero a b g ha hb h = absurd (omega arith)
before-lowest-from t (suc n) (suc k) a b g ha hb h = go (before-lowest-from (suc t) n k (a / 2) (b / 2) (omega arith) (omega arith) (omega arith)) (digits a b)
  where
    go : (size (a / 2) ≡ size (b / 2)
        → before (tables_from (suc t) n (a / 2)) (tables_from (suc t) n (b / 2)) ≡ eqb (bit (count_trailing_zeros k (bit_xor (a / 2) (b / 2))) (a / 2)) 1)
        → Digits a b → before (tables_from t (suc n) a) (tables_from t (suc n) b) ≡ eqb (bit (count_trailing_zeros (suc k) (bit_xor a b)) a) 1
    go ih (inl e) = rw (before-half t n a b e, later k a b (omega (arith, xor_low a b))) (ih (half-size a b h e))
    go ih (inr (inl d)) = rw (first-a t n a b ha hb h d.0 d.1, here k a b (omega (arith, xor_low a b)), d.0)
    go ih (inr (inr d)) = rw (first-b t n a b ha hb h d.0 d.1, here k a b (omega (arith, xor_low a b)), d.0)

pub before-lowest : (n k a b : ℕ) → n ≤ k → a < 2 ^ n → b < 2 ^ n → size a ≡ size b
    → before (tables n a) (tables n b) ≡ eqb (a / 2 ^ count_trailing_zeros k (bit_xor a b) % 2) 1
unfolding tables
before-lowest n k a b g ha hb h = before-lowest-from 1 n k a b g ha hb h ∙ rw bit-div

-- the width does not matter
pub before-width : (n m a b : ℕ) → n ≤ m → a < 2 ^ n → b < 2 ^ n → before (tables n a) (tables n b) ≡ before (tables m a) (tables m b)
before-width n m a b g ha hb = rw (tables-width n m a ha g, tables-width n m b hb g)

-- ---- memo order as `<` on keys
key-none : (S : ℕ) → key 0 S ≡ 0
unfolding key
key-none S = refl

module _ (n S : ℕ) where
  key-even : S % 2 ≡ 0 → key (suc n) S ≡ key n (S / 2)
  unfolding key
  key-even e = rw e (omega arith)

  key-odd : S % 2 ≡ 1 → key (suc n) S ≡ 2 ^ n + key n (S / 2)
  unfolding key
  key-odd e = rw e (omega arith)

pub key-lt : (n S : ℕ) → key n S < 2 ^ n
key-lt zero S = omega (arith, key-none S)
key-lt (suc n) S = ⊎_elim (λ e. omega (arith, key-even n S e, key-lt n (S / 2))) (λ e. omega (arith, key-odd n S e, key-lt n (S / 2))) (parity S)

-- the lowest digit weighs most
key_more : (n a b : ℕ) → a % 2 ≡ 1 → b % 2 ≡ 0 → key (suc n) b < key (suc n) a
key_more n a b ea eb = omega (arith, key-odd n a ea, key-even n b eb, key-lt n (b / 2))

ltb-shift : (p c d : ℕ) → ltb (p + c) (p + d) ≡ ltb c d
ltb-shift p c d = go (dec_lt c d)
  where
    go : Dec (c < d) → ltb (p + c) (p + d) ≡ ltb c d
    go (yes h) = lt-ltb (p + c) (p + d) (omega arith) ∙ sym (lt-ltb c d h)
    go (no h) = le-ltb (p + c) (p + d) (omega arith) ∙ sym (le-ltb c d (omega arith))

key-half : (n a b : ℕ) → a % 2 ≡ b % 2 → ltb (key (suc n) b) (key (suc n) a) ≡ ltb (key n (b / 2)) (key n (a / 2))
unfolding key
key-half n a b e = rw e (ltb-shift (b % 2 * 2 ^ n) (key n (b / 2)) (key n (a / 2)))

before-key-from : (t n a b : ℕ) → a < 2 ^ n → b < 2 ^ n → size a ≡ size b → before (tables_from t n a) (tables_from t n b) ≡ ltb (key n b) (key n a)
before-key-from t zero a b ha hb h = rw (tables-none t a, tables-none t b, key-none a, key-none b) before-none
before-key-from t (suc n) a b ha hb h = go (before-key-from (suc t) n (a / 2) (b / 2) (omega arith) (omega arith)) (digits a b)
  where
    go : (size (a / 2) ≡ size (b / 2) → before (tables_from (suc t) n (a / 2)) (tables_from (suc t) n (b / 2)) ≡ ltb (key n (b / 2)) (key n (a / 2)))
        → Digits a b → before (tables_from t (suc n) a) (tables_from t (suc n) b) ≡ ltb (key (suc n) b) (key (suc n) a)
    go ih (inl e) = before-half t n a b e ∙ ih (half-size a b h e) ∙ sym (key-half n a b e)
    go ih (inr (inl d)) = first-a t n a b ha hb h d.0 d.1 ∙ sym (lt-ltb (key (suc n) b) (key (suc n) a) (key_more n a b d.0 d.1))
    go ih (inr (inr d)) = first-b t n a b ha hb h d.0 d.1 ∙ sym (le-ltb (key (suc n) b) (key (suc n) a) (omega (arith, key_more n b a d.1 d.0)))

-- of two sets of one size, the one with the larger key stands first
pub before-key : (n a b : ℕ) → a < 2 ^ n → b < 2 ^ n → size a ≡ size b → before (tables n a) (tables n b) ≡ ltb (key n b) (key n a)
unfolding tables
before-key = before-key-from 1

-- a key says which set it is
pub key-same : (n a b : ℕ) → a < 2 ^ n → b < 2 ^ n → key n a ≡ key n b → a ≡ b
key-same zero a b ha hb h = omega arith
key-same (suc n) a b ha hb h = go (key-same n (a / 2) (b / 2) (omega arith) (omega arith)) (digits a b)
  where
    half : a % 2 ≡ b % 2 → key n (a / 2) ≡ key n (b / 2)
    half e =
        ⊎_elim (λ f. omega (arith, key-even n a (e ∙ f), key-even n b f)) (λ f. omega (arith, key-odd n a (e ∙ f), key-odd n b f))
        (parity b)

    go : (key n (a / 2) ≡ key n (b / 2) → a / 2 ≡ b / 2) → Digits a b → a ≡ b
    go ih (inl e) = omega (arith, ih (half e))
    go ih (inr (inl d)) = absurd (omega (arith, key_more n a b d.0 d.1))
    go ih (inr (inr d)) = absurd (omega (arith, key_more n b a d.1 d.0))

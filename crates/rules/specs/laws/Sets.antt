-- Laws of sets of tables, for any width.
use Rattle.std.specs.Prelude.{◌≡◌, refl, ◌⊎◌, ℕ, zero, suc, ◌+◌, ◌-◌, ◌*◌, ◌/◌, ◌%◌, ◌^◌, ◌≤◌, ◌<◌}
use Rattle.std.proofs.Common.{sym, ap, ◌∙◌, inl, inr, suc-le-suc, le_refl, zero-add, le_of_suc-le-suc, div-one, add_comm, add-one, shr-shr, arith}
use Rattle.std.proofs.Math.Decide.{dec_lt, ℕ_discrete}
use Rattle.std.proofs.Math.Arith.{bin_ind}
use Rattle.std.specs.Int.Bits.{and_step, and_zero_l}
use Rattle.std.proofs.lemmas.Nat.{and_comm}
use Rattle.std.specs.Int.Count.{ones, ones_step, ones-ones}
use Rattle.rules.specs.Sets.{holds, Disjoint, Splits, size, single}

-- digit i of S, from 0, by halving: the form for induction
unfoldable pub bit : ℕ → ℕ → ℕ
bit zero S = S % 2
bit (suc i) S = bit i (S / 2)

-- digit i is what a shift and a remainder show
pub bit-div : (i S : ℕ) → bit i S ≡ S / 2 ^ i % 2
unfolding bit
bit-div zero S = rw div-one
bit-div (suc i) S = bit-div i (S / 2) ∙ ap (λ (x : ℕ). x % 2) (shr-shr S 1 i ∙ ap (λ (k : ℕ). S / 2 ^ k) (add_comm 1 i ∙ add-one i))

-- table t is digit t - 1
pub holds-bit : (S i : ℕ) → holds S (suc i) ≡ bit i S
unfolding holds
holds-bit S i = sym (bit-div i S)

pub holds-none : (S : ℕ) → holds S 0 ≡ 0
unfolding holds
holds-none S = refl

pub disjoint-sym : (a b : ℕ) → Disjoint a b → Disjoint b a
disjoint-sym a b h = and_comm b a ∙ h

pub disjoint-half : (a b : ℕ) → Disjoint a b → Disjoint (a / 2) (b / 2)
disjoint-half a b h = omega (arith, and_step a b)

pub disjoint-low : (a b : ℕ) → Disjoint a b → a % 2 + b % 2 ≤ 1
disjoint-low a b h = omega (arith, and_step a b)

pub sum-half : (a b : ℕ) → Disjoint a b → (a + b) / 2 ≡ a / 2 + b / 2
sum-half a b h = omega (arith, disjoint-low a b h)

pub sum_low : (a b : ℕ) → Disjoint a b → (a + b) % 2 ≡ a % 2 + b % 2
sum_low a b h = omega (arith, disjoint-low a b h)

pub bit-sum : (i a b : ℕ) → Disjoint a b → bit i (a + b) ≡ bit i a + bit i b
unfolding bit
bit-sum zero a b h = sum_low a b h
bit-sum (suc i) a b h = rw (sum-half a b h) (bit-sum i (a / 2) (b / 2) (disjoint-half a b h))

pub size-zero : size 0 ≡ 0
unfolding ones
size-zero = refl

pub size-sum : (a b : ℕ) → Disjoint a b → size (a + b) ≡ size a + size b
size-sum = bin_ind (λ a. (b : ℕ) → Disjoint a b → size (a + b) ≡ size a + size b) base step
  where
    base : (b : ℕ) → Disjoint 0 b → size (0 + b) ≡ size 0 + size b
    base b h = rw (zero-add, size-zero, zero-add)

    step : (a : ℕ) → ((b : ℕ) → Disjoint (a / 2) b → size (a / 2 + b) ≡ size (a / 2) + size b) → (b : ℕ) → Disjoint a b → size (a + b) ≡ size a + size b
    step a ih b h = omega (arith, ones_step (a + b), ones_step a, ones_step b, sum_low a b h, ap size (sum-half a b h), ih (b / 2) (disjoint-half a b h))

pub size-pow : (i : ℕ) → size (2 ^ i) ≡ 1
size-pow zero = ones-ones 1
size-pow (suc i) = omega (arith, ones_step (2 ^ suc i), size-pow i, ap size half, low)
  where
    half : 2 ^ suc i / 2 ≡ 2 ^ i
    half = omega arith

    low : 2 ^ suc i % 2 ≡ 0
    low = omega arith

-- only the empty set has no table
pub size-pos : (a : ℕ) → 0 < a → 0 < size a
size-pos = bin_ind (λ a. 0 < a → 0 < size a) (λ h. absurd (omega arith)) step
  where
    step : (a : ℕ) → (0 < a / 2 → 0 < size (a / 2)) → 0 < a → 0 < size a
    step a ih h = go (dec_lt 0 (a / 2))
      where
        go : Dec (0 < a / 2) → 0 < size a
        go (yes l) = omega (arith, ones_step a, ih l)
        go (no g) = omega (arith, ones_step a)

-- sets with the same tables are the same number
pub bits-ext : (a b : ℕ) → ((i : ℕ) → bit i a ≡ bit i b) → a ≡ b
unfolding bit
bits-ext a b h = go (a + b) a b (le_refl _) h
  where
    go : (f a b : ℕ) → a + b ≤ f → ((i : ℕ) → bit i a ≡ bit i b) → a ≡ b
    go zero a b l h = omega arith
    go (suc f) a b l h = halves (λ p. go f (a / 2) (b / 2) (omega arith) (λ i. h (suc i))) (dec_lt 0 (a + b))
      where
        halves : (0 < a + b → a / 2 ≡ b / 2) → Dec (0 < a + b) → a ≡ b
        halves ih (yes p) = omega (arith, ih p, h 0)
        halves ih (no n) = omega arith

-- a set with a table is no 0
pub bit-of-zero : (i : ℕ) → bit i 0 ≡ 0
unfolding bit
bit-of-zero zero = refl
bit-of-zero (suc i) = bit-of-zero i

pub holds-pos : (S t : ℕ) → holds S t ≡ 1 → 0 < S
holds-pos S zero h = absurd (omega (arith, holds-none S))
holds-pos zero (suc i) h = absurd (omega (arith, holds-bit 0 i, bit-of-zero i))
holds-pos (suc S) (suc i) h = omega arith

-- ---- sets, table by table

pub disjoint-from : (a b : ℕ) → Disjoint (a / 2) (b / 2) → a % 2 + b % 2 ≤ 1 → Disjoint a b
disjoint-from a b h l = omega (arith, and_step a b)

pub bit_le : (i a : ℕ) → bit i a ≤ 1
unfolding bit
bit_le zero a = omega arith
bit_le (suc i) a = bit_le i (a / 2)

pub bit-apart : (i a b : ℕ) → Disjoint a b → bit i a + bit i b ≤ 1
unfolding bit
bit-apart zero a b h = disjoint-low a b h
bit-apart (suc i) a b h = bit-apart i (a / 2) (b / 2) (disjoint-half a b h)

pub disjoint-of-bits : (a b : ℕ) → ((i : ℕ) → bit i a + bit i b ≤ 1) → Disjoint a b
unfolding bit
disjoint-of-bits = bin_ind (λ a. (b : ℕ) → ((i : ℕ) → bit i a + bit i b ≤ 1) → Disjoint a b) (λ b h. and_zero_l b)
    (λ a ih b h. disjoint-from a b (ih (b / 2) (λ i. h (suc i))) (h 0))

pub bit-pow : (i : ℕ) → bit i (2 ^ i) ≡ 1
unfolding bit
bit-pow zero = refl
bit-pow (suc i) = let e : 2 ^ suc i / 2 ≡ 2 ^ i = omega arith in rw e (bit-pow i)

pub bit-pow-only : (j i : ℕ) → bit j (2 ^ i) ≡ 1 → i ≡ j
unfolding bit
bit-pow-only zero zero h = refl
bit-pow-only zero (suc i) h = absurd (omega arith)
bit-pow-only (suc j) zero h = absurd (omega (arith, bit-of-zero j))
bit-pow-only (suc j) (suc i) h = let e : 2 ^ suc i / 2 ≡ 2 ^ i = omega arith in ap suc (bit-pow-only j i (rw e at h))

-- a set with digit i is that digit and a set apart from it
pub bit-out : (i Y : ℕ) → bit i Y ≡ 1 → (R : ℕ) × Disjoint (2 ^ i) R × (2 ^ i + R ≡ Y)
unfolding bit
bit-out zero Y h = (Y - 1, disjoint-from 1 (Y - 1) (and_zero_l ((Y - 1) / 2)) (omega arith), omega arith)
bit-out (suc i) Y h =
    let o = bit-out i (Y / 2) h in
    let R = o.0 in
    let e : 2 ^ suc i / 2 ≡ 2 ^ i = omega arith in
    let f : (2 * R + Y % 2) / 2 ≡ R = omega arith in
    (2 * R + Y % 2, disjoint-from (2 ^ suc i) (2 * R + Y % 2) (rw (e, f) o.1) (omega arith), omega (arith, o.2))

-- a set that is not empty has a digit
pub bit-some : (S : ℕ) → 0 < S → (i : ℕ) × (bit i S ≡ 1)
unfolding bit
bit-some = bin_ind (λ S. 0 < S → (i : ℕ) × (bit i S ≡ 1)) (λ h. absurd (omega arith)) step
  where
    step : (S : ℕ) → (0 < S / 2 → (i : ℕ) × (bit i (S / 2) ≡ 1)) → 0 < S → (i : ℕ) × (bit i S ≡ 1)
    step S ih h = go (dec_lt 0 (S / 2))
      where
        go : Dec (0 < S / 2) → (i : ℕ) × (bit i S ≡ 1)
        go (yes l) = let r = ih l in (suc r.0, r.1)
        go (no g) = (0, omega arith)

-- the same, said of tables
pub single-suc : (i : ℕ) → single (suc i) ≡ 2 ^ i
single-suc i = let e : suc i - 1 ≡ i = omega arith in rw e

pub holds-sum : (a b t : ℕ) → Disjoint a b → holds (a + b) t ≡ holds a t + holds b t
holds-sum a b zero h = omega (arith, holds-none (a + b), holds-none a, holds-none b)
holds-sum a b (suc i) h = rw (holds-bit (a + b) i, holds-bit a i, holds-bit b i) (bit-sum i a b h)

pub holds-apart : (a b t : ℕ) → Disjoint a b → holds a t + holds b t ≤ 1
holds-apart a b zero h = omega (arith, holds-none a, holds-none b)
holds-apart a b (suc i) h = omega (arith, holds-bit a i, holds-bit b i, bit-apart i a b h)

pub holds-single : (t : ℕ) → 0 < t → holds (single t) t ≡ 1
holds-single zero h = absurd (omega arith)
holds-single (suc i) h = rw (single-suc i, holds-bit) (bit-pow i)

pub holds-single-only : (v t : ℕ) → 0 < v → holds (single v) t ≡ 1 → v ≡ t
holds-single-only v zero p h = absurd (omega (arith, holds-none (single v)))
holds-single-only zero (suc i) p h = absurd (omega arith)
holds-single-only (suc j) (suc i) p h = ap suc (bit-pow-only i j (rw (single-suc j, holds-bit) at h))

pub holds-out : (Y v : ℕ) → holds Y v ≡ 1 → (R : ℕ) × (0 < v) × Disjoint (single v) R × (single v + R ≡ Y)
holds-out Y zero h = absurd (omega (arith, holds-none Y))
holds-out Y (suc i) h = let o = bit-out i Y (rw holds-bit at h) in (o.0, omega arith, rw (single-suc i) o.1, rw (single-suc i) o.2)

pub holds-some : (S : ℕ) → 0 < S → (t : ℕ) × (holds S t ≡ 1)
holds-some S h = let r = bit-some S h in (suc r.0, rw holds-bit r.1)

-- a part of a part
pub splits-inner : {S X Y s R : ℕ} → Splits S X Y → Splits Y s R → Splits (X + s) X s
splits-inner {S} {X} {Y} {s} {R} p r =
    record { apart = disjoint-of-bits X s (λ i. omega (arith, bit-apart i X Y p.apart, bit-sum i s R r.apart, ap (bit i) r.whole)); whole = refl }

pub splits-outer : {S X Y s R : ℕ} → Splits S X Y → Splits Y s R → Splits S (X + s) R
splits-outer {S} {X} {Y} {s} {R} p r = record {
  apart = disjoint-of-bits (X + s) R
      (λ i. omega (arith, bit-apart i X Y p.apart, bit-sum i s R r.apart, ap (bit i) r.whole, bit-sum i X s (splits-inner p r).apart));
  whole = omega (arith, p.whole, r.whole);
}

pub splits-size : {S X Y : ℕ} → Splits S X Y → size S ≡ size X + size Y
splits-size {S} {X} {Y} p = ap size (sym p.whole) ∙ size-sum X Y p.apart

pub holds-minus : (Y v : ℕ) → holds Y v ≡ 1 → Splits Y (single v) (Y - single v)
holds-minus Y v h =
    let o = holds-out Y v h in
    let e : o.0 ≡ Y - single v = omega (arith, o.3) in
    record { apart = rw e at o.2; whole = rw e at o.3 }

-- the tables of a set below 2 ^ n are 1 to n, and the other way round
pub bit-lt : (n i S : ℕ) → S < 2 ^ n → bit i S ≡ 1 → i < n
unfolding bit
bit-lt zero i S l h = let e : S ≡ 0 = omega arith in absurd (omega (arith, bit-of-zero i, rw e at h))
bit-lt (suc n) zero S l h = omega arith
bit-lt (suc n) (suc i) S l h = suc-le-suc (bit-lt n i (S / 2) (omega arith) h)

pub lt-of-bits : (n S : ℕ) → ((i : ℕ) → bit i S ≡ 1 → i < n) → S < 2 ^ n
unfolding bit
lt-of-bits zero S h = go (dec_lt 0 S)
  where
    go : Dec (0 < S) → S < 2 ^ 0
    go (yes l) = let r = bit-some S l in absurd (omega (arith, h r.0 r.1))
    go (no g) = omega arith
lt-of-bits (suc n) S h = let l = lt-of-bits n (S / 2) (λ i b. le_of_suc-le-suc (h (suc i) b)) in omega arith

pub holds-lt : (n S t : ℕ) → S < 2 ^ n → holds S t ≡ 1 → (1 ≤ t) × (t ≤ n)
holds-lt n S zero l h = absurd (omega (arith, holds-none S))
holds-lt n S (suc i) l h = (omega arith, bit-lt n i S l (rw holds-bit at h))

pub lt-of-holds : (n S : ℕ) → ((t : ℕ) → holds S t ≡ 1 → t ≤ n) → S < 2 ^ n
lt-of-holds n S h = lt-of-bits n S (λ i b. h (suc i) (rw holds-bit b))

-- equal tables, equal numbers
pub same_tables : (a b : ℕ) → ((t : ℕ) → holds a t ≡ holds b t) → a ≡ b
same_tables a b h = bits-ext a b (λ i. sym (holds-bit a i) ∙ h (suc i) ∙ holds-bit b i)

-- the union of disjoint sets, and its size
pub union-of : {S X Y : ℕ} → Splits S X Y → (t : ℕ) → holds S t ≡ holds X t + holds Y t
union-of {S} {X} {Y} p t = ap (λ (k : ℕ). holds k t) (sym p.whole) ∙ holds-sum X Y t p.apart

-- a set of tables 1 to n has at most n of them
pub size-le : (n S : ℕ) → S < 2 ^ n → size S ≤ n
size-le zero S l = let e : S ≡ 0 = omega arith in omega (arith, ap size e, size-zero)
size-le (suc n) S l = omega (arith, ones_step S, size-le n (S / 2) (omega arith))

-- a set of all n tables is the full one
pub full-only : (n S : ℕ) → S < 2 ^ n → size S ≡ n → S ≡ 2 ^ n - 1
full-only zero S l e = omega arith
full-only (suc n) S l e =
    let a = ones_step S in
    let b = size-le n (S / 2) (omega arith) in
    let c : S / 2 ≡ 2 ^ n - 1 = full-only n (S / 2) (omega arith) (omega arith) in
    omega arith

-- a number is even or odd
abbrev pub Parity : ℕ → Type 0
Parity n = (n % 2 ≡ 0) ⊎ (n % 2 ≡ 1)

pub parity : (n : ℕ) → Parity n
parity n = go (ℕ_discrete (n % 2) 0)
  where
    go : Dec (n % 2 ≡ 0) → Parity n
    go (yes e) = inl e
    go (no f) = inr (omega arith)

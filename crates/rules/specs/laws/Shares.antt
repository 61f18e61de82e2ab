-- Shares: by each scheme, each candidate has exactly one worker below m.
use Rattle.std.specs.Prelude.{◌≡◌, refl, Bool, true, ℕ, zero, suc, ◌+◌, ◌*◌, ◌%◌, ◌≤◌, ◌<◌, eqb, leb, ltb}
use Rattle.std.proofs.Common.{sym, le_trans, mul-le-mul_right, le-div_iff_mul-le, div-mul-le_self, zero-mul, mod-lt, add-one, arith, eqb-true, eq-eqb, ltb-true, leb-true, lt-ltb, le-leb}
use Rattle.std.proofs.Math.Nat.{zero-div, mul-div_cancel_left}
use Rattle.std.proofs.Math.Decide.{dec_lt}
use Rattle.rules.specs.declared.Scheme.{Scheme}
use Rattle.rules.specs.declared.Scheme.TheVariants.{CutCandidates, CutRows, DealRows, DealInner}
use Rattle.rules.specs.Shares.{Numbered, cut, in_cut, owns}
use Rattle.rules.specs.laws.Bools.{and-true, and-true-l, and_true_r}

-- worker w's part of a cut, as two bounds
pub record Share (T m w i : ℕ) : Type 0 where
  pub from : cut T m w ≤ i
  pub below : i < cut T m (w + 1)

pub cut-mono : (T m v w : ℕ) → 0 < m → v ≤ w → cut T m v ≤ cut T m w
unfolding cut
cut-mono T m v w p h = (le-div_iff_mul-le p).1 (le_trans (div-mul-le_self (v * T) m) (mul-le-mul_right T h))

pub cut-zero : (T m : ℕ) → cut T m 0 ≡ 0
unfolding cut
cut-zero T m = rw (zero-mul, zero-div)

pub cut_all : (T m : ℕ) → 0 < m → cut T m m ≡ T
unfolding cut
cut_all T m p = mul-div_cancel_left T p

-- where f 0 ≤ i < f m, some step of f passes i
pub step-at : (f : ℕ → ℕ) (m i : ℕ) → f 0 ≤ i → i < f m → (w : ℕ) × (w < m) × (f w ≤ i) × (i < f (w + 1))
step-at f zero i l h = absurd (omega arith)
step-at f (suc m) i l h = go (step-at f m i l) (dec_lt i (f m))
  where
    go : (i < f m → (w : ℕ) × (w < m) × (f w ≤ i) × (i < f (w + 1))) → Dec (i < f m) → (w : ℕ) × (w < suc m) × (f w ≤ i) × (i < f (w + 1))
    go ih (yes b) = let r = ih b in (r.0, omega (arith, r.1), r.2, r.3)
    go ih (no n) = (m, omega arith, omega arith, rw add-one h)

-- each candidate is some worker's
pub share-some : (T m i : ℕ) → 0 < m → i < T → (w : ℕ) × (w < m) × Share T m w i
share-some T m i p h =
    let r = step-at (cut T m) m i (omega (arith, cut-zero T m)) (omega (arith, cut_all T m p)) in
    (r.0, r.1, record { from = r.2; below = r.3 })

-- and no other's
pub share-one : (T m i v w : ℕ) → 0 < m → Share T m v i → Share T m w i → v ≡ w
share-one T m i v w p a b = go (dec_lt v w) (dec_lt w v)
  where
    go : Dec (v < w) → Dec (w < v) → v ≡ w
    go (yes l) d = absurd (omega (arith, a.below, b.from, cut-mono T m (v + 1) w p (omega arith)))
    go (no g) (yes l) = absurd (omega (arith, b.below, a.from, cut-mono T m (w + 1) v p (omega arith)))
    go (no g) (no h) = omega arith

-- ---- as tests
cut-share : (T m w i : ℕ) → in_cut T m w i ≡ true → Share T m w i
unfolding in_cut
cut-share T m w i e = record {
  from = leb-true (cut T m w) i (and-true-l (leb (cut T m w) i) (ltb i (cut T m (w + 1))) e);
  below = ltb-true i (cut T m (w + 1)) (and_true_r (leb (cut T m w) i) (ltb i (cut T m (w + 1))) e);
}

share-cut : (T m w i : ℕ) → Share T m w i → in_cut T m w i ≡ true
unfolding in_cut
share-cut T m w i s = and-true (leb (cut T m w) i) (ltb i (cut T m (w + 1))) (le-leb (cut T m w) i s.from) (lt-ltb i (cut T m (w + 1)) s.below)

-- each candidate is one worker's, by each scheme
pub record One (f : ℕ → Bool) (m : ℕ) : Type 0 where
  pub who : ℕ
  pub worker : who < m
  pub yes-it : f who ≡ true
  pub no_other : (v : ℕ) → f v ≡ true → v ≡ who

cut-one : (T m i : ℕ) → 0 < m → i < T → One (λ w. in_cut T m w i) m
cut-one T m i p l =
    let s = share-some T m i p l in
    record { who = s.0; worker = s.1; yes-it = share-cut T m s.0 i s.2; no_other = λ v e. share-one T m i v s.0 p (cut-share T m v i e) s.2 }

mod-one : (x m : ℕ) → 0 < m → One (λ w. eqb (x % m) w) m
mod-one x m p = record { who = x % m; worker = mod-lt x p; yes-it = eq-eqb (x % m) (x % m) refl; no_other = λ v e. sym (eqb-true (x % m) v e) }

-- BY EACH SCHEME, each candidate is exactly one worker's
pub owns-one : (scheme : Scheme) (T m : ℕ) (x : Numbered) → 0 < m → x.number < T → x.candidate.row < x.candidate.rows → One (λ w. owns scheme T m w x) m
unfolding owns
owns-one CutCandidates T m x p l r = cut-one T m x.number p l
owns-one CutRows T m x p l r = cut-one x.candidate.rows m x.candidate.row p r
owns-one DealRows T m x p l r = mod-one x.candidate.row m p
owns-one DealInner T m x p l r = mod-one x.candidate.count m p

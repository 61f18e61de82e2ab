-- Tests, and searches among the numbers below n, as facts.
use Rattle.std.specs.Prelude.{◌≡◌, refl, ◌⊎◌, Bool, true, false, cond, ◌&&◌, ◌||◌, ℕ, zero, suc, ◌≤◌, ◌<◌}
use Rattle.std.proofs.Common.{inl, inr, le_refl, arith}
use Rattle.std.proofs.Math.Decide.{ℕ_discrete}
use Rattle.rules.specs.Lists.{is_yes}

pub true-or-false : (b : Bool) → (b ≡ true) ⊎ (b ≡ false)
true-or-false true = inl refl
true-or-false false = inr refl

pub not-both : (b : Bool) → b ≡ true → b ≡ false → ⊥
not-both b e f = let z : ◌≡◌ {A = ℕ} 0 1 = cc in omega arith

pub and-true : (a b : Bool) → a ≡ true → b ≡ true → (a && b) ≡ true
and-true a b p r = rw (p, r)

pub and-true-l : (a b : Bool) → (a && b) ≡ true → a ≡ true
and-true-l true b e = refl
and-true-l false b e = e

pub and_true_r : (a b : Bool) → (a && b) ≡ true → b ≡ true
and_true_r true b e = e
and_true_r false b e = absurd (not-both false e refl)

pub or_cases : (a b : Bool) → (a || b) ≡ true → (a ≡ true) ⊎ (b ≡ true)
or_cases true b e = inl refl
or_cases false b e = inr e

pub or-true-l : (a b : Bool) → a ≡ true → (a || b) ≡ true
or-true-l a b e = rw e

pub or_true_r : (a b : Bool) → b ≡ true → (a || b) ≡ true
or_true_r true b e = refl
or_true_r false b e = e

-- some number below n passes
unfoldable pub any : (ℕ → Bool) → ℕ → Bool
any f zero = false
any f (suc n) = any f n || f n

pub any_some : (f : ℕ → Bool) (n : ℕ) → any f n ≡ true → (i : ℕ) × (i < n) × (f i ≡ true)
unfolding any
any_some f zero e = absurd (not-both false e refl)
any_some f (suc n) e = go (any_some f n) (or_cases (any f n) (f n) e)
  where
    go : (any f n ≡ true → (i : ℕ) × (i < n) × (f i ≡ true)) → (any f n ≡ true) ⊎ (f n ≡ true) → (i : ℕ) × (i < suc n) × (f i ≡ true)
    go ih (inl h) = let r = ih h in (r.0, omega (arith, r.1), r.2)
    go ih (inr h) = (n, omega arith, h)

pub any_of : (f : ℕ → Bool) (n i : ℕ) → i < n → f i ≡ true → any f n ≡ true
unfolding any
any_of f zero i l e = absurd (omega arith)
any_of f (suc n) i l e = go (ℕ_discrete i n) (λ l₁. any_of f n i l₁ e)
  where
    go : Dec (i ≡ n) → (i < n → any f n ≡ true) → (any f n || f n) ≡ true
    go (yes p) ih = or_true_r (any f n) (f n) (rw p at e)
    go (no g) ih = or-true-l (any f n) (f n) (ih (omega arith))

-- the highest table of 1 to n that passes, or 0
unfoldable pub find : (ℕ → Bool) → ℕ → ℕ
find f zero = 0
find f (suc n) = cond (f (suc n)) (suc n) (find f n)

pub find_none : (f : ℕ → Bool) (n : ℕ) → find f n ≡ 0 → (v : ℕ) → 1 ≤ v → v ≤ n → f v ≡ true → ⊥
unfolding find
find_none f zero e v l u t = omega arith
find_none f (suc n) e v l u t = go (true-or-false (f (suc n))) (find_none f n)
  where
    go : (f (suc n) ≡ true) ⊎ (f (suc n) ≡ false) → (find f n ≡ 0 → (v : ℕ) → 1 ≤ v → v ≤ n → f v ≡ true → ⊥) → ⊥
    go (inl h) ih = let z : suc n ≡ 0 = rw h at e in omega arith
    go (inr h) ih = last (ℕ_discrete v (suc n))
      where
        last : Dec (v ≡ suc n) → ⊥
        last (yes p) = not-both (f (suc n)) (rw p at t) h
        last (no g) = ih (rw h at e) v l (omega arith) t

pub find-some : (f : ℕ → Bool) (n : ℕ) → 0 < find f n → (f (find f n) ≡ true) × (find f n ≤ n)
unfolding find
find-some f zero l = absurd (omega arith)
find-some f (suc n) l = go (true-or-false (f (suc n))) (find-some f n)
  where
    go : (f (suc n) ≡ true) ⊎ (f (suc n) ≡ false) → (0 < find f n → (f (find f n) ≡ true) × (find f n ≤ n)) → (f (find f (suc n)) ≡ true) × (find f (suc n) ≤ suc n)
    go (inl h) ih = rw h (h, le_refl (suc n))
    go (inr h) ih = let r = ih (rw h at l) in rw h (r.0, omega (arith, r.1))

-- a decision says yes exactly where its statement holds
pub yes_true : {A : Type 0} (d : Dec A) → is_yes d ≡ true → A
yes_true (yes a) e = a
yes_true (no n) e = absurd (not-both false e refl)

pub true-yes : {A : Type 0} (d : Dec A) → A → is_yes d ≡ true
true-yes (yes a) x = refl
true-yes (no n) x = absurd (n x)

-- a test that holds exactly where a statement does decides it
unfoldable pub decide_by : {A : Type 0} (b : Bool) → (b ≡ true → A) → (A → b ≡ true) → Dec A
decide_by true to from = yes (to refl)
decide_by false to from = no (λ a. not-both false (from a) refl)

pub decide-is : {A : Type 0} (b : Bool) (to : b ≡ true → A) (from : A → b ≡ true) → is_yes (decide_by b to from) ≡ b
unfolding decide_by
decide-is true to from = refl
decide-is false to from = refl

-- Laws of the tools on lists.
use Rattle.std.specs.Prelude.{◌≡◌, refl, ◌⊎◌, Bool, true, false, cond, ◌&&◌, ℕ, zero, suc, ◌+◌, ◌≤◌, ◌<◌, length, drop, get_or}
use Rattle.std.proofs.Common.{sym, ap, ◌∙◌, inl, inr, ⊎_elim, zero-add, add-one, arith, length-append, length-drop}
use mathlib.Core.List.Memᴰ
use mathlib.Core.List.{List, [], ◌∷◌, ◌++◌, map, Memᴰ, append_assoc, append-nil}
use Rattle.std.proofs.Math.Decide.{ℕ_discrete}
use Rattle.std.proofs.Math.ListN.{get_or-append}
use Rattle.std.proofs.Math.Seq.{drop-nil, drop-append_seam}
use Rattle.rules.specs.Lists.{keep, in_row, over}
use Rattle.rules.specs.laws.Bools.{true-or-false}

pub keep-in : {C : Type 0} (f : C → Bool) (c : C) (cs : List C) → Memᴰ c cs → f c ≡ true → Memᴰ c (keep f cs)
unfolding keep
keep-in {C = C} f c [] x'' t = elim x'' [ ]
keep-in f c (x ∷ cs) (Memᴰ.head e) t = let z : f x ≡ true = rw e at t in rw z (Memᴰ.head e)
keep-in f c (x ∷ cs) (Memᴰ.tail m) t = go (keep-in f c cs m t) (true-or-false (f x))
  where
    go : Memᴰ c (keep f cs) → (f x ≡ true) ⊎ (f x ≡ false) → Memᴰ c (cond (f x) (x ∷ keep f cs) (keep f cs))
    go ih (inl e) = rw e (Memᴰ.tail ih)
    go ih (inr e) = rw e ih

pub keep-of : {C : Type 0} (f : C → Bool) (c : C) (cs : List C) → Memᴰ c (keep f cs) → Memᴰ c cs × (f c ≡ true)
unfolding keep
keep-of f c [] m = absurd (Memᴰ.not-nil m)
keep-of f c (x ∷ cs) m = go (keep-of f c cs) (true-or-false (f x)) m
  where
    go : (Memᴰ c (keep f cs) → Memᴰ c cs × (f c ≡ true)) → (f x ≡ true) ⊎ (f x ≡ false) → Memᴰ c (cond (f x) (x ∷ keep f cs) (keep f cs)) → Memᴰ c (x ∷ cs) × (f c ≡ true)
    go ih (inl e) m =
        ⊎_elim {C = Memᴰ c (x ∷ cs) × (f c ≡ true)} (λ (p : c ≡ x). (Memᴰ.head p, ap f p ∙ e)) (λ (m' : Memᴰ c (keep f cs)). (Memᴰ.tail (ih m').0, (ih m').1)) (Memᴰ.cases_cons (rw e at m))
    go ih (inr e) m = let r = ih (rw e at m) in (Memᴰ.tail r.0, r.1)

-- a test and then another is both at once
pub keep-both : {C : Type 0} (f g : C → Bool) (cs : List C) → keep g (keep f cs) ≡ keep (λ (c : C). f c && g c) cs
unfolding keep
keep-both f g [] = refl
keep-both {C} f g (c ∷ cs) = go (keep-both f g cs) (true-or-false (f c))
  where
    go : keep g (keep f cs) ≡ keep (λ (x : C). f x && g x) cs → (f c ≡ true) ⊎ (f c ≡ false)
        → keep g (cond (f c) (c ∷ keep f cs) (keep f cs)) ≡ cond (f c && g c) (c ∷ keep (λ (x : C). f x && g x) cs) (keep (λ (x : C). f x && g x) cs)
    go ih (inl e) = rw (e, ih)
    go ih (inr e) = rw (e, ih)

-- a row of lists, cut after n of them
pub row-split : {C : Type 0} (f : ℕ → List C) (k n m : ℕ) → in_row f k (n + m) ≡ in_row f k n ++ in_row f (k + n) m
unfolding in_row
row-split f k zero m = let e : k + 0 ≡ k = omega arith in rw (e, zero-add m)
row-split {C = C} f k (suc n) m =
    let d : suc n + m ≡ suc (n + m) = omega arith in
    let e : suc k + n ≡ k + suc n = omega arith in
    rw d (ap (λ (l : List C). f k ++ l) (row-split f (suc k) n m ∙ ap (λ (i : ℕ). in_row f (suc k) n ++ in_row f i m) e) ∙ sym (append_assoc (f k) (in_row f (suc k) n) (in_row f (k + suc n) m)))

-- and its last
pub row_last : {C : Type 0} (f : ℕ → List C) (k n : ℕ) → in_row f k (suc n) ≡ in_row f k n ++ f (k + n)
unfolding in_row
row_last {C = C} f k n = ap (in_row f k) (sym (add-one n)) ∙ row-split f k n 1 ∙ ap (λ (l : List C). in_row f k n ++ l) (append-nil (f (k + n)))

-- what stands in one of the lists stands in them all in a row, and nothing else does
pub in-row : {C : Type 0} (f : ℕ → List C) (c : C) (k n j : ℕ) → k ≤ j → j < k + n → Memᴰ c (f j) → Memᴰ c (in_row f k n)
unfolding in_row
in-row f c k zero j l u m = absurd (omega arith)
in-row f c k (suc n) j l u m = go (ℕ_discrete k j) (λ l₁. in-row f c (suc k) n j l₁ (omega arith) m)
  where
    go : Dec (k ≡ j) → (suc k ≤ j → Memᴰ c (in_row f (suc k) n)) → Memᴰ c (f k ++ in_row f (suc k) n)
    go (yes e) ih = Memᴰ.append_left (in_row f (suc k) n) (rw (← e) at m)
    go (no g) ih = Memᴰ.append_right (f k) (ih (omega arith))

pub of_row : {C : Type 0} (f : ℕ → List C) (c : C) (k n : ℕ) → Memᴰ c (in_row f k n) → (j : ℕ) × (k ≤ j) × (j < k + n) × Memᴰ c (f j)
unfolding in_row
of_row f c k zero m = absurd (Memᴰ.not-nil m)
of_row {C} f c k (suc n) m = go (of_row f c (suc k) n) (Memᴰ.append_cases (f k) m)
  where
    go : (Memᴰ c (in_row f (suc k) n) → (j : ℕ) × (suc k ≤ j) × (j < suc k + n) × Memᴰ c (f j)) → Memᴰ c (f k) ⊎ Memᴰ c (in_row f (suc k) n)
        → (j : ℕ) × (k ≤ j) × (j < k + suc n) × Memᴰ c (f j)
    go ih (inl i) = (k, omega arith, omega arith, i)
    go ih (inr i) = let r = ih i in (r.0, omega (arith, r.1), omega (arith, r.2), r.3)

-- each stands in the list once
unfoldable pub Once : {C : Type 0} → List C → Type 0
Once [] = Unit {0}
Once (c ∷ cs) = (Memᴰ c cs → ⊥) × Once cs

pub once-append : {C : Type 0} (xs ys : List C) → Once xs → Once ys → ((c : C) → Memᴰ c xs → Memᴰ c ys → ⊥) → Once (xs ++ ys)
unfolding Once
once-append [] ys p q n = q
once-append (x ∷ xs) ys p q n =
    (λ m. ⊎_elim p.0 (n x (Memᴰ.head refl)) (Memᴰ.append_cases xs m), once-append xs ys p.1 q (λ c i. n c (Memᴰ.tail i)))

pub once-row : {C : Type 0} (f : ℕ → List C) → ((k : ℕ) → Once (f k)) → ((j k : ℕ) (c : C) → Memᴰ c (f j) → Memᴰ c (f k) → j ≡ k) → (k n : ℕ) → Once (in_row f k n)
unfolding Once in_row
once-row f each same k zero = tt
once-row f each same k (suc n) =
    once-append (f k) (in_row f (suc k) n) (each k) (once-row f each same (suc k) n) (λ c i j. let r = of_row f c (suc k) n j in omega (arith, r.1, same k r.0 c i r.3))

-- ---- elements by their index
pub at_in : {C : Type 0} (d : C) (l : List C) (j : ℕ) → j < length l → Memᴰ (get_or l j d) l
at_in d [] j h = absurd (omega arith)
at_in d (x ∷ l) zero h = Memᴰ.head refl
at_in d (x ∷ l) (suc j) h = Memᴰ.tail (at_in d l j (omega arith))

-- where an element stands
pub in-at : {C : Type 0} (d : C) (l : List C) (x : C) → Memᴰ x l → (j : ℕ) × (j < length l) × (get_or l j d ≡ x)
in-at d [] x m = absurd (Memᴰ.not-nil m)
in-at d (y ∷ l) x (Memᴰ.head e) = (0, omega arith, sym e)
in-at d (y ∷ l) x (Memᴰ.tail m) = let r = in-at d l x m in (suc r.0, omega (arith, r.1), r.2)

pub at_map : {C : Type 0} (f : C → ℕ) (c : C) (l : List C) (j : ℕ) → j < length l → get_or (map f l) j 0 ≡ f (get_or l j c)
at_map f c [] j h = absurd (omega arith)
at_map f c (x ∷ l) zero h = refl
at_map f c (x ∷ l) (suc j) h = at_map f c l j (omega arith)

pub length-map : {C D : Type 0} (f : C → D) (l : List C) → length (map f l) ≡ length l
length-map f [] = refl
length-map f (x ∷ l) = ap suc (length-map f l)

-- ---- a lent list once its first cells are written
pub over-length : (v l : List ℕ) → length v ≤ length l → length (over v l) ≡ length l
over-length v l h = omega (arith, length-append v (drop (length v) l), length-drop (length v) l)

pub over-spare : (v l : List ℕ) → drop (length v) (over v l) ≡ drop (length v) l
over-spare v l = drop-append_seam v (drop (length v) l)

pub over-at : (v l : List ℕ) (j : ℕ) → j < length v → get_or (over v l) j 0 ≡ get_or v j 0
over-at v l j h = get_or-append v (drop (length v) l) 0 j h

-- past the written cells it is as it was
pub over-past : (v l : List ℕ) (j : ℕ) → length v ≤ j → get_or (over v l) j 0 ≡ get_or l j 0
over-past [] l j h = refl
over-past (x ∷ v) l zero h = absurd (omega arith)
over-past (x ∷ v) [] (suc j) h = ap (λ (l : List ℕ). get_or (v ++ l) j 0) (sym (drop-nil (length v))) ∙ over-past v [] j (omega arith)
over-past (x ∷ v) (y ∷ l) (suc j) h = over-past v l j (omega arith)

-- ---- sums
unfoldable pub sum : List ℕ → ℕ
sum [] = 0
sum (x ∷ l) = x + sum l

pub sum-append : (a b : List ℕ) → sum (a ++ b) ≡ sum a + sum b
unfolding sum
sum-append [] b = omega arith
sum-append (x ∷ a) b = omega (arith, sum-append a b)

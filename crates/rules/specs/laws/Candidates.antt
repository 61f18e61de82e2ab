-- The candidates of a group: every two rows of a driving size and its inner size are met, one way round, and nothing else is.
use Rattle.std.specs.Prelude.{◌≡◌, refl, ◌⊎◌, true, false, cond, eqb, length}
use Rattle.std.proofs.Common.{sym, ap, ◌∙◌, subst, arith}
use Rattle.std.proofs.Math.Logic.{inl, inr, ⊎_elim}
use mathlib.Core.List.Memᴰ
use mathlib.Core.List.{List, [], ◌∷◌, ◌++◌, Memᴰ}
use Prim.Native.Nat.{ℕ, zero, suc, ◌+◌, ◌≤◌, ◌<◌}
use borrow.Author.Tests.{eqb-true, eqb-false}
use Rattle.rules.specs.declared.Group.{Group}
use Rattle.rules.specs.Lists.{in_row}
use Rattle.rules.specs.Schedule.{inner_at}
use Rattle.rules.specs.Candidates.{Candidate, with_row, across, within, driven, candidates_of}
use Rattle.rules.specs.Shares.{Numbered, numbered}
use Rattle.rules.specs.laws.Bools.{true-or-false}
use Rattle.rules.specs.laws.Lists.{in-row, of_row, Once}

-- ---- complete: each two rows of a driving size and its inner size are met, one way round
-- X and Y are met, X as the driving set
pub record Has (X Y : ℕ) (l : List Candidate) : Type 0 where
  pub one : Candidate
  pub met : Memᴰ one l
  pub driving : one.driving ≡ X
  pub inner : one.inner ≡ Y

has_left : {X Y : ℕ} (l r : List Candidate) → Has X Y l → Has X Y (l ++ r)
has_left l r h = record { one = h.one; met = Memᴰ.append_left r h.met; driving = h.driving; inner = h.inner }

has_right : {X Y : ℕ} (l r : List Candidate) → Has X Y r → Has X Y (l ++ r)
has_right l r h = record { one = h.one; met = Memᴰ.append_right l h.met; driving = h.driving; inner = h.inner }

with-row : (D i X j : ℕ) (ys : List ℕ) (Y : ℕ) → Memᴰ Y ys → Has X Y (with_row D i X j ys)
unfolding with_row
with-row D i X j [] Y x' = elim x' [ ]
with-row D i X j (y ∷ ys) Y (Memᴰ.head e) = record { one = record { rows = D; row = i; count = j; driving = X; inner = y }; met = Memᴰ.head refl; driving = refl; inner = sym e }
with-row D i X j (y ∷ ys) Y (Memᴰ.tail m) = let r = with-row D i X (suc j) ys Y m in record { one = r.one; met = Memᴰ.tail r.met; driving = r.driving; inner = r.inner }

across-has : (D i : ℕ) (xs ys : List ℕ) (X Y : ℕ) → Memᴰ X xs → Memᴰ Y ys → Has X Y (across D i xs ys)
unfolding across
across-has D i [] ys X Y x'' n = elim x'' [ ]
across-has D i (x ∷ xs) ys X Y (Memᴰ.head e) n = rw e (has_left (with_row D i x 0 ys) (across D (suc i) xs ys) (with-row D i x 0 ys Y n))
across-has D i (x ∷ xs) ys X Y (Memᴰ.tail m) n = has_right (with_row D i x 0 ys) (across D (suc i) xs ys) (across-has D (suc i) xs ys X Y m n)

within_has : (D i : ℕ) (xs : List ℕ) (X Y : ℕ) → Memᴰ X xs → Memᴰ Y xs → (X ≡ Y → ⊥) → Has X Y (within D i xs) ⊎ Has Y X (within D i xs)
unfolding within
within_has D i [] X Y x3 _ n = elim x3 [ ]
within_has D i (x ∷ xs) X Y (Memᴰ.head e) (Memᴰ.head f) n = absurd (n (e ∙ sym f))
within_has D i (x ∷ xs) X Y (Memᴰ.head e) (Memᴰ.tail k) n = inl (rw e (has_left (with_row D i x 0 xs) (within D (suc i) xs) (with-row D i x 0 xs Y k)))
within_has D i (x ∷ xs) X Y (Memᴰ.tail m) (Memᴰ.head f) n = inr (rw f (has_left (with_row D i x 0 xs) (within D (suc i) xs) (with-row D i x 0 xs X m)))
within_has D i (x ∷ xs) X Y (Memᴰ.tail m) (Memᴰ.tail k) n =
    ⊎_elim (λ h. inl (has_right (with_row D i x 0 xs) (within D (suc i) xs) h)) (λ h. inr (has_right (with_row D i x 0 xs) (within D (suc i) xs) h)) (within_has D (suc i) xs X Y m k n)

module _ (rows : ℕ → List ℕ) (group : Group) where
  from-has : {X Y : ℕ} (d : ℕ) → 0 < d → d ≤ group.last → Has X Y (driven rows group d) → Has X Y (candidates_of rows group)
  unfolding candidates_of
  from-has d l u h = record { one = h.one; met = in-row (driven rows group) h.one 1 group.last d l (omega arith) h.met; driving = h.driving; inner = h.inner }

  -- two different rows, of driving size d and its inner size
  pub candidates-all : (d X Y : ℕ) → 0 < d → d ≤ group.last → Memᴰ X (rows d) → Memᴰ Y (rows (inner_at group d)) → (X ≡ Y → ⊥) → Has X Y (candidates_of rows group) ⊎ Has Y X (candidates_of rows group)
  unfolding driven
  candidates-all d X Y l u mx my n = go (true-or-false (eqb d (inner_at group d)))
    where
      go : (eqb d (inner_at group d) ≡ true) ⊎ (eqb d (inner_at group d) ≡ false) → Has X Y (candidates_of rows group) ⊎ Has Y X (candidates_of rows group)
      go (inl e) =
          ⊎_elim (λ a. inl (from-has d l u (rw e a))) (λ a. inr (from-has d l u (rw e a)))
          (within_has (length (rows d)) 0 (rows d) X Y mx (rw (← eqb-true d (inner_at group d) e) at my) n)
      go (inr e) = inl (from-has d l u (rw e (across-has (length (rows d)) 0 (rows d) (rows (inner_at group d)) X Y mx my)))

-- ---- what stands behind a candidate: two rows, of lists xs and ys
pub record Behind (xs ys : List ℕ) (c : Candidate) : Type 0 where
  pub driving : Memᴰ c.driving xs
  pub inner : Memᴰ c.inner ys
  pub row : c.row < c.rows

pub record RowOf (D i X : ℕ) (ys : List ℕ) (c : Candidate) : Type 0 where
  pub driving : c.driving ≡ X
  pub inner : Memᴰ c.inner ys
  pub row : c.row ≡ i
  pub rows : c.rows ≡ D

row_of : (D i X j : ℕ) (ys : List ℕ) (c : Candidate) → Memᴰ c (with_row D i X j ys) → RowOf D i X ys c
unfolding with_row
row_of D i X j [] c m = absurd (Memᴰ.not-nil m)
row_of D i X j (y ∷ ys) c m = go (row_of D i X (suc j) ys c) (Memᴰ.cases_cons m)
  where
    go : (Memᴰ c (with_row D i X (suc j) ys) → RowOf D i X ys c) → (c ≡ record { rows = D; row = i; count = j; driving = X; inner = y }) ⊎ Memᴰ c (with_row D i X (suc j) ys) → RowOf D i X (y ∷ ys) c
    go ih (inl e) = record { driving = ap (λ (k : Candidate). k.driving) e; inner = Memᴰ.head (ap (λ (k : Candidate). k.inner) e); row = ap (λ (k : Candidate). k.row) e; rows = ap (λ (k : Candidate). k.rows) e }
    go ih (inr n) = let r = ih n in record { driving = r.driving; inner = Memᴰ.tail r.inner; row = r.row; rows = r.rows }

across-of : (D i : ℕ) (xs ys : List ℕ) (c : Candidate) → i + length xs ≡ D → Memᴰ c (across D i xs ys) → Behind xs ys c
unfolding across
across-of D i [] ys c e m = absurd (Memᴰ.not-nil m)
across-of D i (x ∷ xs) ys c e m = go (across-of D (suc i) xs ys c (omega arith)) (Memᴰ.append_cases (with_row D i x 0 ys) m)
  where
    go : (Memᴰ c (across D (suc i) xs ys) → Behind xs ys c) → Memᴰ c (with_row D i x 0 ys) ⊎ Memᴰ c (across D (suc i) xs ys) → Behind (x ∷ xs) ys c
    go ih (inl n) = let r = row_of D i x 0 ys c n in record { driving = Memᴰ.head r.driving; inner = r.inner; row = omega (arith, r.row, r.rows) }
    go ih (inr n) = let r = ih n in record { driving = Memᴰ.tail r.driving; inner = r.inner; row = r.row }

within_of : (D i : ℕ) (xs : List ℕ) (c : Candidate) → i + length xs ≡ D → Memᴰ c (within D i xs) → Behind xs xs c
unfolding within
within_of D i [] c e m = absurd (Memᴰ.not-nil m)
within_of D i (x ∷ xs) c e m = go (within_of D (suc i) xs c (omega arith)) (Memᴰ.append_cases (with_row D i x 0 xs) m)
  where
    go : (Memᴰ c (within D (suc i) xs) → Behind xs xs c) → Memᴰ c (with_row D i x 0 xs) ⊎ Memᴰ c (within D (suc i) xs) → Behind (x ∷ xs) (x ∷ xs) c
    go ih (inl n) = let r = row_of D i x 0 xs c n in record { driving = Memᴰ.head r.driving; inner = Memᴰ.tail r.inner; row = omega (arith, r.row, r.rows) }
    go ih (inr n) = let r = ih n in record { driving = Memᴰ.tail r.driving; inner = Memᴰ.tail r.inner; row = r.row }

module _ (rows : ℕ → List ℕ) (group : Group) where
  -- a candidate's driving row is one of size d, its inner row one of the size that the group joins to it
  pub record Met (c : Candidate) : Type 0 where
    pub size : ℕ
    pub from_one : 1 ≤ size
    pub to_last : size ≤ group.last
    pub behind : Behind (rows size) (rows (inner_at group size)) c

  behind-of : (d : ℕ) (c : Candidate) → Memᴰ c (driven rows group d) → Behind (rows d) (rows (inner_at group d)) c
  unfolding driven
  behind-of d c m = go (true-or-false (eqb d (inner_at group d))) m
    where
      go : (eqb d (inner_at group d) ≡ true) ⊎ (eqb d (inner_at group d) ≡ false) → Memᴰ c (cond (eqb d (inner_at group d)) (within (length (rows d)) 0 (rows d)) (across (length (rows d)) 0 (rows d) (rows (inner_at group d))))
          → Behind (rows d) (rows (inner_at group d)) c
      go (inl e) n = rw (← eqb-true d (inner_at group d) e) (within_of (length (rows d)) 0 (rows d) c (omega arith) (rw e at n))
      go (inr e) n = across-of (length (rows d)) 0 (rows d) (rows (inner_at group d)) c (omega arith) (rw e at n)

  pub met_of : (c : Candidate) → Memᴰ c (candidates_of rows group) → Met c
  unfolding candidates_of
  met_of c m = let r = of_row (driven rows group) c 1 group.last m in record { size = r.0; from_one = r.1; to_last = omega (arith, r.2); behind = behind-of r.0 c r.3 }

-- ---- candidates with their numbers
pub numbered-in : (n : ℕ) (cs : List Candidate) (c : Candidate) → Memᴰ c cs → (x : Numbered) × Memᴰ x (numbered n cs) × (x.candidate ≡ c)
unfolding numbered
numbered-in n [] c x' = elim x' [ ]
numbered-in n (x ∷ cs) c (Memᴰ.head e) = (record { number = n; candidate = x }, Memᴰ.head refl, sym e)
numbered-in n (x ∷ cs) c (Memᴰ.tail m) = let r = numbered-in (suc n) cs c m in (r.0, Memᴰ.tail r.1, r.2)

pub numbered_of : (n : ℕ) (cs : List Candidate) (x : Numbered) → Memᴰ x (numbered n cs) → Memᴰ x.candidate cs × (n ≤ x.number) × (x.number < n + length cs)
unfolding numbered
numbered_of n [] x m = absurd (Memᴰ.not-nil m)
numbered_of n (c ∷ cs) x m = go (numbered_of (suc n) cs x) (Memᴰ.cases_cons m)
  where
    go : (Memᴰ x (numbered (suc n) cs) → Memᴰ x.candidate cs × (suc n ≤ x.number) × (x.number < suc n + length cs))
        → (x ≡ record { number = n; candidate = c }) ⊎ Memᴰ x (numbered (suc n) cs) → Memᴰ x.candidate (c ∷ cs) × (n ≤ x.number) × (x.number < n + suc (length cs))
    go ih (inl e) = (Memᴰ.head (ap (λ (k : Numbered). k.candidate) e), omega (arith, ap (λ (k : Numbered). k.number) e), omega (arith, ap (λ (k : Numbered). k.number) e))
    go ih (inr i) = let r = ih i in (Memᴰ.tail r.0, omega (arith, r.1), omega (arith, r.2))

pub numbered-length : (n : ℕ) (cs : List Candidate) → length (numbered n cs) ≡ length cs
unfolding numbered
numbered-length n [] = refl
numbered-length n (c ∷ cs) = ap suc (numbered-length (suc n) cs)

-- each number stands once
pub numbered-once : (n : ℕ) (cs : List Candidate) → Once (numbered n cs)
unfolding numbered Once
numbered-once n [] = tt
numbered-once n (c ∷ cs) = (λ m. omega (arith, (numbered_of (suc n) cs (record { number = n; candidate = c }) m).1), numbered-once (suc n) cs)

-- ---- each pair of sets is met one way round, once
abbrev pub SameSets : Candidate → Candidate → Type 0
SameSets c c' = ((c.driving ≡ c'.driving) × (c.inner ≡ c'.inner)) ⊎ ((c.driving ≡ c'.inner) × (c.inner ≡ c'.driving))

unfoldable pub Apart : List Candidate → Type 0
Apart [] = Unit {0}
Apart (c ∷ cs) = ((c' : Candidate) → Memᴰ c' cs → SameSets c c' → ⊥) × Apart cs

same-sym : (c c' : Candidate) → SameSets c c' → SameSets c' c
same-sym c c' (inl e) = inl (sym e.0, sym e.1)
same-sym c c' (inr e) = inr (sym e.1, sym e.0)

apart-append : (xs ys : List Candidate) → Apart xs → Apart ys → ((x y : Candidate) → Memᴰ x xs → Memᴰ y ys → SameSets x y → ⊥) → Apart (xs ++ ys)
unfolding Apart
apart-append [] ys p q n = q
apart-append (x ∷ xs) ys p q n = (λ c m s. ⊎_elim (λ a. p.0 c a s) (λ b. n x c (Memᴰ.head refl) b s) (Memᴰ.append_cases xs m), apart-append xs ys p.1 q (λ a b i j. n a b (Memᴰ.tail i) j))

row_apart : (D i X j : ℕ) (ys : List ℕ) → Once ys → (Memᴰ X ys → ⊥) → Apart (with_row D i X j ys)
unfolding Apart with_row Once
row_apart D i X j [] o n = tt
row_apart D i X j (Y ∷ ys) o n = (differ, row_apart D i X (suc j) ys o.1 (λ m. n (Memᴰ.tail m)))
  where
    differ : (c : Candidate) → Memᴰ c (with_row D i X (suc j) ys) → SameSets (record { rows = D; row = i; count = j; driving = X; inner = Y }) c → ⊥
    differ c m (inl e) = o.0 (Memᴰ.cast e.1 (row_of D i X (suc j) ys c m).inner)
    differ c m (inr e) = n (Memᴰ.tail (Memᴰ.cast e.0 (row_of D i X (suc j) ys c m).inner))

across-apart : (D i : ℕ) (xs ys : List ℕ) → i + length xs ≡ D → Once xs → Once ys → ((Z : ℕ) → Memᴰ Z xs → Memᴰ Z ys → ⊥) → Apart (across D i xs ys)
unfolding Apart across Once
across-apart D i [] ys e ox oy n = tt
across-apart D i (X ∷ xs) ys e ox oy n =
    apart-append (with_row D i X 0 ys) (across D (suc i) xs ys) (row_apart D i X 0 ys oy (n X (Memᴰ.head refl))) (across-apart D (suc i) xs ys (omega arith) ox.1 oy (λ Z m. n Z (Memᴰ.tail m))) cross
  where
    cross : (c c' : Candidate) → Memᴰ c (with_row D i X 0 ys) → Memᴰ c' (across D (suc i) xs ys) → SameSets c c' → ⊥
    cross c c' m m' (inl s) = ox.0 (Memᴰ.cast (sym (row_of D i X 0 ys c m).driving ∙ s.0) (across-of D (suc i) xs ys c' (omega arith) m').driving)
    cross c c' m m' (inr s) = n X (Memᴰ.head refl) (Memᴰ.cast (sym (row_of D i X 0 ys c m).driving ∙ s.0) (across-of D (suc i) xs ys c' (omega arith) m').inner)

within-apart : (D i : ℕ) (xs : List ℕ) → i + length xs ≡ D → Once xs → Apart (within D i xs)
unfolding Apart within Once
within-apart D i [] e o = tt
within-apart D i (X ∷ xs) e o = apart-append (with_row D i X 0 xs) (within D (suc i) xs) (row_apart D i X 0 xs o.1 o.0) (within-apart D (suc i) xs (omega arith) o.1) cross
  where
    cross : (c c' : Candidate) → Memᴰ c (with_row D i X 0 xs) → Memᴰ c' (within D (suc i) xs) → SameSets c c' → ⊥
    cross c c' m m' (inl s) = o.0 (Memᴰ.cast (sym (row_of D i X 0 xs c m).driving ∙ s.0) (within_of D (suc i) xs c' (omega arith) m').driving)
    cross c c' m m' (inr s) = o.0 (Memᴰ.cast (sym (row_of D i X 0 xs c m).driving ∙ s.0) (within_of D (suc i) xs c' (omega arith) m').inner)

-- the driving size is the smaller one
unfoldable pub Rising : Group → Type 0
Rising group = (d : ℕ) → 1 ≤ d → d ≤ group.last → d ≤ inner_at group d

-- where each size's rows stand once and no set has two sizes
module _ (rows : ℕ → List ℕ) (group : Group) (once : (k : ℕ) → Once (rows k)) (one : (j k Z : ℕ) → Memᴰ Z (rows j) → Memᴰ Z (rows k) → j ≡ k) (up : Rising group) where
  driven-apart : (d : ℕ) → Apart (driven rows group d)
  unfolding driven
  driven-apart d = go (true-or-false (eqb d (inner_at group d)))
    where
      go : (eqb d (inner_at group d) ≡ true) ⊎ (eqb d (inner_at group d) ≡ false) → Apart (cond (eqb d (inner_at group d)) (within (length (rows d)) 0 (rows d)) (across (length (rows d)) 0 (rows d) (rows (inner_at group d))))
      go (inl e) = rw e (within-apart (length (rows d)) 0 (rows d) (omega arith) (once d))
      go (inr e) = rw e (across-apart (length (rows d)) 0 (rows d) (rows (inner_at group d)) (omega arith) (once d) (once (inner_at group d)) (λ Z a b. eqb-false d (inner_at group d) e (one d (inner_at group d) Z a b)))

  -- a later driving size meets other pairs
  later : (d e : ℕ) (c c' : Candidate) → 1 ≤ d → d < e → e ≤ group.last → Memᴰ c (driven rows group d) → Memᴰ c' (driven rows group e) → SameSets c c' → ⊥
  unfolding Rising
  later d e c c' l u v m m' p = differ p
    where
      b : Behind (rows d) (rows (inner_at group d)) c
      b = behind-of rows group d c m

      b' : Behind (rows e) (rows (inner_at group e)) c'
      b' = behind-of rows group e c' m'

      differ : SameSets c c' → ⊥
      differ (inl z) = let f : d ≡ e = one d e c.driving b.driving (Memᴰ.cast z.0 b'.driving) in omega arith
      differ (inr z) = let f : d ≡ inner_at group e = one d (inner_at group e) c.driving b.driving (Memᴰ.cast z.0 b'.inner) in omega (arith, up e (omega arith) v)

  from-apart : (d n : ℕ) → 1 ≤ d → d + n ≤ group.last + 1 → Apart (in_row (driven rows group) d n)
  unfolding in_row Apart
  from-apart d zero l u = tt
  from-apart d (suc n) l u =
      apart-append (driven rows group d) (in_row (driven rows group) (suc d) n) (driven-apart d) (from-apart (suc d) n (omega arith) (omega arith))
      (λ c c' m m' p. let r = of_row (driven rows group) c' (suc d) n m' in later d r.0 c c' l r.1 (omega (arith, r.2)) m r.3 p)

  pub candidates-apart : Apart (candidates_of rows group)
  unfolding candidates_of
  candidates-apart = from-apart 1 group.last (omega arith) (omega arith)

-- so a pair of sets has one number
pub numbered-pair : (n : ℕ) (cs : List Candidate) → Apart cs → (x y : Numbered) → Memᴰ x (numbered n cs) → Memᴰ y (numbered n cs) → SameSets x.candidate y.candidate → x ≡ y
unfolding numbered Apart
numbered-pair n [] a x y x6 _ p = elim x6 [ ]
numbered-pair n (c ∷ cs) a x y (Memᴰ.head e) (Memᴰ.head f) p = e ∙ sym f
numbered-pair n (c ∷ cs) a x y (Memᴰ.head e) (Memᴰ.tail m) p = absurd (a.0 y.candidate (numbered_of (suc n) cs y m).0 (subst (λ (z : Numbered). SameSets z.candidate y.candidate) e p))
numbered-pair n (c ∷ cs) a x y (Memᴰ.tail m) (Memᴰ.head f) p = absurd (a.0 x.candidate (numbered_of (suc n) cs x m).0 (same-sym x.candidate c (subst (λ (z : Numbered). SameSets x.candidate z.candidate) f p)))
numbered-pair n (c ∷ cs) a x y (Memᴰ.tail m) (Memᴰ.tail k) p = numbered-pair (suc n) cs a.1 x y m k p

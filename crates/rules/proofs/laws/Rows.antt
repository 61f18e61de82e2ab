-- The memo's rows: every connected set once, nothing else, in the order of ascending sequences.
use Rattle.std.specs.Prelude.{◌≡◌, refl, ◌⊎◌, Bool, true, false, cond, ◌&&◌, ℕ, zero, suc, ◌+◌, ◌^◌, ◌≤◌, ◌<◌, eqb, ltb, length}
use Rattle.std.proofs.Common.{sym, ap, ap₂, ◌∙◌, inl, inr, ⊎_elim, arith, ltb-true, eqb-true, lt-ltb, eq-eqb}
use mathlib.Core.List.Memᴰ
use mathlib.Core.List.{List, [], ◌∷◌, ◌++◌, map, Memᴰ}
use Rattle.std.proofs.Math.Decide.{ℕ_discrete}
use Rattle.rules.specs.Lists.{keep, is_yes}
use Rattle.rules.specs.Sets.{size, number, tables, Ascending}
use Rattle.rules.specs.Query.{Graph, table_count}
use Rattle.rules.specs.Connected.{Connected}
use Rattle.rules.specs.Rows.{Before, before, Ordered, combos, sequences, rows_of, memo}
use Rattle.rules.specs.laws.Bools.{true-or-false, not-both, and-true, and-true-l, and_true_r, or_cases, or-true-l, or_true_r, yes_true, true-yes}
use Rattle.rules.specs.laws.Lists.{keep-in, keep-of, in-row, of_row, Once, once-row}
use Rattle.rules.specs.laws.Sets.{lt-of-holds, size-pos, size-le}
use Rattle.rules.specs.laws.Tables.{ascending-less, tables-size, tables-ascending, tables-back, number-back}
use Rattle.rules.specs.laws.Decide.{connected?}

-- complete
pub combos-all : (k t n : ℕ) (s : List ℕ) → length s ≡ k → Ascending t (t + n) s → Memᴰ s (combos k t n)
unfolding combos Ascending
combos-all zero t n [] e r = Memᴰ.head refl
combos-all zero t n (x ∷ s) e r = absurd (omega arith)
combos-all (suc k) t n [] e r = absurd (omega arith)
combos-all (suc k) t zero (x ∷ s) e r = absurd (omega (arith, r.0, r.1))
combos-all (suc k) t (suc n) (x ∷ s) e r =
    with-or-without (λ r'. combos-all k (suc t) n s (omega arith) r') (λ r'. combos-all (suc k) (suc t) n (x ∷ s) e r') (ℕ_discrete x t)
  where
    shift : t + suc n ≡ suc t + n
    shift = omega arith

    with-or-without : (Ascending (suc t) (suc t + n) s → Memᴰ s (combos k (suc t) n)) → (Ascending (suc t) (suc t + n) (x ∷ s) → Memᴰ (x ∷ s) (combos (suc k) (suc t) n))
        → Dec (x ≡ t) → Memᴰ (x ∷ s) (combos (suc k) t (suc n))
    with-or-without wi wo (yes p) = Memᴰ.append_left (combos (suc k) (suc t) n) (Memᴰ.cast (ap (λ (y : ℕ). y ∷ s) p) (Memᴰ.map (λ (l : List ℕ). t ∷ l) (wi (rw (p, shift) at r.2))))
    with-or-without wi wo (no f) = Memᴰ.append_right (map (λ (l : List ℕ). t ∷ l) (combos k (suc t) n)) (wo (omega (arith, r.0), omega (arith, r.1), rw shift at r.2))

-- and nothing else
pub combos-only : (k t n : ℕ) (s : List ℕ) → Memᴰ s (combos k t n) → (length s ≡ k) × Ascending t (t + n) s
unfolding combos Ascending
combos-only zero t n s m = rw (Memᴰ.eq_of_singleton m) (refl, tt)
combos-only (suc k) t zero s m = absurd (Memᴰ.not-nil m)
combos-only (suc k) t (suc n) s m = part (combos-only k (suc t) n) (combos-only (suc k) (suc t) n s) (Memᴰ.append_cases (map (λ (l : List ℕ). t ∷ l) (combos k (suc t) n)) m)
  where
    shift : suc t + n ≡ t + suc n
    shift = omega arith

    part : ((l : List ℕ) → Memᴰ l (combos k (suc t) n) → (length l ≡ k) × Ascending (suc t) (suc t + n) l)
        → (Memᴰ s (combos (suc k) (suc t) n) → (length s ≡ suc k) × Ascending (suc t) (suc t + n) s)
        → Memᴰ s (map (λ (l : List ℕ). t ∷ l) (combos k (suc t) n)) ⊎ Memᴰ s (combos (suc k) (suc t) n) → (length s ≡ suc k) × Ascending t (t + suc n) s
    part wi wo (inl a) =
        let o = Memᴰ.of_map (λ (l : List ℕ). t ∷ l) (combos k (suc t) n) a in
        let h = wi o.0 o.1 in
        rw (← o.2) (ap suc h.0, (omega arith, omega arith, rw shift at h.1))
    part wi wo (inr b) = let h = wo b in (h.0, ascending-less t (t + suc n) s (rw shift at h.1))

ordered-append : (xs ys : List (List ℕ)) → Ordered xs → Ordered ys → ((a b : List ℕ) → Memᴰ a xs → Memᴰ b ys → Before a b) → Ordered (xs ++ ys)
unfolding Ordered
ordered-append [] ys p g c = g
ordered-append (a ∷ xs) ys p g c = (λ s m. ⊎_elim (p.0 s) (c a s (Memᴰ.head refl)) (Memᴰ.append_cases xs m), ordered-append xs ys p.1 g (λ x y m n. c x y (Memᴰ.tail m) n))

ordered-map : (t : ℕ) (ss : List (List ℕ)) → Ordered ss → Ordered (map (λ (l : List ℕ). t ∷ l) ss)
unfolding Ordered Before
ordered-map t [] p = tt
ordered-map t (s ∷ ss) p = (λ s' m. let o = Memᴰ.of_map (λ (l : List ℕ). t ∷ l) ss m in rw (← o.2) (inr (refl, p.0 o.0 o.1)), ordered-map t ss p.1)

-- in memo order, each once
pub combos-ordered : (k t n : ℕ) → Ordered (combos k t n)
unfolding combos Ordered Ascending Before
combos-ordered zero t n = (λ s m. absurd (Memᴰ.not-nil m), tt)
combos-ordered (suc k) t zero = tt
combos-ordered (suc k) t (suc n) =
    ordered-append (map (λ (l : List ℕ). t ∷ l) (combos k (suc t) n)) (combos (suc k) (suc t) n)
    (ordered-map t (combos k (suc t) n) (combos-ordered k (suc t) n)) (combos-ordered (suc k) (suc t) n) cross
  where
    late : (x b : List ℕ) → (length b ≡ suc k) × Ascending (suc t) (suc t + n) b → Before (t ∷ x) b
    late x [] h = absurd (omega arith)
    late x (y ∷ b) h = inl h.1.0

    cross : (a b : List ℕ) → Memᴰ a (map (λ (l : List ℕ). t ∷ l) (combos k (suc t) n)) → Memᴰ b (combos (suc k) (suc t) n) → Before a b
    cross a b p g = let o = Memᴰ.of_map (λ (l : List ℕ). t ∷ l) (combos k (suc t) n) p in rw (← o.2) (late o.0 b (combos-only (suc k) (suc t) n b g))

-- ---- the connected ones among them
pub below_all : (g : Graph) (X : ℕ) → Connected g X → X < 2 ^ table_count g
below_all g X c = lt-of-holds (table_count g) X (λ t h. (c.known t h).to-count)

pub rows_all : (g : Graph) (X : ℕ) → Connected g X → Memᴰ X (rows_of g (size X))
unfolding rows_of sequences tables
rows_all g X c = Memᴰ.cast (sym back) (Memᴰ.map number (keep-in (λ (s : List ℕ). is_yes (connected? g (number s))) s (combos (size X) 1 N) there (rw back (true-yes (connected? g X) c))))
  where
    N : ℕ
    N = table_count g

    s : List ℕ
    s = tables N X

    back : number s ≡ X
    back = tables-back N X (below_all g X c)

    there : Memᴰ s (combos (size X) 1 N)
    there = combos-all (size X) 1 N s (tables-size 1 N X (below_all g X c)) (tables-ascending 1 N X)

pub rows-only : (g : Graph) (k X : ℕ) → Memᴰ X (rows_of g k) → Connected g X × (size X ≡ k)
unfolding rows_of sequences tables
rows-only g k X m = (rw o.2 at c, ap size (sym o.2) ∙ sym (tables-size 1 N (number s) (below_all g (number s) c)) ∙ ap length (number-back N s r.1) ∙ r.0)
  where
    N : ℕ
    N = table_count g

    o : (s : List ℕ) × Memᴰ s (keep (λ (s : List ℕ). is_yes (connected? g (number s))) (combos k 1 N)) × (number s ≡ X)
    o = Memᴰ.of_map number (keep (λ (s : List ℕ). is_yes (connected? g (number s))) (combos k 1 N)) m

    s : List ℕ
    s = o.0

    i : Memᴰ s (combos k 1 N) × (is_yes (connected? g (number s)) ≡ true)
    i = keep-of (λ (s : List ℕ). is_yes (connected? g (number s))) s (combos k 1 N) o.1

    c : Connected g (number s)
    c = yes_true (connected? g (number s)) i.1

    r : (length s ≡ k) × Ascending 1 (1 + N) s
    r = combos-only k 1 N s i.0

-- a connected set has at most N tables
pub size-count : (g : Graph) (X : ℕ) → Connected g X → size X ≤ table_count g
size-count g X c = size-le (table_count g) X (below_all g X c)

-- ---- in order, each once
keep-ordered : (f : List ℕ → Bool) (ss : List (List ℕ)) → Ordered ss → Ordered (keep f ss)
unfolding Ordered keep
keep-ordered f [] o = tt
keep-ordered f (s ∷ ss) o = go (keep-ordered f ss o.1) (true-or-false (f s))
  where
    go : Ordered (keep f ss) → (f s ≡ true) ⊎ (f s ≡ false) → Ordered (cond (f s) (s ∷ keep f ss) (keep f ss))
    go ih (inl e) = rw e (λ s' m. o.0 s' (keep-of f s' ss m).0, ih)
    go ih (inr e) = rw e ih

pub sequences-ordered : (g : Graph) (k : ℕ) → Ordered (sequences g k)
unfolding sequences
sequences-ordered g k = keep-ordered (λ (s : List ℕ). is_yes (connected? g (number s))) (combos k 1 (table_count g)) (combos-ordered k 1 (table_count g))

same_back : (n : ℕ) (ss : List (List ℕ)) → ((s : List ℕ) → Memᴰ s ss → tables n (number s) ≡ s) → map (tables n) (map number ss) ≡ ss
same_back n [] h = refl
same_back n (s ∷ ss) h = ap₂ (λ (x : List ℕ) (xs : List (List ℕ)). x ∷ xs) (h s (Memᴰ.head refl)) (same_back n ss (λ s' m. h s' (Memᴰ.tail m)))

-- the ascending sequence of a row's set is the sequence that it was made of
pub rows-tables : (g : Graph) (k : ℕ) → map (tables (table_count g)) (rows_of g k) ≡ sequences g k
unfolding rows_of sequences
rows-tables g k = same_back N (keep f (combos k 1 N)) (λ s m. number-back N s (combos-only k 1 N s (keep-of f s (combos k 1 N) m).0).1)
  where
    N : ℕ
    N = table_count g

    f : List ℕ → Bool
    f s = is_yes (connected? g (number s))

-- STRICTLY ASCENDING: each row of a size stands before all later ones, by the sequences of table numbers
pub rows-ordered : (g : Graph) (k : ℕ) → Ordered (map (tables (table_count g)) (rows_of g k))
rows-ordered g k = rw (rows-tables g k) (sequences-ordered g k)

-- nothing stands before itself
pub before-irrefl : (s : List ℕ) → Before s s → ⊥
unfolding Before
before-irrefl [] b = b
before-irrefl (x ∷ s) (inl l) = omega arith
before-irrefl (x ∷ s) (inr b) = before-irrefl s b.1

ordered-once : (n : ℕ) (xs : List ℕ) → Ordered (map (tables n) xs) → Once xs
unfolding Ordered Once
ordered-once n [] o = tt
ordered-once n (x ∷ xs) o = (λ m. before-irrefl (tables n x) (o.0 (tables n x) (Memᴰ.map (tables n) m)), ordered-once n xs o.1)

pub rows-once : (g : Graph) (k : ℕ) → Once (rows_of g k)
rows-once g k = ordered-once (table_count g) (rows_of g k) (rows-ordered g k)

-- ---- all sizes
-- EVERY CONNECTED SET has a memo row
pub memo-all : (g : Graph) (S : ℕ) → Connected g S → Memᴰ S (memo g)
unfolding memo
memo-all g S c = in-row (rows_of g) S 1 (table_count g) (size S) (size-pos S c.some) (omega (arith, size-count g S c)) (rows_all g S c)

-- NOTHING ELSE has one
pub memo-only : (g : Graph) (S : ℕ) → Memᴰ S (memo g) → Connected g S
unfolding memo
memo-only g S m = let r = of_row (rows_of g) S 1 (table_count g) m in (rows-only g r.0 S r.3).0

-- and each has ONE
pub memo-once : (g : Graph) → Once (memo g)
unfolding memo
memo-once g = once-row (rows_of g) (rows-once g) (λ j k S a b. sym (rows-only g j S a).1 ∙ (rows-only g k S b).1) 1 (table_count g)

-- ---- the order as a test
pub before-yes : (xs ys : List ℕ) → before xs ys ≡ true → Before xs ys
unfolding before Before
before-yes [] [] e = not-both false e refl
before-yes [] (y ∷ ys) e = tt
before-yes (x ∷ xs) [] e = not-both false e refl
before-yes (x ∷ xs) (y ∷ ys) e =
    ⊎_elim (λ l. inl (ltb-true x y l))
    (λ r. inr (eqb-true x y (and-true-l (eqb x y) (before xs ys) r), before-yes xs ys (and_true_r (eqb x y) (before xs ys) r)))
    (or_cases (ltb x y) (eqb x y && before xs ys) e)

pub yes-before : (xs ys : List ℕ) → Before xs ys → before xs ys ≡ true
unfolding before Before
yes-before [] [] h = absurd h
yes-before [] (y ∷ ys) h = refl
yes-before (x ∷ xs) [] h = absurd h
yes-before (x ∷ xs) (y ∷ ys) h =
    ⊎_elim (λ l. or-true-l (ltb x y) (eqb x y && before xs ys) (lt-ltb x y l))
    (λ r. or_true_r (ltb x y) (eqb x y && before xs ys) (and-true (eqb x y) (before xs ys) (eq-eqb x y r.0) (yes-before xs ys r.1)))
    h

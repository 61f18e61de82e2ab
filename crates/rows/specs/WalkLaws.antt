-- Laws of the walk: its ends, one step of it, how long it gets, the rows of a size and of all sizes, and where it meets nothing.
use Rattle.std.specs.Prelude.{◌≡◌, Bool, true, false, cond, ℕ, zero, suc, ◌+◌, ◌-◌, ◌*◌, ◌^◌, ◌≤◌, ◌<◌, length, set}
use Rattle.std.proofs.Math.Path.{refl, ap}
use Rattle.std.proofs.Common.{sym, ap₂, ◌∙◌, pow-suc, mul-suc, mul-le-mul, add-one, sub-one, pow_mono, pow_pos, length-append}
use mathlib.Core.List.{List, [], ◌∷◌, ◌++◌, map, map-append, Memᴰ}
use native.Mathlib.Omega.{arith}
use Rattle.std.proofs.lemmas.List.Edits.{sets}
use Rattle.rules.specs.Limits.{max_tables}
use Rattle.rules.specs.Lists.{keep, is_yes, in_row}
use Rattle.rules.specs.Sets.{number, single, size}
use Rattle.rules.specs.Query.{Graph, table_count}
use Rattle.rules.specs.Rows.{combos, sequences, rows_of, memo}
use Rattle.rules.specs.Skips.{skips}
use Rattle.rules.specs.laws.Lists.{length-map, row_last, sum, sum-append}
use Rattle.rules.specs.laws.Decide.{connected?}
use Rattle.rules.proofs.laws.Rows.{rows-only}
use Rattle.rules.proofs.laws.Skips.{cells-sizes}
use Rattle.graph.specs.Walk.{walk}
use Rattle.rows.specs.Sizes.{up_to}

-- ---- what passes
keep_append : {C : Type 0} (f : C → Bool) (xs ys : List C) → keep f (xs ++ ys) ≡ keep f xs ++ keep f ys
unfolding keep
keep_append f [] ys = refl
keep_append {C = C} f (x ∷ xs) ys = go (f x) (keep_append f xs ys)
  where
    go : (b : Bool) → keep f (xs ++ ys) ≡ keep f xs ++ keep f ys → cond b (x ∷ keep f (xs ++ ys)) (keep f (xs ++ ys)) ≡ cond b (x ∷ keep f xs) (keep f xs) ++ keep f ys
    go true e = ap (λ (l : List C). x ∷ l) e
    go false e = e

length-keep : {C : Type 0} (f : C → Bool) (xs : List C) → length (keep f xs) ≤ length xs
unfolding keep
length-keep f [] = omega arith
length-keep f (x ∷ xs) = go (f x) (length-keep f xs)
  where
    go : (b : Bool) → length (keep f xs) ≤ length xs → length (cond b (x ∷ keep f xs) (keep f xs)) ≤ suc (length xs)
    go true h = omega arith
    go false h = omega arith

-- ---- what is chosen
-- a table more among the chosen ones, or in front of each sequence
chosen_more : (chosen t : ℕ) (ss : List (List ℕ)) → map (λ (s : List ℕ). chosen + number s) (map (λ (s : List ℕ). t ∷ s) ss) ≡ map (λ (s : List ℕ). chosen + single t + number s) ss
unfolding number
chosen_more chosen t [] = refl
chosen_more chosen t (s ∷ ss) =
    let e : chosen + (single t + number s) ≡ chosen + single t + number s = omega arith in
    ap₂ (λ (x : ℕ) (xs : List ℕ). x ∷ xs) e (chosen_more chosen t ss)

-- nothing chosen
chosen_none : (f : ℕ → Bool) (ss : List (List ℕ)) → map number (keep (λ (s : List ℕ). f (number s)) ss) ≡ keep f (map (λ (s : List ℕ). 0 + number s) ss)
unfolding keep
chosen_none f [] = refl
chosen_none f (s ∷ ss) = rw e (go (f (number s)) (chosen_none f ss))
  where
    e : 0 + number s ≡ number s
    e = omega arith

    go : (b : Bool) → map number (keep (λ (s : List ℕ). f (number s)) ss) ≡ keep f (map (λ (s : List ℕ). 0 + number s) ss)
        → map number (cond b (s ∷ keep (λ (s : List ℕ). f (number s)) ss) (keep (λ (s : List ℕ). f (number s)) ss)) ≡ cond b (number s ∷ keep f (map (λ (s : List ℕ). 0 + number s) ss)) (keep f (map (λ (s : List ℕ). 0 + number s) ss))
    go true h = ap (λ (l : List ℕ). number s ∷ l) h
    go false h = h

-- ---- no table is left to add
module _ (g : Graph) (t n chosen : ℕ) where
  pub walk-last : walk g 0 t n chosen ≡ cond (is_yes (connected? g chosen)) (chosen ∷ []) []
  unfolding walk combos keep number
  walk-last = let e : chosen + 0 ≡ chosen = omega arith in rw e

  pub walk-hit : (k : ℕ) → k ≡ 0 → is_yes (connected? g chosen) ≡ true → walk g k t n chosen ≡ chosen ∷ []
  walk-hit k z h = rw z (walk-last ∙ rw h)

  pub walk-miss : (k : ℕ) → k ≡ 0 → is_yes (connected? g chosen) ≡ false → walk g k t n chosen ≡ []
  walk-miss k z h = rw z (walk-last ∙ rw h)

-- ---- fewer tables are left than are to be added
combos-few : (k t n : ℕ) → n < k → combos k t n ≡ []
unfolding combos
combos-few zero t n h = absurd (omega arith)
combos-few (suc k) t zero h = refl
combos-few (suc k) t (suc n) h = rw (combos-few k (suc t) n (omega arith), combos-few (suc k) (suc t) n (omega arith))

pub walk-few : (g : Graph) (k t n chosen : ℕ) → n < k → walk g k t n chosen ≡ []
unfolding walk keep
walk-few g k t n chosen h = rw (combos-few k t n h)

-- ---- one step: with table t, then without
one-step : (g : Graph) (k t n chosen : ℕ) → walk g (suc k) t (suc n) chosen ≡ walk g k (suc t) n (chosen + single t) ++ walk g (suc k) (suc t) n chosen
unfolding walk combos
one-step g k t n chosen =
    let c : List ℕ → ℕ = λ (s : List ℕ). chosen + number s in
    let f : ℕ → Bool = λ (S : ℕ). is_yes (connected? g S) in
    ap (keep f) (map-append c (map (λ (s : List ℕ). t ∷ s) (combos k (suc t) n)) (combos (suc k) (suc t) n) ∙ ap (λ (l : List ℕ). l ++ map c (combos (suc k) (suc t) n)) (chosen_more chosen t (combos k (suc t) n)))
    ∙ keep_append f (map (λ (s : List ℕ). chosen + single t + number s) (combos k (suc t) n)) (map c (combos (suc k) (suc t) n))

module _ (g : Graph) (N : ℕ) where
  -- in the code's form, where x is the set of table t alone
  pub walk_step : (k t chosen x : ℕ) → 0 < k → t ≤ N → x ≡ single t
      → walk g k t (N + 1 - t) chosen ≡ walk g (k - 1) (t + 1) (N + 1 - (t + 1)) (chosen + x) ++ walk g k (t + 1) (N + 1 - (t + 1)) chosen
  walk_step zero t chosen x p h e = absurd (omega arith)
  walk_step (suc k) t chosen x p h e =
      let m : N + 1 - t ≡ suc (N + 1 - (t + 1)) = omega arith in
      rw (m, add-one t, sub-one (suc k), e) (one-step g k t (N + 1 - suc t) chosen)

-- ---- few enough for a count
length-combos : (k t n : ℕ) → length (combos k t n) ≤ 2 ^ n
unfolding combos
length-combos zero t n = omega (arith, pow_pos n)
length-combos (suc k) t zero = omega arith
length-combos (suc k) t (suc n) =
    omega (
      arith,
      pow-suc 2 n,
      length-combos k (suc t) n,
      length-combos (suc k) (suc t) n,
      length-map (λ (s : List ℕ). t ∷ s) (combos k (suc t) n),
      length-append (map (λ (s : List ℕ). t ∷ s) (combos k (suc t) n)) (combos (suc k) (suc t) n),
    )

pub length-walk : (g : Graph) (k t n chosen : ℕ) → length (walk g k t n chosen) ≤ 2 ^ n
unfolding walk
length-walk g k t n chosen =
    omega (
      arith,
      length-keep (λ (S : ℕ). is_yes (connected? g S)) (map (λ (s : List ℕ). chosen + number s) (combos k t n)),
      length-map (λ (s : List ℕ). chosen + number s) (combos k t n),
      length-combos k t n,
    )

pub walk-fits : (g : Graph) (N k t chosen : ℕ) → N ≤ max_tables → 1 ≤ t → length (walk g k t (N + 1 - t) chosen) ≤ 65536
walk-fits g N k t chosen l h = omega (arith, length-walk g k t (N + 1 - t) chosen, pow_mono {i = N + 1 - t} {j = 16} (omega arith))

-- ---- the rows of a size
pub rows-walk : (g : Graph) (k : ℕ) → rows_of g k ≡ walk g k 1 (table_count g) 0
unfolding rows_of sequences walk
rows-walk g k = chosen_none (λ (S : ℕ). is_yes (connected? g S)) (combos k 1 (table_count g))

-- the walk's start in the code's form
pub rows_start : (g : Graph) (k : ℕ) → walk g k 1 (table_count g + 1 - 1) 0 ≡ rows_of g k
rows_start g k = let e : table_count g + 1 - 1 ≡ table_count g = omega arith in rw e (sym (rows-walk g k))

pub rows_fit : (g : Graph) (k : ℕ) → table_count g ≤ max_tables → length (rows_of g k) ≤ 65536
rows_fit g k l = omega (arith, ap length (rows_start g k), walk-fits g (table_count g) k 1 0 l (omega arith))

-- ---- writing
-- two runs of stores in a row
sets-append : (l : List ℕ) (i : ℕ) (vs ws : List ℕ) → sets (sets l i vs) (i + length vs) ws ≡ sets l i (vs ++ ws)
sets-append l i [] ws = ap (λ (k : ℕ). sets l k ws) (omega arith)
sets-append l i (v ∷ vs) ws = ap (λ (k : ℕ). sets (sets (set l i v) (suc i) vs) k ws) (omega arith) ∙ sets-append (set l i v) (suc i) vs ws

pub wrote-both : (old : List ℕ) (at : ℕ) {mid new : List ℕ} {next : ℕ} (xs ys : List ℕ) → next ≡ at + length xs → mid ≡ sets old at xs → new ≡ sets mid next ys → new ≡ sets old at (xs ++ ys)
wrote-both old at xs ys e m h = h ∙ ap₂ (λ (l : List ℕ) (i : ℕ). sets l i ys) m e ∙ sets-append old at xs ys

-- ---- all sizes up to k
module _ (g : Graph) where
  pub up_to-none : up_to g 0 ≡ []
  unfolding in_row
  up_to-none = refl

  pub up_to-more : (k : ℕ) → up_to g (k + 1) ≡ up_to g k ++ rows_of g (k + 1)
  up_to-more k =
      let e : 1 + k ≡ k + 1 = omega arith in
      ap (up_to g) (add-one k) ∙ row_last (rows_of g) 1 k ∙ ap (λ (i : ℕ). up_to g k ++ rows_of g i) e

  pub up_to-end : (k : ℕ) → k ≡ table_count g → up_to g k ≡ memo g
  unfolding memo
  up_to-end k e = ap (up_to g) e

  pub length_more : (k : ℕ) → length (up_to g (k + 1)) ≡ length (up_to g k) + length (rows_of g (k + 1))
  length_more k = ap length (up_to-more k) ∙ length-append (up_to g k) (rows_of g (k + 1))

-- ---- skip cells
sum_same : (k : ℕ) (xs : List ℕ) → ((S : ℕ) → Memᴰ S xs → size S ≡ k) → sum (map size xs) ≡ k * length xs
unfolding sum
sum_same k [] h = omega arith
sum_same k (x ∷ xs) h = omega (arith, h x (Memᴰ.head refl), sum_same k xs (λ S m. h S (Memᴰ.tail m)), mul-suc k (length xs))

module _ (g : Graph) where
  pub cells-none : sum (map size (up_to g 0)) ≡ 0
  unfolding in_row sum
  cells-none = refl

  cells-more : (k : ℕ) → sum (map size (up_to g (k + 1))) ≡ sum (map size (up_to g k)) + (k + 1) * length (rows_of g (k + 1))
  cells-more k =
      ap (λ (l : List ℕ). sum (map size l)) (up_to-more g k)
      ∙ ap sum (map-append size (up_to g k) (rows_of g (k + 1)))
      ∙ sum-append (map size (up_to g k)) (map size (rows_of g (k + 1)))
      ∙ ap (λ (x : ℕ). sum (map size (up_to g k)) + x) (sum_same (k + 1) (rows_of g (k + 1)) (λ S m. (rows-only g (k + 1) S m).1))

  -- a count of them after one size more, where r is the count of that size's rows
  pub cells-next : (k : ℕ) {count r : ℕ} → count ≡ sum (map size (up_to g k)) → r ≡ length (rows_of g (k + 1)) → count + (k + 1) * r ≡ sum (map size (up_to g (k + 1)))
  cells-next k c r = rw (c, r) (sym (cells-more k))

  pub cells-end : (k : ℕ) → k ≡ table_count g → sum (map size (up_to g k)) ≡ length (skips g)
  cells-end k e = ap (λ (l : List ℕ). sum (map size l)) (up_to-end g k e) ∙ sym (cells-sizes g)

  -- the cells of a size, few enough for a count
  pub cells_fit : (k r : ℕ) → k < table_count g → table_count g ≤ max_tables → r ≡ length (rows_of g (k + 1)) → (k + 1) * r ≤ 1048576
  cells_fit k r l few e = mul-le-mul {n₁ = k + 1} {m₁ = r} {n₂ = 16} {m₂ = 65536} (omega arith) (omega (arith, rows_fit g (k + 1) few))

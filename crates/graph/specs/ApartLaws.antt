-- Laws of chosen tables and the tables from t on: bounds, an edge across, and where the walk meets nothing.
use Rattle.std.specs.Prelude.{◌≡◌, refl, ◌⊎◌, Bool, false, cond, not, ℕ, zero, suc, ◌+◌, ◌-◌, ◌^◌, ◌≤◌, ◌<◌, ◌/◌, length}
use Rattle.std.proofs.Common.{sym, ap, ◌∙◌, inl, inr, pow-suc, arith, pow_mono, pow_pos, eq-eqb}
use Rattle.std.proofs.Math.Bool.{true}
use mathlib.Core.List.Memᴰ
use mathlib.Core.List.{List, [], ◌∷◌, map, Memᴰ}
use Rattle.std.proofs.Math.Decide.{dec_lt}
use Rattle.std.specs.Int.Bits.{bit_and}
use Rattle.rules.specs.Limits.{max_tables}
use Rattle.rules.specs.Lists.{keep, is_yes}
use Rattle.rules.specs.Sets.{number, single, holds, Disjoint, disjoint, Splits, Ascending}
use Rattle.rules.specs.Query.{Graph, Between}
use Rattle.rules.specs.Connected.{Connected, Walk, here, step}
use Rattle.rules.specs.Rows.{combos}
use Rattle.rules.specs.laws.Bools.{true-or-false, not-both, yes_true}
use Rattle.rules.specs.laws.Sets.{bit, bit_le, holds-bit, holds-none, holds-pos, holds-lt, holds-sum, holds-apart, holds-single-only, disjoint-of-bits, union-of}
use Rattle.rules.specs.laws.Connected.{Within}
use Rattle.rules.specs.laws.Decide.{connected?}
use Rattle.rules.proofs.laws.Rows.{combos-only}
use Rattle.graph.specs.Walk.{walk, onward, Apart}

-- ---- the chosen tables lie below the next one
module _ (t chosen : ℕ) (some : 1 ≤ t) (below : chosen < 2 ^ (t - 1)) where
  twice : 2 ^ (t + 1 - 1) ≡ 2 ^ (t - 1) + 2 ^ (t - 1)
  twice = let e : t + 1 - 1 ≡ suc (t - 1) = omega arith in rw e (omega (arith, pow-suc 2 (t - 1)))

  pub below-with : chosen + single t < 2 ^ (t + 1 - 1)
  below-with = omega (arith, twice)

  pub below-without : chosen < 2 ^ (t + 1 - 1)
  below-without = omega (arith, twice)

-- ---- chosen tables that cannot be joined any more
pub apart-tables : (a b : ℕ) → ((u : ℕ) → holds a u ≡ 1 → holds b u ≡ 1 → ⊥) → Disjoint a b
apart-tables a b n = disjoint-of-bits a b (λ i. go i (dec_lt 0 (bit i a)) (dec_lt 0 (bit i b)))
  where
    go : (i : ℕ) → Dec (0 < bit i a) → Dec (0 < bit i b) → bit i a + bit i b ≤ 1
    go i (yes p) (yes r) = absurd (n (suc i) (holds-bit a i ∙ omega (arith, bit_le i a)) (holds-bit b i ∙ omega (arith, bit_le i b)))
    go i (yes p) (no z) = omega (arith, bit_le i a)
    go i (no z) r = omega (arith, bit_le i b)

-- a walk in a part of A that goes from X to Y has an edge from X to Y
pub crossing : {g : Graph} {A X Y S a b : ℕ} → Splits A X Y → Within S A → holds X a ≡ 1 → Walk g S a b → holds Y b ≡ 1 → Between g X Y
unfolding Within
crossing {g} {A} {X} {Y} {S} {a} {b} p w ha (here e h) hb = absurd (omega (arith, holds-apart X Y b p.apart, rw e at ha))
crossing {g} {A} {X} {Y} {S} {a} {b} p w ha (step {b = c} r l h) hb = go (λ hc. crossing p w ha r hc) (dec_lt 0 (holds X c))
  where
    at-end : Walk g S a c → holds S c ≡ 1
    at-end (here e h) = h
    at-end (step r l h) = h

    inside : holds A c ≡ 1
    inside = w c (at-end r)

    go : (holds Y c ≡ 1 → Between g X Y) → Dec (0 < holds X c) → Between g X Y
    go ih (yes z) = record { from = c; to = b; from_in = omega (arith, holds-apart X Y c p.apart, union-of p c); to_in = hb; linked = l }
    go ih (no z) = ih (omega (arith, union-of p c, inside))

-- ---- the code's forms
pub all-fits : (n A : ℕ) → n ≤ max_tables → A < 2 ^ n → A < 65536
all-fits n A h l = omega (arith, pow_mono {i = n} {j = 16} h)

pub overlap-some : (x y : ℕ) (r : Bool) → r ≡ not (disjoint x y) → r ≡ true → Disjoint x y → ⊥
overlap-some x y r e h d = not-both (not (disjoint x y)) (sym e ∙ h) (rw (eq-eqb (bit_and x y) 0 d))

-- ---- the tables from t on
onward-in : (j e i : ℕ) → j ≤ i → i < e → bit i (2 ^ e - 2 ^ j) ≡ 1
unfolding bit
onward-in j zero i l u = absurd (omega arith)
onward-in zero (suc e) zero l u = omega (arith, pow-suc 2 e, pow_pos e)
onward-in zero (suc e) (suc i) l u =
    let h : (2 ^ suc e - 2 ^ 0) / 2 ≡ 2 ^ e - 2 ^ 0 = omega (arith, pow-suc 2 e, pow_pos e) in
    rw h (onward-in zero e i (omega arith) (omega arith))
onward-in (suc j) (suc e) zero l u = absurd (omega arith)
onward-in (suc j) (suc e) (suc i) l u =
    let h : (2 ^ suc e - 2 ^ suc j) / 2 ≡ 2 ^ e - 2 ^ j = omega (arith, pow-suc 2 e, pow-suc 2 j) in
    rw h (onward-in j e i (omega arith) (omega arith))

onward-out : (j e i : ℕ) → i < j → j ≤ e → bit i (2 ^ e - 2 ^ j) ≡ 0
unfolding bit
onward-out zero e i l u = absurd (omega arith)
onward-out (suc j) zero i l u = absurd (omega arith)
onward-out (suc j) (suc e) zero l u = omega (arith, pow-suc 2 e, pow-suc 2 j)
onward-out (suc j) (suc e) (suc i) l u =
    let h : (2 ^ suc e - 2 ^ suc j) / 2 ≡ 2 ^ e - 2 ^ j = omega (arith, pow-suc 2 e, pow-suc 2 j) in
    rw h (onward-out j e i (omega arith) (omega arith))

pub onward-holds : (n t u : ℕ) → 1 ≤ t → t ≤ u → u ≤ n → holds (onward n t) u ≡ 1
onward-holds n t zero f l h = absurd (omega arith)
onward-holds n t (suc i) f l h = holds-bit (onward n t) i ∙ onward-in (t - 1) n i (omega arith) (omega arith)

onward-lacks : (n t u : ℕ) → t ≤ n + 1 → u < t → holds (onward n t) u ≡ 0
onward-lacks n t zero h l = holds-none (onward n t)
onward-lacks n t (suc i) h l = holds-bit (onward n t) i ∙ onward-out (t - 1) n i (omega arith) (omega arith)

pub onward-apart : (n t chosen : ℕ) → t ≤ n + 1 → chosen < 2 ^ (t - 1) → Disjoint chosen (onward n t)
onward-apart n t chosen h l = apart-tables chosen (onward n t) (λ u a b. omega (arith, holds-lt (t - 1) chosen u l a, onward-lacks n t u h (omega (arith, holds-lt (t - 1) chosen u l a))))

-- the tables of an ascending sequence
number-range : (t e : ℕ) (s : List ℕ) → 1 ≤ t → Ascending t e s → (u : ℕ) → holds (number s) u ≡ 1 → (t ≤ u) × (u < e)
unfolding number Ascending
number-range t e [] f r u h = absurd (omega (arith, holds-pos 0 u h))
number-range t e (x ∷ s) f r u h = go (number-range (suc x) e s (omega arith) r.2) (dec_lt 0 (holds (number s) u))
  where
    later : ((v : ℕ) → holds (number s) v ≡ 1 → (suc x ≤ v) × (v < e)) → Disjoint (single x) (number s)
    later ih = apart-tables (single x) (number s) (λ v a b. omega (arith, holds-single-only x v (omega (arith, r.0)) a, (ih v b).0))

    go : ((v : ℕ) → holds (number s) v ≡ 1 → (suc x ≤ v) × (v < e)) → Dec (0 < holds (number s) u) → (t ≤ u) × (u < e)
    go ih (yes z) =
        let o = ih u (omega (arith, holds-sum (single x) (number s) u (later ih))) in
        (omega (arith, o.0, r.0), o.1)
    go ih (no z) =
        let o = holds-single-only x u (omega (arith, r.0)) (omega (arith, holds-sum (single x) (number s) u (later ih))) in
        (omega (arith, o, r.0), omega (arith, o, r.1))

-- a sequence of some tables makes a set of some
number-some : (s : List ℕ) → 0 < length s → 0 < number s
unfolding number
number-some [] h = absurd (omega arith)
number-some (x ∷ s) h = omega (arith, pow_pos (x - 1))

keep-nothing : {C : Type 0} (f : C → Bool) (xs : List C) → ((x : C) → Memᴰ x xs → f x ≡ true → ⊥) → keep f xs ≡ []
unfolding keep
keep-nothing f [] n = refl
keep-nothing {C = C} f (x ∷ xs) n = go (keep-nothing f xs (λ y m. n y (Memᴰ.tail m))) (true-or-false (f x))
  where
    go : keep f xs ≡ [] → (f x ≡ true) ⊎ (f x ≡ false) → cond (f x) (x ∷ keep f xs) (keep f xs) ≡ []
    go ih (inl e) = absurd (n x (Memᴰ.head refl) e)
    go ih (inr e) = rw e ih

module _ (g : Graph) (N t chosen : ℕ) (f : 1 ≤ t) (h : t ≤ N + 1) (l : chosen < 2 ^ (t - 1)) where
  parted : Disjoint chosen (onward N t)
  parted = onward-apart N t chosen h l

  -- X is a set of the tables from t on
  module _ (X : ℕ) (r : (u : ℕ) → holds X u ≡ 1 → (t ≤ u) × (u < t + (N + 1 - t))) where
    later : Disjoint chosen X
    later = apart-tables chosen X (λ u c b. omega (arith, holds-lt (t - 1) chosen u l c, (r u b).0))

    has_chosen : Within chosen (chosen + X)
    unfolding Within
    has_chosen u i = omega (arith, holds-sum chosen X u later, holds-apart chosen X u later)

    has-only : Within (chosen + X) (chosen + onward N t)
    unfolding Within
    has-only u i = go (dec_lt 0 (holds X u))
      where
        go : Dec (0 < holds X u) → holds (chosen + onward N t) u ≡ 1
        go (yes z) =
            let o = r u (omega (arith, holds-sum chosen X u later, holds-apart chosen X u later)) in
            omega (arith, holds-sum chosen (onward N t) u parted, holds-apart chosen (onward N t) u parted, onward-holds N t u f o.0 (omega (arith, o.1)))
        go (no z) = omega (arith, holds-sum chosen X u later, holds-sum chosen (onward N t) u parted, holds-apart chosen (onward N t) u parted)

  -- PRUNING: where the chosen tables cannot be joined by the tables from t on, the walk meets nothing
  pub walk-apart : Apart g chosen (chosen + onward N t) → (k : ℕ) → walk g k t (N + 1 - t) chosen ≡ []
  unfolding walk
  walk-apart a k = keep-nothing (λ (S : ℕ). is_yes (connected? g S)) (map (λ (s : List ℕ). chosen + number s) (combos k t (N + 1 - t))) not-connected
    where
      not-connected : (S : ℕ) → Memᴰ S (map (λ (s : List ℕ). chosen + number s) (combos k t (N + 1 - t))) → is_yes (connected? g S) ≡ true → ⊥
      not-connected S m e =
          let o = Memᴰ.of_map (λ (s : List ℕ). chosen + number s) (combos k t (N + 1 - t)) m in
          let r = number-range t (t + (N + 1 - t)) o.0 f (combos-only k t (N + 1 - t) o.0 o.1).1 in
          a.none (chosen + number o.0) (rw (← o.2) at (yes_true (connected? g S) e)) (has_chosen (number o.0) r) (has-only (number o.0) r)

  -- nor where no set of some tables from t on is connected with the chosen ones
  pub walk-without : ((X : ℕ) → 0 < X → ((u : ℕ) → holds X u ≡ 1 → (t ≤ u) × (u ≤ N)) → Connected g (chosen + X) → ⊥) → (k : ℕ) → 0 < k → walk g k t (N + 1 - t) chosen ≡ []
  unfolding walk
  walk-without n k p = keep-nothing (λ (S : ℕ). is_yes (connected? g S)) (map (λ (s : List ℕ). chosen + number s) (combos k t (N + 1 - t))) not-connected
    where
      not-connected : (S : ℕ) → Memᴰ S (map (λ (s : List ℕ). chosen + number s) (combos k t (N + 1 - t))) → is_yes (connected? g S) ≡ true → ⊥
      not-connected S m e =
          let o = Memᴰ.of_map (λ (s : List ℕ). chosen + number s) (combos k t (N + 1 - t)) m in
          let c = combos-only k t (N + 1 - t) o.0 o.1 in
          let r = number-range t (t + (N + 1 - t)) o.0 f c.1 in
          n (number o.0) (number-some o.0 (omega (arith, c.0))) (λ u i. ((r u i).0, omega (arith, (r u i).1))) (rw (← o.2) at (yes_true (connected? g S) e))

  -- in the code's form, where the tables from t on are x - y
  module _ (x y : ℕ) (ex : x ≡ single (N + 1)) (ey : y ≡ single t) where
    pub rest-is : x - y ≡ onward N t
    rest-is = let e : N + 1 - 1 ≡ N = omega arith in rw (ex, ey, e)

    pub rest_some : y ≤ x
    rest_some = rw (ex, ey) (pow_mono {i = t - 1} {j = N + 1 - 1} (omega arith))

    pub rest-apart : Disjoint chosen (x - y)
    rest-apart = rw rest-is parted

    pub rest-fits : chosen + (x - y) < 2 ^ N
    rest-fits = let e : N + 1 - 1 ≡ N = omega arith in omega (arith, rest_some, ex, ey, ap (λ (i : ℕ). 2 ^ i) e)

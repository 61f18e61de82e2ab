-- Laws that no proof cites any more, since the check finds their goals: they hold as before.
use Rattle.std.specs.Prelude.{◌≡◌, refl, List, ℕ, min, ◌+◌, ◌≤◌, ◌<◌, cond, ltb, leb, length, get_or, set}
use Rattle.std.proofs.Common.{sym, ◌∙◌, arith}
use Rattle.std.proofs.Math.Bool.{or-false}
use borrow.Author.Tests.{lt-ltb, le-ltb, eq-eqb, ne_eqb}
use Rattle.std.proofs.lemmas.List.{set-get_or}
use Rattle.rules.specs.Limits.{max_fixed, max_coefficient}
use Rattle.rules.specs.Offers as rules
use Rattle.rules.specs.laws.Choice.{sooner, kept}
use Rattle.results.specs.Prices.{choice_at, packed_at, Methods, Estimates, CheapestOf}
use Rattle.results.specs.PriceLaws as prices
use Rattle.std.proofs.Math.Decide.{dec_lt}

-- ---- the lesser of two numbers
abbrev pub lesser : ℕ → ℕ → ℕ
lesser a b = cond (ltb b a) b a

pub lesser-new : {a b : ℕ} → b < a → b ≡ lesser a b
lesser-new {a} {b} l = rw (lt-ltb b a l)

pub lesser-old : {a b : ℕ} → a ≤ b → a ≡ lesser a b
lesser-old {a} {b} l = rw (le-ltb b a l)

-- ---- the order of two choices
module _ (a b : rules.Choice) where
  -- costs that differ decide
  pub sooner-cost : (a.cost ≡ b.cost → ⊥) → ltb a.cost b.cost ≡ sooner a b
  unfolding sooner
  sooner-cost n = rw (ne_eqb _ _ n) (sym (or-false _))

  -- else outer sets that differ
  pub sooner-outer : a.cost ≡ b.cost → (a.outer ≡ b.outer → ⊥) → ltb a.outer b.outer ≡ sooner a b
  unfolding sooner
  sooner-outer e n = rw (le-ltb a.cost b.cost (omega arith), eq-eqb _ _ e, ne_eqb _ _ n) (sym (or-false _))

  -- else the methods
  pub sooner-method : a.cost ≡ b.cost → a.outer ≡ b.outer → leb a.method b.method ≡ sooner a b
  unfolding sooner
  sooner-method e f = rw (le-ltb a.cost b.cost (omega arith), eq-eqb _ _ e, le-ltb a.outer b.outer (omega arith), eq-eqb _ _ f)

-- ---- a row, as its three columns
module _ (costs outers methods : List ℕ) (row : ℕ) (new : rules.Choice) where
  -- what the row keeps of what it holds and a new choice
  abbrev keeps : rules.Choice
  keeps = kept (choice_at costs outers methods row) new

  -- a row that keeps what it holds is unchanged
  pub row_kept : keeps ≡ choice_at costs outers methods row → (get_or costs row 0 ≡ keeps.cost) × ((costs ≡ set costs row keeps.cost) × ((outers ≡ set outers row keeps.outer) × (methods ≡ set methods row keeps.method)))
  row_kept e = rw e (refl, (sym (set-get_or costs row 0), (sym (set-get_or outers row 0), sym (set-get_or methods row 0))))

  -- one that takes the new choice holds its parts
  pub row-taken : keeps ≡ new → (new.cost ≡ keeps.cost) × ((set costs row new.cost ≡ set costs row keeps.cost) × ((set outers row new.outer ≡ set outers row keeps.outer) × (set methods row new.method ≡ set methods row keeps.method)))
  row-taken e = rw e (refl, (refl, (refl, refl)))

-- ---- the arithmetic of the methods one by one
-- not the last one yet: there is one more
pub more : {k n : ℕ} → k ≤ n → (n ≡ k → ⊥) → k < n
more l n = omega arith

module _ {fixed outer inner result : List ℕ} (z : Methods fixed outer inner result) {k : ℕ} (l : k < length fixed) where
  pub in-outer : k < length outer
  in-outer = omega (arith, z.outer-list)

  pub in_inner : k < length inner
  in_inner = omega (arith, z.inner-list)

  pub in-result : k < length result
  in-result = omega (arith, z.result-list)

  -- what packing the method at index k requires
  pub pack-ready : {ex ey er : ℕ} → Estimates ex ey er → ((get_or fixed k 0 ≤ max_fixed) × (get_or outer k 0 ≤ max_coefficient) × (get_or inner k 0 ≤ max_coefficient) × (get_or result k 0 ≤ max_coefficient)) × (Estimates ex ey er × (k + 1 < 8))
  pack-ready e = ((z.fixed-fits k, z.outer-fits k, z.inner-fits k, z.result_fits k), (e, omega (arith, z.few)))

  -- the fourth is the last
  pub last-of-four : k ≡ 3 → 4 ≡ length fixed
  last-of-four e = omega (arith, z.few)

-- ---- the least of the packed prices, one method more: it is the lesser of what it was and that method's
module _ {fixed outer inner result : List ℕ} {ex ey er k best next : ℕ} (c : CheapestOf fixed outer inner result ex ey er k best) (e : next ≡ packed_at fixed outer inner result ex ey er k) where
  pub one_more : {r : ℕ} → r ≡ lesser best next → CheapestOf fixed outer inner result ex ey er (k + 1) r
  one_more {r} f = prices.one_more c e (f ∙ go (dec_lt next best))
    where
      go : Dec (next < best) → lesser best next ≡ min best next
      go (yes l) = let m : next ≡ min best next = omega arith in sym (lesser-new l) ∙ m
      go (no g) =
          let h : best ≤ next = omega arith in
          let m : best ≡ min best next = omega arith in
          sym (lesser-old h) ∙ m

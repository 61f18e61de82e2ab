-- What a row keeps, the least packed price method by method, and the best way to join two sets.
use Rattle.std.specs.Prelude.{◌≡◌, refl, Bool, true, false, List, ℕ, ◌+◌, ◌-◌, ◌*◌, ◌/◌, ◌%◌, ◌≤◌, ◌<◌, cond, min, ◌⊎◌, length}
use Rattle.std.proofs.Common.{sym, ap, ◌∙◌, le_refl, arith, inl, inr}
use Rattle.std.proofs.Math.Nat.{min-eq_left, min-eq_right}
use Rattle.rules.specs.laws.Bools.{true-or-false}
use Rattle.std.proofs.Math.Decide.{dec_lt}
use borrow.Author.Tests.{eq-eqb, ne_eqb}
use Rattle.rules.specs.Offers as rules
use Rattle.rules.specs.Offers.{Pair, sides, Priced, Offered}
use Rattle.rules.specs.laws.Choice.{Best, best-keep, best-take}
use Rattle.rules.proofs.laws.Ways.{both-sides, one_side}
use Rattle.rules.specs.laws.Choice.{sooner, better, better-first, kept}
use Rattle.results.specs.Prices.{price_by, packed_at, Methods, Cheapest, CheapestOf, join_by}

-- ---- what a row keeps
module _ (a b : rules.Choice) where
  -- the row holds a choice, and one that stands no later: it keeps it
  pub kept-old : (a.outer ≡ 0 → ⊥) → sooner a b ≡ true → kept a b ≡ a
  unfolding better
  kept-old n e = rw (ne_eqb _ _ n, e)

  -- it holds nothing: it takes the new one
  pub kept-first : a.outer ≡ 0 → kept a b ≡ b
  kept-first e = rw (eq-eqb _ _ e)

  -- it holds a later one: it takes the new one
  pub kept_new : (a.outer ≡ 0 → ⊥) → sooner a b ≡ false → kept a b ≡ b
  unfolding better
  kept_new n e = rw (ne_eqb _ _ n, e)

-- ---- the least of the packed prices
module _ {fixed outer inner result : List ℕ} {ex ey er : ℕ} where
  -- of the first method it is its own
  pub cheapest-first : {r : ℕ} → r ≡ packed_at fixed outer inner result ex ey er 0 → CheapestOf fixed outer inner result ex ey er 1 r
  cheapest-first e = record {
    method = 1;
    from_one = le_refl 1;
    to-count = le_refl 1;
    is = e;
    least = λ m a b. let o : m ≡ 1 = omega arith in rw (o, e) (le_refl _);
  }

  module _ {k best next : ℕ} (c : CheapestOf fixed outer inner result ex ey er k best) (e : next ≡ packed_at fixed outer inner result ex ey er k) where
    -- the next method's, as a price by method
    by_next : next ≡ price_by fixed outer inner result ex ey er (k + 1) * 8 + (k + 1)
    by_next = let z : k + 1 - 1 ≡ k = omega arith in rw z e

    -- what is at most the least so far and the next is at most each of k + 1
    among : (r : ℕ) → r ≤ best → r ≤ next → (m : ℕ) → 1 ≤ m → m ≤ k + 1 → r ≤ price_by fixed outer inner result ex ey er m * 8 + m
    among r p q m a b = go (dec_lt k m)
      where
        go : Dec (k < m) → r ≤ price_by fixed outer inner result ex ey er m * 8 + m
        go (yes l) = let o : m ≡ k + 1 = omega arith in rw o (omega (arith, by_next))
        go (no g) = omega (arith, c.least m a (omega arith))

    -- one method more: it is the lesser of what it was and that method's
    pub one_more : {r : ℕ} → r ≡ min best next → CheapestOf fixed outer inner result ex ey er (k + 1) r
    one_more {r} f = go (dec_lt next best)
      where
        go : Dec (next < best) → CheapestOf fixed outer inner result ex ey er (k + 1) r
        go (yes l) = let h : next ≤ best = omega arith in rw (f ∙ min-eq_right h) (record { method = k + 1; from_one = omega arith; to-count = le_refl (k + 1); is = by_next; least = among next (omega arith) (le_refl next) })
        go (no g) = let h : best ≤ next = omega arith in rw (f ∙ min-eq_left h) (record { method = c.method; from_one = c.from_one; to-count = omega (arith, c.to-count); is = c.is; least = among best (le_refl best) h })

  -- of all methods it is the cheapest
  pub cheapest-all : {k r : ℕ} → k ≡ length fixed → CheapestOf fixed outer inner result ex ey er k r → Cheapest fixed outer inner result ex ey er r
  cheapest-all e c = rw e at c

-- ---- the best way to join two sets
-- a packed price and its method, as a choice
abbrev unpack : ℕ → ℕ → ℕ → rules.Choice
unpack x base r = record { cost = base + r / 8; outer = x; method = r % 8 }

module _ {fixed outer inner result : List ℕ} (ms : Methods fixed outer inner result) where
  -- the cheapest method is the best choice of one way round
  unpacked : (cost : ℕ → ℕ → ℕ → ℕ) (x y ex ey er base r : ℕ) → ((m : ℕ) → cost x y m ≡ base + price_by fixed outer inner result ex ey er m) → Cheapest fixed outer inner result ex ey er r
      → Best (Priced (length fixed) cost x y) (unpack x base r)
  unpacked cost x y ex ey er base r is c = record {
    among = record { outer = refl; from_one = omega (arith, number); to-count = omega (arith, number); costs = omega (arith, price, is (r % 8), ap (price_by fixed outer inner result ex ey er) number) };
    first = λ k h.
        let l = c.least k.method h.from_one h.to-count in
        let few : k.method ≤ 4 = omega (arith, ms.few) in
        let f : k.cost ≡ base + price_by fixed outer inner result ex ey er k.method = h.costs ∙ is k.method in
        record { by-cost = omega arith; by-outer = λ _. omega arith; by-method = λ e _. omega arith };
  }
    where
      number : r % 8 ≡ c.method
      number = omega arith

      price : r / 8 ≡ price_by fixed outer inner result ex ey er c.method
      price = omega arith

  module _ (x y ex ey er base : ℕ) (differ : x ≡ y → ⊥) where
    abbrev pair : Pair
    pair = record { driving = x; inner = y }

    abbrev cost : ℕ → ℕ → ℕ → ℕ
    cost = join_by fixed outer inner result x ex ey er base

    first-is : (d : ℕ) → Cheapest fixed outer inner result ex ey er d → Best (Priced (length fixed) cost x y) (unpack x base d)
    first-is d p = unpacked cost x y ex ey er base d (λ m. rw (eq-eqb x x refl) refl) p

    second_is : (t : ℕ) → Cheapest fixed outer inner result ey ex er t → Best (Priced (length fixed) cost y x) (unpack y base t)
    second_is t q = unpacked cost y x ey ex er base t (λ m. rw (ne_eqb y x (λ e. differ (sym e))) refl) q

    -- only the second outer set is priced
    pub only-best : (t : ℕ) → Cheapest fixed outer inner result ey ex er t → {both : Bool} → both ≡ false → Best (Offered (sides both pair) (length fixed) cost) (unpack y base t)
    only-best t q n = rw n (one_side (second_is t q))

    -- both are: the better of the two is the best
    pub both-best : (d t : ℕ) → Cheapest fixed outer inner result ex ey er d → Cheapest fixed outer inner result ey ex er t → {both : Bool} → both ≡ true
        → Best (Offered (sides both pair) (length fixed) cost) (better (unpack x base d) (unpack y base t))
    unfolding better
    both-best d t p q o = rw o (go (true-or-false (sooner a b)))
      where
        a : rules.Choice
        a = unpack x base d

        b : rules.Choice
        b = unpack y base t

        go : (sooner a b ≡ true) ⊎ (sooner a b ≡ false) → Best (Offered (sides true pair) (length fixed) cost) (cond (sooner a b) a b)
        go (inl e) = rw e (both-sides (best-keep (first-is d p) (second_is t q) (rw e at (better-first a b).1)))
        go (inr e) = rw e (both-sides (best-take (first-is d p) (second_is t q) (rw e at (better-first a b).0)))

    module _ (d t : ℕ) (p : Cheapest fixed outer inner result ex ey er d) (q : Cheapest fixed outer inner result ey ex er t) {b : Bool} (e : b ≡ sooner (unpack x base d) (unpack y base t)) where
      -- the first outer set's best stands no later than the second's: it is the best of both
      pub first-best : {both : Bool} → both ≡ true → b ≡ true → Best (Offered (sides both pair) (length fixed) cost) (unpack x base d)
      unfolding better
      first-best o f = rw (sym e ∙ f) at (both-best d t p q o)

      -- it stands later: the second's is
      pub second-best : {both : Bool} → both ≡ true → b ≡ false → Best (Offered (sides both pair) (length fixed) cost) (unpack y base t)
      unfolding better
      second-best o f = rw (sym e ∙ f) at (both-best d t p q o)

-- Choices for a memo row in the order of 01's tie rule, and the best of a set of them. The set is a predicate: no list and no order of offering.
use Rattle.std.specs.Prelude.{◌≡◌, ◌⊎◌, true, false, cond, ◌&&◌, ◌||◌, eqb, ltb, leb, ◌≤◌, ◌<◌}
use Rattle.std.proofs.Math.Path.{refl}
use Rattle.std.proofs.Math.Logic.{⊎_elim}
use Rattle.std.proofs.Math.Bool.{Bool}
use mathlib.Core.List.{List, [], ◌∷◌, ◌++◌, Memᴰ}
use borrow.Author.Tests.{eqb-true, eqb-false, ltb-true, ltb-false, leb-true, leb-false}
use Rattle.rules.specs.laws.Bools.{true-or-false}
use Rattle.std.proofs.Common.{sym, inl, inr, le_antisymm, le_refl, arith}
use Rattle.std.proofs.Math.Decide.{dec_lt}
use Rattle.rules.specs.Offers.{Choice}

-- k stands no later than k': less cost, then least outer set number, then least method
pub record NoLater (k k' : Choice) : Type 0 where
  pub by-cost : k.cost ≤ k'.cost
  pub by-outer : k.cost ≡ k'.cost → k.outer ≤ k'.outer
  pub by-method : k.cost ≡ k'.cost → k.outer ≡ k'.outer → k.method ≤ k'.method

pub same : {k k' : Choice} → k.cost ≡ k'.cost → k.outer ≡ k'.outer → k.method ≡ k'.method → k ≡ k'
same p q r = λ i. record { cost = p i; outer = q i; method = r i }

pub no-later-refl : (k : Choice) → NoLater k k
no-later-refl k = record { by-cost = le_refl _; by-outer = λ e. le_refl _; by-method = λ e f. le_refl _ }

pub no-later-trans : {a b c : Choice} → NoLater a b → NoLater b c → NoLater a c
no-later-trans {a} {b} {c} p q = record {
  by-cost = omega (arith, p.by-cost, q.by-cost);
  by-outer = λ e. omega (arith, p.by-outer (cost-ab e), q.by-outer (cost-bc e));
  by-method = λ e f. omega (arith, p.by-method (cost-ab e) (outer-ab e f), q.by-method (cost-bc e) (outer-bc e f));
}
  where
    cost-ab : a.cost ≡ c.cost → a.cost ≡ b.cost
    cost-ab e = omega (arith, p.by-cost, q.by-cost)

    cost-bc : a.cost ≡ c.cost → b.cost ≡ c.cost
    cost-bc e = omega (arith, p.by-cost, q.by-cost)

    outer-ab : a.cost ≡ c.cost → a.outer ≡ c.outer → a.outer ≡ b.outer
    outer-ab e f = omega (arith, p.by-outer (cost-ab e), q.by-outer (cost-bc e))

    outer-bc : a.cost ≡ c.cost → a.outer ≡ c.outer → b.outer ≡ c.outer
    outer-bc e f = omega (arith, p.by-outer (cost-ab e), q.by-outer (cost-bc e))

pub no-later-antisym : {a b : Choice} → NoLater a b → NoLater b a → a ≡ b
no-later-antisym {a} {b} p q = same cost outer (le_antisymm (p.by-method cost outer) (q.by-method (sym cost) (sym outer)))
  where
    cost : a.cost ≡ b.cost
    cost = le_antisymm p.by-cost q.by-cost

    outer : a.outer ≡ b.outer
    outer = le_antisymm (p.by-outer cost) (q.by-outer (sym cost))

-- any two choices are ordered
pub no-later-total : (a b : Choice) → NoLater a b ⊎ NoLater b a
no-later-total a b = costs (dec_lt a.cost b.cost) (dec_lt b.cost a.cost)
  where
    methods : a.cost ≡ b.cost → a.outer ≡ b.outer → Dec (a.method < b.method) → NoLater a b ⊎ NoLater b a
    methods e f (yes l) = inl (record { by-cost = omega arith; by-outer = λ _. omega arith; by-method = λ _ _. omega arith })
    methods e f (no g) = inr (record { by-cost = omega arith; by-outer = λ _. omega arith; by-method = λ _ _. omega arith })

    outers : a.cost ≡ b.cost → Dec (a.outer < b.outer) → Dec (b.outer < a.outer) → NoLater a b ⊎ NoLater b a
    outers e (yes l) d = inl (record { by-cost = omega arith; by-outer = λ _. omega arith; by-method = λ _ f. absurd (omega arith) })
    outers e (no g) (yes l) = inr (record { by-cost = omega arith; by-outer = λ _. omega arith; by-method = λ _ f. absurd (omega arith) })
    outers e (no g) (no h) = methods e (omega arith) (dec_lt a.method b.method)

    costs : Dec (a.cost < b.cost) → Dec (b.cost < a.cost) → NoLater a b ⊎ NoLater b a
    costs (yes l) d = inl (record { by-cost = omega arith; by-outer = λ e. absurd (omega arith); by-method = λ e f. absurd (omega arith) })
    costs (no g) (yes l) = inr (record { by-cost = omega arith; by-outer = λ e. absurd (omega arith); by-method = λ e f. absurd (omega arith) })
    costs (no g) (no h) = outers (omega arith) (dec_lt a.outer b.outer) (dec_lt b.outer a.outer)

-- k is one of the choices P, and none of them stands before it
pub record Best (P : Choice → Type 0) (k : Choice) : Type 0 where
  pub among : P k
  pub first : (k' : Choice) → P k' → NoLater k k'

pub best-unique : {P : Choice → Type 0} {k k' : Choice} → Best P k → Best P k' → k ≡ k'
best-unique {k} {k'} b b' = no-later-antisym (b.first k' b'.among) (b'.first k b.among)

-- only the set counts
pub best-same : {P Q : Choice → Type 0} {k : Choice} → ((j : Choice) → P j → Q j) → ((j : Choice) → Q j → P j) → Best P k → Best Q k
best-same to from b = record { among = to _ b.among; first = λ j h. b.first j (from j h) }

-- the better of two
abbrev pub Either : (Choice → Type 0) → (Choice → Type 0) → Choice → Type 0
Either P Q k = P k ⊎ Q k

pub best-keep : {P Q : Choice → Type 0} {a b : Choice} → Best P a → Best Q b → NoLater a b → Best (Either P Q) a
best-keep {P} {Q} {a} {b} p q le = record { among = inl p.among; first = pick }
  where
    pick : (k : Choice) → P k ⊎ Q k → NoLater a k
    pick k (inl h) = p.first k h
    pick k (inr h) = no-later-trans le (q.first k h)

pub best-take : {P Q : Choice → Type 0} {a b : Choice} → Best P a → Best Q b → NoLater b a → Best (Either P Q) b
best-take {P} {Q} {a} {b} p q le = record { among = inr q.among; first = pick }
  where
    pick : (k : Choice) → P k ⊎ Q k → NoLater b k
    pick k (inl h) = no-later-trans le (p.first k h)
    pick k (inr h) = q.first k h

-- ---- the order, as a test
unfoldable pub sooner : Choice → Choice → Bool
sooner a b = ltb a.cost b.cost || (eqb a.cost b.cost && (ltb a.outer b.outer || (eqb a.outer b.outer && leb a.method b.method)))

unfoldable pub better : Choice → Choice → Choice
better a b = cond (sooner a b) a b

-- what a row keeps of what it holds and a new choice: without an outer set it holds nothing yet
abbrev pub kept : Choice → Choice → Choice
kept old new = cond (eqb old.outer 0) new (better old new)

module _ (a b : Choice) where
  -- the tests, one by one, as one of the two orders
  pub better-first : NoLater (better a b) a × NoLater (better a b) b
  unfolding better sooner
  better-first = costs (true-or-false (ltb a.cost b.cost)) (true-or-false (eqb a.cost b.cost))
    where
      R : Bool → Type 0
      R t = NoLater (cond t a b) a × NoLater (cond t a b) b

      methods : a.cost ≡ b.cost → a.outer ≡ b.outer → (leb a.method b.method ≡ true) ⊎ (leb a.method b.method ≡ false) → R (leb a.method b.method)
      methods e f (inl l) = rw l (no-later-refl a, record { by-cost = omega arith; by-outer = λ z. omega arith; by-method = λ z y. omega (arith, leb-true a.method b.method l) })
      methods e f (inr l) = rw l (record { by-cost = omega arith; by-outer = λ z. omega arith; by-method = λ z y. omega (arith, leb-false a.method b.method l) }, no-later-refl b)

      outers : a.cost ≡ b.cost → (ltb a.outer b.outer ≡ true) ⊎ (ltb a.outer b.outer ≡ false) → (eqb a.outer b.outer ≡ true) ⊎ (eqb a.outer b.outer ≡ false)
          → R (ltb a.outer b.outer || (eqb a.outer b.outer && leb a.method b.method))
      outers e (inl l) k = rw l (no-later-refl a, record { by-cost = omega arith; by-outer = λ z. omega (arith, ltb-true a.outer b.outer l); by-method = λ z y. absurd (omega (arith, ltb-true a.outer b.outer l)) })
      outers e (inr l) (inl k) = rw (l, k) (methods e (eqb-true a.outer b.outer k) (true-or-false (leb a.method b.method)))
      outers e (inr l) (inr k) =
          let g = ltb-false a.outer b.outer l in
          let n = eqb-false a.outer b.outer k in
          rw (l, k) (record { by-cost = omega arith; by-outer = λ z. omega arith; by-method = λ z y. absurd (n (sym y)) }, no-later-refl b)

      costs : (ltb a.cost b.cost ≡ true) ⊎ (ltb a.cost b.cost ≡ false) → (eqb a.cost b.cost ≡ true) ⊎ (eqb a.cost b.cost ≡ false) → R (sooner a b)
      costs (inl l) k =
          let h = ltb-true a.cost b.cost l in
          rw l (no-later-refl a, record { by-cost = omega arith; by-outer = λ z. absurd (omega arith); by-method = λ z y. absurd (omega arith) })
      costs (inr l) (inl k) = rw (l, k) (outers (eqb-true a.cost b.cost k) (true-or-false (ltb a.outer b.outer)) (true-or-false (eqb a.outer b.outer)))
      costs (inr l) (inr k) =
          let g = ltb-false a.cost b.cost l in
          let n = eqb-false a.cost b.cost k in
          rw (l, k) (record { by-cost = omega arith; by-outer = λ z. absurd (n (sym z)); by-method = λ z y. absurd (n (sym z)) }, no-later-refl b)

  pub better-one : (better a b ≡ a) ⊎ (better a b ≡ b)
  unfolding better
  better-one = ⊎_elim (λ e. inl (rw e)) (λ e. inr (rw e)) (true-or-false (sooner a b))

-- the best of a list
unfoldable pub best_of : Choice → List Choice → Choice
best_of k [] = k
best_of k (j ∷ js) = better k (best_of j js)

best_of-in : (k : Choice) (js : List Choice) → Memᴰ (best_of k js) (k ∷ js)
unfolding best_of
best_of-in k [] = mathlib.Core.List.Memᴰ.head refl
best_of-in k (j ∷ js) = go (best_of-in j js) (better-one k (best_of j js))
  where
    go : Memᴰ (best_of j js) (j ∷ js) → (better k (best_of j js) ≡ k) ⊎ (better k (best_of j js) ≡ best_of j js) → Memᴰ (better k (best_of j js)) (k ∷ j ∷ js)
    go ih (inl e) = mathlib.Core.List.Memᴰ.head e
    go ih (inr e) = mathlib.Core.List.Memᴰ.tail (mathlib.Core.List.Memᴰ.cast e ih)

best_of-first : (k : Choice) (js : List Choice) (i : Choice) → Memᴰ i (k ∷ js) → NoLater (best_of k js) i
unfolding best_of
best_of-first k [] i m = rw (mathlib.Core.List.Memᴰ.eq_of_singleton m) (no-later-refl k)
best_of-first k (j ∷ js) i m = go (best_of-first j js i) (mathlib.Core.List.Memᴰ.cases_cons m)
  where
    go : (Memᴰ i (j ∷ js) → NoLater (best_of j js) i) → (i ≡ k) ⊎ Memᴰ i (j ∷ js) → NoLater (better k (best_of j js)) i
    go ih (inl e) = rw e (better-first k (best_of j js)).0
    go ih (inr m') = no-later-trans (better-first k (best_of j js)).1 (ih m')

pub best_of-best : (k : Choice) (js : List Choice) → Best (λ i. Memᴰ i (k ∷ js)) (best_of k js)
best_of-best k js = record { among = best_of-in k js; first = λ i m. best_of-first k js i m }

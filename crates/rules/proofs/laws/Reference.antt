-- A plan that computes, row by row from all splits, proved to be the least and the pick: by it the cases are computed.
use Rattle.std.specs.Prelude.{◌≡◌, ◌⊎◌, true, false, cond, ◌&&◌, eqb, leb}
use Rattle.std.proofs.Math.Path.{refl, sym, subst}
use Rattle.std.proofs.Math.Logic.{inl, inr}
use Rattle.std.proofs.Math.Bool.{Bool}
use mathlib.Core.List.{List, [], ◌∷◌, ◌++◌, Memᴰ}
use Prim.Native.Nat.{ℕ, zero, suc, ◌+◌, ◌-◌, ◌≤◌, ◌<◌}
use Rattle.std.proofs.Math.Nat.{le_refl}
use Rattle.std.proofs.Math.Decide.{dec_lt, ℕ_discrete}
use native.Mathlib.Omega.{arith}
use Rattle.std.specs.Int.Bits.{bit_and}
use borrow.Author.Tests.{eqb-true, eq-eqb, leb-true, leb-false, lt-leb}
use Rattle.rules.specs.Lists.{is_yes}
use Rattle.rules.specs.Sets.{size, single, holds, has}
use Rattle.rules.specs.Query.{Query, IsMethod, table_count, method_count, at}
use Rattle.rules.specs.Connected.{Connected}
use Rattle.rules.specs.Trees.{price, fits, Inner, Least, Pick}
use Rattle.rules.specs.Offers.{Pair, union, Way, back, ways, Choice, Priced, join_cost, Offers}
use Rattle.rules.specs.laws.Bools.{true-or-false, and-true-l, and_true_r, yes_true, true-yes, find, find-some, find_none}
use Rattle.rules.specs.laws.Sets.{holds-single, holds-single-only}
use Rattle.rules.specs.laws.Connected.{connected-single, connected-split, one_table}
use Rattle.rules.proofs.laws.Shapes.{single-fits}
use Rattle.rules.specs.laws.Decide.{connected?, between?}
use Rattle.rules.specs.laws.Choice.{Best, best-same, same, best_of, best_of-best}
use Rattle.rules.proofs.laws.Bellman.{Offer, bellman-least, bellman-pick}
use Rattle.rules.specs.laws.Standing.{among, Handed, by_method, splits_at, offers_below, pick_of, scan_row, row_of}
use Rattle.rules.proofs.laws.Ways.{back_in}
use Rattle.rules.proofs.laws.Memo.{one-least}

-- ---- all offers of a set
module _ (q : Query) (best : ℕ → ℕ) where
  method-in : (X Y n : ℕ) (k : Choice) → k.outer ≡ X → 1 ≤ k.method → k.method ≤ n → k.cost ≡ best X + best Y + price q X Y k.method → Memᴰ k (by_method q best X Y n)
  unfolding by_method
  method-in X Y zero k e l u c = absurd (omega arith)
  method-in X Y (suc n) k e l u c = go (ℕ_discrete k.method (suc n)) (λ u₁. method-in X Y n k e l u₁ c)
    where
      go : Dec (k.method ≡ suc n) → (k.method ≤ n → Memᴰ k (by_method q best X Y n)) → Memᴰ k (by_method q best X Y (suc n))
      go (yes p) ih = mathlib.Core.List.Memᴰ.head (same (rw p at c) e p)
      go (no g) ih = mathlib.Core.List.Memᴰ.tail (ih (omega arith))

  method-of : (X Y n : ℕ) (k : Choice) → Memᴰ k (by_method q best X Y n) → (k.outer ≡ X) × (1 ≤ k.method) × (k.method ≤ n) × (k.cost ≡ best X + best Y + price q X Y k.method)
  unfolding by_method
  method-of X Y zero k m = absurd (mathlib.Core.List.Memᴰ.not-nil m)
  method-of X Y (suc n) k m = go (method-of X Y n k) (mathlib.Core.List.Memᴰ.cases_cons m)
    where
      go : (Memᴰ k (by_method q best X Y n) → (k.outer ≡ X) × (1 ≤ k.method) × (k.method ≤ n) × (k.cost ≡ best X + best Y + price q X Y k.method))
          → (k ≡ record { cost = best X + best Y + price q X Y (suc n); outer = X; method = suc n }) ⊎ Memᴰ k (by_method q best X Y n)
          → (k.outer ≡ X) × (1 ≤ k.method) × (k.method ≤ suc n) × (k.cost ≡ best X + best Y + price q X Y k.method)
      go ih (inl e) = rw e (refl, omega arith, le_refl (suc n), refl)
      go ih (inr m') = let r = ih m' in (r.0, r.1, omega (arith, r.2), r.3)

  pub offers-in : (S n : ℕ) (k : Choice) → Offer q best S k → k.outer < n → Memᴰ k (offers_below q best S n)
  unfolding offers_below splits_at
  offers-in S zero k o l = absurd (omega arith)
  offers-in S (suc n) k o l = go (ℕ_discrete k.outer n) (offers-in S n k o)
    where
      X : ℕ
      X = k.outer

      e : S - X ≡ o.other
      e = omega (arith, o.whole)

      test : splits_at q best S X ≡ true
      test = rw (e, true-yes (connected? q.graph X) o.outer-conn, true-yes (connected? q.graph o.other) o.inner-conn, o.shaped, eq-eqb (bit_and X o.other) 0 o.joinable.apart, true-yes (between? q.graph X o.other) o.joinable.between)

      go : Dec (k.outer ≡ n) → (k.outer < n → Memᴰ k (offers_below q best S n)) → Memᴰ k (offers_below q best S (suc n))
      go (yes p) ih =
          let h : Memᴰ k (cond (splits_at q best S X) (by_method q best X (S - X) (method_count q)) []) =
          rw (test, e) (method-in X o.other (method_count q) k refl o.method.from_one o.method.to-count o.costs) in
          mathlib.Core.List.Memᴰ.append_left (offers_below q best S n) (subst (λ (x : ℕ). Memᴰ k (cond (splits_at q best S x) (by_method q best x (S - x) (method_count q)) [])) p h)
      go (no g) ih = mathlib.Core.List.Memᴰ.append_right (cond (splits_at q best S n) (by_method q best n (S - n) (method_count q)) []) (ih (omega arith))

  pub offers-of : (S n : ℕ) (k : Choice) → n ≤ S → Memᴰ k (offers_below q best S n) → Offer q best S k
  unfolding offers_below splits_at
  offers-of S zero k l m = absurd (mathlib.Core.List.Memᴰ.not-nil m)
  offers-of S (suc n) k l m = go (offers-of S n k (omega arith)) (mathlib.Core.List.Memᴰ.append_cases (cond (splits_at q best S n) (by_method q best n (S - n) (method_count q)) []) m)
    where
      t₁ : Bool
      t₁ = is_yes (connected? q.graph n)

      t₂ : Bool
      t₂ = is_yes (connected? q.graph (S - n))

      t₅ : Bool
      t₅ = fits q.shape (size (S - n))

      t₃ : Bool
      t₃ = eqb (bit_and n (S - n)) 0

      t₄ : Bool
      t₄ = is_yes (between? q.graph n (S - n))

      made : splits_at q best S n ≡ true → Memᴰ k (by_method q best n (S - n) (method_count q)) → Offer q best S k
      made t h =
          let r = method-of n (S - n) (method_count q) k h in
          let e = r.0 in
          let t' = and_true_r t₁ (t₂ && (t₅ && (t₃ && t₄))) t in
          let u = and_true_r t₂ (t₅ && (t₃ && t₄)) t' in
          let t'' = and_true_r t₅ (t₃ && t₄) u in
          record {
            other = S - n;
            outer-conn = rw e (yes_true (connected? q.graph n) (and-true-l t₁ (t₂ && (t₅ && (t₃ && t₄))) t));
            inner-conn = yes_true (connected? q.graph (S - n)) (and-true-l t₂ (t₅ && (t₃ && t₄)) t');
            shaped = and-true-l t₅ (t₃ && t₄) u;
            joinable = rw e (record { apart = eqb-true (bit_and n (S - n)) 0 (and-true-l t₃ t₄ t''); between = yes_true (between? q.graph n (S - n)) (and_true_r t₃ t₄ t'') });
            whole = omega arith;
            method = record { from_one = r.1; to-count = r.2 };
            costs = rw e r.3;
          }

      pick : (splits_at q best S n ≡ true) ⊎ (splits_at q best S n ≡ false) → Memᴰ k (cond (splits_at q best S n) (by_method q best n (S - n) (method_count q)) []) → Offer q best S k
      pick (inl t) h = made t (rw t at h)
      pick (inr t) h = absurd (mathlib.Core.List.Memᴰ.not-nil (rw t at h))

      go : (Memᴰ k (offers_below q best S n) → Offer q best S k) → Memᴰ k (cond (splits_at q best S n) (by_method q best n (S - n) (method_count q)) []) ⊎ Memᴰ k (offers_below q best S n) → Offer q best S k
      go ih (inl h) = pick (true-or-false (splits_at q best S n)) h
      go ih (inr h) = ih h

  -- a list's best is the best offer
  pub best-offer : (S : ℕ) (k : Choice) (ks : List Choice) → offers_below q best S S ≡ k ∷ ks → Best (Offer q best S) (best_of k ks)
  best-offer S k ks e = best-same (λ j m. offers-of S S j (le_refl S) (rw e m)) (λ j o. rw e at (offers-in S S j o (less j o))) (best_of-best k ks)
    where
      less : (j : Choice) → Offer q best S j → j.outer < S
      less j o = omega (arith, o.whole, o.inner-conn.some)

-- ---- the rows, by recursion on the size
module _ (q : Query) where
  module _ (me : IsMethod q 1) where
    scan-least : (S : ℕ) → size S ≤ 1 → Connected q.graph S → Least q S (scan_row q S).cost
    unfolding scan_row
    scan-least S l c =
        let o = one_table q.graph S l c in
        let e : find (has S) (table_count q.graph) ≡ o.0 = found (dec_lt 0 (find (has S) (table_count q.graph))) in
        rw e (subst (λ (x : ℕ). Least q x (at q.scans o.0)) o.2 (one-least q o.0 o.1))
      where
        found : Dec (0 < find (has S) (table_count q.graph)) → find (has S) (table_count q.graph) ≡ (one_table q.graph S l c).0
        found (yes h) =
            let o = one_table q.graph S l c in
            sym (holds-single-only o.0 (find (has S) (table_count q.graph)) o.1.from_one (rw o.2 (eqb-true (holds S (find (has S) (table_count q.graph))) 1 (find-some (has S) (table_count q.graph) h).0)))
        found (no g) =
            let o = one_table q.graph S l c in
            let h : holds S o.0 ≡ 1 = subst (λ (x : ℕ). holds x o.0 ≡ 1) o.2 (holds-single o.0 o.1.from_one) in
            absurd (find_none (has S) (table_count q.graph) (omega arith) o.0 o.1.from_one o.1.to-count (eq-eqb (holds S o.0) 1 h))

    -- a connected set of two tables or more has an offer
    some-offer : (best : ℕ → ℕ) (S : ℕ) → Connected q.graph S → 2 ≤ size S → (k : Choice) × Offer q best S k
    some-offer best S c two =
        let a = connected-split q.graph S c two in (
          record { cost = best a.part + best (single a.last) + price q a.part (single a.last) 1; outer = a.part; method = 1 },
          record {
            other = single a.last;
            outer-conn = a.connected;
            inner-conn = connected-single q.graph a.last a.table;
            joinable = record { apart = a.splits.apart; between = a.between };
            shaped = single-fits q a.last;
            whole = a.splits.whole;
            method = me;
            costs = refl;
          },
        )

    pick-offer : (best : ℕ → ℕ) (S : ℕ) → Connected q.graph S → 2 ≤ size S → Best (Offer q best S) (pick_of (offers_below q best S S))
    unfolding pick_of
    pick-offer best S c two = go (offers_below q best S S) refl
      where
        go : (l : List Choice) → offers_below q best S S ≡ l → Best (Offer q best S) (pick_of l)
        go [] e = let o = some-offer best S c two in absurd (mathlib.Core.List.Memᴰ.not-nil (rw e at (offers-in q best S S o.0 o.1 (omega (arith, o.1.whole, o.1.inner-conn.some)))))
        go (k ∷ ks) e = best-offer q best S k ks e

    pub row-least : (n S : ℕ) → size S ≤ n → Connected q.graph S → Least q S (row_of q n S).cost
    unfolding row_of
    row-least zero S l c = scan-least S (omega arith) c
    row-least (suc n) S l c = go (true-or-false (leb (size S) 1)) (row-least n)
      where
        go : (leb (size S) 1 ≡ true) ⊎ (leb (size S) 1 ≡ false) → ((Y : ℕ) → size Y ≤ n → Connected q.graph Y → Least q Y (row_of q n Y).cost) → Least q S (row_of q (suc n) S).cost
        go (inl e) ih = rw e (scan-least S (leb-true (size S) 1 e) c)
        go (inr e) ih =
            let two : 2 ≤ size S = leb-false (size S) 1 e in
            rw e (bellman-least q (λ X. (row_of q n X).cost) S two (λ Y cy l₁. ih Y (omega arith) cy) (pick-offer (λ X. (row_of q n X).cost) S c two))

    pub row-pick : (n S : ℕ) → size S ≤ suc n → Connected q.graph S → 2 ≤ size S → Pick q S (row_of q (suc n) S).outer (row_of q (suc n) S).method
    unfolding row_of
    row-pick n S l c two = rw (lt-leb (size S) 1 two)
        (bellman-pick q (λ X. (row_of q n X).cost) S two (λ Y cy l₁. row-least n Y (omega arith) cy) (pick-offer (λ X. (row_of q n X).cost) S c two))

-- ---- what pairs handed so far offer a set
module _ (q : Query) (best : ℕ → ℕ) where
  -- all ways, all methods
  unfoldable pub offers_by : List Way → List Choice
  offers_by [] = []
  offers_by (w ∷ ws) = by_method q best w.outer w.inner (method_count q) ++ offers_by ws

  unfoldable pub offers_of : Pair → List Choice
  offers_of p = offers_by (ways q.shape p)

  unfoldable pub offers_for : List Pair → ℕ → List Choice
  offers_for [] S = []
  offers_for (p ∷ h) S = cond (eqb (union p) S) (offers_of p) [] ++ offers_for h S

  priced-in : (X Y : ℕ) (k : Choice) → Priced (method_count q) (join_cost q best) X Y k → Memᴰ k (by_method q best X Y (method_count q))
  priced-in X Y k d = method-in q best X Y (method_count q) k d.outer d.from_one d.to-count d.costs

  priced-of : (X Y : ℕ) (k : Choice) → Memᴰ k (by_method q best X Y (method_count q)) → Priced (method_count q) (join_cost q best) X Y k
  priced-of X Y k m = let r = method-of q best X Y (method_count q) k m in record { outer = r.0; from_one = r.1; to-count = r.2; costs = r.3 }

  by-of : (ws : List Way) (k : Choice) → Memᴰ k (offers_by ws) → (w : Way) × Memᴰ w ws × Priced (method_count q) (join_cost q best) w.outer w.inner k
  unfolding offers_by
  by-of [] k m = absurd (mathlib.Core.List.Memᴰ.not-nil m)
  by-of (w ∷ ws) k m = go (by-of ws k) (mathlib.Core.List.Memᴰ.append_cases (by_method q best w.outer w.inner (method_count q)) m)
    where
      go : (Memᴰ k (offers_by ws) → (v : Way) × Memᴰ v ws × Priced (method_count q) (join_cost q best) v.outer v.inner k) → Memᴰ k (by_method q best w.outer w.inner (method_count q)) ⊎ Memᴰ k (offers_by ws)
          → (v : Way) × Memᴰ v (w ∷ ws) × Priced (method_count q) (join_cost q best) v.outer v.inner k
      go ih (inl a) = (w, mathlib.Core.List.Memᴰ.head refl, priced-of w.outer w.inner k a)
      go ih (inr b) = let r = ih b in (r.0, mathlib.Core.List.Memᴰ.tail r.1, r.2)

  by_in : (ws : List Way) (k : Choice) (w : Way) → Memᴰ w ws → Priced (method_count q) (join_cost q best) w.outer w.inner k → Memᴰ k (offers_by ws)
  unfolding offers_by
  by_in [] k w x'' d = elim x'' [ ]
  by_in (v ∷ ws) k w (mathlib.Core.List.Memᴰ.head e) d = mathlib.Core.List.Memᴰ.append_left (offers_by ws) (priced-in v.outer v.inner k (rw e at d))
  by_in (v ∷ ws) k w (mathlib.Core.List.Memᴰ.tail m) d = mathlib.Core.List.Memᴰ.append_right (by_method q best v.outer v.inner (method_count q)) (by_in ws k w m d)

  offers-of-pair : (p : Pair) (k : Choice) → Memᴰ k (offers_of p) → Offers q best p k
  unfolding offers_of
  offers-of-pair p k m = let r = by-of (ways q.shape p) k m in record { way = r.0; offered = r.1; priced = r.2 }

  offers-in-pair : (p : Pair) (k : Choice) → Offers q best p k → Memᴰ k (offers_of p)
  unfolding offers_of
  offers-in-pair p k o = by_in (ways q.shape p) k o.way o.offered o.priced

  handed-of : (h : List Pair) (S : ℕ) (k : Choice) → Memᴰ k (offers_for h S) → Handed q best (among h) S k
  unfolding offers_for
  handed-of [] S k m = absurd (mathlib.Core.List.Memᴰ.not-nil m)
  handed-of (p ∷ h) S k m = go (handed-of h S k) (true-or-false (eqb (union p) S)) (mathlib.Core.List.Memᴰ.append_cases (cond (eqb (union p) S) (offers_of p) []) m)
    where
      go : (Memᴰ k (offers_for h S) → Handed q best (among h) S k) → (eqb (union p) S ≡ true) ⊎ (eqb (union p) S ≡ false)
          → Memᴰ k (cond (eqb (union p) S) (offers_of p) []) ⊎ Memᴰ k (offers_for h S) → Handed q best (among (p ∷ h)) S k
      go ih e (inr b) = let r = ih b in record { pair = r.pair; handed = mathlib.Core.List.Memᴰ.tail r.handed; whole = r.whole; prices = r.prices }
      go ih (inl e) (inl a) = record { pair = p; handed = mathlib.Core.List.Memᴰ.head refl; whole = eqb-true (union p) S e; prices = offers-of-pair p k (rw e at a) }
      go ih (inr e) (inl a) = absurd (mathlib.Core.List.Memᴰ.not-nil (rw e at a))

  in-handed : (h : List Pair) (S : ℕ) (p : Pair) (k : Choice) → Memᴰ p h → union p ≡ S → Offers q best p k → Memᴰ k (offers_for h S)
  unfolding offers_for
  in-handed [] S p k x3 w o = elim x3 [ ]
  in-handed (x ∷ h) S p k (mathlib.Core.List.Memᴰ.head e) w o =
      let z : union x ≡ S = rw e at w in
      let m : Memᴰ k (cond (eqb (union x) S) (offers_of x) []) = rw (eq-eqb (union x) S z) (offers-in-pair x k (rw e at o)) in
      mathlib.Core.List.Memᴰ.append_left (offers_for h S) m
  in-handed (x ∷ h) S p k (mathlib.Core.List.Memᴰ.tail m) w o = mathlib.Core.List.Memᴰ.append_right (cond (eqb (union x) S) (offers_of x) []) (in-handed h S p k m w o)

  -- where some pair of S was handed, the list's best is the best handed
  pub handed-best : (me : IsMethod q 1) (h : List Pair) (S : ℕ) (p : Pair) → Memᴰ p h → union p ≡ S → Inner q p.driving → Best (Handed q best (among h) S) (pick_of (offers_for h S))
  unfolding pick_of
  handed-best me h S p m w f = go (offers_for h S) refl
    where
      first : Choice
      first = record { cost = best p.inner + best p.driving + price q p.inner p.driving 1; outer = p.inner; method = 1 }

      offered : Offers q best p first
      offered = record { way = back p; offered = back_in q.shape p f; priced = record { outer = refl; from_one = me.from_one; to-count = me.to-count; costs = refl } }

      go : (l : List Choice) → offers_for h S ≡ l → Best (Handed q best (among h) S) (pick_of l)
      go [] e = absurd (mathlib.Core.List.Memᴰ.not-nil (rw e at (in-handed h S p first m w offered)))
      go (k ∷ ks) e = best-same (λ j i. handed-of h S j (rw e i)) (λ j o. rw e at (in-handed h S o.pair j o.handed o.whole o.prices)) (best_of-best k ks)

-- Runs of turns: a run exists and is unique, and what each worker hands is its queue, in order.
use Rattle.std.proofs.Math.Path.{◌≡◌, refl, sym, ap, ap₂}
use Rattle.std.proofs.Common.{◌∙◌, le_refl, arith, eq-eqb, ne_eqb}
use Rattle.std.specs.Prelude.{◌⊎◌}
use Rattle.std.proofs.Math.Logic.{inl, inr}
use mathlib.Core.List.{List, [], ◌∷◌, ◌++◌, append_assoc, append-nil}
use Prim.Native.Nat.{ℕ, zero, suc, ◌+◌, ◌≤◌, ◌<◌}
use Rattle.std.proofs.Math.Decide.{dec_lt, ℕ_discrete}
use Rattle.std.proofs.Math.ListN.{length}
use Rattle.rules.specs.Turns.{Hand, rest, pop, hand, Empty, Lowest, Run, closed, listed, lowest, Groups, only}

module _ {C : Type 0} where
  -- a turn of worker w, seen by w, and by another
  only-own : (w : ℕ) (l : List C) (xs : List (Hand C)) → only w xs ≡ rest l → only w (hand w l ++ xs) ≡ l
  unfolding only hand rest
  only-own w [] xs e = e
  only-own w (c ∷ cs) xs e = rw (eq-eqb w w refl) (ap (λ (l : List C). c ∷ l) e)

  only-other : (w v : ℕ) (l : List C) (xs : List (Hand C)) → (v ≡ w → ⊥) → only w (hand v l ++ xs) ≡ only w xs
  unfolding only hand
  only-other w v [] xs n = refl
  only-other w v (c ∷ cs) xs n = rw (ne_eqb v w n)

  only-turn : (w v : ℕ) (qs : ℕ → List C) (xs : List (Hand C)) → only w xs ≡ pop v qs w → only w (hand v (qs v) ++ xs) ≡ qs w
  unfolding pop
  only-turn w v qs xs e = go (ℕ_discrete v w)
    where
      go : Dec (v ≡ w) → only w (hand v (qs v) ++ xs) ≡ qs w
      go (yes p) = rw p (only-own w (qs w) xs (rw (eq-eqb w v (sym p)) at e))
      go (no n) = only-other w v (qs v) xs n ∙ (rw (ne_eqb w v (λ p. n (sym p))) at e)

  -- THE THEOREM: what worker w handed, in order, is its queue
  pub run-queues : {m : ℕ} {qs : ℕ → List C} {ts : List ℕ} {h : List (Hand C)} {u : List ℕ} → Run m qs ts h u → (w : ℕ) → w < m → only w h ≡ qs w
  unfolding only Empty
  run-queues (closed e p r) w l = rw p (sym (e w l))
  run-queues (listed {qs = qs} {w = v} {h' = h'} n r p) w l = rw p (only-turn w v qs h' (run-queues r w l))
  run-queues (lowest {qs = qs} {w = v} {h' = h'} n r p) w l = rw p (only-turn w v qs h' (run-queues r w l))

  lowest-unique : {m : ℕ} {qs : ℕ → List C} {v w : ℕ} → Lowest m qs v → Lowest m qs w → v ≡ w
  lowest-unique {v} {w} a b = go (dec_lt v w) (dec_lt w v)
    where
      go : Dec (v < w) → Dec (w < v) → v ≡ w
      go (yes l) d = absurd (a.left (b.lower v l))
      go (no g) (yes l) = absurd (b.left (a.lower w l))
      go (no g) (no h) = omega arith

  not-empty : {m : ℕ} {qs : ℕ → List C} {w : ℕ} → Lowest m qs w → Empty m qs → ⊥
  unfolding Empty
  not-empty {w} l e = l.left (e w l.worker)

  -- a run is settled by its queues and its entries
  pub run-unique : {m : ℕ} {qs : ℕ → List C} {ts : List ℕ} {h h' : List (Hand C)} {u u' : List ℕ} → Run m qs ts h u → Run m qs ts h' u' → (h ≡ h') × (u ≡ u')
  run-unique (closed e p r) (closed e' p' r') = (p ∙ sym p', r ∙ sym r')
  run-unique (closed e p r) (listed n r' p') = absurd (n e)
  run-unique (closed e p r) (lowest l r' p') = absurd (not-empty l e)
  run-unique (listed n r p) (closed e' p' r') = absurd (n e')
  run-unique (listed {qs = qs} {w = w} n r p) (listed n' r' p') = let ih = run-unique r r' in (p ∙ ap (λ (x : List (Hand C)). hand w (qs w) ++ x) ih.0 ∙ sym p', ih.1)
  run-unique (lowest l r p) (closed e' p' r') = absurd (not-empty l e')
  run-unique (lowest {qs = qs} {w = w} l r p) (lowest {w = v} l' r' p') =
      let e = lowest-unique l' l in
      let ih = run-unique r (rw e at r') in
      (p ∙ ap (λ (x : List (Hand C)). hand w (qs w) ++ x) ih.0 ∙ sym (rw e at p'), ih.1)

  -- how a program builds a run from its turns in a row: what is to come, after what is done
  unfoldable pub Sofar : ℕ → (ℕ → List C) → List ℕ → List (Hand C) → (ℕ → List C) → List ℕ → Type 0
  Sofar m qs₀ ts₀ done qs ts = (h : List (Hand C)) (u : List ℕ) → Run m qs ts h u → Run m qs₀ ts₀ (done ++ h) u

  pub sofar-start : (m : ℕ) (qs : ℕ → List C) (ts : List ℕ) → Sofar m qs ts [] qs ts
  unfolding Sofar
  sofar-start m qs ts h u r = r

  module _ (m : ℕ) (qs₀ : ℕ → List C) (ts₀ : List ℕ) (done : List (Hand C)) (qs : ℕ → List C) where
    pub sofar-listed : (w : ℕ) (ts : List ℕ) → (Empty m qs → ⊥) → Sofar m qs₀ ts₀ done qs (w ∷ ts) → Sofar m qs₀ ts₀ (done ++ hand w (qs w)) (pop w qs) ts
    unfolding Sofar
    sofar-listed w ts n s h u r = rw append_assoc (s (hand w (qs w) ++ h) u (listed n r refl))

    pub sofar-lowest : (w : ℕ) → Lowest m qs w → Sofar m qs₀ ts₀ done qs [] → Sofar m qs₀ ts₀ (done ++ hand w (qs w)) (pop w qs) []
    unfolding Sofar
    sofar-lowest w l s h u r = rw append_assoc (s (hand w (qs w) ++ h) u (lowest l r refl))

    pub sofar-closed : (ts : List ℕ) → Empty m qs → Sofar m qs₀ ts₀ done qs ts → Run m qs₀ ts₀ done ts
    unfolding Sofar
    sofar-closed ts e s = rw append-nil at (s [] ts (closed e refl refl))

unfoldable pub sum_to : (ℕ → ℕ) → ℕ → ℕ
sum_to f zero = 0
sum_to f (suc n) = sum_to f n + f n

pub sum_same : (f g : ℕ → ℕ) (n : ℕ) → ((w : ℕ) → w < n → f w ≡ g w) → sum_to f n ≡ sum_to g n
unfolding sum_to
sum_same f g zero e = refl
sum_same f g (suc n) e = ap₂ (λ (a b : ℕ). a + b) (sum_same f g n (λ w l. e w (omega arith))) (e n (omega arith))

-- one more at x
pub sum_bump : (f g : ℕ → ℕ) (x n : ℕ) → x < n → g x ≡ suc (f x) → ((w : ℕ) → (x ≡ w → ⊥) → g w ≡ f w) → sum_to g n ≡ suc (sum_to f n)
unfolding sum_to
sum_bump f g x zero l p o = absurd (omega arith)
sum_bump f g x (suc n) l p o = go (ℕ_discrete x n) (λ l₁. sum_bump f g x n l₁ p o)
  where
    go : Dec (x ≡ n) → (x < n → sum_to g n ≡ suc (sum_to f n)) → sum_to g n + g n ≡ suc (sum_to f n + f n)
    go (yes e) ih = omega (arith, sum_same g f n (λ w l₁. o w (omega arith)), rw e at p)
    go (no ne) ih = omega (arith, ih (omega arith), o n ne)

pub sum-zero : (n : ℕ) → sum_to (λ w. 0) n ≡ 0
unfolding sum_to
sum-zero zero = refl
sum-zero (suc n) = omega (arith, sum-zero n)

-- the turns name workers below m
unfoldable pub Entries : ℕ → List ℕ → Type 0
Entries m [] = Unit {0}
Entries m (t ∷ ts) = (t < m) × Entries m ts

module _ {C : Type 0} where
  unfoldable pub Below : ℕ → List (Hand C) → Type 0
  Below m [] = Unit {0}
  Below m (x ∷ xs) = (x.worker < m) × Below m xs

  -- the workers' counts sum to the number of pairs
  pub counts-sum : (m : ℕ) (h : List (Hand C)) → Below m h → sum_to (λ w. length (only w h)) m ≡ length h
  unfolding Below only
  counts-sum m [] b = sum-zero m
  counts-sum m (x ∷ xs) b =
      sum_bump (λ w. length (only w xs)) (λ w. length (only w (x ∷ xs))) x.worker m b.0 (rw (eq-eqb x.worker x.worker refl)) (λ w n. rw (ne_eqb x.worker w n))
      ∙ ap suc (counts-sum m xs b.1)

  below-hand : (m w : ℕ) (l : List C) (xs : List (Hand C)) → w < m → Below m xs → Below m (hand w l ++ xs)
  unfolding Below hand
  below-hand m w [] xs l b = b
  below-hand m w (c ∷ cs) xs l b = (l, b)

  pub run-below : {m : ℕ} {qs : ℕ → List C} {ts : List ℕ} {h : List (Hand C)} {u : List ℕ} → Run m qs ts h u → Entries m ts → Below m h
  unfolding Entries Below
  run-below (closed e p r) t = rw p tt
  run-below (listed {qs = qs} {w = w} {h' = h'} n r p) t = rw p (below-hand _ w (qs w) h' t.0 (run-below r t.1))
  run-below (lowest {qs = qs} {w = w} {h' = h'} l r p) t = rw p (below-hand _ w (qs w) h' l.worker (run-below r tt))

  -- either no queue has a pair, or there is a lowest that has
  empty-or-lowest : (m : ℕ) (qs : ℕ → List C) → Empty m qs ⊎ ((w : ℕ) × Lowest m qs w)
  unfolding Empty
  empty-or-lowest zero qs = inl (λ w l. absurd (omega arith))
  empty-or-lowest (suc m) qs = go (empty-or-lowest m qs) (nil-or-not (qs m))
    where
      nil-or-not : (l : List C) → (l ≡ []) ⊎ (l ≡ [] → ⊥)
      nil-or-not [] = inl refl
      nil-or-not (c ∷ cs) = inr (λ e. let z : ◌≡◌ {A = ℕ} 0 1 = cc in omega arith)

      go : Empty m qs ⊎ ((w : ℕ) × Lowest m qs w) → (qs m ≡ []) ⊎ (qs m ≡ [] → ⊥) → Empty (suc m) qs ⊎ ((w : ℕ) × Lowest (suc m) qs w)
      go (inr x) d = inr (x.0, record { worker = omega (arith, x.1.worker); left = x.1.left; lower = x.1.lower })
      go (inl e) (inl z) = inl (λ w l. last w l (ℕ_discrete w m))
        where
          last : (w : ℕ) → w < suc m → Dec (w ≡ m) → qs w ≡ []
          last w l (yes p) = rw p z
          last w l (no n) = e w (omega arith)
      go (inl e) (inr z) = inr (m, record { worker = omega arith; left = z; lower = e })

  pub length-pop : (l : List C) → (l ≡ [] → ⊥) → length l ≡ suc (length (rest l))
  unfolding rest
  length-pop [] n = absurd (n refl)
  length-pop (c ∷ cs) n = refl

  pub total-pop : (m : ℕ) (qs : ℕ → List C) (v : ℕ) → Lowest m qs v → sum_to (λ w. length (qs w)) m ≡ suc (sum_to (λ w. length (pop v qs w)) m)
  unfolding pop
  total-pop m qs v l =
      sum_bump (λ w. length (pop v qs w)) (λ w. length (qs w)) v m l.worker (rw (eq-eqb v v refl) (length-pop (qs v) l.left)) (λ w n. rw (ne_eqb w v (λ e. n (sym e))))

  -- a run exists
  abbrev pub Some-run : ℕ → (ℕ → List C) → List ℕ → Type 0
  Some-run m qs ts = (h : List (Hand C)) × (u : List ℕ) × Run m qs ts h u

  module _ (m : ℕ) where
    drained : (n : ℕ) (qs : ℕ → List C) → sum_to (λ w. length (qs w)) m ≤ n → Empty m qs ⊎ ((w : ℕ) × Lowest m qs w) → Some-run m qs []
    drained zero qs b (inl e) = ([], [], closed e refl refl)
    drained (suc n) qs b (inl e) = ([], [], closed e refl refl)
    drained zero qs b (inr x) = absurd (omega (arith, total-pop m qs x.0 x.1))
    drained (suc n) qs b (inr x) =
        let r = drained n (pop x.0 qs) (omega (arith, total-pop m qs x.0 x.1)) (empty-or-lowest m (pop x.0 qs)) in
        (hand x.0 (qs x.0) ++ r.0, r.1, lowest x.1 r.2 refl)

    -- A RUN EXISTS, whatever the queues and the entries
    unfoldable pub run-exists : (ts : List ℕ) (qs : ℕ → List C) → Some-run m qs ts
    unfolding Empty drained empty-or-lowest sum_to pop rest hand
    run-exists [] qs = drained (sum_to (λ w. length (qs w)) m) qs (le_refl _) (empty-or-lowest m qs)
    run-exists (w ∷ ts) qs = go (run-exists ts (pop w qs)) (empty-or-lowest m qs)
      where
        go : Some-run m (pop w qs) ts → Empty m qs ⊎ ((v : ℕ) × Lowest m qs v) → Some-run m qs (w ∷ ts)
        go r (inl e) = ([], w ∷ ts, closed e refl refl)
        go r (inr x) = (hand w (qs w) ++ r.0, r.1, listed (λ e. x.1.left (e x.0 x.1.worker)) r.2 refl)

-- ---- groups in a row
module _ {C : Type 0} (m : ℕ) (queues : ℕ → ℕ → List C) where
  pub groups-unique : (k n : ℕ) (ts : List ℕ) (h h' : List (Hand C)) → Groups m queues k n ts h → Groups m queues k n ts h' → h ≡ h'
  unfolding Groups
  groups-unique k zero ts h h' p p' = p ∙ sym p'
  groups-unique k (suc n) ts h h' p p' =
      let a = run-unique p.3 p'.3 in
      let b = groups-unique (suc k) n p'.2 p.1 p'.1 (rw a.1 at p.4) p'.4 in
      p.5 ∙ ap₂ (λ (x y : List (Hand C)). x ++ y) a.0 b ∙ sym p'.5

  unfoldable pub groups-exist : (k n : ℕ) (ts : List ℕ) → (h : List (Hand C)) × Groups m queues k n ts h
  unfolding Groups run-exists
  groups-exist k zero ts = ([], refl)
  groups-exist k (suc n) ts =
      let a = run-exists m ts (queues k) in
      let b = groups-exist (suc k) n a.1 in
      (a.0 ++ b.0, (a.0, b.0, a.1, a.2, b.1, refl))

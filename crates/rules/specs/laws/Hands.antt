-- A run hands each candidate that is some worker's exactly once, to that worker, and nothing else.
use Rattle.std.specs.Prelude.{◌≡◌, ◌⊎◌, Bool, true, false, cond, eqb}
use Rattle.std.proofs.Math.Path.{refl}
use Rattle.std.proofs.Common.{sym, ap, ◌∙◌, inl, inr, ⊎_elim, arith, eqb-true, eq-eqb, ne_eqb}
use mathlib.Core.List.{List, [], ◌∷◌, map, Memᴰ}
use Prim.Native.Nat.{ℕ, suc, ◌≤◌, ◌<◌}
use Rattle.std.proofs.Math.Decide.{dec_lt}
use Rattle.std.proofs.Math.ListN.{length}
use Rattle.rules.specs.Lists.{keep}
use Rattle.rules.specs.Turns.{Hand, Run, only}
use Rattle.rules.specs.laws.Bools.{true-or-false}
use Rattle.rules.specs.laws.Lists.{keep-in, keep-of, Once}
use Rattle.rules.specs.laws.Shares.{One}
use Rattle.rules.specs.laws.Turns.{run-queues, sum_to, sum_bump, sum_same, sum-zero, Entries, Below, run-below}

module _ {C : Type 0} where
  -- worker w handed c
  pub record HandedBy (w : ℕ) (c : C) (h : List (Hand C)) : Type 0 where
    pub by : Hand C
    pub met : Memᴰ by h
    pub worker : by.worker ≡ w
    pub candidate : by.candidate ≡ c

  pub only-by : (w : ℕ) (c : C) (h : List (Hand C)) → Memᴰ c (only w h) → HandedBy w c h
  unfolding only
  only-by w c [] m = absurd (mathlib.Core.List.Memᴰ.not-nil m)
  only-by w c (x ∷ h) m = go (only-by w c h) (true-or-false (eqb x.worker w)) m
    where
      later : HandedBy w c h → HandedBy w c (x ∷ h)
      later r = record { by = r.by; met = mathlib.Core.List.Memᴰ.tail r.met; worker = r.worker; candidate = r.candidate }

      go : (Memᴰ c (only w h) → HandedBy w c h) → (eqb x.worker w ≡ true) ⊎ (eqb x.worker w ≡ false) → Memᴰ c (cond (eqb x.worker w) (x.candidate ∷ only w h) (only w h)) → HandedBy w c (x ∷ h)
      go ih (inl e) m =
          ⊎_elim (λ (p : c ≡ x.candidate). record { by = x; met = mathlib.Core.List.Memᴰ.head refl; worker = eqb-true x.worker w e; candidate = sym p }) (λ (m' : Memᴰ c (only w h)). later (ih m')) (mathlib.Core.List.Memᴰ.cases_cons (rw e at m))
      go ih (inr e) m = later (ih (rw e at m))

  pub by_only : (x : Hand C) (h : List (Hand C)) → Memᴰ x h → Memᴰ x.candidate (only x.worker h)
  unfolding only
  by_only x [] x'' = elim x'' [ ]
  by_only x (y ∷ h) (mathlib.Core.List.Memᴰ.head e) = rw (eq-eqb y.worker x.worker (ap (λ (z : Hand C). z.worker) (sym e))) (mathlib.Core.List.Memᴰ.head (ap (λ (z : Hand C). z.candidate) e))
  by_only x (y ∷ h) (mathlib.Core.List.Memᴰ.tail m) = go (by_only x h m) (true-or-false (eqb y.worker x.worker))
    where
      go : Memᴰ x.candidate (only x.worker h) → (eqb y.worker x.worker ≡ true) ⊎ (eqb y.worker x.worker ≡ false)
          → Memᴰ x.candidate (cond (eqb y.worker x.worker) (y.candidate ∷ only x.worker h) (only x.worker h))
      go ih (inl e) = rw e (mathlib.Core.List.Memᴰ.tail ih)
      go ih (inr e) = rw e ih

  below_in : (m : ℕ) (h : List (Hand C)) → Below m h → (x : Hand C) → Memᴰ x h → x.worker < m
  unfolding Below
  below_in m [] b x x4 = elim x4 [ ]
  below_in m (y ∷ h) b x (mathlib.Core.List.Memᴰ.head e) = rw (ap (λ (z : Hand C). z.worker) e) b.0
  below_in m (y ∷ h) b x (mathlib.Core.List.Memᴰ.tail i) = below_in m h b.1 x i

  module _ (mine : ℕ → C → Bool) (cs : List C) {m : ℕ} {ts u : List ℕ} {h : List (Hand C)} (r : Run m (λ w. keep (mine w) cs) ts h u) where
    -- EVERY JOINABLE CANDIDATE IS HANDED, by its own worker
    pub run-all : (c : C) → Memᴰ c cs → (o : One (λ w. mine w c) m) → HandedBy o.who c h
    run-all c i o = only-by o.who c h (rw (run-queues r o.who o.worker) (keep-in (mine o.who) c cs i o.yes-it))

    -- and nothing else
    pub run_only : Entries m ts → (x : Hand C) → Memᴰ x h → Memᴰ x.candidate cs × (mine x.worker x.candidate ≡ true)
    run_only t x i = keep-of (mine x.worker) x.candidate cs (rw (run-queues r x.worker (below_in m h (run-below r t) x i)) at (by_only x h i))

  -- the queues' lengths sum to the number of candidates that are some worker's
  pub queues-total : (mine : ℕ → C → Bool) (some : C → Bool) (m : ℕ) (cs : List C)
      → ((c : C) → Memᴰ c cs → some c ≡ true → One (λ w. mine w c) m) → ((c : C) → Memᴰ c cs → some c ≡ false → (w : ℕ) → mine w c ≡ false)
      → sum_to (λ w. length (keep (mine w) cs)) m ≡ length (keep some cs)
  unfolding keep
  queues-total mine some m [] own none = sum-zero m
  queues-total mine some m (c ∷ cs) own none =
      go (queues-total mine some m cs (λ x i. own x (mathlib.Core.List.Memᴰ.tail i)) (λ x i. none x (mathlib.Core.List.Memᴰ.tail i))) (true-or-false (some c))
    where
      now : ℕ → ℕ
      now w = length (cond (mine w c) (c ∷ keep (mine w) cs) (keep (mine w) cs))

      old : ℕ → ℕ
      old w = length (keep (mine w) cs)

      go : sum_to old m ≡ length (keep some cs) → (some c ≡ true) ⊎ (some c ≡ false) → sum_to now m ≡ length (cond (some c) (c ∷ keep some cs) (keep some cs))
      go ih (inl e) =
          let o = own c (mathlib.Core.List.Memᴰ.head refl) e in
          rw e (sum_bump old now o.who m o.worker (rw o.yes-it) (λ w n. ⊎_elim (λ (t : mine w c ≡ true). absurd (n (sym (o.no_other w t)))) (λ (t : mine w c ≡ false). rw t) (true-or-false (mine w c))) ∙ ap suc ih)
      go ih (inr e) = rw e (sum_same now old m (λ w l. rw (none c (mathlib.Core.List.Memᴰ.head refl) e w)) ∙ ih)

  -- ---- exactly once
  keep-once : (f : C → Bool) (cs : List C) → Once cs → Once (keep f cs)
  unfolding keep Once
  keep-once f [] o = tt
  keep-once f (c ∷ cs) o = go (keep-once f cs o.1) (true-or-false (f c))
    where
      go : Once (keep f cs) → (f c ≡ true) ⊎ (f c ≡ false) → Once (cond (f c) (c ∷ keep f cs) (keep f cs))
      go ih (inl e) = rw e (λ m. o.0 (keep-of f c cs m).0, ih)
      go ih (inr e) = rw e ih

  -- one more turn leaves what a worker was handed, or adds to it
  only-more : (x : Hand C) (h : List (Hand C)) (w : ℕ) (c : C) → Memᴰ c (only w h) → Memᴰ c (only w (x ∷ h))
  unfolding only
  only-more x h w c m = go (true-or-false (eqb x.worker w))
    where
      go : (eqb x.worker w ≡ true) ⊎ (eqb x.worker w ≡ false) → Memᴰ c (cond (eqb x.worker w) (x.candidate ∷ only w h) (only w h))
      go (inl e) = rw e (mathlib.Core.List.Memᴰ.tail m)
      go (inr e) = rw e m

  only-once : (x : Hand C) (h : List (Hand C)) (w : ℕ) → Once (only w (x ∷ h)) → Once (only w h)
  unfolding only Once
  only-once x h w o = go (true-or-false (eqb x.worker w)) o
    where
      go : (eqb x.worker w ≡ true) ⊎ (eqb x.worker w ≡ false) → Once (cond (eqb x.worker w) (x.candidate ∷ only w h) (only w h)) → Once (only w h)
      go (inl e) o = (rw e at o).1
      go (inr e) o = rw e at o

  -- where no worker is handed a pair twice, and no two workers one pair, nothing is handed twice
  hands-once : (h : List (Hand C)) → ((w : ℕ) → Once (only w h)) → ((v w : ℕ) (c : C) → Memᴰ c (only v h) → Memᴰ c (only w h) → v ≡ w)
      → Once (map (λ (x : Hand C). x.candidate) h)
  unfolding Once only
  hands-once [] o n = tt
  hands-once (x ∷ h) o n = (fresh, hands-once h (λ w. only-once x h w (o w)) (λ v w c i j. n v w c (only-more x h v c i) (only-more x h w c j)))
    where
      fresh : Memᴰ x.candidate (map (λ (y : Hand C). y.candidate) h) → ⊥
      fresh m =
          let y = mathlib.Core.List.Memᴰ.of_map (λ (y : Hand C). y.candidate) h m in
          let i : Memᴰ x.candidate (only y.0.worker h) = mathlib.Core.List.Memᴰ.cast (sym y.2) (by_only y.0 h y.1) in
          let own : Memᴰ x.candidate (only x.worker (x ∷ h)) = by_only x (x ∷ h) (mathlib.Core.List.Memᴰ.head refl) in
          let e = n x.worker y.0.worker x.candidate own (only-more x h y.0.worker x.candidate i) in
          (rw (eq-eqb x.worker x.worker refl) at (o x.worker)).0 (rw (← e) at i)

  -- no turn of a worker that is not there
  pub only-absent : (m : ℕ) (h : List (Hand C)) → Below m h → (w : ℕ) → m ≤ w → only w h ≡ []
  unfolding only Below
  only-absent m [] b w l = refl
  only-absent m (x ∷ h) b w l = rw (ne_eqb x.worker w (λ e. omega (arith, b.0))) (only-absent m h b.1 w l)

  -- EXACTLY ONCE: what no two workers own is not handed twice
  pub run-once : (mine : ℕ → C → Bool) (cs : List C) {m : ℕ} {ts u : List ℕ} {h : List (Hand C)} → Run m (λ w. keep (mine w) cs) ts h u → Entries m ts → Once cs
      → ((v w : ℕ) (c : C) → Memᴰ c cs → mine v c ≡ true → mine w c ≡ true → v ≡ w) → Once (map (λ (x : Hand C). x.candidate) h)
  run-once mine cs {m} {h = h} r t o n = hands-once h once (λ v w c i j. n v w c (of v c i).0 (of v c i).1 (of w c j).1)
    where
      queue : (w : ℕ) → (only w h ≡ keep (mine w) cs) ⊎ (only w h ≡ [])
      queue w = go (dec_lt w m)
        where
          go : Dec (w < m) → (only w h ≡ keep (mine w) cs) ⊎ (only w h ≡ [])
          go (yes l) = inl (run-queues r w l)
          go (no g) = inr (only-absent m h (run-below r t) w (omega arith))

      once : (w : ℕ) → Once (only w h)
      once w = ⊎_elim (λ (e : only w h ≡ keep (mine w) cs). rw e (keep-once (mine w) cs o)) (λ (e : only w h ≡ []). rw e none) (queue w)
        where
          none : Once {C = C} []
          none = unfold Once in tt

      of : (w : ℕ) (c : C) → Memᴰ c (only w h) → Memᴰ c cs × (mine w c ≡ true)
      of w c i = ⊎_elim (λ (e : only w h ≡ keep (mine w) cs). keep-of (mine w) c cs (rw e at i)) (λ (e : only w h ≡ []). absurd (mathlib.Core.List.Memᴰ.not-nil (rw e at i))) (queue w)

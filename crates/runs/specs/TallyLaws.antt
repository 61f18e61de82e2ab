-- "eight per-worker pair counts": how each worker's count goes on.
use Rattle.std.specs.Prelude.{◌≡◌, refl, ◌⊎◌, true, false, cond, List, [], ◌∷◌, ◌++◌, map, ℕ, zero, suc, ◌+◌, ◌*◌, ◌≤◌, ◌<◌, eqb, length, get_or}
use Rattle.std.proofs.Common.{sym, ap, ap₂, ◌∙◌, inl, inr, append-nil, zero-add, suc-mul, mul-le-mul_right, arith, length-append, eq-eqb, ne_eqb}
use Rattle.std.proofs.Math.Decide.{dec_lt, ℕ_discrete}
use Rattle.rules.specs.Limits.{max_workers}
use Rattle.rules.specs.Shares.{Numbered}
use Rattle.rules.specs.Turns.{Hand, only}
use Rattle.rules.specs.Answers.{each, per_worker}
use Rattle.rules.specs.laws.Bools.{true-or-false}
use Rattle.rules.specs.laws.Turns.{sum_to, Below, counts-sum}
use Rattle.rules.specs.laws.Hands.{only-absent}
use Rattle.crew.specs.declared.Worker.{Worker}
use Rattle.crew.specs.Workers.{nobody, worker_at}
use Rattle.runs.specs.Runs.{Tallied}

-- ---- one more turn at the end
-- of a worker that is there
below_last : (m : ℕ) (h : List (Hand Numbered)) (x : Hand Numbered) → Below m h → x.worker < m → Below m (h ++ x ∷ [])
unfolding Below
below_last m [] x b l = (l, tt)
below_last m (y ∷ h) x b l = (b.0, below_last m h x b.1 l)

-- what a worker was handed, one part after the other
only-append : (w : ℕ) (h k : List (Hand Numbered)) → only w (h ++ k) ≡ only w h ++ only w k
unfolding only
only-append w [] k = refl
only-append w (y ∷ h) k = go (only-append w h k) (true-or-false (eqb y.worker w))
  where
    go : only w (h ++ k) ≡ only w h ++ only w k → (eqb y.worker w ≡ true) ⊎ (eqb y.worker w ≡ false)
        → cond (eqb y.worker w) (y.candidate ∷ only w (h ++ k)) (only w (h ++ k)) ≡ cond (eqb y.worker w) (y.candidate ∷ only w h) (only w h) ++ only w k
    go ih (inl e) = rw (e, ih)
    go ih (inr e) = rw (e, ih)

-- its worker has one more
only-last : (h : List (Hand Numbered)) (x : Hand Numbered) → length (only x.worker (h ++ x ∷ [])) ≡ length (only x.worker h) + 1
unfolding only
only-last h x = ap length (only-append x.worker h (x ∷ [])) ∙ rw (eq-eqb x.worker x.worker refl) (length-append (only x.worker h) (x.candidate ∷ []))

-- every other as many
only-else : (h : List (Hand Numbered)) (x : Hand Numbered) (w : ℕ) → (x.worker ≡ w → ⊥) → length (only w (h ++ x ∷ [])) ≡ length (only w h)
unfolding only
only-else h x w n = ap length (only-append w h (x ∷ [])) ∙ rw (ne_eqb x.worker w n, append-nil (only w h)) refl

-- ---- counts
-- those of a table of n workers, from worker k on
counts_each : (f : ℕ → ℕ) (l : List Worker) (k n : ℕ) → length l ≡ n → ((w : ℕ) → w < n → (get_or l w nobody).handed ≡ f (k + w)) → map (λ (v : Worker). v.handed) l ≡ each f k n
unfolding each
counts_each f [] k zero e h = refl
counts_each f [] k (suc n) e h = absurd (omega arith)
counts_each f (v ∷ l) k zero e h = absurd (omega arith)
counts_each f (v ∷ l) k (suc n) e h =
    let a : k + 0 ≡ k = omega arith in
    ap₂ (λ (x : ℕ) (y : List ℕ). x ∷ y) (h 0 (omega arith) ∙ ap f a)
    (counts_each f l (suc k) n (omega arith) (λ w i. let b : k + suc w ≡ suc k + w = omega arith in h (suc w) (omega arith) ∙ ap f b))

-- no more than b each
sum-few : (f : ℕ → ℕ) (b n : ℕ) → ((w : ℕ) → w < n → f w ≤ b) → sum_to f n ≤ n * b
unfolding sum_to
sum-few f b zero h = omega arith
sum-few f b (suc n) h = omega (arith, suc-mul n b, sum-few f b n (λ w l. h w (omega arith)), h n (omega arith))

-- at first none is handed
pub tally-start : (m : ℕ) (workers : List Worker) → length workers ≡ max_workers → ((w : ℕ) → worker_at workers w ≡ nobody) → Tallied m workers []
unfolding Below only
tally-start m workers l n = record { table = l; below = tt; present = λ w k. ap (λ (x : Worker). x.handed) (n w); absent = λ w k. n w }

module _ {m : ℕ} {workers : List Worker} {h : List (Hand Numbered)} (z : Tallied m workers h) where
  module _ (workers' : List Worker) (table : length workers' ≡ length workers) where
    -- workers whose counts stay
    pub tally-same : ((w : ℕ) → w < m → (worker_at workers' w).handed ≡ (worker_at workers w).handed) → ((w : ℕ) → m ≤ w → worker_at workers' w ≡ worker_at workers w) → Tallied m workers' h
    tally-same e o = record { table = table ∙ z.table; below = z.below; present = λ w l. e w l ∙ z.present w l; absent = λ w l. o w l ∙ z.absent w l }

    -- a turn: its worker has one more, and no other changes
    pub tally-more : (x : Hand Numbered) → x.worker < m → (worker_at workers' x.worker).handed ≡ (worker_at workers x.worker).handed + 1
        → ((v : ℕ) → (v ≡ x.worker → ⊥) → worker_at workers' v ≡ worker_at workers v) → Tallied m workers' (h ++ x ∷ [])
    tally-more x known more others = record {
      table = table ∙ z.table;
      below = below_last m h x z.below known;
      present = λ w l. go w l (ℕ_discrete w x.worker);
      absent = λ w l. others w (λ e. omega arith) ∙ z.absent w l;
    }
      where
        go : (w : ℕ) → w < m → Dec (w ≡ x.worker) → (worker_at workers' w).handed ≡ length (only w (h ++ x ∷ []))
        go w l (yes e) = rw e (omega (arith, more, z.present x.worker known, only-last h x))
        go w l (no n) = ap (λ (v : Worker). v.handed) (others w n) ∙ z.present w l ∙ sym (only-else h x w (λ e. n (sym e)))

  -- the counts of all eight
  pub tally-counts : map (λ (v : Worker). v.handed) workers ≡ per_worker (λ w. length (only w h))
  tally-counts = counts_each (λ w. length (only w h)) workers 0 max_workers z.table (λ w l. rw (zero-add w) (go w (dec_lt w m)))
    where
      go : (w : ℕ) → Dec (w < m) → (worker_at workers w).handed ≡ length (only w h)
      go w (yes l) = z.present w l
      go w (no n) = ap (λ (v : Worker). v.handed) (z.absent w (omega arith)) ∙ sym (ap length (only-absent m h z.below w (omega arith)))

  -- few for each worker are few in all
  pub tally-few : (b : ℕ) → m ≤ max_workers → ((w : ℕ) → w < m → (worker_at workers w).handed ≤ b) → length h ≤ max_workers * b
  tally-few b few each = omega (arith, counts-sum m h z.below, sum-few (λ w. length (only w h)) b m (λ w l. omega (arith, each w l, z.present w l)), mul-le-mul_right b few)

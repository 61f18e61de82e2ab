-- A turn: what it leaves to each worker, what it hands, and which pairs are passed.
use Rattle.std.specs.Prelude.{◌≡◌, Bool, true, false, Option, ℕ, zero, suc, ◌+◌, ◌-◌, ◌≤◌, ◌<◌, eqb, length, set, drop}
use Rattle.std.proofs.Math.Path.{refl, fun_ext}
use Rattle.std.proofs.Common.{sym, ap, ◌∙◌, ⊎_elim, arith, get_or-set_other, eq-eqb, ne_eqb}
use Rattle.std.proofs.Math.Bool.{cond}
use mathlib.Core.List.{List, [], ◌∷◌, cons-ne-nil}
use Rattle.std.proofs.Math.Decide.{ℕ_discrete}
use Rattle.std.proofs.lemmas.List.{set-get_or}
use Rattle.rules.specs.declared.Crew.{Crew}
use Rattle.rules.specs.Lists.{keep}
use Rattle.rules.specs.declared.Group.{Group}
use Rattle.rules.specs.Query.{Graph}
use Rattle.rules.specs.Shares.{met}
use Rattle.rules.specs.Turns.{rest, pop, hand, Empty, Lowest}
use Rattle.rules.specs.Log.{pair_of}
use Rattle.rules.specs.laws.Bools.{true-or-false}
use Rattle.rules.specs.laws.Turns.{sum_to, sum_same}
use Rattle.rules.specs.laws.Standing.{mine}
use Rattle.crew.specs.declared.Worker.{Worker}
use Rattle.shares.specs.declared.places.Place.{Place}
use Rattle.shares.specs.declared.Share.{Share}
use Rattle.crew.specs.declared.Handed as code
use Rattle.shares.specs.Nowhere.{left}
use Rattle.std.specs.Option.{is_some}
use Rattle.pairs.specs.LeftLaws.{left-some, left-none}
use Rattle.pairs.specs.Places.{candidate_at, met_numbered, own_at, Waits}
use Rattle.pairs.specs.GroundLaws.{at-number, next-queue, queue-here, queue-none}
use Rattle.turns.specs.Standing.{Columns, InPlace, pair_at, Handing, TurnTaken, places_of, queues_at, hand_at}
use Rattle.crew.specs.Workers.{nobody, worker_at}

-- ---- sums
-- one that is less at x and the same elsewhere is less
sum-falls : (f g : ℕ → ℕ) (x n : ℕ) → x < n → f x < g x → ((w : ℕ) → (w ≡ x → ⊥) → f w ≡ g w) → sum_to f n < sum_to g n
unfolding sum_to
sum-falls f g x zero l p o = absurd (omega arith)
sum-falls f g x (suc n) l p o = go (ℕ_discrete n x) (λ l₁. sum-falls f g x n l₁ p o)
  where
    go : Dec (n ≡ x) → (x < n → sum_to f n < sum_to g n) → sum_to f n + f n < sum_to g n + g n
    go (yes e) ih = omega (arith, sum_same f g n (λ w l₁. o w (λ e₁. omega arith)), p, ap f e, ap g e)
    go (no ne) ih = omega (arith, ih (omega arith), o n ne)

-- ---- what is left to each worker
-- a worker waits among the candidates, or at their end
pub waits-inside : (g : Graph) (group : Group) (h : Share) (p : Place) → Waits g group h p → p.number ≤ length (met g group)
waits-inside g group h p w = ⊎_elim (λ e. let s = left-some p e in omega (arith, (at-number g group p.number s.0 (w.there s.0 s.1).0).0)) (λ e. omega (arith, ap (λ (y : Place). y.number) (w.none (left-none p e)))) (true-or-false (left p))

module _ {g : Graph} {crew : Crew} {group : Group} {workers : List Worker} (z : InPlace g group crew workers) where
  module _ (w : ℕ) (known : w < crew.workers) where
    -- with no pair left its queue is empty
    pub left-queue-none : left (worker_at workers w).place ≡ false → queues_at g crew group workers w ≡ []
    left-queue-none e = rw (z.share w known) at (queue-none g group (worker_at workers w).share (worker_at workers w).place (z.ready w known).waits (left-none (worker_at workers w).place e))

    -- then a turn hands nothing
    pub turn-hand-none : left (worker_at workers w).place ≡ false → hand w (queues_at g crew group workers w) ≡ []
    unfolding hand
    turn-hand-none e = rw (left-queue-none e) refl

    -- with one left that pair is the next of its queue
    pub left-queue-some : left (worker_at workers w).place ≡ true → queues_at g crew group workers w ≡ met_numbered g group (places_of workers w) ∷ keep (mine g crew group w) (drop (places_of workers w + 1) (met g group))
    left-queue-some e =
        let s = left-some (worker_at workers w).place e in
        rw (z.share w known) at (queue-here g group (worker_at workers w).share (worker_at workers w).place (z.ready w known).waits s.0 s.1)

    -- then a turn hands the pair at its place
    pub turn-hand-some : left (worker_at workers w).place ≡ true → hand w (queues_at g crew group workers w) ≡ hand_at g group workers w ∷ []
    unfolding hand
    turn-hand-some e = rw (left-queue-some e) refl

    -- and the group is not closed
    pub some_left : left (worker_at workers w).place ≡ true → Empty crew.workers (queues_at g crew group workers) → ⊥
    unfolding Empty
    some_left e n = cons-ne-nil _ _ (sym (left-queue-some e) ∙ n w known)

  -- "no worker has a joinable pair left"
  pub empty_left : ((w : ℕ) → w < crew.workers → left (worker_at workers w).place ≡ false) → Empty crew.workers (queues_at g crew group workers)
  unfolding Empty
  empty_left none w l = left-queue-none w l (none w l)

  -- "the lowest-numbered worker with a pair left"
  pub lowest-left : (w : ℕ) → w < crew.workers → left (worker_at workers w).place ≡ true → ((v : ℕ) → v < w → left (worker_at workers v).place ≡ false) → Lowest crew.workers (queues_at g crew group workers) w
  lowest-left w known e lower = record { worker = known; left = λ n. cons-ne-nil _ _ (sym (left-queue-some w known e) ∙ n); lower = λ v l. left-queue-none v (omega arith) (lower v l) }

-- ---- a turn of worker w
-- how many candidates are still before the workers
abbrev pub still_met : Graph → Group → ℕ → List Worker → ℕ
still_met g group m workers = sum_to (λ w. length (met g group) - places_of workers w) m

module _ {g : Graph} {crew : Crew} {group : Group} {fixed outer inner result : List ℕ} {workers workers' : List Worker} {old new : Columns} {pair : Option code.Handed} {w : ℕ}
    (z : InPlace g group crew workers) (known : w < crew.workers) (t : TurnTaken g fixed outer inner result group w workers workers' old new pair) where
  -- no other worker moves
  pub turn-other : (v : ℕ) → (v ≡ w → ⊥) → worker_at workers' v ≡ worker_at workers v
  turn-other v n = ap (λ (l : List Worker). worker_at l v) t.others ∙ get_or-set_other workers w v (worker_at workers' w) nobody n

  -- nor does its place
  pub other_place : (v : ℕ) → (v ≡ w → ⊥) → places_of workers' v ≡ places_of workers v
  other_place v n = ap (λ (x : Worker). x.place.number) (turn-other v n)

  -- so its queue alone is to be compared
  queues-after : rest (queues_at g crew group workers w) ≡ queues_at g crew group workers' w → pop w (queues_at g crew group workers) ≡ queues_at g crew group workers'
  unfolding pop
  queues-after e = fun_ext (λ v. go v (ℕ_discrete v w))
    where
      go : (v : ℕ) → Dec (v ≡ w) → cond (eqb v w) (rest (queues_at g crew group workers v)) (queues_at g crew group workers v) ≡ queues_at g crew group workers' v
      go v (yes f) = rw (eq-eqb v w f, f) e
      go v (no n) = rw (ne_eqb v w n, other_place v n) refl

  module _ (none : left (worker_at workers w).place ≡ false) where
    -- with none left nothing changes
    pub same-workers : workers' ≡ workers
    same-workers = t.others ∙ ap (set workers w) (t.step.none none).0 ∙ set-get_or workers w nobody

    -- nor does a queue
    pop-none : pop w (queues_at g crew group workers) ≡ queues_at g crew group workers'
    unfolding rest
    pop-none = queues-after (rw (same-workers, left-queue-none z w known none) refl)

    -- it answers no pair
    found_none : is_some pair ≡ false
    found_none = ap is_some (t.step.none none).2

    -- and no candidate is passed
    pub turn-progress-none : still_met g group crew.workers workers' ≡ still_met g group crew.workers workers
    turn-progress-none = ap (still_met g group crew.workers) same-workers

  module _ (has : left (worker_at workers w).place ≡ true) where
    -- with a pair left it is handed
    abbrev handing : Handing g fixed outer inner result group (worker_at workers w) (worker_at workers' w) old new pair
    handing = t.step.some has

    -- it is the candidate at the worker's place
    pub here : (places_of workers w < length (met g group)) × (met_numbered g group (places_of workers w) ≡ candidate_at g group handing.spot.size handing.spot.row handing.spot.inner)
    here = at-number g group (places_of workers w) handing.spot ((z.ready w known).waits.there handing.spot handing.at).0

    -- the queue goes on to the next
    pop-some : pop w (queues_at g crew group workers) ≡ queues_at g crew group workers'
    unfolding rest
    pop-some = queues-after (rw (left-queue-some z w known has) on)
      where
        on : keep (mine g crew group w) (drop (places_of workers w + 1) (met g group)) ≡ queues_at g crew group workers' w
        on = rw (z.share w known) at (next-queue g group (worker_at workers w).share (places_of workers w + 1) (worker_at workers' w).place handing.next)

    -- it answers a pair
    found_some : is_some pair ≡ true
    found_some = ap is_some handing.answer

    -- which is the one handed
    pub turn-pair : pair_at g handing.spot ≡ pair_of (hand_at g group workers w)
    turn-pair = rw here.1 refl

    -- and passes a candidate
    pub turn-progress : still_met g group crew.workers workers' < still_met g group crew.workers workers
    turn-progress = sum-falls _ _ w crew.workers known (omega (arith, here.0, handing.next.ahead)) (λ v n. ap (λ (x : ℕ). length (met g group) - x) (other_place v n))

    -- the worker's share says what is its own
    pub own-mine : (y : ℕ) (b : Bool) → own_at g group (worker_at workers w).share y ≡ b → mine g crew group w (met_numbered g group y) ≡ b
    own-mine y b e = rw (z.share w known) at e

  -- the queues after a turn are those of the workers' new places
  pub turn-pop : pop w (queues_at g crew group workers) ≡ queues_at g crew group workers'
  turn-pop = ⊎_elim pop-some pop-none (true-or-false (left (worker_at workers w).place))

  -- it answers a pair exactly where its worker had one left
  pub turn-found : is_some pair ≡ left (worker_at workers w).place
  turn-found = ⊎_elim (λ e. found_some e ∙ sym e) (λ e. found_none e ∙ sym e) (true-or-false (left (worker_at workers w).place))

-- The turns of a group, and all groups in a row, hand every joinable pair once, to the worker that its share names, and nothing else.
use Rattle.std.specs.Prelude.{◌≡◌, ◌⊎◌, Bool, ◌&&◌, eqb, length}
use Rattle.std.proofs.Math.Path.{refl, sym, fun_ext}
use Rattle.std.proofs.Common.{ap, ◌∙◌, inl, inr, ⊎_elim, arith, eqb-true, eq-eqb}
use Rattle.std.proofs.Math.Bool.{true, false}
use mathlib.Core.List.Memᴰ
use mathlib.Core.List.{List, [], ◌∷◌, ◌++◌, map, Memᴰ}
use Prim.Native.Nat.{ℕ, zero, suc, ◌+◌, ◌≤◌, ◌<◌}
use Rattle.std.proofs.Math.Decide.{ℕ_discrete}
use Rattle.std.specs.Int.Bits.{bit_and}
use Rattle.rules.specs.declared.Crew.{Crew}
use Rattle.rules.specs.Lists.{keep, is_yes}
use Rattle.rules.specs.Sets.{Disjoint, size, holds}
use Rattle.rules.specs.Query.{Graph, Query}
use Rattle.rules.specs.Trees.{Joinable, Inner}
use Rattle.rules.specs.Offers.{Pair, union}
use Rattle.rules.specs.Rows.{rows_of}
use Rattle.rules.specs.declared.Group.{Group}
use Rattle.rules.specs.Schedule.{inner_at, Meets, Schedule}
use Rattle.rules.specs.Candidates.{Candidate, candidates, candidates_of, joinable}
use Rattle.rules.specs.Shares.{Numbered, numbered, met, owns, share, queue}
use Rattle.rules.specs.Turns.{Hand, Run, closed, listed, lowest, Groups, only}
use Rattle.rules.specs.Log.{sets_of, pair_of}
use Rattle.rules.specs.laws.Bools.{and-true, and-true-l, and_true_r, yes_true, true-yes}
use Rattle.rules.specs.laws.Lists.{keep-both, Once}
use Rattle.rules.specs.laws.Sets.{holds-apart, holds-some}
use Rattle.rules.specs.laws.Connected.{joinable-sym}
use Rattle.rules.specs.laws.Decide.{between?}
use Rattle.rules.proofs.laws.Rows.{rows_all, rows-only, rows-once}
use Rattle.rules.specs.laws.Standing.{JoinablePair, among, Complete, mine}
use Rattle.rules.specs.laws.Shares.{One, owns-one}
use Rattle.rules.specs.laws.Candidates.{Has, candidates-all, met_of, numbered-in, numbered_of, numbered-length, numbered-once, SameSets, Rising, candidates-apart, numbered-pair}
use Rattle.rules.specs.laws.Turns.{Entries, Below, run-below, run-queues, counts-sum, sum_same}
use Rattle.rules.specs.laws.Hands.{HandedBy, run-all, run_only, run-once, queues-total}

-- ---- joinable, as a fact
pub joinable-true : (g : Graph) (c : Candidate) → joinable g c ≡ true → Joinable g c.driving c.inner
unfolding joinable
joinable-true g c e = record {
  apart = eqb-true (bit_and c.driving c.inner) 0 (and-true-l (eqb (bit_and c.driving c.inner) 0) (is_yes (between? g c.driving c.inner)) e);
  between = yes_true (between? g c.driving c.inner) (and_true_r (eqb (bit_and c.driving c.inner) 0) (is_yes (between? g c.driving c.inner)) e);
}

pub true-joinable : (g : Graph) (c : Candidate) → Joinable g c.driving c.inner → joinable g c ≡ true
unfolding joinable
true-joinable g c j =
    and-true (eqb (bit_and c.driving c.inner) 0) (is_yes (between? g c.driving c.inner)) (eq-eqb (bit_and c.driving c.inner) 0 j.apart)
    (true-yes (between? g c.driving c.inner) j.between)

-- a set stands among the rows of one size
pub one_size : (g : Graph) (j k Z : ℕ) → Memᴰ Z (rows_of g j) → Memᴰ Z (rows_of g k) → j ≡ k
one_size g j k Z a b = sym (rows-only g j Z a).1 ∙ (rows-only g k Z b).1

-- a pair of sets is met ONE WAY ROUND, ONCE
pub pair-once : (g : Graph) (group : Group) → Rising group → (x y : Numbered) → Memᴰ x (met g group) → Memᴰ y (met g group) → SameSets x.candidate y.candidate → x ≡ y
unfolding met candidates
pair-once g group u x y m n p =
    numbered-pair 0 (candidates g group) (candidates-apart (rows_of g) group (rows-once g) (one_size g) u) x y m n p

-- a candidate that is met and joinable is a joinable pair of connected sets
pub met-joinable : (g : Graph) (group : Group) (x : Numbered) → Memᴰ x (met g group) → joinable g x.candidate ≡ true → JoinablePair g (sets_of x)
unfolding met candidates
met-joinable g group x i j =
    let c = x.candidate in
    let b = met_of (rows_of g) group c (numbered_of 0 (candidates_of (rows_of g) group) x i).0 in
    record {
      driving-conn = (rows-only g b.size c.driving b.behind.driving).0;
      inner-conn = (rows-only g (inner_at group b.size) c.inner b.behind.inner).0;
      joinable = joinable-true g c j;
    }

-- disjoint sets differ
pub apart-differ : (X Y : ℕ) → 0 < X → Disjoint X Y → X ≡ Y → ⊥
apart-differ X Y l d e =
    let a = holds-some X l in
    omega (arith, holds-apart X Y a.0 d, a.1, ap (λ (z : ℕ). holds z a.0) e)

-- a pair of the sizes of a group
abbrev pub InGroup : Group → Pair → Type 0
InGroup group p = Meets group (size p.driving) (size p.inner)

pub met-sized : (g : Graph) (group : Group) (x : Numbered) → Memᴰ x (met g group) → InGroup group (sets_of x)
unfolding met candidates
met-sized g group x i =
    let c = x.candidate in
    let r = met_of (rows_of g) group c (numbered_of 0 (candidates_of (rows_of g) group) x i).0 in
    let e = (rows-only g r.size c.driving r.behind.driving).1 in
    record { from_one = rw e r.from_one; to_last = rw e r.to_last; inner = rw e (rows-only g (inner_at group r.size) c.inner r.behind.inner).1 }

-- a joinable pair of the sizes of a group is met, one way round
pub pair-met : (g : Graph) (group : Group) (p : Pair) → JoinablePair g p → InGroup group p → Has p.driving p.inner (candidates g group) ⊎ Has p.inner p.driving (candidates g group)
unfolding candidates
pair-met g group p j z =
    let X = p.driving in
    let Y = p.inner in
    let cx = j.driving-conn in
    let cy = j.inner-conn in
    candidates-all (rows_of g) group (size X) X Y z.from_one z.to_last (rows_all g X cx) (rw z.inner at (rows_all g Y cy)) (apart-differ X Y cx.some j.joinable.apart)

-- the other way round
abbrev pub swap : Pair → Pair
swap p = record { driving = p.inner; inner = p.driving }

pub joinable-swap : {g : Graph} {p : Pair} → JoinablePair g p → JoinablePair g (swap p)
joinable-swap d = record { driving-conn = d.inner-conn; inner-conn = d.driving-conn; joinable = joinable-sym d.joinable }

-- ---- the turns of a group
module _ (g : Graph) (crew : Crew) (group : Group) where
  pub queue-mine : queue g crew group ≡ (λ w. keep (mine g crew group w) (met g group))
  unfolding queue share mine
  queue-mine = fun_ext (λ w. keep-both (owns crew.scheme (length (met g group)) crew.workers w) (λ (x : Numbered). joinable g x.candidate) (met g group))

  -- every candidate that is met has one worker
  pub met-one : 0 < crew.workers → (x : Numbered) → Memᴰ x (met g group) → One (λ w. owns crew.scheme (length (met g group)) crew.workers w x) crew.workers
  unfolding met candidates
  met-one l x i =
      let r = numbered_of 0 (candidates g group) x i in
      owns-one crew.scheme (length (met g group)) crew.workers x l (omega (arith, r.2, numbered-length 0 (candidates g group))) (met_of (rows_of g) group x.candidate r.0).behind.row

  pub mine-one : (x : Numbered) → joinable g x.candidate ≡ true → (o : One (λ w. owns crew.scheme (length (met g group)) crew.workers w x) crew.workers) → One (λ w. mine g crew group w x) crew.workers
  unfolding mine
  mine-one x j o = record {
    who = o.who;
    worker = o.worker;
    yes-it = and-true (owns crew.scheme (length (met g group)) crew.workers o.who x) (joinable g x.candidate) o.yes-it j;
    no_other = λ v e. o.no_other v (and-true-l (owns crew.scheme (length (met g group)) crew.workers v x) (joinable g x.candidate) e);
  }

  mine-none : (x : Numbered) → joinable g x.candidate ≡ false → (w : ℕ) → mine g crew group w x ≡ false
  unfolding mine
  mine-none x j w = rw j (both_false (owns crew.scheme (length (met g group)) crew.workers w x))
    where
      both_false : (b : Bool) → (b && false) ≡ false
      both_false true = refl
      both_false false = refl

  module _ {ts u : List ℕ} {h : List (Hand Numbered)} (workers : 0 < crew.workers) (t : Entries crew.workers ts) (run : Run crew.workers (queue g crew group) ts h u) where
    run-mine : Run crew.workers (λ w. keep (mine g crew group w) (met g group)) ts h u
    run-mine = rw queue-mine at run

    -- each worker hands ITS QUEUE, IN ORDER
    pub hands-queue : (w : ℕ) → w < crew.workers → only w h ≡ queue g crew group w
    hands-queue w l = run-queues run w l

    -- each joinable candidate is handed BY ITS OWN WORKER
    pub hands-all : (x : Numbered) → Memᴰ x (met g group) → joinable g x.candidate ≡ true → (o : One (λ w. owns crew.scheme (length (met g group)) crew.workers w x) crew.workers) → HandedBy o.who x h
    unfolding mine-one
    hands-all x i j o = run-all (mine g crew group) (met g group) run-mine x i (mine-one x j o)

    -- so AS MANY PAIRS ARE HANDED as candidates are joinable
    pub hands-count : length h ≡ length (keep (λ (x : Numbered). joinable g x.candidate) (met g group))
    hands-count =
        sym (counts-sum crew.workers h (run-below run-mine t)) ∙ sum_same (λ w. length (only w h)) (λ w. length (keep (mine g crew group w) (met g group))) crew.workers (λ w l. ap length (run-queues run-mine w l))
        ∙ queues-total (mine g crew group) (λ (x : Numbered). joinable g x.candidate) crew.workers (met g group) (λ x i j. mine-one x j (met-one workers x i)) (λ x i j. mine-none x j)

    -- NOTHING ELSE is handed, and by nobody else
    pub hands-only : (x : Hand Numbered) → Memᴰ x h → Memᴰ x.candidate (met g group) × (owns crew.scheme (length (met g group)) crew.workers x.worker x.candidate ≡ true) × (joinable g x.candidate.candidate ≡ true)
    unfolding mine
    hands-only x i =
        let r = run_only (mine g crew group) (met g group) run-mine t x i in
        let a = owns crew.scheme (length (met g group)) crew.workers x.worker x.candidate in
        let b = joinable g x.candidate.candidate in
        (r.0, and-true-l a b r.1, and_true_r a b r.1)

    -- and nothing TWICE
    pub hands-once : Once (map (λ (x : Hand Numbered). x.candidate) h)
    unfolding mine met
    hands-once = run-once (mine g crew group) (met g group) run-mine t (numbered-once 0 (candidates g group)) (λ v w x i a b.
        let o = met-one workers x i in
        o.no_other v (and-true-l (owns crew.scheme (length (met g group)) crew.workers v x) (joinable g x.candidate) a)
        ∙ sym (o.no_other w (and-true-l (owns crew.scheme (length (met g group)) crew.workers w x) (joinable g x.candidate) b)))

    -- a joinable pair that the group meets is handed
    handed-of : (X Y : ℕ) → Joinable g X Y → Has X Y (candidates g group) → Memᴰ (record { driving = X; inner = Y }) (map pair_of h)
    unfolding met
    handed-of X Y j p = Memᴰ.cast same (Memᴰ.map pair_of found.met)
      where
        n : (x : Numbered) × Memᴰ x (numbered 0 (candidates g group)) × (x.candidate ≡ p.one)
        n = numbered-in 0 (candidates g group) p.one p.met

        eX : n.0.candidate.driving ≡ X
        eX = ap (λ (c : Candidate). c.driving) n.2 ∙ p.driving

        eY : n.0.candidate.inner ≡ Y
        eY = ap (λ (c : Candidate). c.inner) n.2 ∙ p.inner

        found : HandedBy (met-one workers n.0 n.1).who n.0 h
        found = hands-all n.0 n.1 (true-joinable g n.0.candidate (rw (eX, eY) j)) (met-one workers n.0 n.1)

        same : record { driving = X; inner = Y } ≡ pair_of found.by
        same = λ i. record {
          driving = sym (ap (λ (x : Numbered). x.candidate.driving) found.candidate ∙ eX) i;
          inner = sym (ap (λ (x : Numbered). x.candidate.inner) found.candidate ∙ eY) i;
        }

    -- each pair handed is joinable
    pub joinable-of : (x : Hand Numbered) → Memᴰ x h → JoinablePair g (pair_of x)
    joinable-of x i = let r = hands-only x i in met-joinable g group x.candidate r.0 r.2

    -- and of the group's sizes
    pub sized_of : (x : Hand Numbered) → Memᴰ x h → InGroup group (pair_of x)
    sized_of x i = met-sized g group x.candidate (hands-only x i).0

    -- THE GROUP IS COMPLETE: all joinable pairs of its sizes, one way round
    pub group-total : (p : Pair) → JoinablePair g p → InGroup group p → Memᴰ p (map pair_of h) ⊎ Memᴰ (swap p) (map pair_of h)
    group-total p j z =
        ⊎_elim (λ a. inl (handed-of p.driving p.inner j.joinable a)) (λ a. inr (handed-of p.inner p.driving (joinable-sym j.joinable) a)) (pair-met g group p j z)

-- ---- all groups, one after another
pub entries-left : {C : Type 0} {m : ℕ} {qs : ℕ → List C} {ts : List ℕ} {h : List (Hand C)} {u : List ℕ} → Run m qs ts h u → Entries m ts → Entries m u
unfolding Entries
entries-left (closed e p r) t = rw r t
entries-left (listed n r p) t = entries-left r t.1
entries-left (lowest l r p) t = entries-left r tt

below-append : {C : Type 0} (m : ℕ) (a b : List (Hand C)) → Below m a → Below m b → Below m (a ++ b)
unfolding Below
below-append m [] b p r = r
below-append m (x ∷ a) b p r = (p.0, below-append m a b p.1 r)

-- every pair is handed by a worker that is there
pub groups-below : {C : Type 0} (m : ℕ) (queues : ℕ → ℕ → List C) (k n : ℕ) (ts : List ℕ) (h : List (Hand C)) → Entries m ts → Groups m queues k n ts h → Below m h
unfolding Groups Below
groups-below m queues k zero ts h t z = rw z tt
groups-below m queues k (suc n) ts h t z = rw z.5 (below-append m z.0 z.1 (run-below z.3 t) (groups-below m queues (suc k) n z.2 z.1 (entries-left z.3 t) z.4))

pub map-append : (a b : List (Hand Numbered)) → map pair_of (a ++ b) ≡ map pair_of a ++ map pair_of b
map-append [] b = refl
map-append (x ∷ a) b = ap (λ (l : List Pair). pair_of x ∷ l) (map-append a b)

-- where an element of two lists in a row stands
no_place : {C : Type 0} (a b : List C) (x : C) → a ++ x ∷ b ≡ [] → ⊥
no_place [] b x e = let z : ◌≡◌ {A = ℕ} 0 1 = cc in omega arith
no_place (y ∷ a) b x e = let z : ◌≡◌ {A = ℕ} 0 1 = cc in omega arith

append-place : {C : Type 0} (l r a b : List C) (x : C) → l ++ r ≡ a ++ x ∷ b → ((b' : List C) × (l ≡ a ++ x ∷ b')) ⊎ ((a' : List C) × (a ≡ l ++ a') × (r ≡ a' ++ x ∷ b))
append-place [] r a b x e = inr (a, refl, e)
append-place (y ∷ l) r [] b x e = inl (l, ap (λ z. z ∷ l) (cc))
append-place {C} (y ∷ l) r (w ∷ a) b x e =
    let h : y ≡ w = cc in
    let s : l ++ r ≡ a ++ x ∷ b = cc in
    go h (append-place l r a b x s)
  where
    go : y ≡ w → ((b' : List C) × (l ≡ a ++ x ∷ b')) ⊎ ((a' : List C) × (a ≡ l ++ a') × (r ≡ a' ++ x ∷ b)) → ((b' : List C) × (y ∷ l ≡ w ∷ a ++ x ∷ b')) ⊎ ((a' : List C) × (w ∷ a ≡ y ∷ l ++ a') × (r ≡ a' ++ x ∷ b))
    go h (inl o) = inl (o.0, (λ i. h i ∷ o.1 i))
    go h (inr o) = inr (o.0, (λ i. sym h i ∷ o.1 i), o.2)

-- whatever the groups are
module _ (g : Graph) (crew : Crew) (workers : 0 < crew.workers) (groups : Schedule) where
  abbrev pub queues : ℕ → ℕ → List Numbered
  queues k w = queue g crew (groups k) w

  -- a pair handed is joinable, and of the sizes of one of the groups
  pub record From (k n : ℕ) (p : Pair) : Type 0 where
    pub joinable : JoinablePair g p
    pub group : ℕ
    pub first : k ≤ group
    pub last : group < k + n
    pub inside : InGroup (groups group) p

  pub groups-from : (k n : ℕ) (ts : List ℕ) (h : List (Hand Numbered)) → Entries crew.workers ts → Groups crew.workers queues k n ts h → (x : Hand Numbered) → Memᴰ x h → From k n (pair_of x)
  unfolding Groups
  groups-from k zero ts h t z x i = absurd (Memᴰ.not-nil (rw z at i))
  groups-from k (suc n) ts h t z x i = go (groups-from (suc k) n z.2 z.1 (entries-left z.3 t) z.4 x) (Memᴰ.append_cases z.0 (rw z.5 at i))
    where
      go : (Memᴰ x z.1 → From (suc k) n (pair_of x)) → Memᴰ x z.0 ⊎ Memᴰ x z.1 → From k (suc n) (pair_of x)
      go ih (inl a) =
          record { joinable = joinable-of g crew (groups k) workers t z.3 x a; group = k; first = omega arith; last = omega arith; inside = sized_of g crew (groups k) workers t z.3 x a }
      go ih (inr a) =
          let r = ih a in
          record { joinable = r.joinable; group = r.group; first = omega (arith, r.first); last = omega (arith, r.last); inside = r.inside }

  -- all joinable pairs of the sizes of one of the groups are handed
  pub groups-total : (k n : ℕ) (ts : List ℕ) (h : List (Hand Numbered)) → Entries crew.workers ts → Groups crew.workers queues k n ts h → (j : ℕ) → k ≤ j → j < k + n
      → (p : Pair) → JoinablePair g p → InGroup (groups j) p → Memᴰ p (map pair_of h) ⊎ Memᴰ (swap p) (map pair_of h)
  unfolding Groups
  groups-total k zero ts h t z j l u p c s = absurd (omega arith)
  groups-total k (suc n) ts h t z j l u p c s =
      rw (z.5, map-append) (go (ℕ_discrete k j) (λ l₁. groups-total (suc k) n z.2 z.1 (entries-left z.3 t) z.4 j l₁ (omega arith) p c s))
    where
      x : List Pair
      x = map pair_of z.0

      y : List Pair
      y = map pair_of z.1

      go : Dec (k ≡ j) → (suc k ≤ j → Memᴰ p y ⊎ Memᴰ (swap p) y) → Memᴰ p (x ++ y) ⊎ Memᴰ (swap p) (x ++ y)
      go (yes e) later =
          ⊎_elim (λ a. inl (Memᴰ.append_left y a)) (λ a. inr (Memᴰ.append_left y a)) (group-total g crew (groups k) workers t z.3 p c (rw (← e) at s))
      go (no f) later = ⊎_elim (λ a. inl (Memᴰ.append_right x a)) (λ a. inr (Memᴰ.append_right x a)) (later (omega arith))

  -- what was handed before a turn of pair x, P: all pairs of the groups before the one that has x
  pub record Earlier (k n : ℕ) (P : List Pair) (x : Pair) : Type 0 where
    pub group : ℕ
    pub first : k ≤ group
    pub last : group < k + n
    pub inside : InGroup (groups group) x
    pub all : (j : ℕ) → k ≤ j → j < group → (p : Pair) → JoinablePair g p → InGroup (groups j) p → Memᴰ p P ⊎ Memᴰ (swap p) P

  pub groups-earlier : (k n : ℕ) (ts : List ℕ) (h : List (Hand Numbered)) → Entries crew.workers ts → Groups crew.workers queues k n ts h → (a b : List (Hand Numbered)) (x : Hand Numbered) → h ≡ a ++ x ∷ b → Earlier k n (map pair_of a) (pair_of x)
  unfolding Groups
  groups-earlier k zero ts h t z a b x e = absurd (no_place a b x (sym e ∙ z))
  groups-earlier k (suc n) ts h t z a b x e = go (groups-earlier (suc k) n z.2 z.1 (entries-left z.3 t) z.4) (append-place z.0 z.1 a b x (sym z.5 ∙ e))
    where
      go : ((a' b' : List (Hand Numbered)) (x' : Hand Numbered) → z.1 ≡ a' ++ x' ∷ b' → Earlier (suc k) n (map pair_of a') (pair_of x'))
          → ((b' : List (Hand Numbered)) × (z.0 ≡ a ++ x ∷ b')) ⊎ ((a' : List (Hand Numbered)) × (a ≡ z.0 ++ a') × (z.1 ≡ a' ++ x ∷ b)) → Earlier k (suc n) (map pair_of a) (pair_of x)
      go ih (inl l) = record {
        group = k;
        first = omega arith;
        last = omega arith;
        inside = sized_of g crew (groups k) workers t z.3 x (rw l.1 (Memᴰ.append_right a (Memᴰ.head refl)));
        all = λ j u v. absurd (omega arith);
      }
      go ih (inr r) = record { group = i.group; first = omega (arith, i.first); last = omega (arith, i.last); inside = i.inside; all = all }
        where
          i : Earlier (suc k) n (map pair_of r.0) (pair_of x)
          i = ih r.0 b x r.2

          all : (j : ℕ) → k ≤ j → j < i.group → (p : Pair) → JoinablePair g p → InGroup (groups j) p → Memᴰ p (map pair_of a) ⊎ Memᴰ (swap p) (map pair_of a)
          all j u v p c s = rw (r.1, map-append) (pick (ℕ_discrete k j))
            where
              pick : Dec (k ≡ j) → Memᴰ p (map pair_of z.0 ++ map pair_of r.0) ⊎ Memᴰ (swap p) (map pair_of z.0 ++ map pair_of r.0)
              pick (yes f) = ⊎_elim (λ y. inl (Memᴰ.append_left (map pair_of r.0) y)) (λ y. inr (Memᴰ.append_left (map pair_of r.0) y)) (group-total g crew (groups k) workers t z.3 p c (rw (← f) at s))
              pick (no f) = ⊎_elim (λ y. inl (Memᴰ.append_right (map pair_of z.0) y)) (λ y. inr (Memᴰ.append_right (map pair_of z.0) y)) (i.all j (omega arith) v p c s)

  -- after n groups the pairs of S are complete where its pairs are of their sizes
  pub groups-complete : (q : Query) → q.graph ≡ g → (k n : ℕ) (ts : List ℕ) (h : List (Hand Numbered)) → Entries crew.workers ts → Groups crew.workers queues k n ts h → (S : ℕ)
      → ((p : Pair) → JoinablePair g p → Inner q p.inner → union p ≡ S → (j : ℕ) × (k ≤ j) × (j < k + n) × (InGroup (groups j) p ⊎ InGroup (groups j) (swap p)))
      → Complete q (among (map pair_of h)) S
  groups-complete q e k n ts h t z S where-it-is = record { sound = sound; total = total }
    where
      sound : (p : Pair) → Memᴰ p (map pair_of h) → union p ≡ S → JoinablePair q.graph p
      sound p i w = let o = Memᴰ.of_map pair_of h i in rw (e, ← o.2) (groups-from k n ts h t z o.0 o.1).joinable

      total : (p : Pair) → JoinablePair q.graph p → Inner q p.inner → union p ≡ S → Memᴰ p (map pair_of h) ⊎ Memᴰ (swap p) (map pair_of h)
      total p c f w = pick r.3
        where
          d : JoinablePair g p
          d = rw e at c

          r : (j : ℕ) × (k ≤ j) × (j < k + n) × (InGroup (groups j) p ⊎ InGroup (groups j) (swap p))
          r = where-it-is p d f w

          pick : InGroup (groups r.0) p ⊎ InGroup (groups r.0) (swap p) → Memᴰ p (map pair_of h) ⊎ Memᴰ (swap p) (map pair_of h)
          pick (inl s) = groups-total k n ts h t z r.0 r.1 r.2 p d s
          pick (inr s) = ⊎_elim (λ a. inr a) (λ a. inl a) (groups-total k n ts h t z r.0 r.1 r.2 (swap p) (joinable-swap d) s)

-- Opening a group, each turn and closing it: how the memo stands after them, by rules' laws.Progress.
use Rattle.std.specs.Prelude.{◌≡◌, ◌⊎◌, cond, Option, ℕ, suc, ◌+◌, ◌-◌, ◌*◌, ◌≤◌, ◌<◌}
use Rattle.std.proofs.Math.Path.{refl, ap}
use Rattle.std.proofs.Common.{sym, ◌∙◌, inl, inr, ⊎_elim, get_or-set_same, get_or-set_other}
use Rattle.std.proofs.Math.Bool.{true, false}
use mathlib.Core.List.{List, [], ◌∷◌, Memᴰ}
use Rattle.std.proofs.Math.Decide.{dec_lt, ℕ_discrete}
use native.Mathlib.Omega.{arith}
use Rattle.std.proofs.Math.ListN.{length, get_or}
use Rattle.rules.specs.declared.Crew.{Crew}
use Rattle.rules.specs.declared.Group.{Group}
use Rattle.rules.specs.Offers.{Pair, union, ways, sides, Choice, Offers}
use Rattle.rules.specs.Limits.{max_workers}
use Rattle.rules.specs.Schedule.{inner_at, Schedule}
use Rattle.rules.specs.Query.{Graph, Query, table_count}
use Rattle.rules.specs.Trees.{price}
use Rattle.rules.specs.Rows.{memo}
use Rattle.rules.specs.Candidates.{Candidate, candidates}
use Rattle.rules.specs.Shares.{Numbered, numbered, met}
use Rattle.rules.specs.Log.{sets_of, pair_of}
use Rattle.rules.specs.laws.Bools.{true-or-false, not-both}
use Rattle.rules.specs.laws.Lists.{at_in}
use Rattle.rules.specs.laws.Choice.{Best}
use Rattle.rules.specs.laws.Choice.{kept}
use Rattle.rules.specs.laws.Candidates.{numbered_of, numbered-length}
use Rattle.rules.specs.laws.Standing.{With, mine}
use Rattle.rules.specs.laws.Connected.{connected-join}
use Rattle.rules.proofs.laws.Rows.{memo-once}
use Rattle.rules.proofs.laws.Complete.{met-sized}
use Rattle.rules.proofs.laws.Final.{group-ways, results-large}
use Rattle.rules.proofs.laws.Progress as progress
use Rattle.rules.specs.laws.Standing as standing
use Rattle.crew.specs.declared.Worker.{Worker}
use Rattle.shares.specs.declared.places.Place.{Place}
use Rattle.shares.specs.declared.places.Spot.{Spot}
use Rattle.shares.specs.Nowhere.{left}
use Rattle.crew.specs.declared.Handed as code
use Rattle.shares.specs.Shares.{few, share_of}
use Rattle.pairs.specs.Places.{start_of, candidate_at, met_numbered, no_candidate, At, own_at, NextFrom, Fit}
use Rattle.pairs.specs.LeftLaws.{left-none}
use Rattle.pairs.specs.PlaceLaws.{start-mono, start-memo, met-few, group-fits}
use Rattle.pairs.specs.GroundLaws.{at-number}
use Rattle.turns.specs.Index.{index_of, index-cases, index_at}
use Rattle.opening.specs.Opening.{Opened}
use Rattle.rules.proofs.laws.Schedule.{first-driving}
use Rattle.turns.specs.QueueLaws.{waits-inside, turn-other, other_place, own-mine, same-workers}
use Rattle.turns.specs.Standing.{Columns, choice_in, stored, top_of, result_at, Reach, Ready, InPlace, pair_at, Handing, TurnTaken, row_in, Final, places_of, Standing, hand_at, Work}
use Rattle.crew.specs.Workers.{worker_at}

-- ---- columns with one row anew
module _ (g : Graph) (c : Columns) (k : Choice) (r : ℕ) where
  pub choice-same : Reach g c → r < length (memo g) → choice_in (stored c r k) r ≡ k
  choice-same z l = λ t. record {
    cost = get_or-set_same c.costs r k.cost 0 (omega (arith, z.costs)) t;
    outer = get_or-set_same c.outers r k.outer 0 (omega (arith, z.outers)) t;
    method = get_or-set_same c.methods r k.method 0 (omega (arith, z.methods)) t;
  }

  pub choice-other : (p : ℕ) → (p ≡ r → ⊥) → choice_in (stored c r k) p ≡ choice_in c p
  choice-other p n = λ t. record {
    cost = get_or-set_other c.costs r p k.cost 0 n t;
    outer = get_or-set_other c.outers r p k.outer 0 n t;
    method = get_or-set_other c.methods r p k.method 0 n t;
  }

-- ---- candidates by their numbers
numbered-get : (n : ℕ) (cs : List Candidate) (x : Numbered) → Memᴰ x (numbered n cs) → get_or (numbered n cs) (x.number - n) no_candidate ≡ x
unfolding numbered
numbered-get n [] x x3 = elim x3 [ ]
numbered-get n (c ∷ cs) x (Memᴰ.head e) = let f : x.number - n ≡ 0 = omega (arith, ap (λ (y : Numbered). y.number) e) in rw f (sym e)
numbered-get n (c ∷ cs) x (Memᴰ.tail m) = let f : x.number - n ≡ suc (x.number - suc n) = omega (arith, (numbered_of (suc n) cs x m).1) in rw f (numbered-get (suc n) cs x m)

pub met-number : (g : Graph) (group : Group) (x : Numbered) → Memᴰ x (met g group) → (met_numbered g group x.number ≡ x) × (x.number < length (met g group))
unfolding met
met-number g group x m =
    let e : x.number - 0 ≡ x.number = omega arith in
    (rw e at (numbered-get 0 (candidates g group) x m), omega (arith, (numbered_of 0 (candidates g group) x m).2, numbered-length 0 (candidates g group)))

-- ---- rows
-- the row of a set that stands at r
pub row_at : (g : Graph) (c : Columns) (r S : ℕ) → r < length (memo g) → get_or (memo g) r 0 ≡ S → row_in g c S ≡ choice_in c r
row_at g c r S l e = ap (choice_in c) (index_at (memo g) (memo-once g) r S l e)

-- ---- places
-- the inner sizes of a group are no larger than the first one's
pub inner-top : (group : Group) (d : ℕ) → 1 ≤ d → inner_at group d ≤ top_of group
unfolding inner_at
inner-top group d l = go (true-or-false group.falling)
  where
    go : (group.falling ≡ true) ⊎ (group.falling ≡ false) → cond group.falling (group.base - d) group.base ≤ cond group.falling (group.base - 1) group.base
    go (inl e) = rw e (omega arith)
    go (inr e) = rw e (omega arith)

-- the two rows of a place are rows that the group reads
pub at-smaller : (g : Graph) (group : Group) {x : ℕ} (p : Spot) → At g group x p → (p.row < start_of g (top_of group + 1)) × (p.inner < start_of g (top_of group + 1))
at-smaller g group p a =
    let t = inner-top group p.size a.from_one in
    (omega (arith, a.row-to, start-mono g (p.size + 1) (top_of group + 1) (omega (arith, a.to_last))), omega (arith, a.inner-to, start-mono g (inner_at group p.size + 1) (top_of group + 1) (omega arith)))

-- ---- a group is opened
module _ {g : Graph} {group : Group} {crew : Crew} {workers workers' : List Worker} (o : Opened g group crew workers workers') where
  -- each worker has its share
  open-share : (w : ℕ) → w < crew.workers → (worker_at workers' w).share ≡ share_of crew w (length (met g group))
  open-share w l = ap (λ (v : Worker). v.share) (o.worker w l)

  -- and is at its first pair
  pub open-first : (w : ℕ) → w < crew.workers → NextFrom g group (worker_at workers' w).share 0 (worker_at workers' w).place
  open-first w l = rw (open-share w l) (o.first w l)

  pub open-places : 1 ≤ crew.workers → crew.workers ≤ max_workers → ((w : ℕ) → w < crew.workers → (worker_at workers w).handed ≤ (top_of group - 1) * few) → InPlace g group crew workers'
  open-places some few-workers bound = record { ready = ready; share = open-share }
    where
      ready : (w : ℕ) → w < crew.workers → Ready g group (worker_at workers' w)
      ready w l = record {
        share = rw (open-share w l) (record { some-worker = some; few-workers = few-workers; worker = l; is = refl });
        waits = rw (open-share w l) (o.first w l).waits;
        handed = omega (arith, ap (λ (v : Worker). v.handed) (o.worker w l), bound w l);
      }

-- ---- the three theorems of a group
module _ {q : Query} {crew : Crew} {groups : Schedule} {turns : List ℕ} (work : Work q crew groups turns) {k : ℕ} (one : 1 ≤ k) (known : k ≤ table_count q.graph - 1) where
  -- it reads sets of at most k tables
  pub top-is : top_of (groups k) ≡ k
  top-is = sym (first-driving work.serves k one (omega arith)).inner

  -- it fits
  pub fit_is : Fit q.graph (groups k)
  fit_is = group-fits work.serves k one known

  -- no worker was handed more pairs than its groups have candidates
  pub few-handed : {workers : List Worker} → InPlace q.graph (groups k) crew workers → (w : ℕ) → w < crew.workers → (worker_at workers w).handed ≤ k * few
  few-handed {workers} z w l =
      let v = z.ready w l in
      let h : (worker_at workers w).handed ≤ (k - 1) * few + (worker_at workers w).place.number = rw top-is at v.handed in
      omega (arith, h, waits-inside q.graph (groups k) (worker_at workers w).share (worker_at workers w).place v.waits, met-few q.graph work.sound.graph (groups k) fit_is)

  -- OPENING: each worker at its first joinable pair
  module _ {workers : List Worker} (z : InPlace q.graph (groups k) crew workers) (first : (w : ℕ) → w < crew.workers → NextFrom q.graph (groups k) (worker_at workers w).share 0 (worker_at workers w).place) where
    none_before : (w : ℕ) → w < crew.workers → (x : Numbered) → Memᴰ x (met q.graph (groups k)) → mine q.graph crew (groups k) w x ≡ true → places_of workers w ≤ x.number
    none_before w l x i own = go (dec_lt x.number (places_of workers w))
      where
        go : Dec (x.number < places_of workers w) → places_of workers w ≤ x.number
        go (yes u) =
            let e : own_at q.graph (groups k) (worker_at workers w).share x.number ≡ false = (first w l).clear x.number (omega arith) u in
            let d : mine q.graph crew (groups k) w x ≡ false = rw (z.share w l, (met-number q.graph (groups k) x i).0) at e in
            absurd (not-both (mine q.graph crew (groups k) w x) own d)
        go (no v) = omega arith

    -- nothing of the group is handed yet
    pub sofar-open : (p : Pair) → standing.Sofar q crew groups k (places_of workers) p → standing.Before q crew groups k p
    sofar-open = progress.sofar-open q crew groups k (places_of workers) none_before

    pub standing-open : (c : Columns) → Final q crew groups k c → Standing q crew groups k workers c
    standing-open c f = record { places = z; rows = progress.standing-open q crew groups k (places_of workers) none_before (row_in q.graph c) f }

  -- CLOSING: no worker has a pair left
  module _ {workers : List Worker} (z : InPlace q.graph (groups k) crew workers) (none : (w : ℕ) → w < crew.workers → left (worker_at workers w).place ≡ false) where
    all-before : (w : ℕ) → w < crew.workers → (x : Numbered) → Memᴰ x (met q.graph (groups k)) → mine q.graph crew (groups k) w x ≡ true → x.number < places_of workers w
    all-before w l x i own = omega (arith, (met-number q.graph (groups k) x i).1, ap (λ (y : Place). y.number) ((z.ready w l).waits.none (left-none (worker_at workers w).place (none w l))))

    -- the group is one of those before the next
    pub sofar-before : (p : Pair) → standing.Sofar q crew groups k (places_of workers) p → standing.Before q crew groups (suc k) p
    sofar-before = progress.sofar-before q crew groups k one (places_of workers)

    pub before-sofar : (p : Pair) → standing.Before q crew groups (suc k) p → standing.Sofar q crew groups k (places_of workers) p
    before-sofar = progress.before-sofar q crew groups k one (places_of workers) work.some-worker all-before

    pub standing-closed : (c : Columns) → Standing q crew groups k workers c → Final q crew groups (suc k) c
    standing-closed c st = progress.standing-closed q crew groups work.sound work.some-worker (table_count q.graph - 1) work.serves k one (places_of workers) (row_in q.graph c) all-before st.rows

  -- A TURN keeps it
  module _ {workers workers' : List Worker} {old new : Columns} {pair : Option code.Handed} {w : ℕ} (worker : w < crew.workers) (reach : Reach q.graph old)
      (st : Standing q crew groups k workers old) (t : TurnTaken q.graph q.fixed q.per_outer q.per_inner q.per_result (groups k) w workers workers' old new pair) where
    -- with none left nothing changes
    turn-none : left (worker_at workers w).place ≡ false → Standing q crew groups k workers' new
    turn-none none = rw (same-workers st.places worker t none, (t.step.none none).1) st

    -- the pair at its place is handed
    module _ (has : left (worker_at workers w).place ≡ true) where
      h : Handing q.graph q.fixed q.per_outer q.per_inner q.per_result (groups k) (worker_at workers w) (worker_at workers' w) old new pair
      h = t.step.some has

      at : At q.graph (groups k) (places_of workers w) h.spot
      unfolding h
      at = ((st.places.ready w worker).waits.there h.spot h.at).0

      x : Numbered
      x = met_numbered q.graph (groups k) (places_of workers w)

      is : (places_of workers w < length (met q.graph (groups k))) × (x ≡ candidate_at q.graph (groups k) h.spot.size h.spot.row h.spot.inner)
      unfolding x
      is = at-number q.graph (groups k) (places_of workers w) h.spot at

      stands : Memᴰ x (met q.graph (groups k))
      unfolding x
      stands = at_in no_candidate (met q.graph (groups k)) (places_of workers w) is.0

      own : mine q.graph crew (groups k) w x ≡ true
      unfolding x
      own = own-mine st.places worker t has _ true ((st.places.ready w worker).waits.there h.spot h.at).1

      number : x.number ≡ places_of workers w
      number = ap (λ (y : Numbered). y.number) is.1 ∙ sym at.number

      -- what it offers
      abbrev p : Pair
      p = pair_at q.graph h.spot

      sets : sets_of x ≡ p
      sets = λ i. record { driving = (is.1 i).candidate.driving; inner = (is.1 i).candidate.inner }

      row : ℕ → Choice
      row = row_in q.graph old

      lists : ways q.shape p ≡ sides (groups k).both p
      lists = rw sets at (group-ways q crew work.some-worker (table_count q.graph - 1) groups work.serves k one known (sets_of x) (met-sized q.graph (groups k) x stands))

      offer : Best (Offers q (λ X. (row X).cost) (sets_of x)) h.offer
      unfolding row h price
      offer = rw (sets, lists) h.best

      -- the row that it goes to
      row_inside : h.row < length (memo q.graph)
      row_inside = omega (arith, h.row-to, start-memo q.graph (result_at (groups k) h.spot.size + 1) (omega (arith, at.to_last)))

      set_is : get_or (memo q.graph) h.row 0 ≡ union (sets_of x)
      unfolding h
      set_is = h.row-set ∙ ap (λ (r : Pair). union r) (sym sets)

      changed : row_in q.graph new (union (sets_of x)) ≡ kept (row (union (sets_of x))) h.offer
      unfolding row h
      changed =
          let o : row (union (sets_of x)) ≡ choice_in old h.row = row_at q.graph old h.row (union (sets_of x)) row_inside set_is in
          row_at q.graph new h.row (union (sets_of x)) row_inside set_is ∙ ap (λ (c : Columns). choice_in c h.row) h.changed
          ∙ choice-same q.graph old (kept (choice_in old h.row) h.offer) h.row reach row_inside ∙ ap (λ (c : Choice). kept c h.offer) (sym o)

      others : (S : ℕ) → (union (sets_of x) ≡ S → ⊥) → row_in q.graph new S ≡ row S
      unfolding row h
      others S ne = ap (λ (c : Columns). choice_in c (index_of (memo q.graph) S)) h.changed ∙ choice-other q.graph old (kept (choice_in old h.row) h.offer) h.row (index_of (memo q.graph) S) (apart (index-cases (memo q.graph) S))
        where
          apart : ((index_of (memo q.graph) S < length (memo q.graph)) × (get_or (memo q.graph) (index_of (memo q.graph) S) 0 ≡ S)) ⊎ (index_of (memo q.graph) S ≡ length (memo q.graph)) → index_of (memo q.graph) S ≡ h.row → ⊥
          apart (inl y) e = ne (sym set_is ∙ ap (λ (r : ℕ). get_or (memo q.graph) r 0) (sym e) ∙ y.1)
          apart (inr y) e = omega (arith, row_inside)

      -- its worker
      turn-share : (worker_at workers' w).share ≡ (worker_at workers w).share
      turn-share = ap (λ (v : Worker). v.share) h.worker

      turn-ready : Ready q.graph (groups k) (worker_at workers' w)
      turn-ready =
          let r = st.places.ready w worker in
          let count : (worker_at workers' w).handed ≡ (worker_at workers w).handed + 1 = ap (λ (v : Worker). v.handed) h.worker in
          record { share = rw turn-share r.share; waits = rw turn-share h.next.waits; handed = omega (arith, count, r.handed, h.next.ahead) }

      turn-crew : InPlace q.graph (groups k) crew workers'
      turn-crew = record { ready = λ v l. ready v l (ℕ_discrete v w); share = λ v l. share v l (ℕ_discrete v w) }
        where
          ready : (v : ℕ) → v < crew.workers → Dec (v ≡ w) → Ready q.graph (groups k) (worker_at workers' v)
          ready v l (yes e) = rw e turn-ready
          ready v l (no f) = rw (turn-other st.places worker t v f) (st.places.ready v l)

          share : (v : ℕ) → v < crew.workers → Dec (v ≡ w) → (worker_at workers' v).share ≡ share_of crew v (length (met q.graph (groups k)))
          share v l (yes e) = rw e (turn-share ∙ st.places.share w worker)
          share v l (no f) = ap (λ (y : Worker). y.share) (turn-other st.places worker t v f) ∙ st.places.share v l

      next : (y : Numbered) → Memᴰ y (met q.graph (groups k)) → mine q.graph crew (groups k) w y ≡ true → places_of workers w < y.number → places_of workers' w ≤ y.number
      unfolding h
      next y i o l = go (dec_lt y.number (places_of workers' w))
        where
          go : Dec (y.number < places_of workers' w) → places_of workers' w ≤ y.number
          go (yes u) =
              let e : mine q.graph crew (groups k) w (met_numbered q.graph (groups k) y.number) ≡ false = own-mine st.places worker t has y.number false (h.next.clear y.number (omega arith) u) in
              absurd (not-both (mine q.graph crew (groups k) w y) o (rw (met-number q.graph (groups k) y i).0 at e))
          go (no v) = omega arith

      turn-some : Standing q crew groups k workers' new
      unfolding row
      turn-some = record {
        places = turn-crew;
        rows = progress.standing-turn q crew groups work.sound work.some-worker (table_count q.graph - 1) work.serves k one known (places_of workers) (places_of workers') (row_in q.graph old) (row_in q.graph new) st.rows w worker x stands own number
            (omega (arith, h.next.ahead)) next (λ v f. other_place st.places worker t v f) h.offer offer changed others;
      }

      -- the pairs handed so far are one more, its own, and no other
      pub turn_more : (r : Pair) → With (standing.Sofar q crew groups k (places_of workers)) (pair_of (hand_at q.graph (groups k) workers w)) r → standing.Sofar q crew groups k (places_of workers') r
      unfolding x
      turn_more = progress.sofar-more q crew groups k (places_of workers) (places_of workers') w worker x stands own number (omega (arith, h.next.ahead)) next (other_place st.places worker t)

      pub turn-less : (r : Pair) → standing.Sofar q crew groups k (places_of workers') r → With (standing.Sofar q crew groups k (places_of workers)) (pair_of (hand_at q.graph (groups k) workers w)) r
      unfolding x
      turn-less = progress.sofar-less q crew groups k (places_of workers) (places_of workers') w worker x stands own number (omega (arith, h.next.ahead)) next (other_place st.places worker t)

      -- its result's row is the best of the pairs handed for it
      pub turn-stood : standing.Stood q (standing.Sofar q crew groups k (places_of workers')) (union (pair_of (hand_at q.graph (groups k) workers w))) (choice_in new (t.step.some has).row)
      unfolding x h
      turn-stood =
          let j = progress.sofar-joinable q crew groups k (places_of workers') (sets_of x) (turn_more (sets_of x) (inr refl)) in
          let c = connected-join j.driving-conn j.inner-conn (record { apart = j.joinable.apart; whole = refl }) j.joinable.between in
          rw (row_at q.graph new h.row (union (sets_of x)) row_inside set_is) at (turn-some.rows.rows (union (sets_of x)) c (results-large q crew work.some-worker (table_count q.graph - 1) groups work.serves k one known (sets_of x) j (met-sized q.graph (groups k) x stands)))

    pub standing-turn : Standing q crew groups k workers' new
    standing-turn = ⊎_elim turn-some turn-none (true-or-false (left (worker_at workers w).place))

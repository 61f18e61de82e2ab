-- Opening a group, each of its turns and closing it: how the turns in a row go on.
use Rattle.std.specs.Prelude.{◌≡◌, true, false, Option, Some, ℕ, suc, ◌+◌, ◌-◌, ◌*◌, ◌≤◌, ◌<◌, length, get_or, drop}
use Rattle.std.proofs.Math.Path.{refl, fun_ext}
use Rattle.std.proofs.Common.{sym, ap, ◌∙◌, subst, inl, inr, ⊎_elim, le_refl, add-one, length-append, length-set, drop_of_length-le, drop-cons}
use mathlib.Core.List.Memᴰ
use mathlib.Core.List.{List, [], ◌∷◌, ◌++◌, map, map-append, append_assoc, append-nil}
use Rattle.std.proofs.Math.Decide.{dec_lt}
use native.Mathlib.Omega.{arith}
use Rattle.rules.specs.Limits.{max_workers}
use Rattle.rules.specs.declared.Crew.{Crew}
use Rattle.rules.specs.declared.Group.{Group}
use Rattle.rules.specs.Query.{Graph, Query, table_count}
use Rattle.rules.specs.Offers.{Pair, union, Choice}
use Rattle.rules.specs.Rows.{memo}
use Rattle.rules.specs.Schedule.{Schedule}
use Rattle.rules.specs.Shares.{Numbered, met, queue}
use Rattle.rules.specs.Turns.{Hand, pop, hand, Empty, Lowest, closed, listed, lowest, Groups, only}
use Rattle.rules.specs.Log.{pair_of, Stands}
use Rattle.rules.specs.Refusals.{Memory}
use Rattle.rules.specs.Answers.{per_worker}
use Rattle.rules.specs.laws.Lists.{at_in}
use Rattle.rules.proofs.laws.Rows.{memo-only}
use Rattle.rules.specs.laws.Choice.{Best}
use Rattle.rules.specs.laws.Choice.{kept}
use Rattle.rules.proofs.laws.Handed.{handed-same, row-stands}
use Rattle.rules.specs.laws.Standing.{JoinablePair, With, Handed, FinalRow, Stood, Sofar, best_at}
use Rattle.rules.proofs.laws.Progress.{between-end, sofar-joinable}
use Rattle.rules.proofs.laws.Outcome.{best-least}
use Rattle.crew.specs.declared.Worker.{Worker}
use Rattle.crew.specs.declared.Handed as code
use Rattle.shares.specs.Nowhere.{left}
use Rattle.shares.specs.Shares.{few, share_of}
use Rattle.pairs.specs.Places.{queue_at}
use Rattle.pairs.specs.GroundLaws.{queue-all, next-queue}
use Rattle.opening.specs.Opening.{Opened}
use Rattle.turns.specs.Standing.{Columns, choice_in, row_in, Reach, InPlace, pair_at, handed_pair, Handing, TurnTaken, Final, places_of, Standing, queues_at, hand_at, Work}
use Rattle.crew.specs.Workers.{nobody, worker_at}
use Rattle.turns.specs.StandingLaws.{choice-same, row_at, open-first, open-places, top-is, few-handed, sofar-open, standing-open, sofar-before, before-sofar, standing-closed, turn_more, turn-less, turn-stood, standing-turn}
use Rattle.turns.specs.StartLaws.{handing-inside}
use Rattle.runs.specs.Runs.{Grouping, Turning, Pairs, Tallied, queues_by, Ran, Running}
use Rattle.crew.specs.Logs.{noted, SameLog, LogFits}
use Rattle.turns.specs.QueueLaws.{turn-hand-none, turn-hand-some, some_left, empty_left, lowest-left, turn-other, same-workers, turn-pair, turn-pop}
use Rattle.runs.specs.LogLaws.{logged_none, logged-more}
use Rattle.runs.specs.TallyLaws.{tally-start, tally-same, tally-more, tally-counts, tally-few}

-- ---- groups in a row
module _ (m : ℕ) (queues : ℕ → ℕ → List Numbered) (n : ℕ) (turns : List ℕ) where
  -- before group 1 nothing is handed
  pub grouping-start : Grouping m queues n turns [] 1 turns
  unfolding Grouping
  grouping-start j h e r = let f : j ≡ n = omega arith in rw f at r

  module _ (h : List (Hand Numbered)) where
    -- after the last group all is handed
    pub grouping-end : (ts : List ℕ) → Grouping m queues n turns h (n + 1) ts → Groups m queues 1 n turns h
    unfolding Grouping Groups
    grouping-end ts z = rw append-nil at (z 0 [] (omega arith) refl)

    module _ (k : ℕ) (qs : ℕ → List Numbered) where
      -- a group opens with its whole queues
      pub turning-open : (ts : List ℕ) → qs ≡ queues k → Grouping m queues n turns h k ts → Turning m queues n turns h k qs ts
      unfolding Grouping Turning Groups
      turning-open ts e z h₁ u r j h₂ f x = rw append_assoc (z (suc j) (h₁ ++ h₂) (omega arith) (h₁, h₂, u, rw e at r, x, refl))

      -- "Each entry of the list is one turn"
      pub turning-listed : (w : ℕ) (ts : List ℕ) → (Empty m qs → ⊥) → Turning m queues n turns h k qs (w ∷ ts) → Turning m queues n turns (h ++ hand w (qs w)) k (pop w qs) ts
      unfolding Turning
      turning-listed w ts some z h₁ u r = rw append_assoc (z (hand w (qs w) ++ h₁) u (listed some r refl))

      -- "When the list is used up, the lowest-numbered worker with a pair left has the turn"
      pub turning-lowest : (w : ℕ) → Lowest m qs w → Turning m queues n turns h k qs [] → Turning m queues n turns (h ++ hand w (qs w)) k (pop w qs) []
      unfolding Turning
      turning-lowest w l z h₁ u r = rw append_assoc (z (hand w (qs w) ++ h₁) u (lowest l r refl))

      -- "A size closes as soon as no worker has a joinable pair left", and so does the group of any schedule
      pub turning-closed : (ts : List ℕ) → Empty m qs → Turning m queues n turns h k qs ts → Grouping m queues n turns h (suc k) ts
      unfolding Turning
      turning-closed ts e z = rw append-nil at (z [] ts (closed e refl refl))

-- ---- the pairs handed
module _ (h : List (Hand Numbered)) (x : Hand Numbered) (p : Pair) where
  -- after one more turn they are those before and its own
  pairs-then : Pairs (h ++ x ∷ []) p → With (Pairs h) (pair_of x) p
  pairs-then i = ⊎_elim (λ a. inl a) (λ a. inr (Memᴰ.eq_of_singleton a)) (Memᴰ.append_cases (map pair_of h) (rw (map-append pair_of h (x ∷ [])) at i))

  -- and no other
  then-pairs : With (Pairs h) (pair_of x) p → Pairs (h ++ x ∷ []) p
  then-pairs i = rw (map-append pair_of h (x ∷ [])) (⊎_elim (λ a. Memᴰ.append_left (pair_of x ∷ []) a) (λ e. Memᴰ.append_right (map pair_of h) (Memᴰ.head e)) i)

-- ---- a turn between two turns of a group
module _ {q : Query} {crew : Crew} {groups : Schedule} {k : ℕ} {turns : List ℕ} {lent : Memory} {at pairs : ℕ} {log : Memory} {workers workers' : List Worker} {old new : Columns} {pair : Option code.Handed} {w : ℕ}
    (work : Work q crew groups turns) (one : 1 ≤ k) (group-known : k ≤ table_count q.graph - 1) (known : w < crew.workers) (reach : Reach q.graph old)
    (r : Running q crew groups turns lent k workers at pairs old log) (t : TurnTaken q.graph q.fixed q.per_outer q.per_inner q.per_result (groups k) w workers workers' old new pair) where
  abbrev n : ℕ
  n = table_count q.graph - 1

  -- the memo after it
  stands_after : Standing q crew groups k workers' new
  stands_after = standing-turn work one group-known known reach r.standing t

  -- the next entry
  entry_next : at < length turns → w ≡ get_or turns at 0 → drop at turns ≡ w ∷ drop (at + 1) turns
  entry_next l e = rw (add-one at, e) (drop-cons turns at 0 l)

  module _ (has : left (worker_at workers w).place ≡ true) where
    -- what it hands
    abbrev x : Hand Numbered
    x = hand_at q.graph (groups k) workers w

    -- and changes
    abbrev given : Handing q.graph q.fixed q.per_outer q.per_inner q.per_result (groups k) (worker_at workers w) (worker_at workers' w) old new pair
    given = t.step.some has

    -- the pair that it answers
    abbrev got : code.Handed
    got = handed_pair (pair_at q.graph given.spot) (kept (choice_in old given.row) given.offer).cost

    -- the pairs handed are those so far
    some-sofar : (p : Pair) → Pairs (r.handed ++ x ∷ []) p → Sofar q crew groups k (places_of workers') p
    some-sofar p i = turn_more work one group-known known reach r.standing t has p
        (⊎_elim (λ a. inl (r.sofar p a)) (λ e. inr e) (pairs-then r.handed x p i))

    some-all : (p : Pair) → Sofar q crew groups k (places_of workers') p → Pairs (r.handed ++ x ∷ []) p
    some-all p z = then-pairs r.handed x p (⊎_elim (λ a. inl (r.all p a)) (λ e. inr e)
        (turn-less work one group-known known reach r.standing t has p z))

    -- all are joinable
    some-joinable : (p : Pair) → Pairs (r.handed ++ x ∷ []) p → JoinablePair q.graph p
    some-joinable p i = sofar-joinable q crew groups k (places_of workers') p (some-sofar p i)

    -- the row of the result holds the best of all pairs handed for it
    some-best : Best (Handed q (best_at q) (Pairs (r.handed ++ x ∷ [])) (union (pair_of x))) (choice_in new given.row)
    some-best = go (turn-stood work one group-known known reach r.standing t has)
      where
        go : Stood q (Sofar q crew groups k (places_of workers')) (union (pair_of x)) (choice_in new given.row) → Best (Handed q (best_at q) (Pairs (r.handed ++ x ∷ [])) (union (pair_of x))) (choice_in new given.row)
        go (inl n) = absurd (n.0 (pair_of x) (some-sofar (pair_of x) (then-pairs r.handed x (pair_of x) (inr refl))) refl)
        go (inr b) = handed-same q (best_at q) some-all some-sofar b

    -- the cost that the turn answers is the standing cost of its result
    pub stands-turn : (pair ≡ Some got) × Stands q (map pair_of (r.handed ++ hand_at q.graph (groups k) workers w ∷ [])) (union (pair_of (hand_at q.graph (groups k) workers w))) got.cost
    stands-turn = (given.answer, rw cost (row-stands q (best_at q) (map pair_of (r.handed ++ x ∷ [])) (λ p i. let j = some-joinable p i in (best-least q work.sound p.driving j.driving-conn, best-least q work.sound p.inner j.inner-conn)) some-best))
      where
        c : Choice
        c = kept (choice_in old given.row) given.offer

        cost : got.cost ≡ (choice_in new given.row).cost
        cost = sym (ap (λ (y : Choice). y.cost)
            (ap (λ (y : Columns). choice_in y given.row) given.changed ∙ choice-same q.graph old c given.row reach (handing-inside given)))

    -- its worker has one pair more
    some-tally : Tallied crew.workers workers' (r.handed ++ x ∷ [])
    some-tally = tally-more r.tally workers' (ap length t.others ∙ length-set workers w (worker_at workers' w)) x known (ap (λ (v : Worker). v.handed) given.worker)
        (turn-other r.standing.places known t)

    -- whichever worker had the turn
    running-some : LogFits lent → (at' : ℕ) → at' ≤ length turns
        → Turning crew.workers (queues_by q crew groups) n turns (r.handed ++ hand w (queues_at q.graph crew (groups k) workers w)) k (pop w (queues_at q.graph crew (groups k) workers)) (drop at' turns)
        → Running q crew groups turns lent k workers' at' (pairs + 1) new (noted log pairs w got)
    running-some fits at' l u = record {
      handed = r.handed ++ x ∷ [];
      turning = rw (
        turn-hand-some r.standing.places w known has,
        turn-pop r.standing.places known t,
      ) at u;
      entries = l;
      standing = stands_after;
      sofar = some-sofar;
      all = some-all;
      logged = rw r.count (logged-more r.logged fits x got stands-turn.1 (ap (λ (p : Pair). p.driving) is-pair) (ap (λ (p : Pair). p.inner) is-pair));
      count = omega (arith, r.count, length-append r.handed (x ∷ []));
      tally = some-tally;
    }
      where
        is-pair : pair_at q.graph given.spot ≡ pair_of (hand_at q.graph (groups k) workers w)
        is-pair = turn-pair r.standing.places known t has

    -- the next entry's worker is handed a pair, the one that the turn answers
    pub running-listed-some : LogFits lent → at < length turns → w ≡ get_or turns at 0 → (pair ≡ Some got) × Running q crew groups turns lent k workers' (at + 1) (pairs + 1) new (noted log pairs w got)
    running-listed-some fits l e = (
      given.answer,
      running-some fits (at + 1) (omega arith) (turning-listed crew.workers (queues_by q crew groups) n turns r.handed k (queues_at q.graph crew (groups k) workers) w (drop (at + 1) turns)
          (some_left r.standing.places w known has) (rw (entry_next l e) at r.turning)),
    )

    -- "the lowest-numbered worker with a pair left" is handed one
    pub running-lowest : LogFits lent → length turns ≤ at → ((v : ℕ) → v < w → left (worker_at workers v).place ≡ false) → (pair ≡ Some got) × Running q crew groups turns lent k workers' at (pairs + 1) new (noted log pairs w got)
    running-lowest fits l lower =
        let e : drop at turns ≡ [] = drop_of_length-le turns {i = at} l in (
          given.answer,
          running-some fits at r.entries (rw e (turning-lowest crew.workers (queues_by q crew groups) n turns r.handed k (queues_at q.graph crew (groups k) workers) w
              (lowest-left r.standing.places w known has lower) (rw e at r.turning))),
        )

  -- the next entry's worker has no pair left, another has
  pub running-listed-none : left (worker_at workers w).place ≡ false → at < length turns → w ≡ get_or turns at 0 → (v : ℕ) → v < crew.workers → left (worker_at workers v).place ≡ true → Running q crew groups turns lent k workers' (at + 1) pairs new log
  running-listed-none none l e v i some =
      let same = same-workers r.standing.places known t none in
      let u = turning-listed crew.workers (queues_by q crew groups) n turns r.handed k (queues_at q.graph crew (groups k) workers) w (drop (at + 1) turns)
      (some_left r.standing.places v i some) (rw (entry_next l e) at r.turning) in
      rw (same, (t.step.none none).1) (record {
        handed = r.handed;
        turning = rw (
          turn-hand-none r.standing.places w known none,
          append-nil r.handed,
          turn-pop r.standing.places known t,
          same,
        ) at u;
        entries = omega arith;
        standing = r.standing;
        sofar = r.sofar;
        all = r.all;
        logged = r.logged;
        count = r.count;
        tally = r.tally;
      })

-- ---- between two groups
-- before group 1: each worker as nobody, the log as lent
pub ran-start : {q : Query} (crew : Crew) (groups : Schedule) (turns : List ℕ) (lent log : Memory) (workers : List Worker) {c : Columns} → Final q crew groups 1 c → length workers ≡ max_workers → ((w : ℕ) → worker_at workers w ≡ nobody)
    → SameLog log lent → Ran q crew groups turns lent 1 workers 0 0 c log
ran-start {q} crew groups turns lent log workers f table none same = record {
  handed = [];
  grouping = grouping-start crew.workers (queues_by q crew groups) (table_count q.graph - 1) turns;
  entries = omega arith;
  final = f;
  early = λ p i. absurd (Memᴰ.not-nil i);
  all = λ p b. absurd (omega (arith, b.from_one, b.early));
  logged = logged_none q lent log same;
  count = refl;
  tally = tally-start crew.workers workers table none;
  bound = λ w l. omega (arith, ap (λ (v : Worker). v.handed) (none w));
}

-- ---- a group is opened
module _ {g : Graph} {group : Group} {crew : Crew} {workers workers' : List Worker} (o : Opened g group crew workers workers') where
  -- each worker has its whole queue
  open-queues : ((w : ℕ) → crew.workers ≤ w → worker_at workers w ≡ nobody) → queues_at g crew group workers' ≡ (λ w. queue g crew group w)
  open-queues absent = fun_ext (λ w. go w (dec_lt w crew.workers))
    where
      go : (w : ℕ) → Dec (w < crew.workers) → queues_at g crew group workers' w ≡ queue g crew group w
      go w (yes l) = let h = share_of crew w (length (met g group)) in sym (next-queue g group h 0 (worker_at workers' w).place (o.first w l)) ∙ queue-all g group h
      go w (no n) = ap (λ (v : Worker). queue_at g group (share_of crew w (length (met g group))) v.place.number) (o.others w (omega arith) ∙ absent w (omega arith)) ∙ queue-all g group (share_of crew w (length (met g group)))

module _ {q : Query} {crew : Crew} {groups : Schedule} {k : ℕ} {turns : List ℕ} {lent : Memory} {at pairs : ℕ} {c : Columns} {log : Memory} (work : Work q crew groups turns) (one : 1 ≤ k) (known : k ≤ table_count q.graph - 1) where
  -- a group is opened: nothing of it is handed yet
  pub running-open : {workers workers' : List Worker} → Ran q crew groups turns lent k workers at pairs c log → Opened q.graph (groups k) crew workers workers' → Running q crew groups turns lent k workers' at pairs c log
  running-open {workers} {workers'} r o = record {
    handed = r.handed;
    turning = turning-open crew.workers (queues_by q crew groups) (table_count q.graph - 1) turns r.handed k (queues_at q.graph crew (groups k) workers') (drop at turns)
        (open-queues o r.tally.absent) r.grouping;
    entries = r.entries;
    standing = standing-open work one known places (open-first o) c r.final;
    sofar = λ p i. inl (r.early p i);
    all = λ p z. r.all p (sofar-open work one known places (open-first o) p z);
    logged = r.logged;
    count = r.count;
    tally = tally-same r.tally workers' o.length-kept (λ w l. ap (λ (v : Worker). v.handed) (o.worker w l)) o.others;
  }
    where
      places : InPlace q.graph (groups k) crew workers'
      places = open-places o work.some-worker work.few-workers (λ w l. rw (top-is work one known) (r.bound w l))

  module _ {workers : List Worker} (r : Running q crew groups turns lent k workers at pairs c log) where
    -- few pairs are handed, so that one more can be counted
    pub pairs-few : pairs ≤ max_workers * (k * few)
    pairs-few = omega (arith, r.count, tally-few r.tally (k * few) work.few-workers (few-handed work one known r.standing.places))

    -- a group is closed: no worker has a pair left
    pub running-closed : ((w : ℕ) → w < crew.workers → left (worker_at workers w).place ≡ false) → Ran q crew groups turns lent (k + 1) workers at pairs c log
    running-closed none = rw (add-one k) (record {
      handed = r.handed;
      grouping = turning-closed crew.workers (queues_by q crew groups) (table_count q.graph - 1) turns r.handed k (queues_at q.graph crew (groups k) workers) (drop at turns)
          (empty_left r.standing.places none) r.turning;
      entries = r.entries;
      final = standing-closed work one known r.standing.places none c r.standing;
      early = λ p i. sofar-before work one known r.standing.places none p (r.sofar p i);
      all = λ p b. r.all p (before-sofar work one known r.standing.places none p b);
      logged = r.logged;
      count = r.count;
      tally = r.tally;
      bound = λ w l. omega (arith, few-handed work one known r.standing.places w l);
    })

-- ---- after the last group
module _ {q : Query} {crew : Crew} {groups : Schedule} {turns : List ℕ} {lent : Memory} {workers : List Worker} {at pairs : ℕ} {c : Columns} {log : Memory}
    (r : Ran q crew groups turns lent (table_count q.graph) workers at pairs c log) where
  -- all turns in a row
  pub ran-groups : 1 ≤ table_count q.graph → Groups crew.workers (queues_by q crew groups) 1 (table_count q.graph - 1) turns r.handed
  ran-groups l =
      let n = table_count q.graph - 1 in
      let e : table_count q.graph ≡ n + 1 = omega arith in
      let z : Grouping crew.workers (queues_by q crew groups) n turns r.handed (n + 1) (drop at turns) = subst (λ (k : ℕ). Grouping crew.workers (queues_by q crew groups) n turns r.handed k (drop at turns)) e r.grouping in
      grouping-end crew.workers (queues_by q crew groups) n turns r.handed (drop at turns) z

  -- every row is final
  pub ran-rows : (j : ℕ) → j < length (memo q.graph) → FinalRow q (get_or (memo q.graph) j 0) (choice_in c j)
  ran-rows j l =
      let S = get_or (memo q.graph) j 0 in
      let d = memo-only q.graph S (at_in 0 (memo q.graph) j l) in
      subst (λ (x : Choice). FinalRow q S x) (row_at q.graph c j S l refl) (between-end q crew groups (table_count q.graph) (le_refl _) (row_in q.graph c) r.final S d)

  -- "eight per-worker pair counts"
  pub ran-counts : map (λ (v : Worker). v.handed) workers ≡ per_worker (λ w. length (only w r.handed))
  ran-counts = tally-counts r.tally

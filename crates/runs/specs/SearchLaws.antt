-- The search as a loop over groups and, in each, over turns.
use Rattle.std.specs.Prelude.{◌≡◌, refl, ◌⊎◌, true, false, Option, Some, None, List, [], ◌∷◌, map, ℕ, zero, suc, ◌+◌, ◌-◌, ◌*◌, ◌^◌, ◌≤◌, ◌<◌, length, get_or, set, replicate}
use Rattle.std.proofs.Common.{sym, ap, ◌∙◌, inl, inr, ⊎_elim, arith, length-set, length-take, get_or-set_other, drop-set-lt, Fits, lt-ltb, le-ltb}
use Rattle.std.proofs.Math.Decide.{dec_lt, ℕ_discrete}
use Rattle.std.proofs.lemmas.List.{length-replicate}
use Rattle.std.specs.Int.{w64}
use Rattle.rules.specs.Limits.{max_tables, max_workers}
use Rattle.rules.specs.declared.Crew.{Crew}
use Rattle.rules.specs.declared.Group.{Group}
use Rattle.rules.specs.Schedule.{Schedule, by_size}
use Rattle.rules.specs.Query.{Graph, Query, table_count}
use Rattle.rules.specs.Rows.{memo}
use Rattle.rules.specs.Refusals.{Memory}
use Rattle.rules.specs.Shares.{Numbered}
use Rattle.rules.specs.Turns.{Hand}
use Rattle.rules.specs.Log.{pair_of}
use Rattle.rules.specs.Lists.{over}
use Rattle.rules.specs.Answers.{Spared, shown, Logged}
use Rattle.rules.specs.laws.Lists.{length-map, over-length}
use Rattle.rules.proofs.laws.Schedule.{by-size}
use Rattle.starts.specs.Starts.{starts, cell_starts}
use Rattle.rules.specs.laws.Bools.{true-or-false, not-both}
use Rattle.skips.specs.Vectors.{written}
use Rattle.crew.specs.declared.Worker.{Worker}
use Rattle.crew.specs.declared.Handed as code
use Rattle.shares.specs.Nowhere.{left}
use Rattle.shares.specs.Shares.{few}
use Rattle.pairs.specs.Places.{Fit, Ground}
use Rattle.opening.specs.Opening.{Opened}
use Rattle.turns.specs.Standing.{Columns, columns, Reach, Ready, Open, InPlace, TurnTaken, Work}
use Rattle.crew.specs.Workers.{nobody, worker_at, counts_of}
use Rattle.turns.specs.QueueLaws.{still_met, turn-found, turn-progress, turn-progress-none}
use Rattle.turns.specs.StandingLaws.{top-is, fit_is}
use Rattle.turns.specs.StepLaws.{step-costs, step-outers, step-methods}
use Rattle.turns.specs.StartLaws.{tables-fit, handing-inside, Starting, final-start, reach-start, ground-at, open-of}
use Rattle.crew.specs.Whose.{LowestLeft, whose, entries_on}
use Rattle.crew.specs.Logs.{noted_if, count_if, LogFits}
use Rattle.runs.specs.Runs.{Running, SearchReady, Kept, Between, Within, SearchDone}
use Rattle.runs.specs.RunLaws.{running-listed-some, running-lowest, running-listed-none, ran-start, running-open, pairs-few, running-closed, ran-groups, ran-rows, ran-counts}

-- ---- what is spare stays
spared-same : (n : ℕ) (l : List ℕ) → Spared n l l
spared-same n l = record { length-kept = refl; kept = refl }

pub spared-on : (n : ℕ) (a b c : List ℕ) → Spared n a b → Spared n b c → Spared n a c
spared-on n a b c x y = record { length-kept = y.length-kept ∙ x.length-kept; kept = y.kept ∙ x.kept }

spared-set : (n r : ℕ) (l : List ℕ) (x : ℕ) → r < n → Spared n l (set l r x)
spared-set n r l x h = record { length-kept = length-set l r x; kept = drop-set-lt n l r x h }

-- a run of stores in front
pub spared-written : (n at : ℕ) (v l : List ℕ) → at + length v ≤ n → Spared n l (written l at v)
spared-written n at [] l h = spared-same n l
spared-written n at (x ∷ v) l h = spared-on n l (set l at x) (written (set l at x) (suc at) v) (spared-set n at l x (omega arith)) (spared-written n (suc at) v (set l at x) (omega arith))

-- a turn changes no row behind the memo's
module _ {g : Graph} {fixed outer inner result : List ℕ} {group : Group} {w : ℕ} {workers workers' : List Worker} {old new : Columns} {pair : Option code.Handed}
    (t : TurnTaken g fixed outer inner result group w workers workers' old new pair) where
  turn-kept : Kept g old new
  turn-kept = ⊎_elim some none (true-or-false (left (worker_at workers w).place))
    where
      some : left (worker_at workers w).place ≡ true → Kept g old new
      some e =
          let h = t.step.some e in
          let l = handing-inside h in
          rw h.changed (record {
            costs = spared-set (length (memo g)) h.row old.costs _ l;
            outers = spared-set (length (memo g)) h.row old.outers _ l;
            methods = spared-set (length (memo g)) h.row old.methods _ l;
          })

      none : left (worker_at workers w).place ≡ false → Kept g old new
      none e = rw (t.step.none e).1 (record { costs = spared-same _ _; outers = spared-same _ _; methods = spared-same _ _ })

  pub turn-reach : Reach g old → Reach g new
  turn-reach r = record { costs = omega (arith, r.costs, step-costs t.step); outers = omega (arith, r.outers, step-outers t.step); methods = omega (arith, r.methods, step-methods t.step) }

kept_on : {g : Graph} {a b c : Columns} → Kept g a b → Kept g b c → Kept g a c
kept_on x y = record { costs = spared-on _ _ _ _ x.costs y.costs; outers = spared-on _ _ _ _ x.outers y.outers; methods = spared-on _ _ _ _ x.methods y.methods }

-- ---- one turn of the loop
-- the log keeps its lengths
noted-fits : (l : Memory) (j w : ℕ) (p : Option code.Handed) → LogFits l → LogFits (noted_if l j w p)
noted-fits l j w (Some p) z = record {
  driving = length-set l.log_driving j p.driving ∙ z.driving ∙ sym (length-set l.log_workers j w);
  inner = length-set l.log_inner j p.inner ∙ z.inner ∙ sym (length-set l.log_workers j w);
  costs = length-set l.log_costs j p.cost ∙ z.costs ∙ sym (length-set l.log_workers j w);
}
noted-fits l j w None z = z

module _ {q : Query} {crew : Crew} {groups : Schedule} {k : ℕ} {turns : List ℕ} {old : Columns} {lent : Memory} {low at pairs : ℕ} {workers : List Worker} {c : Columns} {log : Memory}
    (work : Work q crew groups turns) (one : 1 ≤ k) (known : k ≤ table_count q.graph - 1) (fits : LogFits lent)
    (z : Within q crew groups turns old lent k low workers at pairs c log) (more : low < crew.workers) where
  -- the worker whose turn it is
  pub whose-known : {w : ℕ} → w ≡ whose turns at low → w < crew.workers
  whose-known {w} e = go (dec_lt at (length turns))
    where
      go : Dec (at < length turns) → w < crew.workers
      go (yes l) = omega (arith, rw (lt-ltb at (length turns) l) at e, work.turns-known at l)
      go (no n) = omega (arith, rw (le-ltb at (length turns) (omega arith)) at e)

  module _ {w : ℕ} (e : w ≡ whose turns at low) {workers' : List Worker} {new : Columns} {pair : Option code.Handed}
      (t : TurnTaken q.graph q.fixed q.per_outer q.per_inner q.per_result (groups k) w workers workers' c new pair) where
    -- what stands after it
    running-next : Running q crew groups turns lent k workers' (entries_on (length turns) at) (count_if pairs pair) new (noted_if log pairs w pair)
    running-next = go (dec_lt at (length turns)) (true-or-false (left (worker_at workers w).place))
      where
        r : Running q crew groups turns lent k workers at pairs c log
        r = z.running

        own : w < crew.workers
        own = whose-known e

        go : Dec (at < length turns) → (left (worker_at workers w).place ≡ true) ⊎ (left (worker_at workers w).place ≡ false)
            → Running q crew groups turns lent k workers' (entries_on (length turns) at) (count_if pairs pair) new (noted_if log pairs w pair)
        go (yes l) (inl h) =
            let n : w ≡ get_or turns at 0 = rw (lt-ltb at (length turns) l) at e in
            let o = running-listed-some work one known own z.reach r t h fits l n in
            rw (lt-ltb at (length turns) l, o.0) o.1
        go (yes l) (inr h) =
            let n : w ≡ get_or turns at 0 = rw (lt-ltb at (length turns) l) at e in
            rw (lt-ltb at (length turns) l, (t.step.none h).2) (running-listed-none work one known own z.reach r t h l n low more (z.lowest.left more))
        go (no l) (inl h) =
            let n : w ≡ low = rw (le-ltb at (length turns) (omega arith)) at e in
            let o = running-lowest work one known own z.reach r t h fits (omega arith) (λ v u. z.lowest.lower v (omega arith)) in
            rw (le-ltb at (length turns) (omega arith), o.0) o.1
        go (no l) (inr h) =
            let n : w ≡ low = rw (le-ltb at (length turns) (omega arith)) at e in
            absurd (not-both (left (worker_at workers w).place) (rw n (z.lowest.left more)) h)

    -- A TURN OF THE LOOP
    pub within-turn : {low' : ℕ} {log' : Memory} → LowestLeft workers' crew.workers low' → log' ≡ noted_if log pairs w pair → Within q crew groups turns old lent k low' workers' (entries_on (length turns) at) (count_if pairs pair) new log'
    within-turn l n = record {
      running = rw n running-next;
      lowest = l;
      reach = turn-reach t z.reach;
      kept = kept_on z.kept (turn-kept t);
      log-fits = rw n (noted-fits log pairs w pair z.log-fits);
    }

    -- and fewer are left
    pub within-less : length turns - entries_on (length turns) at + still_met q.graph (groups k) crew.workers workers' < length turns - at + still_met q.graph (groups k) crew.workers workers
    within-less = go (dec_lt at (length turns)) (true-or-false (left (worker_at workers w).place))
      where
        own : w < crew.workers
        own = whose-known e

        places : InPlace q.graph (groups k) crew workers
        places = z.running.standing.places

        go : Dec (at < length turns) → (left (worker_at workers w).place ≡ true) ⊎ (left (worker_at workers w).place ≡ false)
            → length turns - entries_on (length turns) at + still_met q.graph (groups k) crew.workers workers' < length turns - at + still_met q.graph (groups k) crew.workers workers
        go (yes l) (inl h) = rw (lt-ltb at (length turns) l) (omega (arith, turn-progress places own t h))
        go (yes l) (inr h) = rw (lt-ltb at (length turns) l) (omega (arith, turn-progress-none places own t h))
        go (no l) (inl h) = rw (le-ltb at (length turns) (omega arith)) (omega (arith, turn-progress places own t h))
        go (no l) (inr h) =
            let n : w ≡ low = rw (le-ltb at (length turns) (omega arith)) at e in
            absurd (not-both (left (worker_at workers w).place) (rw n (z.lowest.left more)) h)

  -- what the turn may rely on
  pub within-plays : {group : Group} → group ≡ groups k → Open q.graph group c
  within-plays is =
      let e = top-is work one known in
      rw is (open-of work.sound (fit_is work one known) (omega (arith, e)) z.reach (λ S d l. z.running.standing.rows.final S d (omega (arith, e))))

  pub within-ready : {w : ℕ} → w ≡ whose turns at low → Ready q.graph (groups k) (worker_at workers w)
  within-ready {w} e = z.running.standing.places.ready w (whose-known e)

-- ---- opening and closing a group
module _ {q : Query} {crew : Crew} {groups : Schedule} {k : ℕ} {turns : List ℕ} {old : Columns} {lent : Memory} {at pairs : ℕ} {c : Columns} {log : Memory}
    (work : Work q crew groups turns) (one : 1 ≤ k) (known : k ≤ table_count q.graph - 1) where
  pub within-open : {group : Group} → group ≡ groups k → {workers workers' : List Worker} {low : ℕ} → Between q crew groups turns old lent k workers at pairs c log → Opened q.graph group crew workers workers' → LowestLeft workers' crew.workers low
      → Within q crew groups turns old lent k low workers' at pairs c log
  within-open is b o l = record { running = running-open work one known b.ran (rw is at o); lowest = l; reach = b.reach; kept = b.kept; log-fits = b.log-fits }

  pub within-closed : {workers : List Worker} {low : ℕ} → Within q crew groups turns old lent k low workers at pairs c log → crew.workers ≤ low → Between q crew groups turns old lent (k + 1) workers at pairs c log
  within-closed z l = record {
    ran = running-closed work one known z.running (λ w u. z.lowest.lower w (omega arith));
    reach = z.reach;
    kept = z.kept;
    log-fits = z.log-fits;
  }

  pub within-few : {workers : List Worker} {low : ℕ} → Within q crew groups turns old lent k low workers at pairs c log → pairs ≤ max_workers * (k * few)
  within-few z = pairs-few work one known z.running

-- ---- the lowest worker with a pair left, after a turn that leaves its worker one
pub lowest-kept : {g : Graph} {fixed outer inner result : List ℕ} {group : Group} {w : ℕ} {workers workers' : List Worker} {old new : Columns} {pair : Option code.Handed}
    → TurnTaken g fixed outer inner result group w workers workers' old new pair → left (worker_at workers' w).place ≡ true → {m low : ℕ} → LowestLeft workers m low → LowestLeft workers' m low
lowest-kept {w = w} {workers = workers} {workers' = workers'} t e {m} {low} z = record { inside = z.inside; lower = λ u l. lower u l (ℕ_discrete u w); left = λ l. some l (ℕ_discrete low w) }
  where
    other : (u : ℕ) → (u ≡ w → ⊥) → worker_at workers' u ≡ worker_at workers u
    other u n = ap (λ (l : List Worker). worker_at l u) t.others ∙ get_or-set_other workers w u (worker_at workers' w) nobody n

    lower : (u : ℕ) → u < low → Dec (u ≡ w) → left (worker_at workers' u).place ≡ false
    lower u l (yes i) =
        let n : left (worker_at workers w).place ≡ false = rw i at (z.lower u l) in
        absurd (not-both (left (worker_at workers' w).place) e (ap (λ (x : Worker). left x.place) (t.step.none n).0 ∙ n))
    lower u l (no n) = ap (λ (x : Worker). left x.place) (other u n) ∙ z.lower u l

    some : low < m → Dec (low ≡ w) → left (worker_at workers' low).place ≡ true
    some l (yes i) = rw i e
    some l (no n) = ap (λ (x : Worker). left x.place) (other low n) ∙ z.left l

-- ---- what a turn of the loop leaves: fewer turns, and, with whichever worker is then the lowest, what holds at the next turn
pub record TurnedTo (q : Query) (crew : Crew) (groups : Schedule) (turns : List ℕ) (old : Columns) (lent : Memory) (k low at : ℕ) (workers : List Worker) (w : ℕ) (workers' : List Worker) (at' pairs' : ℕ) (new : Columns) (log' : Memory) : Type 0 where
  pub less : length turns - at' + still_met q.graph (groups k) crew.workers workers' < length turns - at + still_met q.graph (groups k) crew.workers workers
  pub lowest : left (worker_at workers' w).place ≡ true → LowestLeft workers' crew.workers low
  pub within : {low' : ℕ} → LowestLeft workers' crew.workers low' → Within q crew groups turns old lent k low' workers' at' pairs' new log'

pub turned-to : {q : Query} {crew : Crew} {groups : Schedule} {k : ℕ} {turns : List ℕ} {old : Columns} {lent : Memory} {low at pairs : ℕ} {workers : List Worker} {c : Columns} {log : Memory} → Work q crew groups turns → 1 ≤ k → k ≤ table_count q.graph - 1
    → LogFits lent → Within q crew groups turns old lent k low workers at pairs c log → low < crew.workers → {w : ℕ} → w ≡ whose turns at low → {group : Group} → group ≡ groups k → {workers' : List Worker} {new : Columns} {pair : Option code.Handed}
    → TurnTaken q.graph q.fixed q.per_outer q.per_inner q.per_result group w workers workers' c new pair → {at' pairs' : ℕ} {log' : Memory} → at' ≡ entries_on (length turns) at → pairs' ≡ count_if pairs pair → log' ≡ noted_if log pairs w pair
    → TurnedTo q crew groups turns old lent k low at workers w workers' at' pairs' new log'
turned-to work one known fits z more e is step a p n =
    let t = rw is at step in
    record { less = rw a (within-less work one known fits z more e t); lowest = λ h. lowest-kept t h z.lowest; within = λ l. rw (a, p) (within-turn work one known fits z more e t l n) }

-- what opening a group may rely on
pub open-fits : {q : Query} {crew : Crew} {groups : Schedule} {k : ℕ} {turns : List ℕ} → Work q crew groups turns → 1 ≤ k → k ≤ table_count q.graph - 1 → {group : Group} → group ≡ groups k → Fit q.graph group
open-fits work one known is = rw is (fit_is work one known)

-- ---- the whole
module _ {q : Query} {crew : Crew} {turns sets estimates cells : List ℕ} {c : Columns} {log : Memory} (z : SearchReady q crew turns sets estimates cells c log) where
  -- its work, by size
  pub work-by-size : Work q crew (by_size q.shape) turns
  work-by-size = record { sound = z.sound; some-worker = z.some-worker; few-workers = z.few-workers; turns-known = z.turns-known; serves = by-size q.shape (table_count q.graph) }

  scans-short : length q.scans ≤ length (memo q.graph)
  scans-short = omega (arith, z.sound.scan-list, tables-fit q.graph z.sound.graph)

  -- the scan costs have room
  pub scans-fit : length q.scans ≤ length c.costs
  scans-fit = omega (arith, scans-short, z.costs-room, ap length z.costs-laid, (spared-written (length z.old_costs) 0 zeros z.old_costs zeros-short).length-kept)
    where
      zeros : List ℕ
      zeros = replicate (length (memo q.graph)) 0

      zeros-short : 0 + length zeros ≤ length z.old_costs
      zeros-short = let n : ℕ = 0 in omega (arith, length-replicate (length (memo q.graph)) n, z.costs-room)

  -- before the first group, once the scan costs are laid
  pub between_start : {costs : List ℕ} → costs ≡ written c.costs 0 q.scans → (groups : Schedule) (workers : List Worker) → length workers ≡ max_workers → ((w : ℕ) → worker_at workers w ≡ nobody)
      → Between q crew groups turns c log 1 workers 0 0 (columns costs c.outers c.methods) log
  between_start {costs} e groups workers l n =
      let start : Starting q z.old_costs z.old_outers z.old_methods (columns costs c.outers c.methods) = record {
        costs-room = z.costs-room;
        outers-room = z.outers-room;
        methods-room = z.methods-room;
        costs-are = e ∙ ap (λ (x : List ℕ). written x 0 q.scans) z.costs-laid;
        outers-are = z.outers-laid;
        methods-are = z.methods-laid;
      } in
      record {
        ran = ran-start crew groups turns log log workers (final-start q z.sound start crew groups) l n (record { workers = refl; driving = refl; inner = refl; costs = refl });
        reach = reach-start q z.sound start;
        kept = record { costs = rw e (spared-written (length (memo q.graph)) 0 q.scans c.costs (omega (arith, scans-short))); outers = spared-same _ _; methods = spared-same _ _ };
        log-fits = z.log-fits;
      }

  -- after the last
  pub between-end : {groups : Schedule} {workers : List Worker} {at pairs : ℕ} {new : Columns} {log' : Memory} → Between q crew groups turns c log (table_count q.graph) workers at pairs new log'
      → SearchDone q crew groups turns c new log log' pairs (counts_of workers)
  between-end b = record { handed = b.ran.handed; turns-run = ran-groups b.ran z.sound.graph.some-table; rows = ran-rows b.ran; kept = b.kept; logged = b.ran.logged; count = b.ran.count; tallies = ran-counts b.ran }

  -- where candidates are met
  pub grounded : (old_starts old_cell_starts : List ℕ) {starts₁ cell_starts₁ : List ℕ} → table_count q.graph + 2 ≤ length old_starts → table_count q.graph + 2 ≤ length old_cell_starts
      → starts₁ ≡ written old_starts 0 (starts q.graph) → cell_starts₁ ≡ written old_cell_starts 0 (cell_starts q.graph) → Ground q.graph sets cells starts₁ cell_starts₁
  grounded old_starts old_cell_starts a b h i = ground-at q.graph old_starts old_cell_starts z.sets-laid z.cells-laid a b h i

-- a table of nobodies
pub nobodies : {v : Worker} → v ≡ nobody → (length (replicate max_workers v) ≡ max_workers) × ((w : ℕ) → worker_at (replicate max_workers v) w ≡ nobody)
nobodies {v} e = (length-replicate max_workers v, λ w. ap (λ (x : Worker). worker_at (replicate max_workers x) w) e ∙ each_same max_workers w)
  where
    each_same : (n w : ℕ) → worker_at (replicate n nobody) w ≡ nobody
    each_same zero w = refl
    each_same (suc n) zero = refl
    each_same (suc n) (suc w) = each_same n w

-- laying out changes no length
pub laid-length : (l v : List ℕ) {l' : List ℕ} → l' ≡ written l 0 v → length l' ≡ length l
laid-length l v e = ap length e ∙ (spared-written (length v) 0 v l (omega arith)).length-kept

-- Laws that no proof cites any more, since the check finds their goals: they hold as before.
use Rattle.std.specs.Prelude.{◌≡◌, refl, true, false, Option, List, map, ℕ, ◌+◌, ◌-◌, ◌*◌, ◌^◌, ◌≤◌, ◌<◌, length, set}
use Rattle.std.proofs.Common.{sym, ap, ◌∙◌, arith, length-set, length-take, get_or-set_same, get_or-set_other, set-set, Fits}
use Rattle.std.proofs.Math.Decide.{ℕ_discrete}
use Rattle.std.proofs.lemmas.List.{set-get_or}
use Rattle.std.specs.Int.{w64}
use Rattle.rules.specs.Limits.{max_tables, max_workers}
use Rattle.rules.specs.declared.Crew.{Crew}
use Rattle.rules.specs.declared.Group.{Group}
use Rattle.rules.specs.Schedule.{Schedule}
use Rattle.rules.specs.Query.{Graph, Query, table_count}
use Rattle.rules.specs.Rows.{memo}
use Rattle.rules.specs.Refusals.{Memory}
use Rattle.rules.specs.Shares.{Numbered}
use Rattle.rules.specs.Turns.{Hand}
use Rattle.rules.specs.Log.{pair_of}
use Rattle.rules.specs.Lists.{over}
use Rattle.rules.specs.Answers.{shown, Logged}
use Rattle.rules.specs.laws.Lists.{length-map, over-length}
use Rattle.rules.specs.laws.Bools.{not-both}
use Rattle.skips.specs.Vectors.{written}
use Rattle.starts.specs.Starts.{starts, cell_starts}
use Rattle.shares.specs.Nowhere.{left}
use Rattle.shares.specs.Shares.{few}
use Rattle.crew.specs.declared.Worker.{Worker}
use Rattle.crew.specs.declared.Handed as code
use Rattle.crew.specs.Workers.{nobody, worker_at, counts_of}
use Rattle.crew.specs.Whose.{LowestLeft, whose, entries_on}
use Rattle.crew.specs.Logs.{noted_if, count_if, LogFits}
use Rattle.turns.specs.Standing.{Columns, columns, Ready, Board, StepTaken, TurnTaken, Work}
use Rattle.turns.specs.StandingLaws.{top-is, fit_is}
use Rattle.turns.specs.QueueLaws.{still_met}
use Rattle.turns.proofs.Laws.{Prepared, board-of, ready_read, turn-of}
use Rattle.turns.specs.StartLaws.{tables-fit}
use Rattle.runs.specs.Runs.{SearchReady, SearchDone, Between, Within}
use Rattle.runs.specs.SearchLaws.{whose-known, within-less, within-turn, within-ready, grounded, spared-on, spared-written}
use Rattle.runs.specs.SearchLaws as search

-- between two turns, whatever was kept and lent before
pub record Underway (q : Query) (crew : Crew) (groups : Schedule) (turns : List ℕ) (k low : ℕ) (workers : List Worker) (at pairs : ℕ) (c : Columns) (log : Memory) : Type 0 where
  pub old : Columns
  pub lent : Memory
  pub lent_fits : LogFits lent
  pub within : Within q crew groups turns old lent k low workers at pairs c log

-- whatever was kept and lent before, what stood at one turn of a group stands, carried on, at a later one
pub record Carried (q : Query) (crew : Crew) (groups : Schedule) (turns : List ℕ) (k low₀ : ℕ) (workers₀ : List Worker) (at₀ pairs₀ : ℕ) (c₀ : Columns) (log₀ : Memory)
    (low : ℕ) (workers : List Worker) (at pairs : ℕ) (c : Columns) (log : Memory) : Type 0 where
  pub carry : (old : Columns) (lent : Memory) → LogFits lent → Within q crew groups turns old lent k low₀ workers₀ at₀ pairs₀ c₀ log₀ → Within q crew groups turns old lent k low workers at pairs c log

-- what a turn may rely on
pub within-board : {q : Query} {crew : Crew} {groups : Schedule} {k : ℕ} {turns : List ℕ} {old : Columns} {lent : Memory} {low at pairs : ℕ} {workers : List Worker} {c : Columns} {log : Memory}
    → Work q crew groups turns → 1 ≤ k → k ≤ table_count q.graph - 1 → LogFits lent → Within q crew groups turns old lent k low workers at pairs c log → low < crew.workers
    → {sets estimates cells starts cell_starts : List ℕ} → Prepared q sets estimates cells starts cell_starts
    → Board q.graph q.fixed q.per_outer q.per_inner q.per_result sets estimates cells starts cell_starts (groups k) c
within-board work one known fits z more p =
    let e = top-is work one known in
    board-of p (fit_is work one known) (omega (arith, e)) z.reach (λ S d l. z.running.standing.rows.final S d (omega (arith, e)))

-- ---- a group's turns, carried on
pub carried-start : (q : Query) (crew : Crew) (groups : Schedule) (turns : List ℕ) (k low : ℕ) (workers : List Worker) (at pairs : ℕ) (c : Columns) (log : Memory) → Carried q crew groups turns k low workers at pairs c log low workers at pairs c log
carried-start q crew groups turns k low workers at pairs c log = record { carry = λ old lent f z. z }

pub carried-turn : {q : Query} {crew : Crew} {groups : Schedule} {k : ℕ} {turns : List ℕ} {low₀ at₀ pairs₀ : ℕ} {workers₀ : List Worker} {c₀ : Columns} {log₀ : Memory} {low at pairs : ℕ} {workers : List Worker} {c : Columns} {log : Memory}
    → Work q crew groups turns → 1 ≤ k → k ≤ table_count q.graph - 1 → Carried q crew groups turns k low₀ workers₀ at₀ pairs₀ c₀ log₀ low workers at pairs c log → low < crew.workers
    → {w : ℕ} → w ≡ whose turns at low → {workers' : List Worker} {new : Columns} {pair : Option code.Handed} → TurnTaken q.graph q.fixed q.per_outer q.per_inner q.per_result (groups k) w workers workers' c new pair
    → {low' : ℕ} {log' : Memory} → LowestLeft workers' crew.workers low' → log' ≡ noted_if log pairs w pair → {at' pairs' : ℕ} → at' ≡ entries_on (length turns) at → pairs' ≡ count_if pairs pair
    → Carried q crew groups turns k low₀ workers₀ at₀ pairs₀ c₀ log₀ low' workers' at' pairs' new log'
carried-turn work one known z more e t l n a p = record { carry = λ old lent f w. rw (a, p) (within-turn work one known f (z.carry old lent f w) more e t l n) }

pub underway-turn : {q : Query} {crew : Crew} {groups : Schedule} {k : ℕ} {turns : List ℕ} {low at pairs : ℕ} {workers : List Worker} {c : Columns} {log : Memory}
    → Work q crew groups turns → 1 ≤ k → k ≤ table_count q.graph - 1 → Underway q crew groups turns k low workers at pairs c log → low < crew.workers
    → {w : ℕ} → w ≡ whose turns at low → {workers' : List Worker} {new : Columns} {pair : Option code.Handed} → TurnTaken q.graph q.fixed q.per_outer q.per_inner q.per_result (groups k) w workers workers' c new pair
    → {low' : ℕ} {log' : Memory} → LowestLeft workers' crew.workers low' → log' ≡ noted_if log pairs w pair → {at' pairs' : ℕ} → at' ≡ entries_on (length turns) at → pairs' ≡ count_if pairs pair
    → Underway q crew groups turns k low' workers' at' pairs' new log'
underway-turn work one known z more e t l n a p = record { old = z.old; lent = z.lent; lent_fits = z.lent_fits; within = rw (a, p) (within-turn work one known z.lent_fits z.within more e t l n) }

-- ---- bounds, over plain numbers
-- a group of the loop is one of the N less 1
pub group_of : {k e n : ℕ} → k < e → e ≡ n → k ≤ n - 1
group_of h e = omega arith

pub below-eight : {w m : ℕ} → w < m → m ≤ max_workers → w < max_workers
below-eight h e = omega arith

-- places of the table, with a worker in hand and without
pub in_table : {w : ℕ} (workers : List Worker) → w < max_workers → length workers ≡ max_workers → w < length workers
in_table workers h e = omega arith

pub in_memory : (workers : List Worker) (held : ℕ) (v : Worker) → held < max_workers → length (set workers held v) ≡ max_workers → held < length workers
in_memory workers held v h e = omega (arith, length-set workers held v)

pub few-pairs : {p k n : ℕ} → p ≤ max_workers * (k * few) → k ≤ n - 1 → n ≤ max_tables → p < 2 ^ 63
few-pairs a b c = omega arith

-- the next group
pub group-few : {k n : ℕ} → k ≤ n → n ≤ max_tables → k ≤ max_tables
group-few h l = omega arith

pub next-group : {k n : ℕ} → 1 ≤ k → k ≤ n - 1 → (1 ≤ k + 1) × (k + 1 ≤ n)
next-group h l = (omega arith, omega arith)

-- the tables of starts have room for every size
pub starts-room : {n : ℕ} → n ≤ max_tables → n + 2 ≤ 18
starts-room h = omega arith

pub size_fits : {k n : ℕ} → k ≤ n → n ≤ max_tables → Fits w64 (k + 1)
size_fits h l = omega arith

pub less-size : {k e : ℕ} → k < e → e - (k + 1) < e - k
less-size h = omega arith

-- past the last group, all are done
pub all-groups : {k e n : ℕ} → k ≤ n → e ≡ n → e ≤ k → k ≡ n
all-groups a b c = omega arith

-- ---- lengths stay
pub logged-lengths : {q : Query} {h : List (Hand Numbered)} {lent log : Memory} → Logged q h lent log → LogFits lent
    → (length log.log_workers ≡ length lent.log_workers) × (length log.log_driving ≡ length lent.log_driving) × (length log.log_inner ≡ length lent.log_inner) × (length log.log_costs ≡ length lent.log_costs)
logged-lengths {q} {h} {lent} {log} z f = (column (λ (x : Hand Numbered). x.worker) lent.log_workers refl z.workers, column (λ (x : Hand Numbered). (pair_of x).driving) lent.log_driving f.driving z.driving, column (λ (x : Hand Numbered). (pair_of x).inner) lent.log_inner f.inner z.inner, z.spare.length-kept)
  where
    column : (f : Hand Numbered → ℕ) (l : List ℕ) {l' : List ℕ} → length l ≡ length lent.log_workers → l' ≡ over (map f (shown lent h)) l → length l' ≡ length l
    column f l e i = ap length i ∙ over-length (map f (shown lent h)) l (omega (arith, length-map f (shown lent h), length-take (length lent.log_workers) h))

-- what no turn changes
pub prepared : {q : Query} {crew : Crew} {turns sets estimates cells : List ℕ} {c : Columns} {log : Memory} (z : SearchReady q crew turns sets estimates cells c log)
    (old_starts old_cell_starts : List ℕ) {starts₁ cell_starts₁ : List ℕ} → table_count q.graph + 2 ≤ length old_starts → table_count q.graph + 2 ≤ length old_cell_starts
    → starts₁ ≡ written old_starts 0 (starts q.graph) → cell_starts₁ ≡ written old_cell_starts 0 (cell_starts q.graph) → Prepared q sets estimates cells starts₁ cell_starts₁
prepared z old_starts old_cell_starts a b h i = record { sound = z.sound; footing = grounded z old_starts old_cell_starts a b h i; estimated = z.estimated }

-- the worker in hand, v, is worker w of the table
pub record InHand (table workers : List Worker) (held w : ℕ) (v : Worker) : Type 0 where
  pub same : set workers held v ≡ table
  pub whose : held ≡ w
  pub worker : v ≡ worker_at table w

-- the first worker, at the start of a group
pub hand-start : {q : Query} {crew : Crew} {groups : Schedule} {k low at pairs : ℕ} {turns : List ℕ} {old c : Columns} {lent log : Memory} (workers : List Worker)
    → Within q crew groups turns old lent k low workers at pairs c log → Within q crew groups turns old lent k low (set workers 0 (worker_at workers 0)) at pairs c log
hand-start workers z = rw (set-get_or workers 0 nobody) z

-- another has the turn: the one in hand is put down
pub hand-changed : (workers : List Worker) (held w : ℕ) (v : Worker) {workers' : List Worker} {held' : ℕ} {v' : Worker}
    → workers' ≡ set workers held v → held' ≡ w → v' ≡ worker_at (set workers held v) w → InHand (set workers held v) workers' held' w v'
hand-changed workers held w v a b e = record { same = rw (a, b, e) (set-get_or (set workers held v) w nobody); whose = b; worker = e }

-- the same has it again
pub hand-kept : (workers : List Worker) (held w : ℕ) (v : Worker) {workers' : List Worker} {held' : ℕ} {v' : Worker}
    → held < length workers → w ≡ held → workers' ≡ workers → held' ≡ held → v' ≡ v → InHand (set workers held v) workers' held' w v'
hand-kept workers held w v l i a b e = record {
  same = rw (a, b, e) refl;
  whose = b ∙ sym i;
  worker = e ∙ rw i (sym (get_or-set_same workers held v nobody l));
}

-- put down where it is in hand already
pub put-down : (workers : List Worker) (held : ℕ) (v : Worker) → set (set workers held v) held v ≡ set workers held v
put-down workers held v = set-set workers held v v

-- ---- its turn
module _ {g : Graph} {fixed outer inner result : List ℕ} {group : Group} {w held : ℕ} {table workers : List Worker} {v v' : Worker} {old new : Columns} {pair : Option code.Handed}
    (inside : w < length table) (h : InHand table workers held w v) (t : StepTaken g fixed outer inner result group v v' old new pair) where
  hand-table : set workers held v' ≡ set table w v'
  hand-table = sym (ap (λ (x : List Worker). set x w v') (sym h.same) ∙ rw h.whose (set-set workers w v v'))

  -- it is a turn of the table
  pub hand-turn : TurnTaken g fixed outer inner result group w table (set workers held v') old new pair
  hand-turn = turn-of table w v v' (set workers held v') inside h.worker hand-table t

  -- with a pair left to it, the lowest worker with one is who it was
  pub hand-lowest : {m low : ℕ} → LowestLeft table m low → left v'.place ≡ true → LowestLeft (set workers held v') m low
  hand-lowest {m} {low} z e = rw hand-table (record { inside = z.inside; lower = λ u l. lower u l (ℕ_discrete u w); left = λ l. some l (ℕ_discrete low w) })
    where
      lower : (u : ℕ) → u < low → Dec (u ≡ w) → left (worker_at (set table w v') u).place ≡ false
      lower u l (yes i) =
          let n : left v.place ≡ false = ap (λ (x : Worker). left x.place) h.worker ∙ rw i at (z.lower u l) in
          absurd (not-both (left v'.place) e (ap (λ (x : Worker). left x.place) (t.none n).0 ∙ n))
      lower u l (no n) = ap (λ (x : Worker). left x.place) (get_or-set_other table w u v' nobody n) ∙ z.lower u l

      some : low < m → Dec (low ≡ w) → left (worker_at (set table w v') low).place ≡ true
      some l (yes i) = rw i (ap (λ (x : Worker). left x.place) (get_or-set_same table w v' nobody inside) ∙ e)
      some l (no n) = ap (λ (x : Worker). left x.place) (get_or-set_other table w low v' nobody n) ∙ z.left l

-- ---- its turn in the loop
-- what it leaves: fewer turns, and with the next lowest worker, kept in hand, what holds at the next turn
pub record Turned (q : Query) (crew : Crew) (groups : Schedule) (turns : List ℕ) (k low₀ : ℕ) (workers₀ : List Worker) (at₀ pairs₀ : ℕ) (c₀ : Columns) (log₀ : Memory) (low at : ℕ) (table workers : List Worker) (held : ℕ) (v' : Worker)
    (at' pairs' : ℕ) (new : Columns) (log' : Memory) : Type 0 where
  pub inside : held < max_workers
  pub less : length turns - at' + still_met q.graph (groups k) crew.workers (set workers held v') < length turns - at + still_met q.graph (groups k) crew.workers table
  pub lowest : left v'.place ≡ true → LowestLeft (set workers held v') crew.workers low
  pub underway : {low' : ℕ} → LowestLeft (set workers held v') crew.workers low' → Underway q crew groups turns k low' (set workers held v') at' pairs' new log'
  pub carried : {low' : ℕ} → LowestLeft (set workers held v') crew.workers low' → Carried q crew groups turns k low₀ workers₀ at₀ pairs₀ c₀ log₀ low' (set workers held v') at' pairs' new log'

pub hand-turned : {q : Query} {crew : Crew} {groups : Schedule} {k low at pairs : ℕ} {turns : List ℕ} {table : List Worker} {c : Columns} {log : Memory} → Work q crew groups turns → 1 ≤ k → k ≤ table_count q.graph - 1
    → Underway q crew groups turns k low table at pairs c log → {low₀ at₀ pairs₀ : ℕ} {workers₀ : List Worker} {c₀ : Columns} {log₀ : Memory} → Carried q crew groups turns k low₀ workers₀ at₀ pairs₀ c₀ log₀ low table at pairs c log
    → low < crew.workers → {w : ℕ} → w ≡ whose turns at low → {workers : List Worker} {held : ℕ} {v v' : Worker} {new : Columns} {pair : Option code.Handed} → InHand table workers held w v
    → {group : Group} → group ≡ groups k → StepTaken q.graph q.fixed q.per_outer q.per_inner q.per_result group v v' c new pair → {at' pairs' : ℕ} {log' : Memory} → at' ≡ entries_on (length turns) at → (pairs' ≡ count_if pairs pair) × (log' ≡ noted_if log pairs w pair)
    → Turned q crew groups turns k low₀ workers₀ at₀ pairs₀ c₀ log₀ low at table workers held v' at' pairs' new log'
hand-turned {table = table} work one known u z more e h is step a n =
    let t = rw is at step in
    let i = below-eight (whose-known work one known u.lent_fits u.within more e) work.few-workers in
    let l = in_table table i u.within.running.tally.table in
    let o = hand-turn l h t in
    record {
      inside = rw h.whose i;
      less = rw a (within-less work one known u.lent_fits u.within more e o);
      lowest = hand-lowest l h t u.within.lowest;
      underway = λ l. underway-turn work one known u more e o l n.1 a n.0;
      carried = λ l. carried-turn work one known z more e o l n.1 a n.0;
    }

-- and the same where it is put down as well
module _ {q : Query} {crew : Crew} {groups : Schedule} {turns : List ℕ} {k low₀ : ℕ} {workers₀ : List Worker} {at₀ pairs₀ : ℕ} {c₀ : Columns} {log₀ : Memory} {low at : ℕ} {table workers : List Worker} {held : ℕ} {v' : Worker} {at' pairs' : ℕ} {new : Columns}
    {log' : Memory} (t : Turned q crew groups turns k low₀ workers₀ at₀ pairs₀ c₀ log₀ low at table workers held v' at' pairs' new log') where
  pub down-less : length turns - at' + still_met q.graph (groups k) crew.workers (set (set workers held v') held v') < length turns - at + still_met q.graph (groups k) crew.workers table
  down-less = rw (put-down workers held v') t.less

  module _ {low' : ℕ} (l : LowestLeft (set workers held v') crew.workers low') where
    pub down-underway : Underway q crew groups turns k low' (set (set workers held v') held v') at' pairs' new log'
    down-underway = rw (put-down workers held v') (t.underway l)

    pub down-carried : Carried q crew groups turns k low₀ workers₀ at₀ pairs₀ c₀ log₀ low' (set (set workers held v') held v') at' pairs' new log'
    down-carried = rw (put-down workers held v') (t.carried l)

-- what its turn may rely on
pub hand-ready : {q : Query} {crew : Crew} {groups : Schedule} {k low at pairs : ℕ} {turns : List ℕ} {table : List Worker} {c : Columns} {log : Memory} → Work q crew groups turns → 1 ≤ k → k ≤ table_count q.graph - 1
    → Underway q crew groups turns k low table at pairs c log → {sets estimates cells starts cell_starts : List ℕ} → Prepared q sets estimates cells starts cell_starts → low < crew.workers → {w : ℕ} → w ≡ whose turns at low
    → {workers : List Worker} {held : ℕ} {v : Worker} → InHand table workers held w v
    → {group : Group} → group ≡ groups k → Board q.graph q.fixed q.per_outer q.per_inner q.per_result sets estimates cells starts cell_starts group c × Ready q.graph group v
hand-ready {table = table} work one known u p more {w = w} e {v = v} h is = rw is (within-board work one known u.lent_fits u.within more p, ready_read table w v h.worker (within-ready work one known u.lent_fits u.within more e))

-- ---- a search between its groups: kept as since the scan costs were laid
module _ {q : Query} {crew : Crew} {turns sets estimates cells : List ℕ} {c : Columns} {log : Memory} (z : SearchReady q crew turns sets estimates cells c log) {costs : List ℕ} (e : costs ≡ written c.costs 0 q.scans) where
  -- before the first group
  pub between_start : (groups : Schedule) (workers : List Worker) → length workers ≡ max_workers → ((w : ℕ) → worker_at workers w ≡ nobody)
      → Between q crew groups turns (columns costs c.outers c.methods) log 1 workers 0 0 (columns costs c.outers c.methods) log
  between_start groups workers l n =
      let b = search.between_start z e groups workers l n in
      record {
        ran = b.ran;
        reach = b.reach;
        kept = record { costs = record { length-kept = refl; kept = refl }; outers = record { length-kept = refl; kept = refl }; methods = record { length-kept = refl; kept = refl } };
        log-fits = b.log-fits;
      }

  -- after the last
  pub between-end : {groups : Schedule} {workers : List Worker} {at pairs : ℕ} {new : Columns} {log' : Memory} → Between q crew groups turns (columns costs c.outers c.methods) log (table_count q.graph) workers at pairs new log'
      → SearchDone q crew groups turns c new log log' pairs (counts_of workers)
  between-end b = search.between-end z (record {
    ran = b.ran;
    reach = b.reach;
    kept = record {
      costs = spared-on (length (memo q.graph)) c.costs costs _ (rw e (spared-written (length (memo q.graph)) 0 q.scans c.costs (omega (arith, z.sound.scan-list, tables-fit q.graph z.sound.graph)))) b.kept.costs;
      outers = b.kept.outers;
      methods = b.kept.methods;
    };
    log-fits = b.log-fits;
  })

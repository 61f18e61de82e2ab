-- The turns in a row: what holds between two groups, and between two turns of a group.
use Rattle.std.specs.Prelude.{◌≡◌, List, ◌++◌, map, ℕ, suc, ◌+◌, ◌-◌, ◌*◌, ◌≤◌, ◌<◌, length, get_or, take, drop, replicate}
use Rattle.rules.specs.Limits.{max_workers}
use Rattle.rules.specs.declared.Crew.{Crew}
use Rattle.rules.specs.Query.{Graph, Query, table_count}
use Rattle.rules.specs.Estimate.{estimate}
use Rattle.rules.specs.Rows.{memo}
use Rattle.rules.specs.Skips.{skips}
use Rattle.rules.specs.Schedule.{Schedule}
use Rattle.rules.specs.Offers.{Pair}
use Rattle.rules.specs.Shares.{Numbered, queue}
use Rattle.rules.specs.Turns.{Hand, Run, Groups, only}
use Rattle.rules.specs.Log.{pair_of}
use Rattle.rules.specs.Refusals.{Memory}
use Rattle.rules.specs.Checked.{Sound}
use Rattle.rules.specs.Answers.{Spared, Logged, per_worker}
use Rattle.rules.specs.laws.Turns.{Below}
use Rattle.rules.specs.laws.Standing.{among, FinalRow, Before, Sofar}
use Rattle.skips.specs.Vectors.{written}
use Rattle.crew.specs.declared.Worker.{Worker}
use Rattle.crew.specs.Logs.{LogFits}
use Rattle.shares.specs.Shares.{few}
use Rattle.crew.specs.Whose.{LowestLeft}
use Rattle.turns.specs.Standing.{Columns, choice_in, Reach, Final, places_of, Standing, queues_at}
use Rattle.crew.specs.Workers.{nobody, worker_at}

-- ---- groups in a row, n of them from 1 on
module _ (m : ℕ) (queues : ℕ → ℕ → List Numbered) (n : ℕ) (turns : List ℕ) where
  -- the groups before k handed h and left the entries ts: whatever the others hand completes the whole
  unfoldable pub Grouping : List (Hand Numbered) → ℕ → List ℕ → Type 0
  Grouping h k ts = (j : ℕ) (h' : List (Hand Numbered)) → k + j ≡ n + 1 → Groups m queues k j ts h' → Groups m queues 1 n turns (h ++ h')

  -- and inside group k, with queues qs: whatever its run still hands completes it
  unfoldable pub Turning : List (Hand Numbered) → ℕ → (ℕ → List Numbered) → List ℕ → Type 0
  Turning h k qs ts = (h' : List (Hand Numbered)) (u : List ℕ) → Run m qs ts h' u → Grouping (h ++ h') (suc k) u

-- the pairs of a list of turns
abbrev pub Pairs : List (Hand Numbered) → Pair → Type 0
Pairs h = among (map pair_of h)

-- "eight per-worker pair counts": how many each worker was handed; absent workers stand as they began
pub record Tallied (m : ℕ) (workers : List Worker) (h : List (Hand Numbered)) : Type 0 where
  pub table : length workers ≡ max_workers
  pub below : Below m h
  pub present : (w : ℕ) → w < m → (worker_at workers w).handed ≡ length (only w h)
  pub absent : (w : ℕ) → m ≤ w → worker_at workers w ≡ nobody

-- ---- between groups and between turns
-- the pairs of each worker in each group
abbrev pub queues_by : Query → Crew → Schedule → ℕ → ℕ → List Numbered
queues_by q crew groups k w = queue q.graph crew (groups k) w

-- between two groups: the pairs handed are those of the groups before k, and log, pairs and counts are theirs
pub record Ran (q : Query) (crew : Crew) (groups : Schedule) (turns : List ℕ) (lent : Memory) (k : ℕ) (workers : List Worker) (at pairs : ℕ) (c : Columns) (log : Memory) : Type 0 where
  pub handed : List (Hand Numbered)
  pub grouping : Grouping crew.workers (queues_by q crew groups) (table_count q.graph - 1) turns handed k (drop at turns)
  pub entries : at ≤ length turns
  pub final : Final q crew groups k c
  pub early : (p : Pair) → Pairs handed p → Before q crew groups k p
  pub all : (p : Pair) → Before q crew groups k p → Pairs handed p
  pub logged : Logged q handed lent log
  pub count : pairs ≡ length handed
  pub tally : Tallied crew.workers workers handed
  pub bound : (w : ℕ) → w < crew.workers → (worker_at workers w).handed ≤ (k - 1) * few

-- between two turns of group k: the pairs handed are those and, of group k, those before the workers' places
pub record Running (q : Query) (crew : Crew) (groups : Schedule) (turns : List ℕ) (lent : Memory) (k : ℕ) (workers : List Worker) (at pairs : ℕ) (c : Columns) (log : Memory) : Type 0 where
  pub handed : List (Hand Numbered)
  pub turning : Turning crew.workers (queues_by q crew groups) (table_count q.graph - 1) turns handed k (queues_at q.graph crew (groups k) workers) (drop at turns)
  pub entries : at ≤ length turns
  pub standing : Standing q crew groups k workers c
  pub sofar : (p : Pair) → Pairs handed p → Sofar q crew groups k (places_of workers) p
  pub all : (p : Pair) → Sofar q crew groups k (places_of workers) p → Pairs handed p
  pub logged : Logged q handed lent log
  pub count : pairs ≡ length handed
  pub tally : Tallied crew.workers workers handed

-- ---- the whole search
-- what it may rely on: a checked query and crew, and a memo as laying out leaves it
pub record SearchReady (q : Query) (crew : Crew) (turns sets estimates cells : List ℕ) (c : Columns) (log : Memory) : Type 0 where
  pub sound : Sound q
  pub some-worker : 1 ≤ crew.workers
  pub few-workers : crew.workers ≤ max_workers
  pub turns-known : (j : ℕ) → j < length turns → get_or turns j 0 < crew.workers
  pub sets-laid : take (length (memo q.graph)) sets ≡ memo q.graph
  pub cells-laid : take (length (skips q.graph)) cells ≡ skips q.graph
  pub estimated : take (length (memo q.graph)) estimates ≡ map (estimate q.graph) (memo q.graph)
  pub old_costs : List ℕ
  pub old_outers : List ℕ
  pub old_methods : List ℕ
  pub costs-room : length (memo q.graph) ≤ length old_costs
  pub outers-room : length (memo q.graph) ≤ length old_outers
  pub methods-room : length (memo q.graph) ≤ length old_methods
  pub costs-laid : c.costs ≡ written old_costs 0 (replicate (length (memo q.graph)) 0)
  pub outers-laid : c.outers ≡ written old_outers 0 (replicate (length (memo q.graph)) 0)
  pub methods-laid : c.methods ≡ written old_methods 0 (replicate (length (memo q.graph)) 0)
  pub log-fits : LogFits log

-- the columns behind the memo's rows are as they were
pub record Kept (g : Graph) (old new : Columns) : Type 0 where
  pub costs : Spared (length (memo g)) old.costs new.costs
  pub outers : Spared (length (memo g)) old.outers new.outers
  pub methods : Spared (length (memo g)) old.methods new.methods

-- between two groups, and between two turns, with what is spare
pub record Between (q : Query) (crew : Crew) (groups : Schedule) (turns : List ℕ) (old : Columns) (lent : Memory) (k : ℕ) (workers : List Worker) (at pairs : ℕ) (c : Columns) (log : Memory) : Type 0 where
  pub ran : Ran q crew groups turns lent k workers at pairs c log
  pub reach : Reach q.graph c
  pub kept : Kept q.graph old c
  pub log-fits : LogFits log

pub record Within (q : Query) (crew : Crew) (groups : Schedule) (turns : List ℕ) (old : Columns) (lent : Memory) (k low : ℕ) (workers : List Worker) (at pairs : ℕ) (c : Columns) (log : Memory) : Type 0 where
  pub running : Running q crew groups turns lent k workers at pairs c log
  pub lowest : LowestLeft workers crew.workers low
  pub reach : Reach q.graph c
  pub kept : Kept q.graph old c
  pub log-fits : LogFits log

-- what it leaves: each row final, the spare ones as they were; log, pairs and counts are those of the turns in a row
pub record SearchDone (q : Query) (crew : Crew) (groups : Schedule) (turns : List ℕ) (old new : Columns) (log log' : Memory) (pairs : ℕ) (counts : List ℕ) : Type 0 where
  pub handed : List (Hand Numbered)
  pub turns-run : Groups crew.workers (queues_by q crew groups) 1 (table_count q.graph - 1) turns handed
  pub rows : (r : ℕ) → r < length (memo q.graph) → FinalRow q (get_or (memo q.graph) r 0) (choice_in new r)
  pub kept : Kept q.graph old new
  pub logged : Logged q handed log log'
  pub count : pairs ≡ length handed
  pub tallies : counts ≡ per_worker (λ w. length (only w handed))

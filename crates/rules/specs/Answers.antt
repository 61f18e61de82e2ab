-- What planning promises: `Planned`, the one relation between an input and its outcome.
use Rattle.std.specs.Prelude.{◌≡◌, List, [], ◌∷◌, map, ℕ, zero, suc, ◌-◌, ◌≤◌, ◌<◌, length, get_or, take, drop}
use Rattle.rules.specs.declared.Crew.{Crew}
use Rattle.rules.specs.Limits.{max_workers}
use Rattle.rules.specs.Kinds.{new_crew}
use Rattle.rules.specs.Lists.{over}
use Rattle.rules.specs.Sets.{size, full}
use Rattle.rules.specs.Query.{Query, table_count}
use Rattle.rules.specs.Estimate.{estimate}
use Rattle.rules.specs.Trees.{Least, Pick}
use Rattle.rules.specs.Offers.{Pair, union}
use Rattle.rules.specs.Rows.{memo}
use Rattle.rules.specs.Skips.{skips}
use Rattle.rules.specs.Shares.{Numbered, queue}
use Rattle.rules.specs.Turns.{Hand, Groups, only}
use Rattle.rules.specs.Schedule.{Schedule, by_size}
use Rattle.rules.specs.Log.{pair_of, Stands}
use Rattle.rules.specs.Verdict.{Verdict}
use Rattle.rules.specs.Refusals.{Memory, Input, verdict}
use Rattle.std.specs.Prelude.{Some}

-- "The answer gives best cost, number of memo rows, of skip cells, of joinable pairs, and eight per-worker pair counts"
pub record Answer : Type 0 where
  pub refusal : ℕ
  pub place : ℕ
  pub best : ℕ
  pub rows : ℕ
  pub cells : ℕ
  pub pairs : ℕ
  pub counts : List ℕ

-- what a caller has afterwards
pub record Outcome : Type 0 where
  pub answer : Answer
  pub left : Memory

-- f w, f (w + 1), .., n of them
unfoldable pub each : (ℕ → ℕ) → ℕ → ℕ → List ℕ
each f w zero = []
each f w (suc n) = f w ∷ each f (suc w) n

-- a number for each of the "eight" workers
abbrev pub per_worker : (ℕ → ℕ) → List ℕ
per_worker f = each f 0 max_workers

-- "All return the number, the place and zeros"
abbrev pub refusal : Verdict → Answer
refusal v = record { refusal = v.number; place = v.place; best = 0; rows = 0; cells = 0; pairs = 0; counts = per_worker (λ w. 0) }

-- demand 1: a refusal, "and change nothing lent"
pub record Refused (i : Input) (o : Outcome) : Type 0 where
  pub answer : o.answer ≡ refusal (verdict i)
  pub lent : o.left ≡ i.lent

-- the cells from n on are as they were: "Spare rows are unchanged."
pub record Spared (n : ℕ) (before after : List ℕ) : Type 0 where
  pub length-kept : length after ≡ length before
  pub kept : drop n after ≡ drop n before

-- "A row holds set, estimate, cost, outer set, method; the last two are 0 for one table.": cost, outer set and method of the row of S
pub record Row (q : Query) (S c x m : ℕ) : Type 0 where
  pub least : Least q S c
  pub one : size S ≤ 1 → (x ≡ 0) × (m ≡ 0)
  pub more : 2 ≤ size S → Pick q S x m

-- demand 2: the memo and the skip table hold what they are defined to hold
pub record Filled (q : Query) (before after : Memory) : Type 0 where
  pub sets : after.sets ≡ over (memo q.graph) before.sets
  pub estimates : after.estimates ≡ over (map (estimate q.graph) (memo q.graph)) before.estimates
  pub rows : (j : ℕ) → j < length (memo q.graph) → Row q (get_or (memo q.graph) j 0) (get_or after.costs j 0) (get_or after.outers j 0) (get_or after.methods j 0)
  pub costs : Spared (length (memo q.graph)) before.costs after.costs
  pub outers : Spared (length (memo q.graph)) before.outers after.outers
  pub methods : Spared (length (memo q.graph)) before.methods after.methods
  pub skips : after.skips ≡ over (skips q.graph) before.skips

-- an input's order of work: "For result size S (2 to N)", N less 1 groups from 1 on
abbrev pub schedule_of : Input → Schedule
schedule_of i = by_size i.query.shape

-- the pairs of each worker in each group
abbrev pub queues_of : Input → Crew → ℕ → ℕ → List Numbered
queues_of i crew k w = queue i.query.graph crew (schedule_of i k) w

-- demand 3: the turns in a row hand h, from the first group to the last
pub record InTurn (i : Input) (h : List (Hand Numbered)) : Type 0 where
  pub crew : Crew
  pub named : new_crew i.workers i.scheme ≡ Some crew
  pub groups : Groups crew.workers (queues_of i crew) 1 (table_count i.query.graph - 1) i.turns h

-- "It holds the first pairs that fit": as many as the log has room for
abbrev pub shown : Memory → List (Hand Numbered) → List (Hand Numbered)
shown lent h = take (length lent.log_workers) h

-- the pairs handed up to turn j, and that one
abbrev pub up_to : List (Hand Numbered) → ℕ → List Pair
up_to h j = map pair_of (take (suc j) h)

-- "The log is lent, any length, 0 too: worker, driving set, inner set, and the cost in the result's row after that turn"
pub record Logged (q : Query) (h : List (Hand Numbered)) (before after : Memory) : Type 0 where
  pub workers : after.log_workers ≡ over (map (λ (x : Hand Numbered). x.worker) (shown before h)) before.log_workers
  pub driving : after.log_driving ≡ over (map (λ (x : Hand Numbered). (pair_of x).driving) (shown before h)) before.log_driving
  pub inner : after.log_inner ≡ over (map (λ (x : Hand Numbered). (pair_of x).inner) (shown before h)) before.log_inner
  pub costs : (j : ℕ) → j < length (shown before h) → Stands q (up_to h j) (get_or (map (λ (x : Hand Numbered). union (pair_of x)) h) j 0) (get_or after.log_costs j 0)
  pub spare : Spared (length (shown before h)) before.log_costs after.log_costs

-- the answer of a plan: "the counts are those of the pairs and sets of demands 2 and 3"
pub record Counted (q : Query) (h : List (Hand Numbered)) (a : Answer) : Type 0 where
  pub refusal : a.refusal ≡ 0
  pub place : a.place ≡ 0
  pub best : Least q (full (table_count q.graph)) a.best
  pub rows : a.rows ≡ length (memo q.graph)
  pub cells : a.cells ≡ length (skips q.graph)
  pub pairs : a.pairs ≡ length h
  pub counts : a.counts ≡ per_worker (λ w. length (only w h))

-- demands 2 and 3 together: a plan
pub record Given (i : Input) (o : Outcome) : Type 0 where
  pub handed : List (Hand Numbered)
  pub turns : InTurn i handed
  pub memory : Filled i.query i.lent o.left
  pub log : Logged i.query handed i.lent o.left
  pub answer : Counted i.query handed o.answer

-- every input gets a plan or a numbered refusal: the promise of planning
pub record Planned (i : Input) (o : Outcome) : Type 0 where
  pub given : (verdict i).number ≡ 0 → Given i o
  pub refused : 0 < (verdict i).number → Refused i o

-- Laws that no proof cites any more, since the check finds their goals: they hold as before.
use Rattle.std.specs.Prelude.{◌≡◌, true, Option, Some, None, List, map, ℕ, ◌+◌, ◌-◌, ◌*◌, ◌^◌, ◌≤◌, ◌<◌, length, get_or, set, take}
use Rattle.std.proofs.Common.{sym, ap, arith, get_or-set_same, Fits}
use Rattle.std.specs.Int.{w64}
use Rattle.rules.specs.Limits.{max_tables, cost_bound}
use Rattle.rules.specs.declared.Crew.{Crew}
use Rattle.rules.specs.declared.Group.{Group}
use Rattle.rules.specs.Offers.{Pair}
use Rattle.rules.specs.Log.{pair_of}
use Rattle.rules.specs.Query.{Graph, Query, table_count}
use Rattle.rules.specs.Sets.{size}
use Rattle.rules.specs.Connected.{Connected}
use Rattle.rules.specs.Estimate.{estimate}
use Rattle.rules.specs.Rows.{memo}
use Rattle.rules.specs.Checked.{Sound}
use Rattle.rules.specs.laws.Standing as standing
use Rattle.crew.specs.declared.Worker.{Worker}
use Rattle.crew.specs.declared.Handed as code
use Rattle.crew.specs.Workers.{nobody, worker_at}
use Rattle.shares.specs.declared.places.Spot.{Spot}
use Rattle.shares.specs.Nowhere.{left}
use Rattle.shares.specs.Shares.{few}
use Rattle.pairs.specs.Places.{Fit, Ground}
use Rattle.turns.specs.Standing.{Columns, row_in, top_of, Reach, Board, Ready, InPlace, StepTaken, TurnTaken, hand_at}
use Rattle.turns.specs.QueueLaws as queue
use Rattle.turns.specs.StepLaws.{cost-bounds}
use Rattle.turns.specs.StartLaws.{methods-of, open-of}

-- a checked query whose memo is laid out: what no turn changes
pub record Prepared (q : Query) (sets estimates cells starts cell_starts : List ℕ) : Type 0 where
  pub sound : Sound q
  pub footing : Ground q.graph sets cells starts cell_starts
  pub estimated : take (length (memo q.graph)) estimates ≡ map (estimate q.graph) (memo q.graph)

pub board-of : {q : Query} {sets estimates cells starts cell_starts : List ℕ} {group : Group} {c : Columns} → Prepared q sets estimates cells starts cell_starts → Fit q.graph group → top_of group ≤ table_count q.graph → Reach q.graph c
    → ((S : ℕ) → Connected q.graph S → size S ≤ top_of group → standing.FinalRow q S (row_in q.graph c S))
    → Board q.graph q.fixed q.per_outer q.per_inner q.per_result sets estimates cells starts cell_starts group c
board-of {q} {group = group} {c = c} p fit top reach final = record {
  graph = p.sound.graph;
  fit = fit;
  methods = methods-of q p.sound;
  footing = p.footing;
  estimated = p.estimated;
  reach = reach;
  below = (open-of p.sound fit top reach final).below;
}

-- what a turn with no pair left answers
abbrev pub no_pair : Option code.Handed
no_pair = None

-- the worker that is read is ready
pub ready_read : {g : Graph} {group : Group} (workers : List Worker) (w : ℕ) (v : Worker) → v ≡ worker_at workers w → Ready g group (worker_at workers w) → Ready g group v
ready_read workers w v e z = rw e z

-- one worker's turn, and no other worker moves
pub turn-of : {g : Graph} {fixed outer inner result : List ℕ} {group : Group} {old new : Columns} {pair : Option code.Handed} (workers : List Worker) (w : ℕ) (v v' : Worker) (workers' : List Worker) → w < length workers
    → v ≡ worker_at workers w → workers' ≡ set workers w v' → StepTaken g fixed outer inner result group v v' old new pair → TurnTaken g fixed outer inner result group w workers workers' old new pair
turn-of workers w v v' workers' l i f t =
    let e : worker_at (set workers w v') w ≡ v' = get_or-set_same workers w v' nobody l in
    rw f (record { step = rw (e, ← i) t; others = ap (set workers w) (sym e) })

-- ---- the arithmetic of a turn
-- costs of the two can be added
pub base-fits : {g : Graph} {fixed outer inner result sets estimates cells starts cell_starts : List ℕ} {group : Group} {c : Columns} → Board g fixed outer inner result sets estimates cells starts cell_starts group c
    → {v : Worker} → Ready g group v → {p : Spot} → v.place.pair ≡ Some p → get_or c.costs p.row 0 + get_or c.costs p.inner 0 < cost_bound + cost_bound
base-fits b r e = let z = cost-bounds b r e in omega (arith, z.0, z.1)

pub row-in : {i n m : ℕ} → i < n → n ≤ m → i < m
row-in h l = omega arith

pub set-fits : {n : ℕ} → n < 2 ^ 32 → Fits w64 n
set-fits h = omega arith

pub costs-fit : {n : ℕ} → n < cost_bound + cost_bound → Fits w64 n
costs-fit h = omega arith

-- result size z of n tables, in the table of starts
module _ {z n : ℕ} (known : z ≤ n) (few-tables : n ≤ max_tables) where
  pub size-cell : Fits w64 (z * 8)
  size-cell = omega arith

  pub size-next : Fits w64 (z + 1)
  size-next = omega arith

  pub next-cell : Fits w64 ((z + 1) * 8)
  next-cell = omega arith

pub size_in : {z n m : ℕ} → z ≤ n → n + 1 < m → z < m
size_in h l = omega arith

pub next-in : {z n m : ℕ} → z ≤ n → n + 1 < m → z + 1 < m
next-in h l = omega arith

-- one pair more
pub handed-fits : {k z n p m : ℕ} → k ≤ (z - 1) * few + p → p < m → m ≤ few → z ≤ n → n ≤ max_tables → Fits w64 (k + 1)
handed-fits a b c d e = omega arith

-- the result's size
pub sum-known : (d : ℕ) {w i n : ℕ} → w ≡ i → d + i ≤ n → d + w ≤ n
sum-known d e l = omega arith

pub result_fits : (d : ℕ) {w i n : ℕ} → w ≡ i → d + i ≤ n → n ≤ max_tables → Fits w64 (d + w)
result_fits d e l u = omega arith

-- ---- a turn of worker w that has a pair left
module _ {g : Graph} {crew : Crew} {group : Group} {fixed outer inner result : List ℕ} {workers workers' : List Worker} {old new : Columns} {pair : Option code.Handed} {w : ℕ}
    (z : InPlace g group crew workers) (known : w < crew.workers) (t : TurnTaken g fixed outer inner result group w workers workers' old new pair) (has : left (worker_at workers w).place ≡ true) where
  -- the pair that it answers is the one handed
  pub turn-pair : (p : code.Handed) × (pair ≡ Some p) × (p.driving ≡ (pair_of (hand_at g group workers w)).driving) × (p.inner ≡ (pair_of (hand_at g group workers w)).inner)
  turn-pair =
      let e = queue.turn-pair z known t has in
      (_, (t.step.some has).answer, ap (λ (p : Pair). p.driving) e, ap (λ (p : Pair). p.inner) e)

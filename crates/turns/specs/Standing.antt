-- A turn, and the state that turns go through: said on places and memo alone.
use Rattle.std.specs.Prelude.{◌≡◌, true, false, List, Option, Some, None, map, ℕ, ◌+◌, ◌-◌, ◌*◌, ◌≤◌, ◌<◌, length, get_or, set, take, drop}
use Rattle.rules.specs.Limits.{max_workers, cost_bound}
use Rattle.rules.specs.declared.Crew.{Crew}
use Rattle.rules.specs.declared.Group.{Group}
use Rattle.rules.specs.Offers.{Pair, union, sides, Choice, Offered}
use Rattle.rules.specs.Schedule.{inner_at, Schedule, Scheduled}
use Rattle.rules.specs.Lists.{keep}
use Rattle.rules.specs.Query.{Graph, Query, table_count}
use Rattle.rules.specs.Estimate.{estimate}
use Rattle.rules.specs.Rows.{memo}
use Rattle.rules.specs.Shares.{Numbered, met}
use Rattle.rules.specs.Turns.{Hand}
use Rattle.rules.specs.Checked.{GoodGraph, Sound}
use Rattle.rules.specs.laws.Choice.{Best}
use Rattle.rules.specs.laws.Choice.{kept}
use Rattle.rules.specs.laws.Standing.{mine}
use Rattle.rules.specs.laws.Standing as standing
use Rattle.turns.specs.Index.{index_of}
use Rattle.crew.specs.declared.Worker.{Worker}
use Rattle.crew.specs.declared.Handed as code
use Rattle.crew.specs.Workers.{worker_at}
use Rattle.shares.specs.declared.places.Spot.{Spot}
use Rattle.shares.specs.Nowhere.{left}
use Rattle.shares.specs.Shares.{few, ShareOf, share_of}
use Rattle.pairs.specs.Places.{start_of, met_numbered, Fit, Ground, Waits, NextFrom}
use Rattle.results.specs.Prices.{choice_at, price_by, Methods}

-- ---- the columns that the search fills
pub record Columns : Type 0 where
  pub costs : List ℕ
  pub outers : List ℕ
  pub methods : List ℕ

abbrev pub columns : List ℕ → List ℕ → List ℕ → Columns
columns costs outers methods = record { costs = costs; outers = outers; methods = methods }

-- what row r holds
abbrev pub choice_in : Columns → ℕ → Choice
choice_in c r = choice_at c.costs c.outers c.methods r

-- row r anew, and no other
abbrev pub stored : Columns → ℕ → Choice → Columns
stored c r k = columns (set c.costs r k.cost) (set c.outers r k.outer) (set c.methods r k.method)

-- the row of a set
abbrev pub row_in : Graph → Columns → ℕ → Choice
row_in g c S = choice_in c (index_of (memo g) S)

-- "A join of outer X and inner Y costs cost(X) + cost(Y) + ..", by method m, the two costing what their rows hold
abbrev pub join_in : Graph → List ℕ → List ℕ → List ℕ → List ℕ → Columns → ℕ → ℕ → ℕ → ℕ
join_in g fixed outer inner result c X Y m = (row_in g c X).cost + (row_in g c Y).cost + price_by fixed outer inner result (estimate g X) (estimate g Y) (estimate g (X + Y)) m

-- the columns have all rows of the memo
pub record Reach (g : Graph) (c : Columns) : Type 0 where
  pub costs : length (memo g) ≤ length c.costs
  pub outers : length (memo g) ≤ length c.outers
  pub methods : length (memo g) ≤ length c.methods

-- the largest size that a group reads, and its results' size at driving size d
abbrev pub top_of : Group → ℕ
top_of group = inner_at group 1

abbrev pub result_at : Group → ℕ → ℕ
result_at group d = d + inner_at group d

-- what a turn of the group works on: the memo as laid out, methods and the costs that the group reads within their limits
pub record Board (g : Graph) (fixed outer inner result sets estimates cells starts cell_starts : List ℕ) (group : Group) (c : Columns) : Type 0 where
  pub graph : GoodGraph g
  pub fit : Fit g group
  pub methods : Methods fixed outer inner result
  pub footing : Ground g sets cells starts cell_starts
  pub estimated : take (length (memo g)) estimates ≡ map (estimate g) (memo g)
  pub reach : Reach g c
  pub below : (r : ℕ) → r < start_of g (top_of group + 1) → get_or c.costs r 0 < cost_bound

-- what a turn of the group asks besides: the group fits, and the costs that it reads are within their limit
pub record Open (g : Graph) (group : Group) (c : Columns) : Type 0 where
  pub fit : Fit g group
  pub reach : Reach g c
  pub below : (r : ℕ) → r < start_of g (top_of group + 1) → get_or c.costs r 0 < cost_bound

-- ---- workers
-- "each with its own place", its share of the group, and no more pairs handed than candidates were met
pub record Ready (g : Graph) (group : Group) (v : Worker) : Type 0 where
  pub share : ShareOf g group v.share
  pub waits : Waits g group v.share v.place
  pub handed : v.handed ≤ (top_of group - 1) * few + v.place.number

-- "The workers stand in one table": each of the crew at its place in the group
pub record InPlace (g : Graph) (group : Group) (crew : Crew) (workers : List Worker) : Type 0 where
  pub ready : (w : ℕ) → w < crew.workers → Ready g group (worker_at workers w)
  pub share : (w : ℕ) → w < crew.workers → (worker_at workers w).share ≡ share_of crew w (length (met g group))

-- ---- a turn
-- the pair of a place
abbrev pub pair_at : Graph → Spot → Pair
pair_at g s = record { driving = get_or (memo g) s.row 0; inner = get_or (memo g) s.inner 0 }

abbrev pub handed_pair : Pair → ℕ → code.Handed
handed_pair p cost = record { driving = p.driving; inner = p.inner; cost = cost }

-- "it answers the pair handed .. and the new places, and changes only that pair's result row"
pub record Handing (g : Graph) (fixed outer inner result : List ℕ) (group : Group) (v v' : Worker) (old new : Columns) (pair : Option code.Handed) : Type 0 where
  -- where the worker stands
  pub spot : Spot
  pub at : v.place.pair ≡ Some spot
  -- the result's row
  pub row : ℕ
  pub row_from : start_of g (result_at group spot.size) ≤ row
  pub row-to : row < start_of g (result_at group spot.size + 1)
  pub row-set : get_or (memo g) row 0 ≡ union (pair_at g spot)
  -- "Both outer choices and all methods of a joinable pair are priced in one turn", or one outer choice, as the group says
  pub offer : Choice
  pub best : Best (Offered (sides group.both (pair_at g spot)) (length fixed) (join_in g fixed outer inner result old)) offer
  pub changed : new ≡ stored old row (kept (choice_in old row) offer)
  pub answer : pair ≡ Some (handed_pair (pair_at g spot) (kept (choice_in old row) offer).cost)
  -- the worker goes on
  pub next : NextFrom g group v.share (v.place.number + 1) v'.place
  pub worker : v' ≡ record { share = v.share; place = v'.place; last = row; handed = v.handed + 1 }

-- "A turn hands its worker that worker's next joinable pair; with none left it changes nothing."
pub record StepTaken (g : Graph) (fixed outer inner result : List ℕ) (group : Group) (v v' : Worker) (old new : Columns) (pair : Option code.Handed) : Type 0 where
  pub none : left v.place ≡ false → (v' ≡ v) × (new ≡ old) × (pair ≡ None)
  pub some : left v.place ≡ true → Handing g fixed outer inner result group v v' old new pair

-- a turn of worker w: no other worker moves
pub record TurnTaken (g : Graph) (fixed outer inner result : List ℕ) (group : Group) (w : ℕ) (workers workers' : List Worker) (old new : Columns) (pair : Option code.Handed) : Type 0 where
  pub step : StepTaken g fixed outer inner result group (worker_at workers w) (worker_at workers' w) old new pair
  pub others : workers' ≡ set workers w (worker_at workers' w)

-- ---- the memo as turns leave it
-- where each worker stands
abbrev pub places_of : List Worker → ℕ → ℕ
places_of workers w = (worker_at workers w).place.number

-- "the memo as the turns before left it", in group k: the workers at their places, sets of at most k tables final, each other row the best of the pairs handed (rules, laws.Standing)
pub record Standing (q : Query) (crew : Crew) (groups : Schedule) (k : ℕ) (workers : List Worker) (c : Columns) : Type 0 where
  pub places : InPlace q.graph (groups k) crew workers
  pub rows : standing.Standing q crew groups k (places_of workers) (row_in q.graph c)

-- between two groups
abbrev pub Final : Query → Crew → Schedule → ℕ → Columns → Type 0
Final q crew groups k c = standing.Between q crew groups k (row_in q.graph c)

-- ---- queues
-- what is left to each worker at its place
abbrev pub queues_at : Graph → Crew → Group → List Worker → ℕ → List Numbered
queues_at g crew group workers w = keep (mine g crew group w) (drop (places_of workers w) (met g group))

-- what a turn of worker w hands, where it has a pair left: the candidate at its place
abbrev pub hand_at : Graph → Group → List Worker → ℕ → Hand Numbered
hand_at g group workers w = record { worker = w; candidate = met_numbered g group (places_of workers w) }

-- ---- the work that turns go through
-- a checked query and crew, entries that name its workers, and groups that serve the query
pub record Work (q : Query) (crew : Crew) (groups : Schedule) (turns : List ℕ) : Type 0 where
  pub sound : Sound q
  pub some-worker : 1 ≤ crew.workers
  pub few-workers : crew.workers ≤ max_workers
  pub turns-known : (j : ℕ) → j < length turns → get_or turns j 0 < crew.workers
  pub serves : Scheduled q.shape (table_count q.graph) (table_count q.graph - 1) groups

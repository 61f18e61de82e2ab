-- What is printed, and the state between groups and between turns.
use Rattle.std.specs.Prelude.{◌≡◌, Some, List, ℕ, ◌-◌, ◌*◌, ◌≤◌, ◌<◌, length}
use Rattle.rules.specs.declared.Crew.{Crew}
use Rattle.rules.specs.Schedule.{by_size}
use Rattle.rules.specs.Query.{Graph, Query}
use Rattle.results.specs.declared.price.Rates.{Rates}
use Rattle.results.specs.declared.keep.Columns as lent
use Rattle.results.specs.Kept.{SameColumns}
use Rattle.rules.specs.declared.Shape.TheVariants.{Bushy}
use Rattle.shares.specs.declared.places.Spot.{Spot}
use Rattle.shares.specs.Shares.{few}
use Rattle.crew.specs.declared.Worker.{Worker}
use Rattle.turns.specs.Standing.{Columns, Reach, Final, Standing, Work}
use Rattle.crew.specs.Workers.{worker_at}
use Rattle.turns.specs.declared.setting.Setting.{Setting}

-- the query of a graph, its scan costs and what its methods cost
abbrev pub query_at : Graph → List ℕ → Rates → Query
query_at g scans r = record { graph = g; scans = scans; fixed = r.fixed.now; per_outer = r.outer.now; per_inner = r.inner.now; per_result = r.res.now; shape = Bushy }

-- the query that turns go by, with its scan costs
abbrev pub query_by : Setting → List ℕ → Query
query_by s scans = query_at s.footing.graph.now scans s.rates

-- a worker whose share and place can be printed
pub record Shown (sets : List ℕ) (v : Worker) : Type 0 where
  pub share : v.share.from ≤ v.share.to
  pub driving : (s : Spot) → v.place.pair ≡ Some s → s.row < length sets
  pub inner : (s : Spot) → v.place.pair ≡ Some s → s.inner < length sets

-- group k is to be opened
pub record Between (q : Query) (crew : Crew) (k : ℕ) (workers : List Worker) (c : Columns) : Type 0 where
  pub reach : Reach q.graph c
  pub final : Final q crew (by_size q.shape) k c
  pub handed : (w : ℕ) → w < crew.workers → (worker_at workers w).handed ≤ (k - 1) * few

-- group k is open, and some turns of it are taken
pub record Within (q : Query) (crew : Crew) (k : ℕ) (workers : List Worker) (c : Columns) : Type 0 where
  pub reach : Reach q.graph c
  pub standing : Standing q crew (by_size q.shape) k workers c

-- the same lent columns, each as long as before
pub record SameRows (c c' : lent.Columns) : Type 0 where
  pub columns : SameColumns c c'
  pub costs : length c.costs.now ≡ length c'.costs.now
  pub outers : length c.outers.now ≡ length c'.outers.now
  pub methods : length c.methods.now ≡ length c'.methods.now

-- all is laid out and checked: the first group may be opened
pub record Started (q : Query) (crew : Crew) (turns : List ℕ) (c : Columns) : Type 0 where
  pub work : Work q crew (by_size q.shape) turns
  pub reach : Reach q.graph c
  pub final : Final q crew (by_size q.shape) 1 c

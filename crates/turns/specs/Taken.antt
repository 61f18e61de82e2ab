-- A turn by the structs that it is given.
use Rattle.std.specs.Prelude.{List, Option, ℕ}
use Rattle.rules.specs.declared.Group.{Group}
use Rattle.crew.specs.declared.Worker.{Worker}
use Rattle.crew.specs.declared.Handed.{Handed}
use Rattle.results.specs.declared.keep.Columns as lent
use Rattle.turns.specs.declared.setting.Setting.{Setting}
use Rattle.turns.specs.Standing.{Columns, columns, Open, Board, StepTaken, TurnTaken}

-- what the lent columns hold
abbrev pub columns_of : lent.Columns → Columns
columns_of c = columns c.costs.now c.outers.now c.methods.now

-- one worker's turn
abbrev pub StepBy : Setting → Group → Worker → Worker → lent.Columns → lent.Columns → Option Handed → Type 0
StepBy s group v v' old new pair = StepTaken s.footing.graph.now s.rates.fixed.now s.rates.outer.now s.rates.inner.now s.rates.res.now group v v' (columns_of old) (columns_of new) pair

-- the turn of worker w
abbrev pub TurnBy : Setting → Group → ℕ → List Worker → List Worker → lent.Columns → lent.Columns → Option Handed → Type 0
TurnBy s group w workers workers' old new pair = TurnTaken s.footing.graph.now s.rates.fixed.now s.rates.outer.now s.rates.inner.now s.rates.res.now group w workers workers' (columns_of old) (columns_of new) pair

-- with what no turn changes, what a turn works on
pub board-by : (s : Setting) {group : Group} {c : Columns} → Open s.footing.graph.now group c
    → Board s.footing.graph.now s.rates.fixed.now s.rates.outer.now s.rates.inner.now s.rates.res.now s.footing.sets.now s.estimates.now s.footing.skips.now s.footing.starts.now s.footing.cells.now group c
board-by s o = record { graph = s.footing.good; fit = o.fit; methods = s.rates.methods; footing = s.footing.laid; estimated = s.estimated; reach = o.reach; below = o.below }

use Rattle.std.specs.Prelude.{IfSome, unwrap_or, length}
use Prim.Native.Nat.{◌+◌, ◌-◌, ◌≤◌, ◌<◌}
use Rattle.rules.specs.declared.Shape.TheVariants.{Bushy}
use Rattle.rules.specs.Query.{table_count}
use Rattle.rules.specs.Schedule.{by_size}
use Rattle.crew.specs.Lent.{memory_of}
use Rattle.crew.specs.Whose.{Lowest}
use Rattle.turns.specs.QueueLaws.{still_met}
use Rattle.turns.specs.Taken.{columns_of}
use Rattle.runs.specs.Runs.{Between, Within}
use Rattle.runs.specs.Views.{query_by, SameLists}
use Rattle.runs.proofs.search.search.Given as goal

abbrev pub invariant-loop-low : goal.invariant-loop-low
invariant-loop-low l =
    Within (query_by l.tally.graph.now l.scans l.rates) l.crew (by_size Bushy) l.turns (columns_of l.fn.columns) (memory_of l.fn.log) l.k (unwrap_or l.low l.crew.workers) l.workers l.at l.pairs (columns_of l.columns) (memory_of l.log) × IfSome l.low (λ w. w < l.crew.workers) × SameLists l.columns l.fn.columns l.log l.fn.log

abbrev pub decreases-loop-low : goal.decreases-loop-low
decreases-loop-low l = length l.turns - l.at + still_met l.tally.graph.now (by_size Bushy l.k) l.crew.workers l.workers

abbrev pub invariant-loop-k : goal.invariant-loop-k
invariant-loop-k l =
    (l.k ≤ table_count l.tally.graph.now) × Between (query_by l.tally.graph.now l.scans l.rates) l.crew (by_size Bushy) l.turns (columns_of l.fn.columns) (memory_of l.fn.log) l.k l.workers l.at l.pairs (columns_of l.columns) (memory_of l.log) × SameLists l.columns l.fn.columns l.log l.fn.log

use Rattle.turns.specs.Taken.{columns_of}
use Rattle.rounds.specs.Rounds.{query_at, Between}
use Rattle.rounds.proofs.run_sizes.Given as goal

abbrev pub invariant-loop-k : goal.invariant-loop-k
invariant-loop-k g l = Between (query_at l.footing.graph.now l.scans l.rates) l.crew l.k l.workers (columns_of l.columns)

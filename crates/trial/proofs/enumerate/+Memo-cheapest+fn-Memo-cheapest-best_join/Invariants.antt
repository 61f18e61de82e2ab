use Rattle.std.proofs.Common.{◌+◌, ◌*◌}
use Rattle.trial.proofs.enumerate.+Memo-cheapest+fn-Memo-cheapest-best_join.Given as goal

-- a call comes before its splits, and these before the calls for their parts
abbrev pub decreases-Memo::cheapest : goal.decreases-Memo::cheapest
decreases-Memo::cheapest l = 2 * l.fuel

abbrev pub decreases-best_join : goal.decreases-best_join
decreases-best_join l = 2 * l.fewer + 1

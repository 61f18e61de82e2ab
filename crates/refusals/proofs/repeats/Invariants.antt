use Rattle.std.proofs.Common.{◌≡◌, false, get_or}
use Rattle.rules.specs.Query.{graph_of}
use Rattle.rules.specs.Refusals.{joined_below}
use Rattle.refusals.proofs.repeats.Given as goal

abbrev pub invariant-loop-j : goal.invariant-loop-j
invariant-loop-j l = joined_below (graph_of l.rows l.left l.right l.divisors) (get_or l.left l.i 0) (get_or l.right l.i 0) l.j ≡ false

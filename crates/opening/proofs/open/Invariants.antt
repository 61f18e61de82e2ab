use mathlib.Core.Path.{◌≡◌}
use lib.ListN.{length}
use Rattle.opening.specs.Opening.{Opening}
use Rattle.opening.proofs.open.Given as goal

abbrev pub invariant-loop-w : goal.invariant-loop-w
invariant-loop-w l = Opening l.footing.graph.now l.group l.crew l.w l.initial.workers l.workers

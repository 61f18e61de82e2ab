use mathlib.Core.Path.{◌≡◌}
use lib.ListN.{length}
use Rattle.parts.specs.Parts.{Own}
use Rattle.parts.proofs.own_parts.Given as goal

abbrev pub invariant-loop-k : goal.invariant-loop-k
invariant-loop-k l = (length l.parts ≡ 256) × Own l.rows l.k l.parts

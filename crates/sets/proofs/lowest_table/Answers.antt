use native.Mathlib.Omega.{arith}
use lib.Count.{trailing_le}
use Rattle.sets.specs.Laws.{lowest-is}
use Rattle.sets.proofs.lowest_table.Goals as goal

pub overflow_cast-result : goal.overflow_cast-result
overflow_cast-result c = omega (arith, trailing_le 64 c.args.s)

pub overflow_add-result : goal.overflow_add-result
overflow_add-result c = omega (arith, trailing_le 64 c.args.s)

pub returns : goal.returns
returns c = lowest-is 64 c.args.s c.requires.0 (omega arith)

use native.Mathlib.Omega.{arith}
use Rattle.pairs.specs.FindLaws.{first-row}
use Rattle.pairs.proofs.find.first_pair.Goals as goal

pub find-requires-clause-row_from : goal.find-requires-clause-row_from
find-requires-clause-row_from c =
    let f = c.args.footing.now in
    rw (f.laid.starts-known 1 (omega arith) (omega arith)) (first-row f.graph.now c.args.group c.requires.1)

use native.Mathlib.Omega.{arith}
use lib.ListN.{length, replicate}
use Rattle.rows.specs.TallyLaws.{root, zero-cells, counting-root, tallied-root}
use Rattle.rows.proofs.tally.count_rows.Goals as goal

pub tally_from-requires : goal.tally_from-requires
tally_from-requires c =
    let g = c.args.graph.now in
    let near = c.new-near.ensures in
    rw near.count (counting-root g c.new-near.result.of (replicate 17 0) near.good near.near (omega (arith, near.good.few-tables)) (zero-cells 17 (length g.rows)))

pub returns-clause-counts : goal.returns-clause-counts
returns-clause-counts c =
    let g = c.args.graph.now in
    let near = c.new-near.ensures in
    tallied-root g (replicate 17 0) (omega (arith, near.good.few-tables, c.tally_from.auto.counts)) (zero-cells 17 (length g.rows)) (rw near.count at (c.tally_from.ensures g (rw near.count (root g c.new-near.result.of near.good near.near))))

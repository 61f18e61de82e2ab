use mathlib.Core.Path.{sym}
use native.Mathlib.Omega.{arith}
use lib.ListN.{length}
use Rattle.rules.specs.laws.Sets.{holds-lt}
use Rattle.query.specs.ConnectedLaws.{small_of, part-start, unknown-no, stuck-no}
use Rattle.query.proofs.connected.connected.Goals as goal

pub returns-then-s-graph-ne0 : goal.returns-then-s-graph-ne0
returns-then-s-graph-ne0 c = rw (← c.graph.view_is) (sym (unknown-no _ _ c.if-s-graph-ne0.true))

pub single-part-requires : goal.single-part-requires
single-part-requires c =
    omega (arith, holds-lt (length c.graph.inside.rows.now) c.args.s c.lowest_table.result (small_of _ _ c.if-s-graph-ne0.false) c.lowest_table.ensures.stands)

pub loop-part-init : goal.loop-part-init
loop-part-init c =
    rw (← c.graph.view_is, c.single-part.ensures) (part-start _ _ c.lowest_table.result (small_of _ _ c.if-s-graph-ne0.false) c.lowest_table.ensures)

pub returns-then-next-part : goal.returns-then-next-part
returns-then-next-part c =
    sym (stuck-no _ _ c.loop-part.part c.reach-next.result c.loop-part-test.true c.loop-part.invariant c.reach-next.ensures c.if-next-part.true)

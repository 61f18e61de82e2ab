use mathlib.Core.Path.{refl, ◌∙◌}
use lib.ListN.{get_or, set, length-set}
use Rattle.parts.specs.PartLaws.{parts_more}
use Rattle.parts.proofs.table_parts.Goals as goal

pub loop-i-preserved : goal.loop-i-preserved
loop-i-preserved c =
    let l = c.loop-i in
    let g = c.graph.inside in
    let d = get_or g.divisors.now l.i 0 in
    (length-set (set l.parts c.cell.result d) c.cell-in-loop-i.result d ∙ length-set l.parts c.cell.result d ∙ l.invariant.0, parts_more _ l.i (get_or g.left.now l.i 0) (get_or g.right.now l.i 0) d l.parts c.graph.invariant c.loop-i-test.true l.invariant.0 l.invariant.1 c.cell.ensures c.cell-in-loop-i.ensures refl refl refl)

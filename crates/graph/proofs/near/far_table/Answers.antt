use Rattle.graph.specs.NextLaws.{far-right}
use Rattle.graph.proofs.near.far_table.Goals as goal

pub returns-then-b-t : goal.returns-then-b-t
returns-then-b-t c = far-right _ _ _ c.if-a-t.false c.if-b-t.true c.single-then-b-t.ensures

use Rattle.writer.specs.PlanLaws.{root-scan, root-join}
use Rattle.writer.proofs.joins.step_of.Goals as goal

pub returns-then-outer-eq0 : goal.returns-then-outer-eq0
returns-then-outer-eq0 c = λ t r. root-scan t _ _ _ _ c.if-outer-eq0.true c.lowest_table.ensures r

pub returns : goal.returns
returns c = λ t r. root-join t _ _ _ c.if-outer-eq0.false r

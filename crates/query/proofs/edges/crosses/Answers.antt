use mathlib.Core.Bool.{◌&&◌}
use Rattle.rules.specs.Sets.{has}
use Rattle.query.specs.EdgeLaws.{or_yes}
use Rattle.query.proofs.edges.crosses.Goals as goal

pub returns-then-both_stand : goal.returns-then-both_stand
returns-then-both_stand c =
    let a = c.args in
    or_yes _ (has a.x a.b && has a.y a.a) c.both_stand.ensures c.if-both_stand.true

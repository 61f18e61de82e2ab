use Rattle.std.proofs.Common.{rules}
use Rattle.rules.specs.Schedule.{drivings, by_size}
use Rattle.rules.specs.Trees.{fits}
use Rattle.rules.proofs.Group.by_size.Goals as goal

pub returns : goal.returns
unfolding by_size drivings fits
returns c = search rules

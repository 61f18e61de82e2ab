use Rattle.std.proofs.Common.{◌∙◌}
use Rattle.results.specs.Order.{le-sooner}
use Rattle.results.proofs.price.sooner.Goals as goal

pub returns : goal.returns
returns c = c.le.ensures ∙ le-sooner c.args.a c.args.b

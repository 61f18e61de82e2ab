use borrow.Author.Rules.{rules}
use Rattle.results.specs.PriceLaws.{first-best, second-best, only-best}
use Rattle.results.proofs.price.Rates.price.Goals as goal

pub returns-then-not-both : goal.returns-then-not-both
returns-then-not-both c =
    let a = c.args in
    only-best a.self.now.methods a.x.set a.y.set a.x.estimate a.y.estimate a.er a.base c.requires.different c.cheapest-turned.result c.cheapest-turned.ensures (search rules)

pub returns-then-sooner : goal.returns-then-sooner
returns-then-sooner c =
    let a = c.args in
    first-best a.self.now.methods a.x.set a.y.set a.x.estimate a.y.estimate a.er a.base c.requires.different c.cheapest-driving.result c.cheapest-turned.result c.cheapest-driving.ensures c.cheapest-turned.ensures c.sooner.ensures (search rules) c.if-sooner.true

pub returns-else-sooner : goal.returns-else-sooner
returns-else-sooner c =
    let a = c.args in
    second-best a.self.now.methods a.x.set a.y.set a.x.estimate a.y.estimate a.er a.base c.requires.different c.cheapest-driving.result c.cheapest-turned.result c.cheapest-driving.ensures c.cheapest-turned.ensures c.sooner.ensures (search rules) c.if-sooner.false

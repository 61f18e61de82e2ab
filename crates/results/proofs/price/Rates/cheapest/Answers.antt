use Rattle.std.proofs.Common.{sym, arith}
use Rattle.results.specs.PriceLaws.{cheapest-first, one_more, cheapest-all}
use Rattle.results.proofs.price.Rates.cheapest.Goals as goal

pub returns-then-self-eq2 : goal.returns-then-self-eq2
returns-then-self-eq2 c = cheapest-all (sym c.if-self-eq2.true) (one_more (cheapest-first c.pack-best.ensures) c.pack.ensures c.min-second.ensures)

pub returns-then-self-eq3 : goal.returns-then-self-eq3
returns-then-self-eq3 c = cheapest-all (sym c.if-self-eq3.true) (one_more (one_more (cheapest-first c.pack-best.ensures) c.pack.ensures c.min-second.ensures) c.pack-2.ensures c.min-third.ensures)

-- there are no more than four
pub returns : goal.returns
returns c = cheapest-all (omega (arith, c.args.self.now.methods.few)) (one_more (one_more (one_more (cheapest-first c.pack-best.ensures) c.pack.ensures c.min-second.ensures) c.pack-2.ensures c.min-third.ensures) c.pack-3.ensures c.min.ensures)

use Rattle.std.proofs.Common.{arith}
use Rattle.lookup.specs.SeekLaws.{look-found, look-after}
use Rattle.lookup.proofs.Search.seek.Goals as goal

pub returns-then-self-high : goal.returns-then-self-high
returns-then-self-high c =
    look-found c.args.self.now c.loop-high.high (omega arith) (omega arith) c.if-self-high.true

pub loop-high-preserved : goal.loop-high-preserved
loop-high-preserved c = (
  omega arith,
  omega arith,
  omega arith,
  omega arith,
  omega arith,
  look-after c.args.self.now c.loop-high.high (omega arith) (omega arith) c.comes_first.ensures c.if-not-comes_first.false,
)

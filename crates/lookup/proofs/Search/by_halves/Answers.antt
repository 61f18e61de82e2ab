use Rattle.std.proofs.Common.{ℕ, ◌+◌, ◌-◌, ◌/◌, arith}
use Rattle.lookup.specs.SeekLaws.{look-after}
use Rattle.lookup.proofs.Search.by_halves.Goals as goal

pub loop-low-preserved-then-comes_first : goal.loop-low-preserved-then-comes_first
loop-low-preserved-then-comes_first c =
    let l = c.loop-low in
    let middle : ℕ = l.low + (l.high - l.low) / 2 in (
      omega arith,
      omega arith,
      l.invariant.2,
      λ p h. (look-after c.args.self.now middle (omega arith) (omega arith) c.comes_first.ensures c.if-comes_first.true p h, (l.invariant.3 p h).1),
    )

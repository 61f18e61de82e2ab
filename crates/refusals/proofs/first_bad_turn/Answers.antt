use Rattle.std.proofs.Common.{refl, arith, length}
use Rattle.rules.specs.Refusals.{bad_turn}
use Rattle.refusals.specs.CheckLaws.{rest_all, rest-on, rest-here, rest-none, good_turn, bad-turn}
use Rattle.refusals.proofs.first_bad_turn.Goals as goal

pub loop-i-init : goal.loop-i-init
loop-i-init c = rest_all (bad_turn c.args.workers c.args.turns.now) (length c.args.turns.now)

pub returns-then-turn-workers : goal.returns-then-turn-workers
returns-then-turn-workers c =
    let a = c.args in
    rw c.at.ensures (rest-here (bad_turn a.workers a.turns.now) (length a.turns.now) c.loop-i.i c.loop-i.invariant 12 c.loop-i-test.true (bad-turn a.workers a.turns.now c.loop-i.i c.if-turn-workers.true) (λ h. omega arith))

pub loop-i-preserved : goal.loop-i-preserved
loop-i-preserved c =
    let a = c.args in
    rest-on (bad_turn a.workers a.turns.now) (length a.turns.now) c.loop-i.i c.loop-i.invariant 0 c.loop-i-test.true (good_turn a.workers a.turns.now c.loop-i.i c.if-turn-workers.false) refl

pub returns : goal.returns
returns c =
    let a = c.args in
    rest-none (bad_turn a.workers a.turns.now) (length a.turns.now) c.loop-i.i c.loop-i.invariant c.loop-i-test.false

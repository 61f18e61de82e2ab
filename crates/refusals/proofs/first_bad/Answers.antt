use Rattle.std.proofs.Common.{rules, ◌∙◌, sym, ap, refl, arith}
use Rattle.rules.specs.Verdict.{number_of}
use Rattle.refusals.specs.CheckLaws.{rest_all, rest-on, rest-here, rest-none, some-number}
use Rattle.refusals.proofs.first_bad.Goals as goal

pub loop-i-init : goal.loop-i-init
loop-i-init g c = λ numbers h. rest_all numbers _

pub returns-in-Err : goal.returns-in-Err
returns-in-Err g c = λ numbers h.
    rw c.at.ensures (rest-here numbers c.args.count c.loop-i.i (c.loop-i.invariant numbers h) (number_of c.in-Err.reason) c.loop-i-test.true (h c.loop-i.i _ c.loop-i-test.true (c.in-Err.ensures)) (some-number c.in-Err.reason))

pub loop-i-preserved : goal.loop-i-preserved
loop-i-preserved g c = λ numbers h. rest-on numbers c.args.count c.loop-i.i (c.loop-i.invariant numbers h) 0 c.loop-i-test.true (h c.loop-i.i _ c.loop-i-test.true c.in_default.ensures) refl

pub returns : goal.returns
returns g c = λ numbers h. rest-none numbers c.args.count c.loop-i.i (c.loop-i.invariant numbers h) (omega arith)

use native.Mathlib.Omega.{arith}
use Rattle.text.specs.PlanLaws.{answered_is, answered-refused, answered-few, answered-kept, answered-put, answered-planned, plan-fits, all-tables}
use Rattle.text.proofs.put_answer.Goals as goal

pub put_plan-requires : goal.put_plan-requires
put_plan-requires c = plan-fits c.args.line.now _ _ (omega arith) (omega arith) c.requires.room

pub overflow_add-memo : goal.overflow_add-memo
overflow_add-memo c = omega (arith, answered-few (answered_is c.in-Ok.is c.requires.answered.1))

pub single-requires : goal.single-requires
single-requires c = (omega arith, omega (arith, answered-few (answered_is c.in-Ok.is c.requires.answered.1)))

pub put_joins-requires : goal.put_joins-requires
put_joins-requires c =
    let z = answered_is c.in-Ok.is c.requires.answered.1 in
    (c.requires.answered.0.query, answered-kept z, answered-put z (omega arith) (omega arith) c.put_plan.ensures (all-tables _ c.single.ensures) c.requires.room)

pub returns-in-Ok : goal.returns-in-Ok
returns-in-Ok c i h = let z = answered_is c.in-Ok.is h in answered-planned z (omega arith) (omega arith) c.put_plan.ensures (all-tables _ c.single.ensures) (c.put_joins.ensures _ (answered-kept z))

pub returns-in-Err : goal.returns-in-Err
returns-in-Err c i h = answered-refused (answered_is c.in-Err.is h) (omega arith) c.put_refused.ensures

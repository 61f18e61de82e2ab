use mathlib.Core.Path.{refl}
use Rattle.rules.specs.Refusals.{Input}
use Rattle.rules.specs.Text.{text_input}
use Rattle.query.specs.Lists.{query_in}
use Rattle.text.proofs.plan_read.Goals as goal
use Rattle.text.proofs.plan_read.Goals.{Start}

-- what is planned
abbrev input : Start → Input
input s = text_input (query_in s.args.query.now) s.args.workers s.args.scheme

pub put_answer-requires-clause-answered : goal.put_answer-requires-clause-answered
put_answer-requires-clause-answered c = (input (goal.at.put_answer-requires-clause-answered c).Start, record { tables = refl; blank = refl; skips = _; log_workers = _; log_driving = _; log_inner = _; log_costs = _; planned = c.plan-planned.ensures })

pub returns : goal.returns
returns c =
    c.put_answer.ensures (input (goal.at.returns c).Start) (record { tables = refl; blank = refl; skips = _; log_workers = _; log_driving = _; log_inner = _; log_costs = _; planned = c.plan-planned.ensures })

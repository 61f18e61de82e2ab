use native.Mathlib.Omega.{arith}
use Rattle.text.specs.PlanLaws.{refusal-fits}
use Rattle.text.proofs.put_refused.Goals as goal

pub put_refusal-requires : goal.put_refusal-requires
put_refusal-requires c = refusal-fits c.args.line.now c.args.refusal _ c.number.ensures (omega arith) c.requires

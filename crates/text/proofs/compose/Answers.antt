use native.Mathlib.Omega.{arith}
use Rattle.reader.specs.Records.{lists_of}
use Rattle.text.specs.ReadLaws.{read-refused, read-planned}
use Rattle.text.proofs.compose.Goals as goal

pub returns-in-Ok : goal.returns-in-Ok
returns-in-Ok c = read-planned c.args.text.now c.in-Ok.progress (lists_of c.read.new.columns) c.in-Ok.ensures.read c.plan_read.ensures

pub returns-in-Err : goal.returns-in-Err
returns-in-Err c = read-refused c.args.text.now c.in-Err.stopped.refusal c.in-Err.ensures.read (omega arith) c.put_refused.ensures

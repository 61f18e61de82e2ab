use Prim.Native.Nat.{◌+◌}
use native.Mathlib.Omega.{arith}
use Rattle.digits.specs.SetLaws.{set-start, set-step, set-done, table-room}
use Rattle.digits.proofs.Line.put_set.Goals as goal

pub loop-t-init : goal.loop-t-init
loop-t-init c = (omega arith, set-start _ _)

pub put_table-requires : goal.put_table-requires
put_table-requires c = (omega arith, omega arith, table-room _ _ _ (omega arith) (omega arith) c.loop-t.invariant.1 c.requires.0)

pub loop-t-preserved : goal.loop-t-preserved
loop-t-preserved c = (omega arith, set-step _ _ (omega arith) c.loop-t.invariant.1 c.put_table.ensures)

pub returns-2 : goal.returns-2
returns-2 c = set-done _ _ (c.loop-t.t + 1) (omega arith) (omega arith) (set-step _ _ (omega arith) c.loop-t.invariant.1 c.put_table.ensures)

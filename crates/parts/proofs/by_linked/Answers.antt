use mathlib.Core.Path.{sym, ◌∙◌}
use Prim.Native.Nat.{◌-◌}
use native.Mathlib.Omega.{arith}
use Rattle.parts.specs.PartLaws.{linked-none, linked-step, divides-rest, rest-less, lowest-fits}
use Rattle.parts.proofs.by_linked.Goals as goal

pub cell-requires : goal.cell-requires
cell-requires c =
    let l = c.loop-left in
    let o = lowest-fits c.args.parts.now c.args.t l.left c.lowest_table-u.result c.lowest_table-u.ensures l.invariant.0 in (c.requires.some, c.requires.few, o.0, o.1)

pub single-left-requires : goal.single-left-requires
single-left-requires c =
    let l = c.loop-left in
    let o = lowest-fits c.args.parts.now c.args.t l.left c.lowest_table-u.result c.lowest_table-u.ensures l.invariant.0 in omega (arith, o.0, o.1)

pub overflow_sub-left : goal.overflow_sub-left
overflow_sub-left c =
    let l = c.loop-left in
    (rest-less c.args.parts.now c.args.t l.left c.lowest_table-u.result l.r c.lowest_table-u.ensures c.single-left.result c.single-left.ensures l.invariant.0).0

pub loop-left-preserved : goal.loop-left-preserved
loop-left-preserved c =
    let l = c.loop-left in
    let lowest-table' = c.lowest_table-u in
    (divides-rest c.args.parts.now c.args.t l.left lowest-table'.result l.r lowest-table'.ensures c.single-left.result c.single-left.ensures l.invariant.0, linked-step c.args.parts.now c.args.t l.left lowest-table'.result l.r lowest-table'.ensures c.single-left.result c.single-left.ensures l.invariant.0 c.args.linked c.args.e c.cell.result c.max-r.result c.cell.ensures c.max-r.ensures l.invariant.1)

pub returns : goal.returns
returns c =
    let l = c.loop-left in
    sym (linked-none c.args.parts.now c.args.t l.left (c.args.t - 1) l.r (omega (arith, c.loop-left-test.false))) ∙ l.invariant.1

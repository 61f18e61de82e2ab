use mathlib.Core.Path.{sym, ap, ◌∙◌}
use Prim.Native.Nat.{◌+◌}
use native.Mathlib.Omega.{arith}
use lib.ListN.{get_or}
use Rattle.rules.specs.Query.{table_count}
use Rattle.rows.specs.WalkLaws.{cells-none, cells-next, cells-end, cells_fit}
use Rattle.rows.proofs.tally.Tally.cells.Goals as goal

pub loop-k-init : goal.loop-k-init
loop-k-init c = (omega arith, sym (cells-none _))

pub overflow_mul-sum : goal.overflow_mul-sum
overflow_mul-sum c =
    let s = c.args.self.now in
    let n = ap table_count c.graph.view_is in
    omega (arith, cells_fit s.graph.now c.loop-k.k (get_or s.counts.now (c.loop-k.k + 1) 0) (omega arith) (omega arith) (s.good.sizes c.loop-k.k (omega arith)))

pub overflow_add-sum-in-loop-k-2 : goal.overflow_add-sum-in-loop-k-2
overflow_add-sum-in-loop-k-2 c =
    let s = c.args.self.now in
    let n = ap table_count c.graph.view_is in
    omega (arith, cells_fit s.graph.now c.loop-k.k (get_or s.counts.now (c.loop-k.k + 1) 0) (omega arith) (omega arith) (s.good.sizes c.loop-k.k (omega arith)))

pub loop-k-preserved : goal.loop-k-preserved
loop-k-preserved c =
    let s = c.args.self.now in
    let n = ap table_count c.graph.view_is in
    let counted = s.good.sizes c.loop-k.k (omega arith) in
    (omega (arith, cells_fit s.graph.now c.loop-k.k (get_or s.counts.now (c.loop-k.k + 1) 0) (omega arith) (omega arith) counted), cells-next s.graph.now c.loop-k.k c.loop-k.invariant.1 counted)

pub returns : goal.returns
returns c =
    let n = ap table_count c.graph.view_is in
    c.loop-k.invariant.1 ∙ cells-end _ c.loop-k.k (omega arith)

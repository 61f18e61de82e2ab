use mathlib.Core.Path.{refl, sym, ap, ◌∙◌}
use Prim.Native.Nat.{◌+◌}
use native.Mathlib.Omega.{arith}
use lib.ListN.{length, length-set}
use Rattle.rules.specs.Query.{table_count}
use Rattle.rows.specs.Sizes.{up_to}
use Rattle.rows.specs.WalkLaws.{up_to-none, length_more}
use Rattle.starts.specs.Starts.{cells_to}
use Rattle.starts.specs.CountLaws.{count_fits, counts-none, counts-more, counts_end, cells-start, cells_count}
use Rattle.starts.proofs.lay_starts.Goals as goal

pub loop-k-init : goal.loop-k-init
loop-k-init c =
    let g = c.args.tally.now.graph.now in
    (refl, refl, omega arith, omega arith, sym (ap length (up_to-none g)), sym (ap length (cells-start g)), counts-none (λ j. length (up_to g j)) c.args.firsts.now, counts-none (λ j. length (cells_to g j)) c.args.cells.now)

pub overflow_add-row : goal.overflow_add-row
overflow_add-row c =
    let t = c.args.tally.now in
    let n = ap table_count c.graph.view_is in
    omega (arith, (count_fits t.graph.now c.loop-k.k (omega arith) (omega arith) (t.good.sizes c.loop-k.k (omega arith))).0)

pub overflow_mul-cell : goal.overflow_mul-cell
overflow_mul-cell c =
    let t = c.args.tally.now in
    let n = ap table_count c.graph.view_is in
    omega (arith, (count_fits t.graph.now c.loop-k.k (omega arith) (omega arith) (t.good.sizes c.loop-k.k (omega arith))).1)

pub overflow_add-cell-in-loop-k : goal.overflow_add-cell-in-loop-k
overflow_add-cell-in-loop-k c =
    let t = c.args.tally.now in
    let n = ap table_count c.graph.view_is in
    omega (arith, (count_fits t.graph.now c.loop-k.k (omega arith) (omega arith) (t.good.sizes c.loop-k.k (omega arith))).1)

pub loop-k-preserved : goal.loop-k-preserved
loop-k-preserved c =
    let l = c.loop-k in
    let t = c.args.tally.now in
    let g = t.graph.now in
    let n = ap table_count c.graph.view_is in
    let counted = t.good.sizes l.k (omega arith) in
    let few = count_fits g l.k (omega arith) (omega arith) counted in
    (length-set l.firsts (l.k + 1) l.row ∙ l.invariant.0, length-set l.cells (l.k + 1) l.cell ∙ l.invariant.1, omega (arith, few.0), omega (arith, few.1), omega (arith, length_more g l.k), omega (arith, cells_count g l.k counted), counts-more (λ j. length (up_to g j)) c.args.firsts.now l.k l.invariant.6 l.invariant.4, counts-more (λ j. length (cells_to g j)) c.args.cells.now l.k l.invariant.7 l.invariant.5)

pub returns : goal.returns
returns c =
    let l = c.loop-k in
    let g = c.args.tally.now.graph.now in
    let n = ap table_count c.graph.view_is in
    rw n (record { firsts = counts_end (λ j. length (up_to g j)) c.args.firsts.now (table_count g) l.k (omega arith) l.invariant.6 l.invariant.4; cells = counts_end (λ j. length (cells_to g j)) c.args.cells.now (table_count g) l.k (omega arith) l.invariant.7 l.invariant.5 })

use mathlib.Core.Path.{refl, sym, ap, ◌∙◌}
use native.Mathlib.Omega.{arith}
use lib.ListN.{length}
use Rattle.rules.specs.Query.{table_count}
use Rattle.rows.specs.WalkLaws.{up_to-none}
use Rattle.skips.specs.Vectors.{written}
use Rattle.starts.specs.CountLaws.{cells-start}
use Rattle.memo.specs.LayoutLaws.{next-size, cells-all, rows_next, rows_inside, cells-next-at, cells-inside, size-ready, wrote-size}
use Rattle.memo.proofs.layout.lay_skips.Goals as goal

pub loop-k-init : goal.loop-k-init
loop-k-init c =
    let g = c.args.tally.now.graph.now in
    (refl, sym (ap length (up_to-none g)), sym (ap length (cells-start g)), ap (written c.args.out.now 0) (sym (cells-start g)))

pub overflow_add-from : goal.overflow_add-from
overflow_add-from c =
    let l = c.loop-k in
    let n = ap table_count c.graph.view_is in
    let z = next-size l.k l.from l.at c.args.tally.now.good (omega arith) (omega arith) c.requires.sets l.invariant.1 l.invariant.2 in
    omega (arith, rows_inside z)

pub fill_vectors-requires : goal.fill_vectors-requires
fill_vectors-requires c =
    let l = c.loop-k in
    let n = ap table_count c.graph.view_is in
    let z = next-size l.k l.from l.at c.args.tally.now.good (omega arith) (omega arith) c.requires.sets l.invariant.1 l.invariant.2 in
    size-ready z (omega (arith, c.requires.room))

pub overflow_add-from-in-loop-k : goal.overflow_add-from-in-loop-k
overflow_add-from-in-loop-k c =
    let l = c.loop-k in
    let n = ap table_count c.graph.view_is in
    let z = next-size l.k l.from l.at c.args.tally.now.good (omega arith) (omega arith) c.requires.sets l.invariant.1 l.invariant.2 in
    omega (arith, rows_inside z)

pub overflow_mul-at : goal.overflow_mul-at
overflow_mul-at c =
    let l = c.loop-k in
    let n = ap table_count c.graph.view_is in
    let z = next-size l.k l.from l.at c.args.tally.now.good (omega arith) (omega arith) c.requires.sets l.invariant.1 l.invariant.2 in
    omega (arith, c.requires.room, cells-inside z)

pub overflow_add-at-in-loop-k : goal.overflow_add-at-in-loop-k
overflow_add-at-in-loop-k c =
    let l = c.loop-k in
    let n = ap table_count c.graph.view_is in
    let z = next-size l.k l.from l.at c.args.tally.now.good (omega arith) (omega arith) c.requires.sets l.invariant.1 l.invariant.2 in
    omega (arith, c.requires.room, cells-inside z)

pub loop-k-preserved : goal.loop-k-preserved
loop-k-preserved c =
    let l = c.loop-k in
    let n = ap table_count c.graph.view_is in
    let z = next-size l.k l.from l.at c.args.tally.now.good (omega arith) (omega arith) c.requires.sets l.invariant.1 l.invariant.2 in
    (c.fill_vectors.auto.out ∙ l.invariant.0, rows_next z, cells-next-at z, wrote-size z c.args.out.now l.invariant.3 c.fill_vectors.ensures)

pub returns : goal.returns
returns c =
    let n = ap table_count c.graph.view_is in
    c.loop-k.invariant.3 ∙ ap (written c.args.out.now 0) (cells-all c.args.tally.now.graph.now c.loop-k.k (omega arith))

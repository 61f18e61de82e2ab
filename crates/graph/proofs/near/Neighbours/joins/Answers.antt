use mathlib.Core.Path.{refl}
use Prim.Native.Nat.{◌-◌}
use native.Mathlib.Omega.{arith}
use Rattle.rules.specs.Query.{at}
use Rattle.graph.specs.ApartLaws.{overlap-some}
use Rattle.graph.specs.NearLaws.{goal-fits, table_fits, flood-fits, flood-start, start-meets, reached-start, fresh-fits, todo-some, flood-step, still-meets, reached-step, told-no, told-yes, overlap-none}
use Rattle.graph.proofs.near.Neighbours.joins.Goals as goal

pub lowest_table-requires : goal.lowest_table-requires
lowest_table-requires c = omega (arith, goal-fits c.args.inside c.args.goal c.requires.1 c.requires.2)

pub single-seen-requires : goal.single-seen-requires
single-seen-requires c =
    omega (arith, table_fits c.args.goal c.lowest_table.result (goal-fits c.args.inside c.args.goal c.requires.1 c.requires.2) c.lowest_table.ensures.stands)

pub loop-inside-init : goal.loop-inside-init
loop-inside-init c =
    let lowest-table' = c.lowest_table in
    (flood-start c.args.inside c.args.goal lowest-table'.result c.single-seen.result c.requires.2 lowest-table'.ensures c.single-seen.ensures, start-meets c.args.inside c.args.goal lowest-table'.result c.single-seen.result c.requires.2 lowest-table'.ensures c.single-seen.ensures, λ g n k. reached-start c.args.inside c.args.goal lowest-table'.result c.single-seen.result c.requires.2 lowest-table'.ensures c.single-seen.ensures g k)

pub returns-then-todo-eq0 : goal.returns-then-todo-eq0
returns-then-todo-eq0 c =
    let l = c.loop-inside in
    told-no _ l.invariant.0 l.invariant.2 l.invariant.1 c.if-todo-eq0.true (overlap-some c.args.goal (c.args.inside - l.seen) c.overlap.result c.overlap.ensures c.loop-inside-test.true)

pub lowest_table-t-requires : goal.lowest_table-t-requires
lowest_table-t-requires c = omega (arith, (flood-fits c.loop-inside.invariant.0).1, c.requires.1, c.if-todo-eq0.false)

pub overflow_sub-fresh : goal.overflow_sub-fresh
overflow_sub-fresh c =
    let l = c.loop-inside in
    omega (arith, table_fits l.todo c.lowest_table-t.result (omega (arith, (flood-fits l.invariant.0).1, c.requires.1)) c.lowest_table-t.ensures.stands)

pub offset_bounds-self-t : goal.offset_bounds-self-t
offset_bounds-self-t c =
    let l = c.loop-inside in
    omega (arith, table_fits l.todo c.lowest_table-t.result (omega (arith, (flood-fits l.invariant.0).1, c.requires.1)) c.lowest_table-t.ensures.stands)

pub bounds-self-t : goal.bounds-self-t
bounds-self-t c =
    let l = c.loop-inside in
    omega (arith, table_fits l.todo c.lowest_table-t.result (omega (arith, (flood-fits l.invariant.0).1, c.requires.1)) c.lowest_table-t.ensures.stands)

pub single-requires : goal.single-requires
single-requires c =
    let l = c.loop-inside in
    omega (arith, table_fits l.todo c.lowest_table-t.result (omega (arith, (flood-fits l.invariant.0).1, c.requires.1)) c.lowest_table-t.ensures.stands)

pub overflow_sub-todo : goal.overflow_sub-todo
overflow_sub-todo c = omega (arith, todo-some c.lowest_table-t.result 0 c.loop-inside.invariant.0 c.lowest_table-t.ensures.stands, c.single.ensures)

pub overflow_add-todo : goal.overflow_add-todo
overflow_add-todo c =
    let l = c.loop-inside in
    let lowest-table2' = c.lowest_table-t in
    omega (arith, (flood-fits l.invariant.0).1, fresh-fits lowest-table2'.result (at c.args.self.now.of lowest-table2'.result) l.invariant.0 lowest-table2'.ensures.stands, c.requires.1)

pub loop-inside-preserved : goal.loop-inside-preserved
loop-inside-preserved c =
    let l = c.loop-inside in
    let lowest-table2' = c.lowest_table-t in
    rw c.single.ensures (flood-step lowest-table2'.result (at c.args.self.now.of lowest-table2'.result) l.invariant.0 lowest-table2'.ensures.stands, still-meets lowest-table2'.result (at c.args.self.now.of lowest-table2'.result) l.invariant.0 lowest-table2'.ensures.stands c.args.goal l.invariant.1, λ g n k. reached-step lowest-table2'.result (at c.args.self.now.of lowest-table2'.result) l.invariant.0 lowest-table2'.ensures.stands g n k refl (l.invariant.2 g n k))

pub returns : goal.returns
returns c =
    let l = c.loop-inside in
    told-yes _ l.invariant.0 l.invariant.2 (overlap-none c.args.goal (c.args.inside - l.seen) c.overlap.result c.overlap.ensures c.loop-inside-test.false)

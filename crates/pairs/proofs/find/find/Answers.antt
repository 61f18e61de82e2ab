use Prim.Native.Nat.{◌+◌}
use native.Mathlib.Omega.{arith}
use lib.ListN.{get_or}
use Rattle.pairs.specs.Places.{Along, RowCells}
use Rattle.pairs.specs.LeafLaws.{walked_on, walked-found, walked_all}
use Rattle.pairs.specs.FindLaws.{Rowed, few_row, first_ready, inside_row, share_row, rowed, size_done, place_fits, done_fits, row_done, pair_found, none_left}
use Rattle.pairs.proofs.find.find.Goals as goal
use Rattle.pairs.proofs.find.find.Goals.{After-span_of-own}

-- what is known of the driving row that the loops are at
row : (c : After-span_of-own) → let f = c.args.footing.now in let wide = c.inner_at-wide.result in Rowed f.graph.now f.sets.now f.skips.now c.args.group c.args.share c.find.d c.loop-i.i c.loop-i.number wide (get_or f.starts.now wide 0) (get_or f.starts.now (wide + 1) 0) (get_or f.cells.now wide 0) c.first_of-first.result c.span_of-own.result
row c =
    let f = c.args.footing.now in
    rowed f.good f.laid c.requires.share_of c.loop-i.invariant.2 c.loop-i.invariant.0 c.loop-i-test.true c.first_of-first.ensures c.span_of-own.ensures

pub offset_bounds-footing-i : goal.offset_bounds-footing-i
offset_bounds-footing-i c =
    let f = c.args.footing.now in
    omega (arith, (few_row f.good f.laid c.requires.share_of c.loop-i.invariant.2 c.loop-i.invariant.0 c.loop-i-test.true).2)

pub bounds-footing-i : goal.bounds-footing-i
bounds-footing-i c =
    let f = c.args.footing.now in
    inside_row f.good f.laid c.requires.share_of c.loop-i.invariant.2 c.loop-i.invariant.0 c.loop-i-test.true

pub first_of-first-requires : goal.first_of-first-requires
first_of-first-requires c =
    let f = c.args.footing.now in
    first_ready f.good f.laid c.requires.share_of c.loop-i.invariant.2 c.loop-i.invariant.0 c.loop-i-test.true

pub span_of-own-requires : goal.span_of-own-requires
span_of-own-requires c =
    let f = c.args.footing.now in
    share_row f.good f.laid c.requires.share_of c.loop-i.invariant.2 c.loop-i.invariant.0 c.loop-i-test.true c.first_of-first.ensures

pub offset_bounds-footing-inner : goal.offset_bounds-footing-inner
offset_bounds-footing-inner c =
    let z = (row (goal.at.offset_bounds-footing-inner c).After-span_of-own).span-cells in
    omega (arith, (z.rows _ c.loop-inner.invariant.0.from c.loop-inner-test.true).early)

pub bounds-footing-inner : goal.bounds-footing-inner
bounds-footing-inner c =
    let z = (row (goal.at.bounds-footing-inner c).After-span_of-own).span-cells in
    (z.rows _ c.loop-inner.invariant.0.from c.loop-inner-test.true).inside

pub overflow_sub-place : goal.overflow_sub-place
overflow_sub-place c =
    let f = c.args.footing.now in
    let along = walked-found _ _ _ _ c.loop-inner.invariant.0 c.loop-inner-test.true c.joinable.ensures c.if-joinable.true in
    (place_fits f.good f.laid c.requires.share_of (row (goal.at.overflow_sub-place c).After-span_of-own) along c.loop-inner-test.true).0

pub overflow_add-place : goal.overflow_add-place
overflow_add-place c =
    let f = c.args.footing.now in
    let along = walked-found _ _ _ _ c.loop-inner.invariant.0 c.loop-inner-test.true c.joinable.ensures c.if-joinable.true in
    omega (arith, (place_fits f.good f.laid c.requires.share_of (row (goal.at.overflow_add-place c).After-span_of-own) along c.loop-inner-test.true).1)

pub onward-inner-requires-clause-row_cells : goal.onward-inner-requires-clause-row_cells
onward-inner-requires-clause-row_cells c =
    let z = (row (goal.at.onward-inner-requires-clause-row_cells c).After-span_of-own).span-cells in
    z.rows _ c.loop-inner.invariant.0.from c.loop-inner-test.true

pub onward-inner-requires-clause-stride : goal.onward-inner-requires-clause-stride
onward-inner-requires-clause-stride c =
    let z = (row (goal.at.onward-inner-requires-clause-stride c).After-span_of-own).span-cells in
    (z.some-step, z.few-step)

pub loop-inner-preserved : goal.loop-inner-preserved
loop-inner-preserved c =
    (walked_on _ _ _ _ c.loop-inner.invariant.0 c.joinable.ensures c.if-joinable.false c.onward-inner.ensures, c.loop-inner.invariant.1)

pub overflow_sub-number : goal.overflow_sub-number
overflow_sub-number c = (row (goal.at.overflow_sub-number c).After-span_of-own).first-end

pub overflow_add-number : goal.overflow_add-number
overflow_add-number c =
    let f = c.args.footing.now in
    let along = walked_all _ _ _ _ c.loop-inner.invariant.0 c.loop-inner-test.false in
    omega (arith, done_fits f.good f.laid c.requires.share_of (row (goal.at.overflow_add-number c).After-span_of-own) along c.loop-inner-test.false)

pub loop-i-preserved : goal.loop-i-preserved
loop-i-preserved c =
    let f = c.args.footing.now in
    let l = c.loop-i in
    let along = walked_all _ _ _ _ c.loop-inner.invariant.0 c.loop-inner-test.false in
    let r = row_done f.good f.laid c.requires.share_of (row (goal.at.loop-i-preserved c).After-span_of-own) along l.invariant.1 l.invariant.3 c.loop-inner-test.false in
    (l.invariant.0, r.0, r.1, r.2, c.loop-inner.invariant.1)

pub find-preserved : goal.find-preserved
find-preserved c =
    let f = c.args.footing.now in
    let l = c.loop-i in
    (l.invariant.1, size_done f.good f.laid c.requires.share_of l.invariant.2 l.invariant.0 c.loop-i-test.false, l.invariant.3, l.invariant.4)

pub returns-after-find : goal.returns-after-find
returns-after-find c =
    let f = c.args.footing.now in
    let l = c.find in
    rw l.invariant.3 (none_left f.graph.now f.sets.now f.skips.now f.starts.now f.cells.now f.laid f.good c.args.group c.args.share c.requires.share_of l.d l.from l.number c.args.ahead l.invariant.1 (omega arith) l.invariant.0 l.invariant.2)

pub returns-then-joinable : goal.returns-then-joinable
returns-then-joinable c =
    let f = c.args.footing.now in
    let along = walked-found _ _ _ _ c.loop-inner.invariant.0 c.loop-inner-test.true c.joinable.ensures c.if-joinable.true in
    pair_found f.good f.laid c.requires.share_of (row (goal.at.returns-then-joinable c).After-span_of-own) along c.loop-i.invariant.1 c.loop-i.invariant.3 c.loop-inner-test.true

use native.Mathlib.Omega.{arith}
use Rattle.pairs.specs.FindLaws.{share_on, row_on, from_next, cells_on, fits_on, found_on, none_on}
use Rattle.pairs.proofs.find.next_pair.Goals as goal

pub span_on-own-requires : goal.span_on-own-requires
span_on-own-requires c =
    let f = c.args.footing.now in
    share_on f.good f.laid c.requires.share_of c.requires.at c.inner_at-wide.ensures

pub offset_bounds-footing-spot : goal.offset_bounds-footing-spot
offset_bounds-footing-spot c =
    let f = c.args.footing.now in
    omega (arith, (row_on f.good f.laid c.requires.share_of c.requires.at c.inner_at-wide.ensures).1)

pub bounds-footing-spot : goal.bounds-footing-spot
bounds-footing-spot c =
    let f = c.args.footing.now in
    (row_on f.good f.laid c.requires.share_of c.requires.at c.inner_at-wide.ensures).0

pub along-next-requires : goal.along-next-requires
along-next-requires c =
    let f = c.args.footing.now in
    cells_on f.good f.laid c.requires.share_of c.requires.at c.inner_at-wide.ensures c.span_on-own.ensures

pub overflow_sub-result : goal.overflow_sub-result
overflow_sub-result c =
    let f = c.args.footing.now in
    omega (arith, (fits_on f.good f.laid c.requires.share_of c.requires.at c.inner_at-wide.ensures c.span_on-own.ensures c.along-next.ensures c.if-next-own.true).0)

pub overflow_add-result : goal.overflow_add-result
overflow_add-result c =
    let f = c.args.footing.now in
    omega (arith, (fits_on f.good f.laid c.requires.share_of c.requires.at c.inner_at-wide.ensures c.span_on-own.ensures c.along-next.ensures c.if-next-own.true).1)

pub returns-then-next-own : goal.returns-then-next-own
returns-then-next-own c =
    let f = c.args.footing.now in
    found_on f.good f.laid c.requires.share_of c.requires.at c.inner_at-wide.ensures c.span_on-own.ensures c.along-next.ensures c.if-next-own.true

pub overflow_add-spot : goal.overflow_add-spot
overflow_add-spot c =
    let f = c.args.footing.now in
    omega (arith, (row_on f.good f.laid c.requires.share_of c.requires.at c.inner_at-wide.ensures).1)

pub overflow_add-number : goal.overflow_add-number
overflow_add-number c =
    let f = c.args.footing.now in
    omega (arith, (row_on f.good f.laid c.requires.share_of c.requires.at c.inner_at-wide.ensures).2)

pub find-requires-clause-row_from : goal.find-requires-clause-row_from
find-requires-clause-row_from c =
    let f = c.args.footing.now in
    from_next f.good f.laid c.requires.share_of c.requires.at c.inner_at-wide.ensures

pub returns : goal.returns
returns c =
    let f = c.args.footing.now in
    none_on f.good f.laid c.requires.share_of c.requires.at c.inner_at-wide.ensures c.span_on-own.ensures c.along-next.ensures c.if-next-own.false c.find.ensures

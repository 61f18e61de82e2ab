use native.Mathlib.Omega.{arith}
use Rattle.rules.specs.laws.Bools.{not-both}
use Rattle.pairs.specs.GroundLaws.{at-number}
use Rattle.pairs.specs.LeftLaws.{some-left}
use Rattle.pairs.specs.PlaceLaws.{memo-few, met-few}
use Rattle.turns.specs.StepLaws.{set_at, estimate-at, driving-inside, inner-inside, seek-ready, row_inside, estimates-fit, cost-bounds, apart, handing, inner-ready-at, sum_is, top-known}
use Rattle.turns.specs.Taken.{board-by}
use Rattle.turns.proofs.turn.step.Goals as goal

pub offset_bounds-footing-spot : goal.offset_bounds-footing-spot
offset_bounds-footing-spot c =
    let b = board-by c.args.setting.now c.requires.open in
    let r = c.requires.ready in
    let at = c.in-Some.is in
    omega (arith, driving-inside b r at, memo-few _ b.graph)

pub bounds-footing-spot : goal.bounds-footing-spot
bounds-footing-spot c =
    let b = board-by c.args.setting.now c.requires.open in
    let r = c.requires.ready in
    let at = c.in-Some.is in
    (set_at b _ (driving-inside b r at)).0

pub offset_bounds-setting-spot : goal.offset_bounds-setting-spot
offset_bounds-setting-spot c =
    let b = board-by c.args.setting.now c.requires.open in
    let r = c.requires.ready in
    let at = c.in-Some.is in
    omega (arith, driving-inside b r at, memo-few _ b.graph)

pub bounds-setting-spot : goal.bounds-setting-spot
bounds-setting-spot c =
    let b = board-by c.args.setting.now c.requires.open in
    let r = c.requires.ready in
    let at = c.in-Some.is in
    (estimate-at b _ (driving-inside b r at)).0

pub offset_bounds-footing-spot-2 : goal.offset_bounds-footing-spot-2
offset_bounds-footing-spot-2 c =
    let b = board-by c.args.setting.now c.requires.open in
    let r = c.requires.ready in
    let at = c.in-Some.is in
    omega (arith, inner-inside b r at, memo-few _ b.graph)

pub bounds-footing-spot-2 : goal.bounds-footing-spot-2
bounds-footing-spot-2 c =
    let b = board-by c.args.setting.now c.requires.open in
    let r = c.requires.ready in
    let at = c.in-Some.is in
    (set_at b _ (inner-inside b r at)).0

pub offset_bounds-setting-spot-2 : goal.offset_bounds-setting-spot-2
offset_bounds-setting-spot-2 c =
    let b = board-by c.args.setting.now c.requires.open in
    let r = c.requires.ready in
    let at = c.in-Some.is in
    omega (arith, inner-inside b r at, memo-few _ b.graph)

pub bounds-setting-spot-2 : goal.bounds-setting-spot-2
bounds-setting-spot-2 c =
    let b = board-by c.args.setting.now c.requires.open in
    let r = c.requires.ready in
    let at = c.in-Some.is in
    (estimate-at b _ (inner-inside b r at)).0

pub inner_at-requires : goal.inner_at-requires
inner_at-requires c =
    let b = board-by c.args.setting.now c.requires.open in
    let r = c.requires.ready in
    let at = c.in-Some.is in
    inner-ready-at (r.waits.there _ at).0

pub overflow_add-sought-2 : goal.overflow_add-sought-2
overflow_add-sought-2 c =
    let b = board-by c.args.setting.now c.requires.open in
    let r = c.requires.ready in
    let at = c.in-Some.is in
    omega (arith, (seek-ready b r at _ (sum_is c.in-Some.spot.size c.inner_at.ensures)).2)

pub invariant_of-sought : goal.invariant_of-sought
invariant_of-sought c =
    let b = board-by c.args.setting.now c.requires.open in
    let r = c.requires.ready in
    let at = c.in-Some.is in
    record { rows = seek-ready b r at _ (sum_is c.in-Some.spot.size c.inner_at.ensures) }

pub offset_bounds-columns-spot : goal.offset_bounds-columns-spot
offset_bounds-columns-spot c =
    let b = board-by c.args.setting.now c.requires.open in
    let r = c.requires.ready in
    let at = c.in-Some.is in
    omega (arith, driving-inside b r at, memo-few _ b.graph)

pub bounds-columns-spot : goal.bounds-columns-spot
bounds-columns-spot c =
    let b = board-by c.args.setting.now c.requires.open in
    let r = c.requires.ready in
    let at = c.in-Some.is in
    omega (arith, driving-inside b r at, b.reach.costs)

pub offset_bounds-columns-spot-2 : goal.offset_bounds-columns-spot-2
offset_bounds-columns-spot-2 c =
    let b = board-by c.args.setting.now c.requires.open in
    let r = c.requires.ready in
    let at = c.in-Some.is in
    omega (arith, driving-inside b r at, inner-inside b r at, memo-few _ b.graph)

pub bounds-columns-spot-2 : goal.bounds-columns-spot-2
bounds-columns-spot-2 c =
    let b = board-by c.args.setting.now c.requires.open in
    let r = c.requires.ready in
    let at = c.in-Some.is in
    omega (arith, driving-inside b r at, inner-inside b r at, b.reach.costs)

pub overflow_add-base : goal.overflow_add-base
overflow_add-base c =
    let b = board-by c.args.setting.now c.requires.open in
    let r = c.requires.ready in
    let at = c.in-Some.is in
    omega (arith, cost-bounds b r at)

pub offset_bounds-setting-row : goal.offset_bounds-setting-row
offset_bounds-setting-row c =
    let b = board-by c.args.setting.now c.requires.open in
    let r = c.requires.ready in
    let at = c.in-Some.is in
    omega (arith, row_inside b r at _ (sum_is c.in-Some.spot.size c.inner_at.ensures) _ c.seek-row.ensures, memo-few _ b.graph)

pub bounds-setting-row : goal.bounds-setting-row
bounds-setting-row c =
    let b = board-by c.args.setting.now c.requires.open in
    let r = c.requires.ready in
    let at = c.in-Some.is in
    (estimate-at b _ (row_inside b r at _ (sum_is c.in-Some.spot.size c.inner_at.ensures) _ c.seek-row.ensures)).0

pub price-choice-requires-clause-estimates : goal.price-choice-requires-clause-estimates
price-choice-requires-clause-estimates c =
    let b = board-by c.args.setting.now c.requires.open in
    let r = c.requires.ready in
    let at = c.in-Some.is in
    estimates-fit b r at _ (sum_is c.in-Some.spot.size c.inner_at.ensures) _ c.seek-row.ensures

pub price-choice-requires-clause-base_bound : goal.price-choice-requires-clause-base_bound
price-choice-requires-clause-base_bound c =
    let b = board-by c.args.setting.now c.requires.open in
    let r = c.requires.ready in
    let at = c.in-Some.is in
    omega (arith, cost-bounds b r at)

pub price-choice-requires-clause-different : goal.price-choice-requires-clause-different
price-choice-requires-clause-different c =
    let b = board-by c.args.setting.now c.requires.open in
    let r = c.requires.ready in
    let at = c.in-Some.is in
    apart b r at

pub keep-cost-requires : goal.keep-cost-requires
keep-cost-requires c =
    let b = board-by c.args.setting.now c.requires.open in
    let r = c.requires.ready in
    let at = c.in-Some.is in
    let l = row_inside b r at _ (sum_is c.in-Some.spot.size c.inner_at.ensures) _ c.seek-row.ensures in
    let d = driving-inside b r at in
    (omega (arith, l, d, b.reach.costs), omega (arith, l, d, b.reach.outers), omega (arith, l, d, b.reach.methods))

pub next_pair-next-requires-clause-at : goal.next_pair-next-requires-clause-at
next_pair-next-requires-clause-at c =
    let b = board-by c.args.setting.now c.requires.open in
    let r = c.requires.ready in
    let at = c.in-Some.is in
    r.waits.there _ at

pub overflow_add-worker : goal.overflow_add-worker
overflow_add-worker c =
    let b = board-by c.args.setting.now c.requires.open in
    let r = c.requires.ready in
    let at = c.in-Some.is in
    omega (arith, r.handed, (at-number _ _ _ _ (r.waits.there _ at).0).0, met-few _ b.graph _ b.fit, top-known (r.waits.there _ at).0, b.graph.few-tables)

pub returns-clause-taken : goal.returns-clause-taken
returns-clause-taken c =
    let b = board-by c.args.setting.now c.requires.open in
    let r = c.requires.ready in
    let at = c.in-Some.is in
    let k = c.keep-cost.ensures in
    record {
      none = λ e. absurd (not-both _ (some-left c.args.worker.now.place at) e);
      some = λ _. handing b r at _ (sum_is c.in-Some.spot.size c.inner_at.ensures) _ c.seek-row.ensures c.price-choice.result c.price-choice.ensures k.cost (λ t. record { costs = k.row.costs t; outers = k.row.outers t; methods = k.row.methods t }) _ c.next_pair-next.ensures;
    }

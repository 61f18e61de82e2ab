use Rattle.std.proofs.Common.{rules, tests, arith, ◌≡◌, Ok, ◌<◌, length, take}
use Rattle.std.proofs.lemmas.Result.{err_from_is_err_and}
use Rattle.fields.specs.KindLaws.{good-fits}
use Rattle.fields.specs.Recorded.{Judged}
use Rattle.reader.specs.Records.{lists_of}
use Rattle.reader.specs.LoopLaws.{read-unfit, reads-start, Refuses, read-refused, reads-next, read-crew, read-uncrewed, line-in}
use Rattle.reader.proofs.reading.read.Goals as goal

pub returns-then-is_unfit-clause-read : goal.returns-then-is_unfit-clause-read
returns-then-is_unfit-clause-read c = read-unfit c.args.text.now c.default-progress.result (search rules) _ c.is_unfit.ensures (lists_of c.args.columns.now) c.at.result c.if-is_unfit.true c.at.ensures

pub loop-rest-init : goal.loop-rest-init
loop-rest-init c = (reads-start c.args.text.now c.default-progress.result (search rules) _ c.is_unfit.ensures (lists_of c.args.columns.now) c.if-is_unfit.false, search rules)

pub returns-in_err-entry-clause-read : goal.returns-in_err-entry-clause-read
returns-in_err-entry-clause-read c =
    let l : 0 < length c.loop-rest.rest.now = search (rules, tests) in
    let m : Refuses c.loop-rest.invariant.0 l c.span_to-end.result c.span_to-end.ensures.0 c.judge.result c.map_err.result = search (rules, tests) in
    let p = err_from_is_err_and c.from_residual.result c.from_residual.ensures.1 in
    rw (p.1, p.2) (read-refused c.loop-rest.invariant.0 l c.span_to-end.result c.span_to-end.ensures.0 c.judge.result c.map_err.result _ c.judge.ensures m c.in_err-entry.was)

pub slice_bounds-rest-count : goal.slice_bounds-rest-count
slice_bounds-rest-count c = let p : 0 < length c.loop-rest.rest.now = search (rules, tests) in omega (arith, line-in c.loop-rest.invariant.0 p c.span_to-end.result c.span_to-end.ensures.0)

pub slice_bounds-rest-start : goal.slice_bounds-rest-start
slice_bounds-rest-start c = let p : 0 < length c.loop-rest.rest.now = search (rules, tests) in omega (arith, line-in c.loop-rest.invariant.0 p c.span_to-end.result c.span_to-end.ensures.0)

pub store-progress-requires-clause-fits : goal.store-progress-requires-clause-fits
store-progress-requires-clause-fits c =
    let e : c.judge.result ≡ Ok c.in_ok-entry.entry = grind arith in
    let j : Judged c.loop-rest.progress (take c.span_to-end.result c.loop-rest.rest.now) (Ok c.in_ok-entry.entry) = rw e at c.judge.ensures in
    good-fits c.loop-rest.progress j.0 j.1

pub loop-rest-preserved : goal.loop-rest-preserved
loop-rest-preserved c =
    let p : 0 < length c.loop-rest.rest.now = search (rules, tests) in
    let e : c.judge.result ≡ Ok c.in_ok-entry.entry = grind arith in
    (reads-next c.loop-rest.invariant.0 p c.span_to-end.result c.span_to-end.ensures.0 (rw e at c.judge.ensures) c.store-progress.ensures.stored, search (rules, tests))

pub returns-then-progress-stage_of-clause-read : goal.returns-then-progress-stage_of-clause-read
returns-then-progress-stage_of-clause-read c = read-uncrewed c.loop-rest.invariant.0 c.at-then-progress-stage_of.result (search (rules, tests)) (search (rules, tests)) c.at-then-progress-stage_of.ensures

pub returns-clause-read : goal.returns-clause-read
returns-clause-read c = read-crew c.loop-rest.invariant.0 (search (rules, tests)) (search (rules, tests))

use Rattle.std.proofs.Common.{◌≡◌, refl, sym, ap, ◌∙◌, ◌-◌, List, ℕ, get_or}
use Rattle.std.proofs.lemmas.Result.{err_from_is_err_and}
use Rattle.rules.specs.Verdict.{Verdict, none}
use Rattle.rules.specs.Refusals.{Input, first_of, checks, checks_of, memo_lengths, log_lengths}
use Rattle.query.specs.Lists.{query_of}
use Rattle.planner.specs.Plans.{memory_of, input_of}
use Rattle.planner.specs.PlanLaws.{checks-are, lay-ready, planned-checks, planned-rooms, relaid, redone, search-ready, rates-ready, log-fits, rows-some, rows_fit, last-in, planned-given}
use Rattle.planner.proofs.plan.Goals as goal
use Rattle.planner.proofs.plan.Goals.{Start}

-- what it was given
abbrev input : Start → Input
input s =
    input_of (query_of s.args.rows.now s.args.scans.now s.args.left.now s.args.right.now s.args.divisors.now s.args.fixed.now s.args.per_outer.now s.args.per_inner.now s.args.per_result.now) s.args.workers s.args.scheme s.args.turns.now
    (memory_of s.args.sets.now s.args.estimates.now s.args.costs.now s.args.outers.now s.args.methods.now s.args.skips.now s.args.log_workers.now s.args.log_driving.now s.args.log_inner.now s.args.log_costs.now)

-- past the checks: none refuses
passed : (i : Input) → none ≡ first_of (checks_of i.query i.workers i.scheme i.turns (memo_lengths i.lent) (log_lengths i.lent)) → (first_of (checks i)).number ≡ 0
passed i e = sym (ap (λ (x : Verdict). x.number) (e ∙ checks-are i))

pub returns-in_err-crew : goal.returns-in_err-crew
returns-in_err-crew c =
    let i = input (goal.at.returns-in_err-crew c).Start in
    let p = err_from_is_err_and c.from_residual.result c.from_residual.ensures.1 in
    rw (p.1, p.2) (planned-checks i c.in_err-crew.field-0.0 (c.in_err-crew.ensures.verdict ∙ checks-are i) refl)

pub invariant_of-graph : goal.invariant_of-graph
invariant_of-graph c = let i = input (goal.at.invariant_of-graph c).Start in (lay-ready i (passed i c.in_ok-crew.ensures.verdict)).0

pub lay_out-requires : goal.lay_out-requires
lay_out-requires c = let i = input (goal.at.lay_out-requires c).Start in (lay-ready i (passed i c.in_ok-crew.ensures.verdict)).1

pub returns-in_err-laid : goal.returns-in_err-laid
returns-in_err-laid c =
    let i = input (goal.at.returns-in_err-laid c).Start in
    let p = err_from_is_err_and c.from_residual-in_err-laid.result c.from_residual-in_err-laid.ensures.1 in
    let k = c.in_err-laid.ensures.same in
    let z = relaid (c.sets-1.given.1.1 (sym k.sets)) (c.estimates-1.given.1.1 (sym k.estimates)) (c.costs-1.given.1.1 (sym k.costs)) (c.outers-1.given.1.1 (sym k.outers)) (c.methods-1.given.1.1 (sym k.methods)) (c.skips-1.given.1.1 (sym k.skips)) c.in_err-laid.ensures.laid in
    rw (p.1, p.2) (planned-rooms i c.in_err-laid.field-0.0 (passed i c.in_ok-crew.ensures.verdict) z (λ q t. memory_of (q t).sets (q t).estimates (q t).costs (q t).outers (q t).methods (q t).skips i.lent.log_workers i.lent.log_driving i.lent.log_inner i.lent.log_costs))

pub invariant_of-rates : goal.invariant_of-rates
invariant_of-rates c = let i = input (goal.at.invariant_of-rates c).Start in record { methods = rates-ready i (passed i c.in_ok-crew.ensures.verdict) }

pub invariant_of-log : goal.invariant_of-log
invariant_of-log c = let i = input (goal.at.invariant_of-log c).Start in record { fits = log-fits i (passed i c.in_ok-crew.ensures.verdict) }

pub search-found-requires : goal.search-found-requires
search-found-requires c =
    let i = input (goal.at.search-found-requires c).Start in
    let k = c.in_ok-laid.ensures.same in
    let z = relaid (c.sets-1.given.1.1 (sym k.sets)) (c.estimates-1.given.1.1 (sym k.estimates)) (c.costs-1.given.1.1 (sym k.costs)) (c.outers-1.given.1.1 (sym k.outers)) (c.methods-1.given.1.1 (sym k.methods)) (c.skips-1.given.1.1 (sym k.skips)) c.in_ok-laid.ensures.laid in
    search-ready i (passed i c.in_ok-crew.ensures.verdict) z c.in_ok-crew.ensures.crew

pub overflow_sub-best : goal.overflow_sub-best
overflow_sub-best c = let i = input (goal.at.overflow_sub-best c).Start in rows-some i (passed i c.in_ok-crew.ensures.verdict) c.in_ok-laid.ensures.laid

pub bounds-columns-laid : goal.bounds-columns-laid
bounds-columns-laid c =
    let i = input (goal.at.bounds-columns-laid c).Start in
    let e = passed i c.in_ok-crew.ensures.verdict in
    let k = c.in_ok-laid.ensures.same in
    let z = relaid (c.sets-1.given.1.1 (sym k.sets)) (c.estimates-1.given.1.1 (sym k.estimates)) (c.costs-1.given.1.1 (sym k.costs)) (c.outers-1.given.1.1 (sym k.outers)) (c.methods-1.given.1.1 (sym k.methods)) (c.skips-1.given.1.1 (sym k.skips)) c.in_ok-laid.ensures.laid in
    last-in (rows-some i e z) (rows_fit i e z) c.search-found.ensures.done.kept.costs.length-kept

pub returns : goal.returns
returns c =
    let i = input (goal.at.returns c).Start in
    let e = passed i c.in_ok-crew.ensures.verdict in
    let k = c.in_ok-laid.ensures.same in
    let z = relaid (c.sets-1.given.1.1 (sym k.sets)) (c.estimates-1.given.1.1 (sym k.estimates)) (c.costs-1.given.1.1 (sym k.costs)) (c.outers-1.given.1.1 (sym k.outers)) (c.methods-1.given.1.1 (sym k.methods)) (c.skips-1.given.1.1 (sym k.skips)) c.in_ok-laid.ensures.laid in
    let f = c.search-found.ensures.same in
    let costs = c.costs-2-1.given.1.1 (sym f.columns.costs) in
    let d = redone costs (c.outers-2-1.given.1.1 (sym f.columns.outers)) (c.methods-2-1.given.1.1 (sym f.columns.methods)) (c.log_workers-1.given.1.1 (sym f.log.workers)) (c.log_driving-1.given.1.1 (sym f.log.driving)) (c.log_inner-1.given.1.1 (sym f.log.inner)) (c.log_costs-1.given.1.1 (sym f.log.costs)) c.search-found.ensures.done in
    planned-given i e z c.in_ok-crew.ensures.crew _ _ d refl refl refl (ap (λ (l : List ℕ). get_or l (c.in_ok-laid.laid.rows - 1) 0) (sym costs)) refl refl

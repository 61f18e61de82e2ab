use Rattle.std.proofs.Common.{refl, ap, not, length, ◌*◌, ◌%◌, ◌^◌, ◌-◌}
use Rattle.std.proofs.lemmas.Result.{err_from_is_err_and}
use borrow.Author.Tests.{not-true, not-false}
use Rattle.rules.specs.Query.{Graph}
use Rattle.rules.specs.Verdict.{none, told}
use Rattle.query.specs.Lists.{query_in}
use Rattle.refusals.specs.CheckLaws.{full-some, full_is, graph-edges, graph-apart, graph-whole, good-graph, some-number}
use Rattle.refusals.proofs.check_graph.Goals as goal

pub returns-in_err-first_bad_edge : goal.returns-in_err-first_bad_edge
returns-in_err-first_bad_edge c =
    let e = c.in_err-first_bad_edge.field-0.0 in
    let p = err_from_is_err_and c.from_residual.result c.from_residual.ensures.1 in
    rw (p.1, p.2) (graph-edges (query_in c.args.query.now).graph (told e) c.in_err-first_bad_edge.ensures (some-number e.reason))

pub overflow_sub-full : goal.overflow_sub-full
overflow_sub-full c = full-some (length c.args.query.now.rows.now) c.requires.few-tables

pub invariant_of-graph : goal.invariant_of-graph
invariant_of-graph c = good-graph (query_in c.args.query.now).graph none c.in_ok-first_bad_edge.ensures c.requires refl

pub returns-then-not-connected : goal.returns-then-not-connected
returns-then-not-connected c =
    let n = length c.args.query.now.rows.now in
    rw c.at.ensures (graph-apart (query_in c.args.query.now).graph none c.in_ok-first_bad_edge.ensures refl (1 * 2 ^ n % 2 ^ 64 - 1) (full_is n c.requires.few-tables) c.connected.result c.connected.ensures (not-true _ (ap not c.if-not-connected.true)))

pub returns : goal.returns
returns c =
    let n = length c.args.query.now.rows.now in
    graph-whole (query_in c.args.query.now).graph none c.in_ok-first_bad_edge.ensures refl (1 * 2 ^ n % 2 ^ 64 - 1) (full_is n c.requires.few-tables) c.connected.result c.connected.ensures (not-false _ (ap not c.if-not-connected.false))

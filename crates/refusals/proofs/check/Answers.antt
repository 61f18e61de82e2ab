use Rattle.std.proofs.Common.{refl, ap, not}
use Rattle.std.proofs.lemmas.Result.{err_from_is_err_and}
use Rattle.rules.specs.Verdict.{none, told, verdict_of}
use Rattle.query.specs.Lists.{query_in}
use Rattle.refusals.specs.CheckLaws.{same-query, tables-good, check-lengths, check-tables, check-methods, check-graph, check-crew, some-number}
use Rattle.refusals.proofs.check.Goals as goal

pub returns-then-not-same_lengths-clause-verdict : goal.returns-then-not-same_lengths-clause-verdict
returns-then-not-same_lengths-clause-verdict c =
    let a = c.args in
    let f = c.same_lengths in
    rw c.at.ensures (check-lengths (query_in a.query.now) a.workers a.scheme a.turns.now a.lent.now.memo a.lent.now.log f.result f.ensures (ap not c.if-not-same_lengths.true))

pub check_tables-requires : goal.check_tables-requires
check_tables-requires c =
    let a = c.args in
    let f = c.same_lengths in
    (same-query (query_in a.query.now) a.lent.now.memo a.lent.now.log f.result f.ensures (ap not c.if-not-same_lengths.false)).scans

pub returns-in_err-check_tables-clause-verdict : goal.returns-in_err-check_tables-clause-verdict
returns-in_err-check_tables-clause-verdict c =
    let a = c.args in
    let f = c.same_lengths in
    let e = c.in_err-check_tables.field-0.0 in
    let p = err_from_is_err_and c.from_residual.result c.from_residual.ensures.1 in
    rw (p.1, p.2) (check-tables (query_in a.query.now) a.workers a.scheme a.turns.now a.lent.now.memo a.lent.now.log f.result f.ensures (ap not c.if-not-same_lengths.false) (told e) c.in_err-check_tables.ensures (some-number e.reason))

pub check_methods-requires : goal.check_methods-requires
check_methods-requires c =
    let a = c.args in
    let f = c.same_lengths in
    let s = same-query (query_in a.query.now) a.lent.now.memo a.lent.now.log f.result f.ensures (ap not c.if-not-same_lengths.false) in
    (s.outer, s.inner, s.result)

pub returns-in_err-check_methods-clause-verdict : goal.returns-in_err-check_methods-clause-verdict
returns-in_err-check_methods-clause-verdict c =
    let a = c.args in
    let f = c.same_lengths in
    let e = c.in_err-check_methods.field-0.0 in
    let p = err_from_is_err_and c.from_residual-in_err-check_methods.result c.from_residual-in_err-check_methods.ensures.1 in
    rw (p.1, p.2) (check-methods (query_in a.query.now) a.workers a.scheme a.turns.now a.lent.now.memo a.lent.now.log f.result f.ensures (ap not c.if-not-same_lengths.false) none c.in_ok-check_tables.ensures refl (told e) c.in_err-check_methods.ensures (some-number e.reason))

pub check_graph-requires : goal.check_graph-requires
check_graph-requires c =
    let a = c.args in
    let f = c.same_lengths in
    tables-good (query_in a.query.now) (same-query (query_in a.query.now) a.lent.now.memo a.lent.now.log f.result f.ensures (ap not c.if-not-same_lengths.false)) none c.in_ok-check_tables.ensures refl

pub returns-in_err-check_graph-clause-verdict : goal.returns-in_err-check_graph-clause-verdict
returns-in_err-check_graph-clause-verdict c =
    let a = c.args in
    let f = c.same_lengths in
    let e = c.in_err-check_graph.field-0.0 in
    let p = err_from_is_err_and c.from_residual-in_err-check_graph.result c.from_residual-in_err-check_graph.ensures.1 in
    rw (p.1, p.2) (check-graph (query_in a.query.now) a.workers a.scheme a.turns.now a.lent.now.memo a.lent.now.log f.result f.ensures (ap not c.if-not-same_lengths.false) none c.in_ok-check_tables.ensures refl none c.in_ok-check_methods.ensures refl (told e) c.in_err-check_graph.ensures (some-number e.reason))

pub returns-clause-verdict : goal.returns-clause-verdict
returns-clause-verdict c =
    let a = c.args in
    let f = c.same_lengths in
    check-crew (query_in a.query.now) a.workers a.scheme a.turns.now a.lent.now.memo a.lent.now.log f.result f.ensures (ap not c.if-not-same_lengths.false) none c.in_ok-check_tables.ensures refl none c.in_ok-check_methods.ensures refl none c.in_ok-check_graph.ensures (verdict_of c.check_crew.result) c.check_crew.ensures.verdict refl

use Rattle.std.proofs.Common.{◌∙◌, sym, ap, true, false}
use Rattle.rules.specs.Kinds.{edge_number}
use Rattle.rules.specs.Query.{graph_of}
use Rattle.refusals.specs.CheckLaws.{edge-fault, edge-good}
use Rattle.refusals.proofs.check_edge.Goals as goal

pub returns-in-Err : goal.returns-in-Err
returns-in-Err c =
    let a = c.args in
    c.reason_of.ensures ∙ edge-fault (graph_of a.rows.now a.left.now a.right.now a.divisors.now) a.i c.new.result c.new.ensures c.in-Err.fault c.in-Err.is

pub returns-then-repeats : goal.returns-then-repeats
returns-then-repeats c =
    let a = c.args in
    edge-good (graph_of a.rows.now a.left.now a.right.now a.divisors.now) a.i c.new.result c.new.ensures true (ap edge_number c.in_default.is) (sym c.if-repeats.true ∙ c.repeats.ensures)

pub returns : goal.returns
returns c =
    let a = c.args in
    edge-good (graph_of a.rows.now a.left.now a.right.now a.divisors.now) a.i c.new.result c.new.ensures false (ap edge_number c.in_default.is) (sym c.if-repeats.false ∙ c.repeats.ensures)

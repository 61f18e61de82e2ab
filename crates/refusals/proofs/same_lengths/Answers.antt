use Rattle.query.specs.Lists.{query_in}
use Rattle.refusals.specs.CheckLaws.{parts-not, parts-on}
use Rattle.refusals.proofs.same_lengths.Goals as goal

pub returns-then-query_lists_fit : goal.returns-then-query_lists_fit
returns-then-query_lists_fit c =
    let a = c.args in
    parts-on (query_in a.query.now) a.lent.now.memo a.lent.now.log c.query_lists_fit.result c.query_lists_fit.ensures c.if-query_lists_fit.true c.lent_columns_fit.result c.lent_columns_fit.ensures

pub returns-else-query_lists_fit : goal.returns-else-query_lists_fit
returns-else-query_lists_fit c =
    let a = c.args in
    parts-not (query_in a.query.now) a.lent.now.memo a.lent.now.log c.query_lists_fit.result c.query_lists_fit.ensures c.if-query_lists_fit.false

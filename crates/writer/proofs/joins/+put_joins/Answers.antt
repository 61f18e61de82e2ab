use Rattle.writer.specs.PlanLaws.{row-stands, step_fits, few-tables, scan-put, outer-less, inner-less, outer-fits, inner-fits, own-fits, join-put}
use Rattle.writer.proofs.joins.+put_joins.Goals as goal

pub row_of-row-requires : goal.row_of-row-requires
row_of-row-requires t c = row-stands c.requires.1 c.requires.2

pub step_of-requires : goal.step_of-requires
step_of-requires t c = step_fits c.requires.1 c.row_of-row.result c.row_of-row.ensures.0 c.row_of-row.ensures.1 c.requires.2

pub put_joins-requires : goal.put_joins-requires
put_joins-requires t c =
    (outer-less c.requires.1 c.row_of-row.result c.row_of-row.ensures.0 c.row_of-row.ensures.1 c.step_of.ensures c.in-Join.is t c.decreases c.requires.2, (c.requires.0, c.requires.1, outer-fits c.requires.1 c.row_of-row.result c.row_of-row.ensures.0 c.row_of-row.ensures.1 c.step_of.ensures c.in-Join.is c.requires.2))

pub put_joins-requires-in-Join : goal.put_joins-requires-in-Join
put_joins-requires-in-Join t c =
    (inner-less c.requires.1 c.row_of-row.result c.row_of-row.ensures.0 c.row_of-row.ensures.1 c.step_of.ensures c.in-Join.is t c.decreases c.requires.2, (c.requires.0, c.requires.1, inner-fits c.requires.1 c.row_of-row.result c.row_of-row.ensures.0 c.row_of-row.ensures.1 c.step_of.ensures c.in-Join.is (c.put_joins.ensures c.requires.0 c.requires.1) c.requires.2))

pub put_join-requires : goal.put_join-requires
put_join-requires t c =
    (own-fits c.requires.1 c.row_of-row.result c.row_of-row.ensures.0 c.row_of-row.ensures.1 c.step_of.ensures c.in-Join.is (c.put_joins.ensures c.requires.0 c.requires.1) (c.put_joins-in-Join.ensures c.requires.0 c.requires.1) c.requires.2, few-tables c.requires.1)

pub returns-in-Scan : goal.returns-in-Scan
returns-in-Scan t c = λ q k tree p f. scan-put k c.row_of-row.result c.row_of-row.ensures.0 c.row_of-row.ensures.1 c.step_of.ensures c.in-Scan.is c.args.line.now tree p f

pub returns-in-Join : goal.returns-in-Join
returns-in-Join t c = λ q k tree p f. join-put k c.row_of-row.result c.row_of-row.ensures.0 c.row_of-row.ensures.1 c.step_of.ensures c.in-Join.is (c.put_joins.ensures q k) (c.put_joins-in-Join.ensures q k) c.put_join.ensures tree p f

use Rattle.std.proofs.Common.{rules}
use Rattle.rules.specs.Refusals.{bad_table}
use Rattle.refusals.specs.CheckLaws.{table-number}
use Rattle.refusals.proofs.first_bad_table.Goals as goal

pub returns : goal.returns
returns c = c.first_bad.ensures (bad_table c.args.rows.now c.args.scans.now) (λ i r l h. search (rules, table-number))

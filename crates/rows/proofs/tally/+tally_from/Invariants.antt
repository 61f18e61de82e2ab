use Rattle.std.proofs.Common.{◌+◌, ◌-◌}
use Rattle.rows.proofs.tally.+tally_from.Given as goal

abbrev pub decreases-tally_from : goal.decreases-tally_from
decreases-tally_from l = l.near.now.tables + 1 - l.t

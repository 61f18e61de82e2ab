use Rattle.std.proofs.Common.{◌+◌, ◌-◌}
use Rattle.fill.proofs.+fill_from.Given as goal

abbrev pub decreases-fill_from : goal.decreases-fill_from
decreases-fill_from l = l.near.now.tables + 1 - l.t

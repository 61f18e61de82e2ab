-- A log as its lent columns hold it.
use Rattle.std.specs.Prelude.{◌≡◌}
use Rattle.rules.specs.Refusals.{Memory}
use Rattle.crew.specs.declared.log.Log.{Log}
use Rattle.crew.specs.Logs.{log_of}

-- the log as memory
abbrev pub memory_of : Log → Memory
memory_of l = log_of l.workers.now l.driving.now l.inner.now l.costs.now

-- two logs are of the same lent columns
pub record SameColumns (l l' : Log) : Type 0 where
  pub workers : l.workers.ghost_name ≡ l'.workers.ghost_name
  pub driving : l.driving.ghost_name ≡ l'.driving.ghost_name
  pub inner : l.inner.ghost_name ≡ l'.inner.ghost_name
  pub costs : l.costs.ghost_name ≡ l'.costs.ghost_name

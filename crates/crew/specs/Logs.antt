-- The log, and one entry more.
use Rattle.std.specs.Prelude.{◌≡◌, List, [], ℕ, ◌+◌, length, set, Option, Some, None}
use Rattle.rules.specs.Refusals.{Memory}
use Rattle.crew.specs.declared.Handed as code

-- the four columns of a log, as memory
abbrev pub log_of : List ℕ → List ℕ → List ℕ → List ℕ → Memory
log_of workers driving inner costs = record { sets = []; estimates = []; costs = []; outers = []; methods = []; skips = []; log_workers = workers; log_driving = driving; log_inner = inner; log_costs = costs }

-- the log with entry j anew, where it has room for it
abbrev pub noted : Memory → ℕ → ℕ → code.Handed → Memory
noted l j w p = log_of (set l.log_workers j w) (set l.log_driving j p.driving) (set l.log_inner j p.inner) (set l.log_costs j p.cost)

-- two memories have the same log
pub record SameLog (l l' : Memory) : Type 0 where
  pub workers : l.log_workers ≡ l'.log_workers
  pub driving : l.log_driving ≡ l'.log_driving
  pub inner : l.log_inner ≡ l'.log_inner
  pub costs : l.log_costs ≡ l'.log_costs

-- the columns of a log have one length
pub record LogFits (l : Memory) : Type 0 where
  pub driving : length l.log_driving ≡ length l.log_workers
  pub inner : length l.log_inner ≡ length l.log_workers
  pub costs : length l.log_costs ≡ length l.log_workers

-- with a pair or without one
abbrev pub noted_if : Memory → ℕ → ℕ → Option code.Handed → Memory
noted_if l j w (Some p) = noted l j w p
noted_if l j w None = l

abbrev pub count_if : ℕ → Option code.Handed → ℕ
count_if j (Some p) = j + 1
count_if j None = j

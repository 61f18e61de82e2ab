-- The table of workers.
use Rattle.std.specs.Prelude.{List, map, ℕ, get_or}
use Rattle.rules.specs.declared.Scheme.TheVariants.{CutCandidates}
use Rattle.shares.specs.Nowhere.{nowhere}
use Rattle.crew.specs.declared.Worker.{Worker}

-- no worker
abbrev pub nobody : Worker
nobody = record { share = record { scheme = CutCandidates; workers = 0; worker = 0; total = 0; from = 0; to = 0 }; place = nowhere 0; last = 0; handed = 0 }

-- worker w of the table
abbrev pub worker_at : List Worker → ℕ → Worker
worker_at workers w = get_or workers w nobody

-- how many pairs each worker was handed
abbrev pub counts_of : List Worker → List ℕ
counts_of workers = map (λ (v : Worker). v.handed) workers

-- A group is opened: each worker with its share of it, at its first joinable pair.
use Rattle.std.specs.Prelude.{◌≡◌, List, ℕ, ◌≤◌, ◌<◌, length}
use Rattle.rules.specs.declared.Crew.{Crew}
use Rattle.rules.specs.declared.Group.{Group}
use Rattle.rules.specs.Query.{Graph}
use Rattle.rules.specs.Shares.{met}
use Rattle.crew.specs.declared.Worker.{Worker}
use Rattle.crew.specs.Workers.{worker_at}
use Rattle.shares.specs.Shares.{share_of}
use Rattle.pairs.specs.Places.{NextFrom}

-- the first k workers of the crew, each at its first joinable pair of the group; the others as they were
pub record Opening (g : Graph) (group : Group) (crew : Crew) (k : ℕ) (old new : List Worker) : Type 0 where
  pub length-kept : length new ≡ length old
  pub first : (w : ℕ) → w < k → NextFrom g group (share_of crew w (length (met g group))) 0 (worker_at new w).place
  pub worker : (w : ℕ) → w < k → worker_at new w ≡ record { share = share_of crew w (length (met g group)); place = (worker_at new w).place; last = 0; handed = (worker_at old w).handed }
  pub others : (w : ℕ) → k ≤ w → worker_at new w ≡ worker_at old w

-- all of them
abbrev pub Opened : Graph → Group → Crew → List Worker → List Worker → Type 0
Opened g group crew old new = Opening g group crew crew.workers old new

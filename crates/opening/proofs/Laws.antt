-- Laws that no proof cites any more, since the check finds their goals: they hold as before.
use Rattle.std.specs.Prelude.{◌≡◌, refl, List, ℕ, ◌+◌, ◌<◌, length, set}
use Rattle.std.proofs.Common.{arith}
use Rattle.rules.specs.declared.Crew.{Crew}
use Rattle.rules.specs.declared.Group.{Group}
use Rattle.rules.specs.Query.{Graph}
use Rattle.rules.specs.Shares.{met}
use Rattle.shares.specs.declared.places.Place.{Place}
use Rattle.shares.specs.declared.Share.{Share}
use Rattle.shares.specs.Shares.{share_of}
use Rattle.pairs.specs.Places.{NextFrom}
use Rattle.crew.specs.declared.Worker.{Worker}
use Rattle.crew.specs.Workers.{worker_at}
use Rattle.opening.specs.Opening.{Opening}
use Rattle.opening.specs.OpenLaws.{opening-set}

module _ (g : Graph) (group : Group) (crew : Crew) (old : List Worker) where
  -- before the first worker
  pub opening-none : Opening g group crew 0 old old
  opening-none = record { length-kept = refl; first = λ w l. absurd (omega arith); worker = λ w l. absurd (omega arith); others = λ w l. refl }

  -- one more worker at its first pair, read and stored
  pub opening-more : {new : List Worker} (k : ℕ) (h : Share) (p : Place) (v : Worker) (next : List Worker) → v ≡ worker_at new k → next ≡ set new k (record { share = h; place = p; last = 0; handed = v.handed })
      → Opening g group crew k old new → k < length old → h ≡ share_of crew k (length (met g group)) → NextFrom g group h 0 p → Opening g group crew (k + 1) old next
  opening-more k h p v next i r z l e n = rw (r, i) (opening-set g group crew old k h p z l e n)

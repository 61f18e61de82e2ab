-- Opening a group, worker by worker.
use Rattle.std.specs.Prelude.{◌≡◌, refl, List, ℕ, ◌+◌, ◌≤◌, ◌<◌, length, set}
use Rattle.std.proofs.Common.{sym, ap, ◌∙◌, arith, length-set, get_or-set_same, get_or-set_other, ext_get_or}
use Rattle.std.proofs.Math.Decide.{ℕ_discrete, dec_lt}
use Rattle.rules.specs.Limits.{max_workers}
use Rattle.rules.specs.declared.Crew.{Crew}
use Rattle.rules.specs.declared.Group.{Group}
use Rattle.rules.specs.Query.{Graph}
use Rattle.rules.specs.Shares.{met}
use Rattle.shares.specs.declared.places.Place.{Place}
use Rattle.shares.specs.declared.Share.{Share}
use Rattle.shares.specs.Shares.{share_of, ShareOf}
use Rattle.pairs.specs.Places.{Fit, Ground, NextFrom, count_to}
use Rattle.pairs.specs.GroundLaws.{count-met}
use Rattle.pairs.specs.UniqueLaws.{next-unique}
use Rattle.crew.specs.declared.Worker.{Worker}
use Rattle.crew.specs.Workers.{nobody, worker_at}
use Rattle.opening.specs.Opening.{Opening, Opened}

-- all candidates of the group are counted
pub count-all : {g : Graph} {sets cells starts cell_starts : List ℕ} {group : Group} {total : ℕ} → Ground g sets cells starts cell_starts → Fit g group → total ≡ count_to starts group group.last → total ≡ length (met g group)
count-all {g} {sets} {cells} {starts} {cell_starts} {group} z fit e = e ∙ count-met g sets cells starts cell_starts z group fit

-- a worker's share of the group
pub share-is : (g : Graph) (group : Group) (crew : Crew) (w : ℕ) {total : ℕ} {h : Share} → total ≡ length (met g group) → h ≡ share_of crew w total → h ≡ share_of crew w (length (met g group))
share-is g group crew w e i = i ∙ ap (share_of crew w) e

pub share-ready : (g : Graph) (group : Group) (crew : Crew) (w : ℕ) {h : Share} → 1 ≤ crew.workers → crew.workers ≤ max_workers → w < crew.workers → h ≡ share_of crew w (length (met g group)) → ShareOf g group h
share-ready g group crew w one eight l e = rw e (record { some-worker = one; few-workers = eight; worker = l; is = refl })

module _ (g : Graph) (group : Group) (crew : Crew) (old : List Worker) where
  -- one more worker at its first pair
  pub opening-set : {new : List Worker} (k : ℕ) (h : Share) (p : Place) → Opening g group crew k old new → k < length old → h ≡ share_of crew k (length (met g group)) → NextFrom g group h 0 p
      → Opening g group crew (k + 1) old (set new k (record { share = h; place = p; last = 0; handed = (worker_at new k).handed }))
  opening-set {new} k h p z l e n = record {
    length-kept = length-set new k v ∙ z.length-kept;
    first = λ w u. first w u (ℕ_discrete w k);
    worker = λ w u. worker w u (ℕ_discrete w k);
    others = λ w u. get_or-set_other new k w v nobody (λ q. omega arith) ∙ z.others w (omega arith);
  }
    where
      v : Worker
      v = record { share = h; place = p; last = 0; handed = (worker_at new k).handed }

      here : worker_at (set new k v) k ≡ v
      here = get_or-set_same new k v nobody (omega (arith, z.length-kept))

      first : (w : ℕ) → w < k + 1 → Dec (w ≡ k) → NextFrom g group (share_of crew w (length (met g group))) 0 (worker_at (set new k v) w).place
      first w u (yes q) = rw (q, here, ← e) n
      first w u (no q) = rw (get_or-set_other new k w v nobody q) (z.first w (omega arith))

      worker : (w : ℕ) → w < k + 1 → Dec (w ≡ k)
          → worker_at (set new k v) w ≡ record { share = share_of crew w (length (met g group)); place = (worker_at (set new k v) w).place; last = 0; handed = (worker_at old w).handed }
      worker w u (yes q) = rw (q, here) (λ t. record { share = e t; place = p; last = 0; handed = ap (λ (x : Worker). x.handed) (z.others k (omega arith)) t })
      worker w u (no q) = rw (get_or-set_other new k w v nobody q) (z.worker w (omega arith))

-- a group is opened in one way
pub opened-unique : {g : Graph} {group : Group} {crew : Crew} {old new new' : List Worker} → Opened g group crew old new → Opened g group crew old new' → new ≡ new'
opened-unique {g} {group} {crew} {old} {new} {new'} z z' = ext_get_or nobody new new' (z.length-kept ∙ sym z'.length-kept) (λ w l. go w (dec_lt w crew.workers))
  where
    go : (w : ℕ) → Dec (w < crew.workers) → worker_at new w ≡ worker_at new' w
    go w (yes l) =
        let p = next-unique (z.first w l) (z'.first w l) in
        z.worker w l ∙ (λ t. record { share = share_of crew w (length (met g group)); place = p t; last = 0; handed = (worker_at old w).handed }) ∙ sym (z'.worker w l)
    go w (no n) = z.others w (omega arith) ∙ sym (z'.others w (omega arith))

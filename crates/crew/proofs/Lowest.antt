-- What follows from `LowestLeft`: in proofs/, so that an edit of that definition is refused by it.
use Rattle.std.specs.Prelude.{◌≡◌, true, false, List, ℕ, ◌≤◌, ◌<◌, length, take, Option, Some, None}
use Rattle.std.proofs.Common.{sym, ap, arith, length-take, get_or-take}
use Rattle.std.proofs.Math.Decide.{dec_lt}
use Rattle.std.proofs.Math.ListN.{get_or-eq_default}
use Rattle.shares.specs.Nowhere.{left}
use Rattle.crew.specs.declared.Worker.{Worker}
use Rattle.crew.specs.Workers.{nobody, worker_at}
use Rattle.crew.specs.Whose.{LowestLeft, Lowest, NoneLeft}

-- a scan stops at a worker with a pair left
pub lowest-found : (workers : List Worker) (m w : ℕ) → w ≤ m → NoneLeft workers w → left (worker_at workers w).place ≡ true → LowestLeft workers m w
lowest-found workers m w l z e = record { inside = l; lower = z; left = λ _. e }

-- or behind the last
pub lowest-none : (workers : List Worker) (m w : ℕ) → w ≤ m → m ≤ w → NoneLeft workers w → LowestLeft workers m w
lowest-none workers m w l o z = record { inside = l; lower = z; left = λ i. absurd (omega arith) }

-- the lowest of n workers is the lowest of the first m, if it is among them
pub lowest-among : (workers : List Worker) (n m r : ℕ) → m ≤ n → LowestLeft workers n r → r < m → LowestLeft workers m r
lowest-among workers n m r few z l = record { inside = omega arith; lower = z.lower; left = λ _. z.left (omega arith) }

-- else none of them has a pair left
pub lowest-past : (workers : List Worker) (n m r : ℕ) → LowestLeft workers n r → m ≤ r → LowestLeft workers m m
lowest-past workers n m r z l = record { inside = omega arith; lower = λ v u. z.lower v (omega arith); left = λ i. absurd (omega arith) }

-- where one is given it is among them and has a pair left
pub lowest-some : {workers : List Worker} {m w : ℕ} {r : Option ℕ} → Lowest workers m r → r ≡ Some w → (w < m) × LowestLeft workers m w
lowest-some z e = (rw e at z.inside, rw e at z.is)

-- where none is given none of them has one
pub none-left : {workers : List Worker} {m : ℕ} {r : Option ℕ} → Lowest workers m r → r ≡ None → LowestLeft workers m m
none-left z e = rw e at z.is

-- the lowest of the first m, lent alone, is the lowest of the first m: a worker that is not there has no pair left
pub lowest-part : {workers : List Worker} {m : ℕ} {r : Option ℕ} → Lowest (take m workers) (length (take m workers)) r → Lowest workers m r
lowest-part {workers} {m} {r} z = go r z
  where
    part : List Worker
    part = take m workers

    within : length part ≤ m
    within = omega (arith, length-take m workers)

    same : (v : ℕ) → v < m → worker_at part v ≡ worker_at workers v
    same v u = get_or-take m workers v nobody u

    none : LowestLeft part (length part) (length part) → (v : ℕ) → Dec (v < length part) → left (worker_at part v).place ≡ false
    none y v (yes u) = y.lower v u
    none y v (no n) = ap (λ (x : Worker). left x.place) (get_or-eq_default part nobody (omega arith))

    go : (r : Option ℕ) → Lowest part (length part) r → Lowest workers m r
    go None y =
        record { is = record { inside = omega arith; lower = λ v u. rw (sym (same v u)) (none y.is v (dec_lt v (length part))); left = λ u. absurd (omega arith) }; inside = tt }
    go (Some w) y =
        let k : w < m = omega (arith, y.inside, within) in
        record { is = record { inside = omega arith; lower = λ v u. rw (sym (same v (omega arith))) (y.is.lower v u); left = λ u. rw (sym (same w k)) (y.is.left y.inside) }; inside = k }

-- Laws that no proof cites any more, since the check finds their goals: they hold as before.
use Rattle.std.specs.Prelude.{◌≡◌, refl, false, List, [], ◌∷◌, ℕ, suc, ◌+◌, ◌≤◌, ◌<◌, length, get_or, set, take, Option, Some, None}
use Rattle.std.proofs.Common.{sym, ap, ◌∙◌, arith, lt-ltb, le-ltb, take_all, take-suc, take-suc-set}
use Rattle.std.proofs.Math.Decide.{ℕ_discrete}
use Rattle.std.proofs.lemmas.List.{map-append}
use Rattle.std.proofs.Math.Seq.{set_out}
use Rattle.rules.specs.Refusals.{Memory}
use Rattle.shares.specs.Nowhere.{left}
use Rattle.crew.specs.declared.Worker.{Worker}
use Rattle.crew.specs.declared.Handed as code
use Rattle.crew.specs.Workers.{nobody, worker_at, counts_of}
use Rattle.crew.specs.Whose.{whose, entries_on, NoneLeft}
use Rattle.crew.specs.Logs.{log_of, noted, SameLog, noted_if, count_if, LogFits}

-- ---- whose turn it is
-- nor has the next a pair left
pub none_more : (workers : List Worker) (w : ℕ) → NoneLeft workers w → left (worker_at workers w).place ≡ false → NoneLeft workers (w + 1)
none_more workers w z e v l = go (ℕ_discrete v w)
  where
    go : Dec (v ≡ w) → left (worker_at workers v).place ≡ false
    go (yes i) = rw i e
    go (no n) = z v (omega arith)

-- the list has an entry for the turn
pub whose-listed : (turns : List ℕ) (at low : ℕ) → at < length turns → get_or turns at 0 ≡ whose turns at low
whose-listed turns at low l = rw (lt-ltb at (length turns) l) refl

-- it is used up
pub whose-lowest : (turns : List ℕ) (at low : ℕ) → length turns ≤ at → low ≡ whose turns at low
whose-lowest turns at low l = rw (le-ltb at (length turns) l) refl

-- one more entry is used
pub entries-more : (n at : ℕ) → at < n → at + 1 ≡ entries_on n at
entries-more n at l = rw (lt-ltb at n l) refl

-- all were used
pub entries-same : (n at : ℕ) → n ≤ at → at ≡ entries_on n at
entries-same n at l = rw (le-ltb at n l) refl

-- ---- the log
-- without room for an entry it stays
pub noted-full : (log : Memory) {log' : Memory} (j w : ℕ) (p : code.Handed) → LogFits log → length log.log_workers ≤ j → SameLog log' log → SameLog log' (noted log j w p)
noted-full log j w p z l e = record {
  workers = e.workers ∙ sym (set_out log.log_workers j w l);
  driving = e.driving ∙ sym (set_out log.log_driving j p.driving (omega (arith, z.driving)));
  inner = e.inner ∙ sym (set_out log.log_inner j p.inner (omega (arith, z.inner)));
  costs = e.costs ∙ sym (set_out log.log_costs j p.cost (omega (arith, z.costs)));
}

-- a turn without a pair
pub note-none : (log : Memory) (j w : ℕ) (p : Option code.Handed) → p ≡ None → (j ≡ count_if j p) × (log ≡ noted_if log j w p)
note-none log j w p e = rw e (refl, refl)

-- a turn with one
pub note-some : (workers driving inner costs : List ℕ) (log : Memory) (j w : ℕ) (p : Option code.Handed) (q : code.Handed) → p ≡ Some q
    → SameLog (log_of workers driving inner costs) (noted log j w q) → (j + 1 ≡ count_if j p) × (log_of workers driving inner costs ≡ noted_if log j w p)
note-some workers driving inner costs log j w p q e s = rw (e, s.workers, s.driving, s.inner, s.costs) (refl, refl)

-- ---- counts
-- one more is stored
pub counts-more : (workers : List Worker) (counts : List ℕ) (w : ℕ) (x : Worker) → w < length workers → length counts ≡ length workers → x ≡ worker_at workers w
    → take w counts ≡ counts_of (take w workers) → take (w + 1) (set counts w x.handed) ≡ counts_of (take (w + 1) workers)
counts-more workers counts w x l e f h =
    let n : w + 1 ≡ suc w = omega arith in
    let y = worker_at workers w in
    rw (f, n, take-suc-set counts w y.handed (omega arith), take-suc workers w nobody l, map-append (λ (v : Worker). v.handed) (take w workers) (y ∷ []), h) refl

-- all are stored
pub counts_all : (workers : List Worker) (counts : List ℕ) (w : ℕ) → length workers ≤ w → length counts ≡ length workers → take w counts ≡ counts_of (take w workers) → counts ≡ counts_of workers
counts_all workers counts w l e h = sym (take_all w counts (omega arith)) ∙ h ∙ ap counts_of (take_all w workers l)

-- The log: a turn that hands a pair writes the next entry, where there is room for it.
use Rattle.std.specs.Prelude.{◌≡◌, refl, List, [], ◌∷◌, ◌++◌, map, ℕ, suc, ◌+◌, ◌≤◌, ◌<◌, length, get_or, set, drop}
use Rattle.std.proofs.Common.{sym, ap, ◌∙◌, arith, length-append, length-take, length-set, take_all, drop-cons, drop-drop, get_or-set_same, get_or-set_other, drop-set-lt}
use Rattle.std.proofs.lemmas.List.{map-append, take-append-le, set_at, get_or_at}
use Rattle.std.proofs.Math.Decide.{dec_lt, ℕ_discrete}
use Rattle.std.proofs.Math.ListN.{get_or-append}
use Rattle.std.proofs.Math.Seq.{take-nil, append_snoc, set_out}
use Rattle.rules.specs.Lists.{over}
use Rattle.rules.specs.Query.{Query}
use Rattle.rules.specs.Offers.{union}
use Rattle.rules.specs.Shares.{Numbered}
use Rattle.rules.specs.Turns.{Hand}
use Rattle.rules.specs.Log.{pair_of, Stands}
use Rattle.rules.specs.Refusals.{Memory}
use Rattle.rules.specs.Answers.{Spared, shown, up_to, Logged}
use Rattle.rules.specs.laws.Lists.{length-map, over-length}
use Rattle.rules.proofs.laws.Outcome.{result_at}
use Rattle.crew.specs.declared.Handed as code
use Rattle.crew.specs.Logs.{noted, SameLog, LogFits}

-- ---- a lent list
-- one more of its cells is written
over-more : (v l : List ℕ) (n a : ℕ) → length v ≡ n → n < length l → set (over v l) n a ≡ over (v ++ a ∷ []) l
over-more v l n a e h =
    let f : length (v ++ a ∷ []) ≡ suc n = omega (arith, length-append v (a ∷ [])) in
    rw (f, e, drop-cons l n 0 h) (set_at v (get_or l n 0) (drop (suc n) l) a n e ∙ sym (append_snoc v a (drop (suc n) l)))

-- before the first turn the log is as it was lent
pub logged_none : (q : Query) (lent log : Memory) → SameLog log lent → Logged q [] lent log
logged_none q lent log e = record {
  workers = rw (take-nil {A = Hand Numbered} (length lent.log_workers)) e.workers;
  driving = rw (take-nil {A = Hand Numbered} (length lent.log_workers)) e.driving;
  inner = rw (take-nil {A = Hand Numbered} (length lent.log_workers)) e.inner;
  costs = λ j l. absurd (omega (arith, l, ap length (take-nil {A = Hand Numbered} (length lent.log_workers))));
  spare = rw (take-nil {A = Hand Numbered} (length lent.log_workers), e.costs) (record { length-kept = refl; kept = refl });
}

-- ---- one more turn
module _ {q : Query} {h : List (Hand Numbered)} {lent log : Memory} (z : Logged q h lent log) (fits : LogFits lent) (x : Hand Numbered) where
  -- the entries before it stay
  entry-before : (j : ℕ) → j < length h → Stands q (up_to h j) (result_at h j) (get_or log.log_costs j 0)
      → Stands q (up_to (h ++ x ∷ []) j) (result_at (h ++ x ∷ []) j) (get_or log.log_costs j 0)
  entry-before j l s =
      rw (take-append-le (suc j) h (x ∷ []) l, map-append (λ (y : Hand Numbered). union (pair_of y)) h (x ∷ []), get_or-append (map (λ (y : Hand Numbered). union (pair_of y)) h) (union (pair_of x) ∷ []) 0 j (omega (arith, length-map (λ (y : Hand Numbered). union (pair_of y)) h)))
      s

  module _ (p : code.Handed) (stands : Stands q (map pair_of (h ++ x ∷ [])) (union (pair_of x)) p.cost) (is-driving : p.driving ≡ (pair_of x).driving) (is-inner : p.inner ≡ (pair_of x).inner) where
    module _ (room : length h < length lent.log_workers) where
      -- with room for it all entries are shown
      all-before : shown lent h ≡ h
      all-before = take_all (length lent.log_workers) h (omega arith)

      -- and it too
      all-now : shown lent (h ++ x ∷ []) ≡ h ++ x ∷ []
      all-now = take_all (length lent.log_workers) (h ++ x ∷ []) (omega (arith, length-append h (x ∷ [])))

      -- a column with its entry
      column : (f : Hand Numbered → ℕ) (l l' : List ℕ) (a : ℕ) → length l ≡ length lent.log_workers → l' ≡ over (map f (shown lent h)) l → a ≡ f x → set l' (length h) a ≡ over (map f (shown lent (h ++ x ∷ []))) l
      column f l l' a e w i = rw (w, all-before, all-now, i, map-append f h (x ∷ [])) (over-more (map f h) l (length h) (f x) (length-map f h) (omega arith))

      -- the standing cost of each entry
      entry : (j : ℕ) → j < length h + 1 → Dec (j ≡ length h) → Stands q (up_to (h ++ x ∷ []) j) (result_at (h ++ x ∷ []) j) (get_or (set log.log_costs (length h) p.cost) j 0)
      entry j l (yes e) =
          rw (
            e,
            take_all (suc (length h)) (h ++ x ∷ []) (omega (arith, length-append h (x ∷ []))),
            map-append (λ (y : Hand Numbered). union (pair_of y)) h (x ∷ []),
            get_or_at (map (λ (y : Hand Numbered). union (pair_of y)) h) (union (pair_of x)) [] 0 (length h) (length-map (λ (y : Hand Numbered). union (pair_of y)) h),
            get_or-set_same log.log_costs (length h) p.cost 0 (omega (arith, z.spare.length-kept, fits.costs)),
          )
          stands
      entry j l (no n) = rw (get_or-set_other log.log_costs (length h) j p.cost 0 n) (entry-before j (omega arith) (z.costs j (rw all-before (omega arith))))

      -- so the log is that of one more turn
      logged-room : Logged q (h ++ x ∷ []) lent (noted log (length h) x.worker p)
      logged-room = record {
        workers = column (λ (y : Hand Numbered). y.worker) lent.log_workers log.log_workers x.worker refl z.workers refl;
        driving = column (λ (y : Hand Numbered). (pair_of y).driving) lent.log_driving log.log_driving p.driving fits.driving z.driving is-driving;
        inner = column (λ (y : Hand Numbered). (pair_of y).inner) lent.log_inner log.log_inner p.inner fits.inner z.inner is-inner;
        costs = λ j l. entry j (omega (arith, l, ap length all-now, length-append h (x ∷ []))) (ℕ_discrete j (length h));
        spare = rw all-now (spared (rw all-before at z.spare));
      }
        where
          spared : Spared (length h) lent.log_costs log.log_costs → Spared (length (h ++ x ∷ [])) lent.log_costs (set log.log_costs (length h) p.cost)
          spared s =
              let n : length (h ++ x ∷ []) ≡ length h + 1 = length-append h (x ∷ []) in
              record {
                length-kept = length-set log.log_costs (length h) p.cost ∙ s.length-kept;
                kept = rw n (drop-set-lt (length h + 1) log.log_costs (length h) p.cost (omega arith) ∙ sym (drop-drop 1 (length h) log.log_costs) ∙ ap (drop 1) s.kept ∙ drop-drop 1 (length h) lent.log_costs);
              }

    module _ (full : length lent.log_workers ≤ length h) where
      -- with none no more is shown
      same-shown : shown lent (h ++ x ∷ []) ≡ shown lent h
      same-shown = take-append-le (length lent.log_workers) h (x ∷ []) full

      -- the log is full
      shown-all : length (shown lent h) ≡ length lent.log_workers
      shown-all = omega (arith, length-take (length lent.log_workers) h)

      -- a store beyond the end changes nothing
      column-full : (f : Hand Numbered → ℕ) (l l' : List ℕ) (a : ℕ) → length l ≡ length lent.log_workers → l' ≡ over (map f (shown lent h)) l → set l' (length h) a ≡ over (map f (shown lent (h ++ x ∷ []))) l
      column-full f l l' a e w =
          rw same-shown (set_out l' (length h) a (omega (arith, ap length w, over-length (map f (shown lent h)) l (omega (arith, length-map f (shown lent h), shown-all)))) ∙ w)

      -- so the log stays
      logged-full : Logged q (h ++ x ∷ []) lent (noted log (length h) x.worker p)
      logged-full =
          let c : set log.log_costs (length h) p.cost ≡ log.log_costs = set_out log.log_costs (length h) p.cost (omega (arith, z.spare.length-kept, fits.costs)) in
          record {
            workers = column-full (λ (y : Hand Numbered). y.worker) lent.log_workers log.log_workers x.worker refl z.workers;
            driving = column-full (λ (y : Hand Numbered). (pair_of y).driving) lent.log_driving log.log_driving p.driving fits.driving z.driving;
            inner = column-full (λ (y : Hand Numbered). (pair_of y).inner) lent.log_inner log.log_inner p.inner fits.inner z.inner;
            costs = λ j l. let k : j < length (shown lent h) = omega (arith, l, ap length same-shown) in rw c (entry-before j (omega (arith, k, shown-all)) (z.costs j k));
            spare = rw (same-shown, c) z.spare;
          }

    -- with room or without: the log with the next entry is that of one more turn
    pub logged-more : Logged q (h ++ x ∷ []) lent (noted log (length h) x.worker p)
    logged-more = go (dec_lt (length h) (length lent.log_workers))
      where
        go : Dec (length h < length lent.log_workers) → Logged q (h ++ x ∷ []) lent (noted log (length h) x.worker p)
        go (yes l) = logged-room l
        go (no n) = logged-full (omega arith)

-- The memo while turns go through any schedule: opening a group, a turn and closing it. Said of sets and of the workers' places among a group's candidates.
use Rattle.std.specs.Prelude.{◌≡◌, refl, ◌⊎◌, true, ℕ, suc, ◌-◌, ◌≤◌, ◌<◌, length}
use Rattle.std.proofs.Math.Path.{sym, ap}
use Rattle.std.proofs.Common.{◌∙◌, subst, inl, ⊎_elim, add_comm, arith, ne_eqb}
use Rattle.std.proofs.Math.Logic.{inr}
use mathlib.Core.List.{List, [], ◌∷◌, Memᴰ}
use Rattle.std.proofs.Math.Decide.{dec_lt, ℕ_discrete}
use Rattle.rules.specs.declared.Crew.{Crew}
use Rattle.rules.specs.Schedule.{Schedule, Scheduled}
use Rattle.rules.specs.Log.{sets_of}
use Rattle.rules.specs.Sets.{size, single}
use Rattle.rules.specs.Query.{Query, IsTable, table_count, at}
use Rattle.rules.specs.Connected.{Connected}
use Rattle.rules.specs.Trees.{Joinable}
use Rattle.rules.specs.Offers.{Pair, union, Way, along, back, Choice, join_cost, Offers}
use Rattle.rules.specs.Candidates.{Candidate, candidates, joinable}
use Rattle.rules.specs.Shares.{Numbered, numbered, met, owns}
use Rattle.rules.specs.Checked.{Sound}
use Rattle.rules.specs.laws.Bools.{and_true_r}
use Rattle.rules.specs.laws.Sets.{size-pow}
use Rattle.rules.specs.laws.Connected.{joinable-sym, connected-split, connected-single, one_table}
use Rattle.rules.proofs.laws.Shapes.{single-fits}
use Rattle.rules.proofs.laws.Rows.{size-count}
use Rattle.rules.specs.laws.Choice.{NoLater, Best, best-same}
use Rattle.rules.proofs.laws.Bellman.{least-unique, bellman-least, bellman-pick}
use Rattle.rules.proofs.laws.Ways.{way_of, offered-same}
use Rattle.rules.proofs.laws.Handed.{handed-same, row_first, row_keep, row-take, row_other, row-final}
use Rattle.rules.specs.laws.Standing.{JoinablePair, With, Complete, Handed, mine, best_at, unset, Stood, FinalRow, Before, Sofar, Between, Standing}
use Rattle.rules.proofs.laws.Memo.{one-least}
use Rattle.rules.specs.laws.Choice.{better, better-first, better-one, kept}
use Rattle.rules.specs.laws.Candidates.{Has, numbered-in, numbered_of}
use Rattle.rules.proofs.laws.Complete.{mine-one, met-one, true-joinable, met-joinable, met-sized, InGroup, swap, pair-met}
use Rattle.rules.proofs.laws.Final.{early-total, reads-small, results-large}
use Rattle.rules.proofs.laws.Outcome.{best-least}

-- ---- one row
offers-some : (q : Query) (p : Pair) (k : Choice) → JoinablePair q.graph p → Offers q (best_at q) p k → 0 < k.outer
offers-some q p k j o = pick (way_of q.shape p o.way o.offered).0
  where
    pick : (o.way ≡ along p) ⊎ (o.way ≡ back p) → 0 < k.outer
    pick (inl e) = omega (arith, o.priced.outer, ap (λ (w : Way). w.outer) e, j.driving-conn.some)
    pick (inr e) = omega (arith, o.priced.outer, ap (λ (w : Way). w.outer) e, j.inner-conn.some)

stood-same : (q : Query) {P Q : Pair → Type 0} {S : ℕ} {k : Choice} → ((p : Pair) → P p → Q p) → ((p : Pair) → Q p → P p) → Stood q P S k → Stood q Q S k
stood-same q to from (inl x) = inl (λ p h u. x.0 p (from p h) u, x.1)
stood-same q to from (inr b) = inr (handed-same q (best_at q) to from b)

module _ (q : Query) (P : Pair → Type 0) (sound : (p : Pair) → P p → JoinablePair q.graph p) (p : Pair) where
  stood-turn : {old new : Choice} → Stood q P (union p) old → Best (Offers q (best_at q) p) new → Best (Handed q (best_at q) (With P p) (union p)) (kept old new)
  stood-turn {old} {new} (inl x) n = rw x.1 (row_first q (best_at q) P p (λ k o. x.0 o.pair o.handed o.whole) n)
  stood-turn {old} {new} (inr b) n =
      let o = b.among in
      let l = offers-some q o.pair old (sound o.pair o.handed) o.prices in
      rw (ne_eqb old.outer 0 (λ e. omega arith)) (go (better-one old new))
    where
      first : NoLater (better old new) old × NoLater (better old new) new
      first = better-first old new

      go : (better old new ≡ old) ⊎ (better old new ≡ new) → Best (Handed q (best_at q) (With P p) (union p)) (better old new)
      go (inl e) = rw e (row_keep q (best_at q) P p b n (rw e at first.1))
      go (inr e) = rw e (row-take q (best_at q) P p b n (rw e at first.0))

  stood-other : {S : ℕ} {k : Choice} → (union p ≡ S → ⊥) → Stood q P S k → Stood q (With P p) S k
  stood-other {S} ne (inl x) = inl (λ p' h w. ⊎_elim (λ a. x.0 p' a w) (λ e. ne (ap (λ (r : Pair). union r) (sym e) ∙ w)) h, x.1)
  stood-other ne (inr b) = inr (row_other q (best_at q) P p ne b)

-- A ROW WHOSE PAIRS ARE COMPLETE IS FINAL
pub complete-final : (q : Query) → Sound q → (P : Pair → Type 0) (S : ℕ) (k : Choice) → Connected q.graph S → 2 ≤ size S → Complete q P S → Stood q P S k → FinalRow q S k
complete-final q good P S k c two all (inl x) =
    let a = connected-split q.graph S c two in
    let p : Pair = record { driving = a.part; inner = single a.last } in
    let j : JoinablePair q.graph p = record { driving-conn = a.connected; inner-conn = connected-single q.graph a.last a.table; joinable = record { apart = a.splits.apart; between = a.between } } in
    absurd (⊎_elim (λ h. x.0 p h a.splits.whole) (λ h. x.0 (swap p) h (add_comm p.inner p.driving ∙ a.splits.whole)) (all.total p j (single-fits q a.last) a.splits.whole))
complete-final q good P S k c two all (inr b) =
    let final = row-final q (best_at q) P S all b in
    record {
      least = bellman-least q (best_at q) S two (λ Y cy l. best-least q good Y cy) final;
      one = λ l. absurd (omega arith);
      more = λ l. bellman-pick q (best_at q) S l (λ Y cy u. best-least q good Y cy) final;
    }

-- ---- numbers are one candidate's
number_is : (n : ℕ) (cs : List Candidate) (x y : Numbered) → Memᴰ x (numbered n cs) → Memᴰ y (numbered n cs) → x.number ≡ y.number → x ≡ y
unfolding numbered
number_is n [] x y x5 _ p = elim x5 [ ]
number_is n (c ∷ cs) x y (mathlib.Core.List.Memᴰ.head e) (mathlib.Core.List.Memᴰ.head f) p = e ∙ sym f
number_is n (c ∷ cs) x y (mathlib.Core.List.Memᴰ.head e) (mathlib.Core.List.Memᴰ.tail m) p = absurd (omega (arith, ap (λ (z : Numbered). z.number) e, (numbered_of (suc n) cs y m).1))
number_is n (c ∷ cs) x y (mathlib.Core.List.Memᴰ.tail m) (mathlib.Core.List.Memᴰ.head f) p = absurd (omega (arith, ap (λ (z : Numbered). z.number) f, (numbered_of (suc n) cs x m).1))
number_is n (c ∷ cs) x y (mathlib.Core.List.Memᴰ.tail m) (mathlib.Core.List.Memᴰ.tail k) p = number_is (suc n) cs x y m k p

-- ---- the memo as turns leave it
module _ (q : Query) (crew : Crew) (groups : Schedule) where
  -- START: scans stand, all else is unset
  pub between_start : (row : ℕ → Choice) → ((t : ℕ) → IsTable q.graph t → row (single t) ≡ record { cost = at q.scans t; outer = 0; method = 0 })
      → ((S : ℕ) → Connected q.graph S → 1 < size S → row S ≡ unset) → Between q crew groups 1 row
  between_start row scans none = record { final = final; rows = λ S c l. inl (λ p b u. omega (arith, b.from_one, b.early), none S c l) }
    where
      final : (S : ℕ) → Connected q.graph S → size S ≤ 1 → FinalRow q S (row S)
      final S c l =
          let o = one_table q.graph S l c in
          subst (λ (X : ℕ). FinalRow q X (row X)) o.2 (rw (scans o.0 o.1) (record { least = one-least q o.0 o.1; one = λ u. (refl, refl); more = λ u. absurd (omega (arith, size-pow (o.0 - 1))) }))

  -- AFTER THE LAST GROUP every row is final
  pub between-end : (k : ℕ) → table_count q.graph ≤ k → (row : ℕ → Choice) → Between q crew groups k row → (S : ℕ) → Connected q.graph S → FinalRow q S (row S)
  between-end k l row b S c = b.final S c (omega (arith, size-count q.graph S c))

  -- OPENING: each worker at its first joinable pair
  module _ (k : ℕ) (place : ℕ → ℕ) (first : (w : ℕ) → w < crew.workers → (x : Numbered) → Memᴰ x (met q.graph (groups k)) → mine q.graph crew (groups k) w x ≡ true → place w ≤ x.number) where
    -- nothing of the group is handed yet
    pub sofar-open : (p : Pair) → Sofar q crew groups k place p → Before q crew groups k p
    sofar-open p (inl x) = x
    sofar-open p (inr x) = absurd (omega (arith, x.before, first x.worker x.known x.one x.stands x.own))

    pub standing-open : (row : ℕ → Choice) → Between q crew groups k row → Standing q crew groups k place row
    standing-open row b = record { final = b.final; rows = λ S c l. stood-same q (λ p x. inl x) sofar-open (b.rows S c l) }

  pub before-joinable : (k : ℕ) (p : Pair) → Before q crew groups k p → JoinablePair q.graph p
  before-joinable k p b = rw b.is (met-joinable q.graph (groups b.group) b.one b.stands b.joins)

  passed-joins : (k : ℕ) (w : ℕ) (x : Numbered) → mine q.graph crew (groups k) w x ≡ true → joinable q.graph x.candidate ≡ true
  unfolding mine
  passed-joins k w x e = and_true_r (owns crew.scheme (length (met q.graph (groups k))) crew.workers w x) (joinable q.graph x.candidate) e

  pub sofar-joinable : (k : ℕ) (place : ℕ → ℕ) (p : Pair) → Sofar q crew groups k place p → JoinablePair q.graph p
  sofar-joinable k place p (inl b) = before-joinable k p b
  sofar-joinable k place p (inr x) = rw x.is (met-joinable q.graph (groups k) x.one x.stands (passed-joins k x.worker x.one x.own))

  -- a group that is done is one of those before the next
  module _ (k : ℕ) (one : 1 ≤ k) (place : ℕ → ℕ) where
    pub sofar-before : (p : Pair) → Sofar q crew groups k place p → Before q crew groups (suc k) p
    sofar-before p (inl b) = record { group = b.group; from_one = b.from_one; early = omega (arith, b.early); one = b.one; stands = b.stands; joins = b.joins; is = b.is }
    sofar-before p (inr x) = record { group = k; from_one = one; early = omega arith; one = x.one; stands = x.stands; joins = passed-joins k x.worker x.one x.own; is = x.is }

    pub before-sofar : 0 < crew.workers → ((w : ℕ) → w < crew.workers → (x : Numbered) → Memᴰ x (met q.graph (groups k)) → mine q.graph crew (groups k) w x ≡ true → x.number < place w) → (p : Pair) → Before q crew groups (suc k) p → Sofar q crew groups k place p
    before-sofar workers last p b = go (dec_lt b.group k)
      where
        go : Dec (b.group < k) → Sofar q crew groups k place p
        go (yes l) = inl (record { group = b.group; from_one = b.from_one; early = l; one = b.one; stands = b.stands; joins = b.joins; is = b.is })
        go (no z) =
            let e : b.group ≡ k = omega (arith, b.early) in
            let i : Memᴰ b.one (met q.graph (groups k)) = rw e at b.stands in
            let o = mine-one q.graph crew (groups k) b.one b.joins (met-one q.graph crew (groups k) workers b.one i) in
            inr (record { worker = o.who; known = o.worker; one = b.one; stands = i; before = last o.who o.worker b.one i o.yes-it; own = o.yes-it; is = b.is })

  -- a turn moves worker w past the candidate x, which is its own
  module _ (k : ℕ) (place place' : ℕ → ℕ) (w : ℕ) (worker : w < crew.workers) (x : Numbered) (stands : Memᴰ x (met q.graph (groups k))) (own : mine q.graph crew (groups k) w x ≡ true) (here : x.number ≡ place w) (after : place w < place' w)
      (next : (y : Numbered) → Memᴰ y (met q.graph (groups k)) → mine q.graph crew (groups k) w y ≡ true → place w < y.number → place' w ≤ y.number) (others : (v : ℕ) → (v ≡ w → ⊥) → place' v ≡ place v) where
    -- the pairs handed so far are one more
    pub sofar-more : (p' : Pair) → With (Sofar q crew groups k place) (sets_of x) p' → Sofar q crew groups k place' p'
    sofar-more p' (inl (inl b)) = inl b
    sofar-more p' (inl (inr y)) = inr (record { worker = y.worker; known = y.known; one = y.one; stands = y.stands; before = go (ℕ_discrete y.worker w); own = y.own; is = y.is })
      where
        go : Dec (y.worker ≡ w) → y.one.number < place' y.worker
        go (yes e) = let f : place y.worker ≡ place w = ap place e in let g : place' y.worker ≡ place' w = ap place' e in omega (arith, y.before)
        go (no z) = omega (arith, others y.worker z, y.before)
    sofar-more p' (inr e) = inr (record { worker = w; known = worker; one = x; stands = stands; before = omega arith; own = own; is = e })

    -- and no other
    pub sofar-less : (p' : Pair) → Sofar q crew groups k place' p' → With (Sofar q crew groups k place) (sets_of x) p'
    sofar-less p' (inl b) = inl (inl b)
    sofar-less p' (inr y) = go (ℕ_discrete y.worker w)
      where
        old : y.one.number < place y.worker → With (Sofar q crew groups k place) (sets_of x) p'
        old l = inl (inr (record { worker = y.worker; known = y.known; one = y.one; stands = y.stands; before = l; own = y.own; is = y.is }))

        go : Dec (y.worker ≡ w) → With (Sofar q crew groups k place) (sets_of x) p'
        go (no z) = old (omega (arith, others y.worker z, y.before))
        go (yes e) = at_place (dec_lt y.one.number (place w)) (dec_lt (place w) y.one.number)
          where
            f : place y.worker ≡ place w
            f = ap place e

            g : place' y.worker ≡ place' w
            g = ap place' e

            at_place : Dec (y.one.number < place w) → Dec (place w < y.one.number) → With (Sofar q crew groups k place) (sets_of x) p'
            at_place (yes l) d = old (omega (arith, f))
            at_place (no z) (yes l) = absurd (omega (arith, g, y.before, next y.one y.stands (rw e at y.own) l))
            at_place (no z) (no u) =
                let a : y.one ≡ x = unfold met in (number_is 0 (candidates q.graph (groups k)) y.one x y.stands stands (omega arith)) in
                inr (y.is ∙ ap (λ (v : Numbered). sets_of v) a)

  module _ (good : Sound q) (workers : 0 < crew.workers) (n : ℕ) (serves : Scheduled q.shape (table_count q.graph) n groups) where
    -- a joinable pair that a group before k meets
    before-has : (k j X Y : ℕ) → 1 ≤ j → j < k → Joinable q.graph X Y → Has X Y (candidates q.graph (groups j)) → Before q crew groups k (record { driving = X; inner = Y })
    unfolding met
    before-has k j X Y l u d p =
        let i = numbered-in 0 (candidates q.graph (groups j)) p.one p.met in
        let eX : i.0.candidate.driving ≡ X = ap (λ (c : Candidate). c.driving) i.2 ∙ p.driving in
        let eY : i.0.candidate.inner ≡ Y = ap (λ (c : Candidate). c.inner) i.2 ∙ p.inner in
        record { group = j; from_one = l; early = u; one = i.0; stands = i.1; joins = true-joinable q.graph i.0.candidate (rw (eX, eY) d); is = λ t. record { driving = sym eX t; inner = sym eY t } }

    -- of a set of at most k tables all pairs stand in the groups before k
    before-complete : (k S : ℕ) → size S ≤ k → Complete q (Before q crew groups k) S
    before-complete k S l = record { sound = λ p b w. before-joinable k p b; total = early-total q crew workers n groups serves (Before q crew groups k) k one_way S l }
      where
        one_way : (j : ℕ) → 1 ≤ j → j < k → (p : Pair) → JoinablePair q.graph p → InGroup (groups j) p → Before q crew groups k p ⊎ Before q crew groups k (swap p)
        one_way j a b p d i =
            ⊎_elim (λ h. inl (before-has k j p.driving p.inner a b d.joinable h)) (λ h. inr (before-has k j p.inner p.driving a b (joinable-sym d.joinable) h)) (pair-met q.graph (groups j) p d i)

    -- CLOSING: no worker has a pair left
    pub standing-closed : (k : ℕ) → 1 ≤ k → (place : ℕ → ℕ) (row : ℕ → Choice)
        → ((w : ℕ) → w < crew.workers → (x : Numbered) → Memᴰ x (met q.graph (groups k)) → mine q.graph crew (groups k) w x ≡ true → x.number < place w) → Standing q crew groups k place row → Between q crew groups (suc k) row
    standing-closed k one place row last s = record { final = λ S c l. final S c l (dec_lt k (size S)); rows = λ S c l. all S c (omega arith) }
      where
        all : (S : ℕ) → Connected q.graph S → k < size S → Stood q (Before q crew groups (suc k)) S (row S)
        all S c l = stood-same q (sofar-before k one place) (before-sofar k one place workers last) (s.rows S c l)

        final : (S : ℕ) → Connected q.graph S → size S ≤ suc k → Dec (k < size S) → FinalRow q S (row S)
        final S c l (yes u) = complete-final q good (Before q crew groups (suc k)) S (row S) c (omega arith) (before-complete (suc k) S l) (all S c u)
        final S c l (no z) = s.final S c (omega arith)

    -- A TURN: worker w hands the candidate x at its place
    module _ (k : ℕ) (from_one : 1 ≤ k) (known : k ≤ n) (place place' : ℕ → ℕ) (row row' : ℕ → Choice) (s : Standing q crew groups k place row) (w : ℕ) (worker : w < crew.workers) (x : Numbered) (stands : Memᴰ x (met q.graph (groups k)))
        (own : mine q.graph crew (groups k) w x ≡ true) (here : x.number ≡ place w) (after : place w < place' w)
        (next : (y : Numbered) → Memᴰ y (met q.graph (groups k)) → mine q.graph crew (groups k) w y ≡ true → place w < y.number → place' w ≤ y.number) (others : (v : ℕ) → (v ≡ w → ⊥) → place' v ≡ place v)
        (new : Choice) (offer : Best (Offers q (λ X. (row X).cost) (sets_of x)) new) (changed : row' (union (sets_of x)) ≡ kept (row (union (sets_of x))) new) (kept-rows : (S : ℕ) → (union (sets_of x) ≡ S → ⊥) → row' S ≡ row S) where
      abbrev p : Pair
      p = sets_of x

      joins : JoinablePair q.graph p
      joins = met-joinable q.graph (groups k) x stands (passed-joins k w x own)

      -- EVERY PART READ IS FINAL
      read : (S : ℕ) → Connected q.graph S → size S ≤ k → (row S).cost ≡ best_at q S
      read S c l = least-unique (s.final S c l).least (best-least q good S c)

      small : (size p.driving ≤ k) × (size p.inner ≤ k)
      small = reads-small q crew workers n groups serves k from_one known p (met-sized q.graph (groups k) x stands)

      offers : Best (Offers q (best_at q) p) new
      offers = best-same to from offer
        where
          D : (row p.driving).cost ≡ best_at q p.driving
          D = read p.driving joins.driving-conn small.0

          I : (row p.inner).cost ≡ best_at q p.inner
          I = read p.inner joins.inner-conn small.1

          way : (v : Way) (m : ℕ) → (v ≡ along p) ⊎ (v ≡ back p) → join_cost q (λ X. (row X).cost) v.outer v.inner m ≡ join_cost q (best_at q) v.outer v.inner m
          way v m (inl e) = rw (e, D, I) refl
          way v m (inr e) = rw (e, D, I) refl

          to : (j : Choice) → Offers q (λ X. (row X).cost) p j → Offers q (best_at q) p j
          to = offered-same (λ v i m. way v m (way_of q.shape p v i).0)

          from : (j : Choice) → Offers q (best_at q) p j → Offers q (λ X. (row X).cost) p j
          from = offered-same (λ v i m. sym (way v m (way_of q.shape p v i).0))

      more : (p' : Pair) → With (Sofar q crew groups k place) p p' → Sofar q crew groups k place' p'
      more = sofar-more k place place' w worker x stands own here after next others

      less : (p' : Pair) → Sofar q crew groups k place' p' → With (Sofar q crew groups k place) p p'
      less = sofar-less k place place' w worker x stands own here after next others

      pub standing-turn : Standing q crew groups k place' row'
      standing-turn = record { final = final; rows = λ S c l. rows S c l (ℕ_discrete (union p) S) }
        where
          rows : (S : ℕ) → Connected q.graph S → k < size S → Dec (union p ≡ S) → Stood q (Sofar q crew groups k place') S (row' S)
          rows S c l (yes e) = subst (λ (X : ℕ). Stood q (Sofar q crew groups k place') X (row' X)) e
              (rw changed (stood-same q more less (inr (stood-turn q (Sofar q crew groups k place) (sofar-joinable k place) p (subst (λ (X : ℕ). Stood q (Sofar q crew groups k place) X (row X)) (sym e) (s.rows S c l)) offers))))
          rows S c l (no z) = rw (kept-rows S z) (stood-same q more less (stood-other q (Sofar q crew groups k place) (sofar-joinable k place) p z (s.rows S c l)))

          final : (S : ℕ) → Connected q.graph S → size S ≤ k → FinalRow q S (row' S)
          final S c l = rw (kept-rows S (λ e. omega (arith, large, ap size e))) (s.final S c l)
            where
              large : k < size (union p)
              large = results-large q crew workers n groups serves k from_one known p joins (met-sized q.graph (groups k) x stands)

-- An outcome that computes, proved to be one that `Planned` allows: so for every input there is one, and the cases are computed by it.
use Rattle.std.specs.Prelude.{◌≡◌, cond, eqb, take}
use Rattle.std.proofs.Math.Path.{refl}
use Rattle.std.proofs.Common.{ap, ◌∙◌, subst, arith, eq-eqb, ne_eqb, le-leb}
use mathlib.Core.List.Memᴰ
use mathlib.Core.List.{List, [], ◌∷◌, map, Memᴰ}
use Prim.Native.Nat.{ℕ, zero, suc, ◌+◌, ◌-◌, ◌≤◌, ◌<◌}
use Rattle.std.proofs.Math.Nat.{zero-add}
use Rattle.std.specs.Int.Count.{ones, ones_in}
use Rattle.std.proofs.Math.ListN.{length, get_or, length-take}
use Rattle.rules.specs.declared.Crew.{Crew}
use Rattle.rules.specs.Kinds.{new_crew}
use Rattle.rules.specs.Lists.{over, keep, in_row}
use Rattle.rules.specs.Sets.{size, full, holds, number, tables_from, tables}
use Rattle.rules.specs.Query.{Query, IsMethod, table_count}
use Rattle.rules.specs.Connected.{Connected}
use Rattle.rules.specs.Estimate.{joins_at, divided, by_edges, by_lower, with_table, running, estimate}
use Rattle.rules.specs.Trees.{fits, Inner, Least, price}
use Rattle.rules.specs.Offers.{Pair, union, ways}
use Rattle.rules.specs.Rows.{combos, sequences, rows_of, memo}
use Rattle.rules.specs.Skips.{skip_from, vectors_from, vectors, skips}
use Rattle.rules.specs.Candidates.{with_row, across, within, driven, candidates_of, candidates, joinable}
use Rattle.rules.specs.Shares.{Numbered, numbered, cut, in_cut, owns, met, share, queue}
use Rattle.rules.specs.Schedule.{inner_at, drivings, by_size}
use Rattle.rules.specs.Turns.{Hand, Groups, only}
use Rattle.rules.specs.Log.{pair_of, Stands}
use Rattle.rules.specs.Refusals.{Input, refuse, first_bad, first_of, all_are, all_same, groups, bad_table, bad_method, joined_below, repeats, edge_or, bad_edge, is_refused, bad_turn, checks_of, checks, rooms, verdict}
use Rattle.rules.specs.Checked.{Sound, Accepted}
use Rattle.rules.specs.Answers.{Outcome, each, per_worker, refusal, Refused, Spared, Row, Filled, schedule_of, queues_of, shown, up_to, Logged, Counted, Given, Planned}
use Rattle.rules.specs.laws.Bools.{find}
use Rattle.rules.specs.laws.Decide.{between?, connected?}
use Rattle.rules.specs.laws.Lists.{at_in, at_map, length-map, over-length, over-spare, over-at}
use Rattle.rules.proofs.laws.Rows.{memo-only, size-count}
use Rattle.rules.proofs.laws.Handed.{row-stands}
use Rattle.rules.specs.laws.Standing.{JoinablePair, by_method, splits_at, offers_below, row_of, scan_row, pick_of, row_at, best_at}
use Rattle.rules.proofs.laws.Reference.{offers_of, row-least, row-pick, offers_by, offers_for, handed-best}
use Rattle.rules.specs.laws.Choice.{sooner, better, best_of}
use Rattle.rules.specs.laws.Turns.{Entries, groups-exist}
use Rattle.rules.proofs.laws.Schedule.{by-size}
use Rattle.rules.proofs.laws.Final.{plan-joinable, plan-shaped}
use Rattle.rules.specs.laws.Refusals.{accepted, crew-named}
use Rattle.std.specs.Prelude.{None, Option, Some}

-- ---- what computes
-- what the turns hand
unfoldable pub hands_of : Input → Crew → List (Hand Numbered)
hands_of i crew = (groups-exist crew.workers (queues_of i crew) 1 (table_count i.query.graph - 1) i.turns).0

-- the set of the pair of turn j
abbrev pub result_at : List (Hand Numbered) → ℕ → ℕ
result_at h j = get_or (map (λ (x : Hand Numbered). union (pair_of x)) h) j 0

-- the cost in its row after turn j
unfoldable pub standing : Query → List (Hand Numbered) → ℕ → ℕ
standing q h j = (pick_of (offers_for q (best_at q) (up_to h j) (result_at h j))).cost

unfoldable pub plan_of : Input → Crew → Outcome
plan_of i crew =
    let q = i.query in
    let lent = i.lent in
    let h = hands_of i crew in
    let log = shown lent h in
    record {
      answer = record {
        refusal = 0;
        place = 0;
        best = best_at q (full (table_count q.graph));
        rows = length (memo q.graph);
        cells = length (skips q.graph);
        pairs = length h;
        counts = per_worker (λ w. length (only w h));
      };
      left = record {
        sets = over (memo q.graph) lent.sets;
        estimates = over (map (estimate q.graph) (memo q.graph)) lent.estimates;
        costs = over (map (best_at q) (memo q.graph)) lent.costs;
        outers = over (map (λ (S : ℕ). (row_at q S).outer) (memo q.graph)) lent.outers;
        methods = over (map (λ (S : ℕ). (row_at q S).method) (memo q.graph)) lent.methods;
        skips = over (skips q.graph) lent.skips;
        log_workers = over (map (λ (x : Hand Numbered). x.worker) log) lent.log_workers;
        log_driving = over (map (λ (x : Hand Numbered). (pair_of x).driving) log) lent.log_driving;
        log_inner = over (map (λ (x : Hand Numbered). (pair_of x).inner) log) lent.log_inner;
        log_costs = over (each (standing q h) 0 (length log)) lent.log_costs;
      };
    }

unfoldable pub refused_of : Input → Outcome
refused_of i = record { answer = refusal (verdict i); left = i.lent }

unfoldable pub plan_with : Input → Option Crew → Outcome
plan_with i (Some crew) = plan_of i crew
plan_with i None = refused_of i

-- the outcome of an input
unfoldable pub outcome : Input → Outcome
outcome i = cond (eqb (verdict i).number 0) (plan_with i (new_crew i.workers i.scheme)) (refused_of i)

-- the same, with every definition on its way open, so that it computes at an input that is written out
unfoldable pub computed : Input → Outcome
unfolding outcome plan_with refused_of plan_of standing hands_of best_at row_at each
    holds number tables_from tables keep in_row ones ones_in
    joins_at divided by_edges by_lower with_table running estimate price fits ways
    combos sequences rows_of memo skip_from vectors_from vectors skips
    inner_at drivings by_size with_row across within driven candidates_of candidates joinable
    numbered cut in_cut owns met share queue only groups-exist
    refuse first_bad first_of all_are all_same groups bad_table bad_method joined_below repeats edge_or bad_edge is_refused bad_turn checks_of checks rooms verdict
    connected? between? find
    sooner better best_of by_method splits_at offers_below pick_of scan_row row_of offers_by offers_of offers_for
computed i = outcome i

-- ---- and that it is right
each-length : (f : ℕ → ℕ) (w n : ℕ) → length (each f w n) ≡ n
unfolding each
each-length f w zero = refl
each-length f w (suc n) = ap suc (each-length f (suc w) n)

each_at : (f : ℕ → ℕ) (w n j : ℕ) → j < n → get_or (each f w n) j 0 ≡ f (w + j)
unfolding each
each_at f w zero j l = absurd (omega arith)
each_at f w (suc n) zero l = let e : w ≡ w + 0 = omega arith in ap f e
each_at f w (suc n) (suc j) l = let e : suc w + j ≡ w + suc j = omega arith in each_at f (suc w) n j (omega arith) ∙ ap f e

pub entries-of : (m : ℕ) (ts : List ℕ) → ((j : ℕ) → j < length ts → get_or ts j 0 < m) → Entries m ts
unfolding Entries
entries-of m [] h = tt
entries-of m (t ∷ ts) h = (h 0 (omega arith), entries-of m ts (λ j l. h (suc j) (omega arith)))

-- the pair of turn j is one of those up to it
pair-at : (h : List (Hand Numbered)) (j : ℕ) → j < length h → (p : Pair) × Memᴰ p (up_to h j) × (union p ≡ result_at h j)
pair-at [] j l = absurd (omega arith)
pair-at (x ∷ h) zero l = (pair_of x, Memᴰ.head refl, refl)
pair-at (x ∷ h) (suc j) l = let r = pair-at h j (omega arith) in (r.0, Memᴰ.tail r.1, r.2)

-- and those are among all
up-to-in : (h : List (Hand Numbered)) (n : ℕ) (p : Pair) → Memᴰ p (map pair_of (take n h)) → Memᴰ p (map pair_of h)
up-to-in [] zero p m = m
up-to-in [] (suc n) p m = m
up-to-in (x ∷ h) zero p m = absurd (Memᴰ.not-nil m)
up-to-in (x ∷ h) (suc n) p (Memᴰ.head e) = Memᴰ.head e
up-to-in (x ∷ h) (suc n) p (Memᴰ.tail m) = Memᴰ.tail (up-to-in h n p m)

written : (n : ℕ) (v l : List ℕ) → length v ≡ n → n ≤ length l → Spared n l (over v l)
written n v l e h = subst (λ (k : ℕ). Spared k l (over v l)) e (record { length-kept = over-length v l (omega arith); kept = over-spare v l })

-- a sound query has a method
pub method-one : (q : Query) → Sound q → IsMethod q 1
method-one q good = record { from_one = omega arith; to-count = good.some-method }

-- the least cost of each connected set
pub best-least : (q : Query) → Sound q → (S : ℕ) → Connected q.graph S → Least q S (best_at q S)
unfolding best_at row_at
best-least q good S c = row-least q (method-one q good) (suc (table_count q.graph)) S (omega (arith, size-count q.graph S c)) c

module _ (i : Input) (good : Accepted i) where
  q : Query
  q = i.query

  sound : Sound q
  unfolding q
  sound = good.checked.sound

  row-right : (S : ℕ) → Connected q.graph S → Row q S (best_at q S) (row_at q S).outer (row_at q S).method
  unfolding row_at q
  row-right S c = record {
    least = best-least q sound S c;
    one = λ l. unfold row_of in (unfold scan_row in (rw (le-leb (size S) 1 l) (refl, refl)));
    more = λ two. row-pick q (method-one q sound) (table_count q.graph) S (omega (arith, size-count q.graph S c)) c two;
  }

  filled : (crew : Crew) → Filled q i.lent (plan_of i crew).left
  unfolding plan_of q
  filled crew = record {
    sets = refl;
    estimates = refl;
    rows = λ j l. rw (at_row (best_at q) i.lent.costs j l, at_row (λ (S : ℕ). (row_at q S).outer) i.lent.outers j l, at_row (λ (S : ℕ). (row_at q S).method) i.lent.methods j l)
        (row-right (get_or (memo q.graph) j 0) (memo-only q.graph (get_or (memo q.graph) j 0) (at_in 0 (memo q.graph) j l)));
    costs = column (best_at q) i.lent.costs good.checked.columns.costs;
    outers = column (λ (S : ℕ). (row_at q S).outer) i.lent.outers good.checked.columns.outers;
    methods = column (λ (S : ℕ). (row_at q S).method) i.lent.methods good.checked.columns.methods;
    skips = refl;
  }
    where
      at_row : (f : ℕ → ℕ) (l : List ℕ) (j : ℕ) → j < length (memo q.graph) → get_or (over (map f (memo q.graph)) l) j 0 ≡ f (get_or (memo q.graph) j 0)
      at_row f l j h = over-at (map f (memo q.graph)) l j (omega (arith, length-map f (memo q.graph))) ∙ at_map f 0 (memo q.graph) j h

      column : (f : ℕ → ℕ) (l : List ℕ) → length l ≡ length i.lent.sets → Spared (length (memo q.graph)) l (over (map f (memo q.graph)) l)
      column f l e = written (length (memo q.graph)) (map f (memo q.graph)) l (length-map f (memo q.graph)) (omega (arith, good.rows))

  -- the turns
  module _ (crew : Crew) (worker : 0 < crew.workers) (entries : Entries crew.workers i.turns) where
    handed : List (Hand Numbered)
    handed = hands_of i crew

    handed-groups : Groups crew.workers (queues_of i crew) 1 (table_count q.graph - 1) i.turns handed
    unfolding hands_of handed q
    handed-groups = (groups-exist crew.workers (queues_of i crew) 1 (table_count q.graph - 1) i.turns).1

    handed-joinable : (p : Pair) → Memᴰ p (map pair_of handed) → JoinablePair q.graph p × Inner q p.driving
    unfolding q
    handed-joinable p m =
        let N = table_count q.graph in
        let s = by-size q.shape N in
        (plan-joinable q crew worker (N - 1) (schedule_of i) s i.turns handed entries handed-groups p m, plan-shaped q crew worker (N - 1) (schedule_of i) s i.turns handed entries handed-groups p m)

    stands : (j : ℕ) → j < length handed → Stands q (up_to handed j) (result_at handed j) (standing q handed j)
    unfolding standing
    stands j l =
        let p = pair-at handed j l in
        row-stands q (best_at q) (up_to handed j)
        (λ p' m. let c = (handed-joinable p' (up-to-in handed (suc j) p' m)).0 in (best-least q sound p'.driving c.driving-conn, best-least q sound p'.inner c.inner-conn))
        (handed-best q (best_at q) (method-one q sound) (up_to handed j) (result_at handed j) p.0 p.1 p.2 (handed-joinable p.0 (up-to-in handed (suc j) p.0 p.1)).1)

    logged : Logged q handed i.lent (plan_of i crew).left
    unfolding plan_of q handed
    logged = record {
      workers = refl;
      driving = refl;
      inner = refl;
      costs = λ j l. rw (over-at (each (standing q handed) 0 n) i.lent.log_costs j (omega (arith, each-length (standing q handed) 0 n)), each_at (standing q handed) 0 n j l, zero-add j)
          (stands j (omega (arith, length-take (length i.lent.log_workers) handed)));
      spare = written n (each (standing q handed) 0 n) i.lent.log_costs (each-length (standing q handed) 0 n) (omega (arith, length-take (length i.lent.log_workers) handed, good.checked.columns.log-costs));
    }
      where
        n : ℕ
        n = length (shown i.lent handed)

    counted : Counted q handed (plan_of i crew).answer
    unfolding plan_of q handed
    counted = record { refusal = refl; place = refl; best = best-least q sound (full (table_count q.graph)) good.checked.sound.connected; rows = refl; cells = refl; pairs = refl; counts = refl }

    plan-given : new_crew i.workers i.scheme ≡ Some crew → Given i (plan_of i crew)
    unfolding q
    plan-given e = record {
      handed = handed;
      turns = record { crew = crew; named = e; groups = handed-groups };
      memory = filled crew;
      log = logged;
      answer = counted;
    }

-- FOR EVERY INPUT THERE IS AN OUTCOME
pub outcome-planned : (i : Input) → Planned i (outcome i)
unfolding outcome
outcome-planned i = record { given = given; refused = refused }
  where
    given : (verdict i).number ≡ 0 → Given i (cond (eqb (verdict i).number 0) (plan_with i (new_crew i.workers i.scheme)) (refused_of i))
    given e =
        let a = accepted i e in
        let c = crew-named a.checked.crew in
        rw (eq-eqb (verdict i).number 0 e, c) (unfold plan_with in (plan-given i a (record { workers = i.workers; scheme = a.checked.crew.named }) a.checked.crew.some-worker (entries-of i.workers i.turns a.checked.turns) c))

    refused : 0 < (verdict i).number → Refused i (cond (eqb (verdict i).number 0) (plan_with i (new_crew i.workers i.scheme)) (refused_of i))
    refused l = rw (ne_eqb (verdict i).number 0 (λ e. omega arith)) (unfold refused_of in (record { answer = refl; lent = refl }))

-- From the checks, laying out and the search to the one promise of planning.
use Rattle.std.specs.Prelude.{◌≡◌, refl, Bool, true, false, cond, eqb, ltb, length, get_or, replicate}
use Rattle.std.proofs.Common.{sym, ap, subst, ◌∙◌, arith, pow_pos, eq-eqb, ne_eqb, Fits}
use mathlib.Core.List.{List, [], ◌∷◌, ◌++◌, map, Memᴰ}
use Prim.Native.Nat.{ℕ, zero, suc, ◌+◌, ◌-◌, ◌*◌, ◌/◌, ◌^◌, ◌≤◌, ◌<◌}
use Rattle.std.proofs.Math.Decide.{dec_lt, ℕ_discrete}
use Rattle.std.specs.Int.Count.{ones_step}
use Rattle.std.proofs.Math.ListN.{length-replicate}
use Rattle.std.specs.Int.{w64}
use Rattle.rules.specs.declared.Crew.{Crew}
use Rattle.rules.specs.Verdict.{Verdict, told}
use Rattle.rules.specs.Kinds.{new_crew}
use Rattle.rules.specs.Sets.{size, full}
use Rattle.rules.specs.Query.{Graph, Query, table_count}
use Rattle.rules.specs.Schedule.{Schedule}
use Rattle.rules.specs.Connected.{Connected}
use Rattle.rules.specs.Estimate.{estimate}
use Rattle.rules.specs.Rows.{rows_of, memo}
use Rattle.rules.specs.Skips.{skips}
use Rattle.rules.specs.Refusals.{Memory, Input, refuse, first_of, checks_of, checks, rooms, verdict, memo_lengths, log_lengths}
use Rattle.rules.specs.Checked.{GoodGraph, Checked}
use Rattle.refusals.specs.CheckLaws.{some-number}
use Rattle.rules.specs.Answers.{Spared, refusal, Filled, schedule_of, Logged, Counted, Planned}
use Rattle.rules.specs.laws.Lists.{at_in, length-map}
use Rattle.rules.proofs.laws.Rows.{rows-only, rows_all, below_all}
use Rattle.rules.specs.laws.Sets.{size-zero, full-only}
use Rattle.rules.specs.laws.Kinds.{crew-workers}
use Rattle.rules.specs.laws.Refusals.{checked, crew-named}
use Rattle.memo.specs.declared.layout.Laid.{Laid}
use Rattle.skips.specs.Vectors.{written}
use Rattle.memo.specs.Layout.{Lent, lent, lent_of, OneLength, Room, laid, refusal_of, counts, LaidOut}
use Rattle.memo.specs.LayoutLaws.{laid-verdict, written_over, front}
use Rattle.turns.specs.Standing.{Columns, columns}
use Rattle.turns.specs.StartLaws.{estimated-of, methods-of}
use Rattle.pairs.specs.Places.{start_of}
use Rattle.results.specs.Prices.{Methods}
use Rattle.pairs.specs.PlaceLaws.{start-next, start-end, in_size, memo-row, memo-few}
use Rattle.shares.specs.Shares.{few}
use Rattle.planner.specs.declared.Answer.{Answer}
use Rattle.crew.specs.Logs.{log_of, LogFits}
use Rattle.runs.specs.Runs.{SearchReady, SearchDone}
use Rattle.runs.specs.SearchLaws.{spared-written, spared-on, laid-length}
use Rattle.planner.specs.Plans.{answer_of, outcome_of}
use Rattle.std.specs.Prelude.{Some, Result, Ok, Err}
use Rattle.rules.specs.declared.refusal.Refusal.{Refusal}

-- ---- refusals
first-append : (a b : List Verdict) → first_of (a ++ b) ≡ cond (eqb (first_of a).number 0) (first_of b) (first_of a)
unfolding first_of
first-append [] b = refl
first-append (v ∷ a) b = go (ℕ_discrete v.number 0) (first-append a b)
  where
    go : Dec (v.number ≡ 0) → first_of (a ++ b) ≡ cond (eqb (first_of a).number 0) (first_of b) (first_of a)
        → cond (eqb v.number 0) (first_of (a ++ b)) v ≡ cond (eqb (cond (eqb v.number 0) (first_of a) v).number 0) (first_of b) (cond (eqb v.number 0) (first_of a) v)
    go (yes e) ih = rw (eq-eqb v.number 0 e) ih
    go (no n) ih = rw (ne_eqb v.number 0 n, ne_eqb v.number 0 n)

-- checks 1 to 12 come first
verdict-checks : (i : Input) → ((first_of (checks i)).number ≡ 0 → ⊥) → verdict i ≡ first_of (checks i)
unfolding verdict
verdict-checks i n = first-append (checks i) (rooms i) ∙ rw (ne_eqb (first_of (checks i)).number 0 n)

-- then 13 and 14
verdict-rooms : (i : Input) → (first_of (checks i)).number ≡ 0 → verdict i ≡ first_of (rooms i)
unfolding verdict
verdict-rooms i e = first-append (checks i) (rooms i) ∙ rw (eq-eqb (first_of (checks i)).number 0 e)

-- these have no place
rooms-place : (i : Input) → (first_of (rooms i)).place ≡ 0
unfolding rooms first_of refuse
rooms-place i = go (ltb (length i.lent.sets) (length (memo i.query.graph))) (ltb (length i.lent.skips) (length (skips i.query.graph)))
  where
    go : (a b : Bool) → (first_of (refuse 13 a ∷ refuse 14 b ∷ [])).place ≡ 0
    go true b = refl
    go false true = refl
    go false false = refl

-- a refusal with nothing changed is what planning promises
pub planned-refused : (i : Input) (r : Refusal) {left : Memory} → told r ≡ verdict i → left ≡ i.lent → Planned i (outcome_of (Err r) left)
planned-refused i r e l = record { given = λ z. absurd (some-number r.reason (ap (λ (x : Verdict). x.number) e ∙ z)); refused = λ _. record { answer = ap refusal e; lent = l } }

-- the checks of an input, as `check` says them
pub checks-are : (i : Input) → first_of (checks_of i.query i.workers i.scheme i.turns (memo_lengths i.lent) (log_lengths i.lent)) ≡ first_of (checks i)
unfolding checks
checks-are i = refl

-- what laying out may rely on
pub lay-ready : (i : Input) → (first_of (checks i)).number ≡ 0 → GoodGraph i.query.graph × OneLength (lent_of i.lent)
lay-ready i e =
    let c = checked i e in
    (c.sound.graph, record { estimates = c.columns.estimates; costs = c.columns.costs; outers = c.columns.outers; methods = c.columns.methods })

-- the methods and the log that a search is given
pub rates-ready : (i : Input) → (first_of (checks i)).number ≡ 0 → Methods i.query.fixed i.query.per_outer i.query.per_inner i.query.per_result
rates-ready i e = methods-of i.query (checked i e).sound

pub log-fits : (i : Input) → (first_of (checks i)).number ≡ 0 → LogFits (log_of i.lent.log_workers i.lent.log_driving i.lent.log_inner i.lent.log_costs)
log-fits i e = let c = checked i e in record { driving = c.columns.driving; inner = c.columns.inner; costs = c.columns.log-costs }

-- laying out changes no length
pub record SameLengths (old new : Lent) : Type 0 where
  pub sets : length new.sets ≡ length old.sets
  pub estimates : length new.estimates ≡ length old.estimates
  pub costs : length new.costs ≡ length old.costs
  pub outers : length new.outers ≡ length old.outers
  pub methods : length new.methods ≡ length old.methods
  pub skips : length new.skips ≡ length old.skips

same-lengths : {old new : Lent} → new ≡ old → SameLengths old new
same-lengths e = rw e (record { sets = refl; estimates = refl; costs = refl; outers = refl; methods = refl; skips = refl })

pub laid-lengths : {g : Graph} {old new : Lent} {r : Result Laid Refusal} → LaidOut g old new r → SameLengths old new
laid-lengths {g} {old} {new} z = go (dec_lt (length old.sets) (length (memo g))) (dec_lt (length old.skips) (length (skips g)))
  where
    go : Dec (length old.sets < length (memo g)) → Dec (length old.skips < length (skips g)) → SameLengths old new
    go (yes h) d = same-lengths (z.refused13 h).1
    go (no h) (yes k) = same-lengths (z.refused14 (omega arith) k).1
    go (no h) (no k) =
        let e = (z.given (record { rows = omega arith; cells = omega arith })).1 in
        let zeros : List ℕ = replicate (length (memo g)) 0 in
        record {
          sets = laid-length old.sets (memo g) (ap (λ (x : Lent). x.sets) e);
          estimates = laid-length old.estimates (map (estimate g) (memo g)) (ap (λ (x : Lent). x.estimates) e);
          costs = laid-length old.costs zeros (ap (λ (x : Lent). x.costs) e);
          outers = laid-length old.outers zeros (ap (λ (x : Lent). x.outers) e);
          methods = laid-length old.methods zeros (ap (λ (x : Lent). x.methods) e);
          skips = laid-length old.skips (skips g) (ap (λ (x : Lent). x.skips) e);
        }

-- refused by the checks
pub planned-checks : (i : Input) (r : Refusal) {left : Memory} → told r ≡ first_of (checks i) → left ≡ i.lent → Planned i (outcome_of (Err r) left)
planned-checks i r e l = planned-refused i r (e ∙ sym (verdict-checks i (λ z. some-number r.reason (ap (λ (x : Verdict). x.number) e ∙ z)))) l

-- refused for room
pub planned-rooms : (i : Input) (r : Refusal) {left : Memory} {new : Lent} → (first_of (checks i)).number ≡ 0 → LaidOut i.query.graph (lent_of i.lent) new (Err r) → (new ≡ lent_of i.lent → left ≡ i.lent) → Planned i (outcome_of (Err r) left)
planned-rooms i r {new = new} e z l =
    let v : told r ≡ verdict i = (λ t. record { number = laid-verdict i z t; place = (place (dec_lt (length i.lent.sets) (length (memo g))) (dec_lt (length i.lent.skips) (length (skips g))) ∙ sym (rooms-place i)) t }) ∙ sym (verdict-rooms i e) in
    planned-refused i r v (l (unchanged (dec_lt (length i.lent.sets) (length (memo g))) (dec_lt (length i.lent.skips) (length (skips g)))))
  where
    g : Graph
    g = i.query.graph

    same : {x : Refusal} → ◌≡◌ {A = Result Laid Refusal} (Err r) (Err x) → r ≡ x
    same p = cc

    place : Dec (length i.lent.sets < length (memo g)) → Dec (length i.lent.skips < length (skips g)) → r.place ≡ 0
    place (yes h) d = ap (λ (x : Refusal). x.place) (same (z.refused13 h).0)
    place (no h) (yes k) = ap (λ (x : Refusal). x.place) (same (z.refused14 (omega arith) k).0)
    place (no h) (no k) = absurd (some-number r.reason (ap refusal_of (z.given (record { rows = omega arith; cells = omega arith })).0))

    unchanged : Dec (length i.lent.sets < length (memo g)) → Dec (length i.lent.skips < length (skips g)) → new ≡ lent_of i.lent
    unchanged (yes h) d = (z.refused13 h).1
    unchanged (no h) (yes k) = (z.refused14 (omega arith) k).1
    unchanged (no h) (no k) = absurd (some-number r.reason (ap refusal_of (z.given (record { rows = omega arith; cells = omega arith })).0))

-- ---- lists that are what the code has of them
-- what laying out left, by its columns
pub relaid : {g : Graph} {old new : Lent} {r : Result Laid Refusal} {sets estimates costs outers methods skips : List ℕ}
    → sets ≡ new.sets → estimates ≡ new.estimates → costs ≡ new.costs → outers ≡ new.outers → methods ≡ new.methods → skips ≡ new.skips
    → LaidOut g old new r → LaidOut g old (lent sets estimates costs outers methods skips) r
relaid {g} {old} {new} {r} s e c o m k z =
    let same : new ≡ lent _ _ _ _ _ _ = λ t. lent (sym s t) (sym e t) (sym c t) (sym o t) (sym m t) (sym k t) in
    subst (λ (l : Lent). LaidOut g old l r) same z

-- what a search left, by its columns and its log's
pub redone : {q : Query} {crew : Crew} {groups : Schedule} {turns : List ℕ} {old new : Columns} {was : Memory} {pairs : ℕ} {counts costs outers methods workers workers' driving driving' inner inner' noted noted' : List ℕ}
    → costs ≡ new.costs → outers ≡ new.outers → methods ≡ new.methods
    → workers ≡ workers' → driving ≡ driving' → inner ≡ inner' → noted ≡ noted'
    → SearchDone q crew groups turns old new was (log_of workers' driving' inner' noted') pairs counts
    → SearchDone q crew groups turns old (columns costs outers methods) was (log_of workers driving inner noted) pairs counts
redone {q} {crew} {groups} {turns} {old} {new} {was} {pairs} {counts} {costs = costs} {outers = outers} {methods = methods} {workers' = workers'} {driving' = driving'} {inner' = inner'} {noted' = noted'} c o m w d i n z =
    let filled : new ≡ columns costs outers methods = λ t. columns (sym c t) (sym o t) (sym m t) in
    let logged : log_of workers' driving' inner' noted' ≡ log_of _ _ _ _ = λ t. log_of (sym w t) (sym d t) (sym i t) (sym n t) in
    subst (λ (l : Memory). SearchDone q crew groups turns old (columns costs outers methods) was l pairs counts) logged
    (subst (λ (x : Columns). SearchDone q crew groups turns old x was (log_of workers' driving' inner' noted') pairs counts) filled z)

-- ---- a plan
-- laid out: what was lent has room
pub laid-room : (i : Input) {new : Lent} {l : Laid} → LaidOut i.query.graph (lent_of i.lent) new (Ok l) → Room i.query.graph (lent_of i.lent)
laid-room i {l = l} z = go (dec_lt (length i.lent.sets) (length (memo g))) (dec_lt (length i.lent.skips) (length (skips g)))
  where
    g : Graph
    g = i.query.graph

    number : {x : Result Laid Refusal} → Ok l ≡ x → 0 ≡ refusal_of x
    number p = ap refusal_of p

    go : Dec (length i.lent.sets < length (memo g)) → Dec (length i.lent.skips < length (skips g)) → Room g (lent_of i.lent)
    go (yes h) d = absurd (omega (arith, number (z.refused13 h).0))
    go (no h) (yes k) = absurd (omega (arith, number (z.refused14 (omega arith) k).0))
    go (no h) (no k) = record { rows = omega arith; cells = omega arith }

size-of-full : (n : ℕ) → size (full n) ≡ n
size-of-full zero = size-zero
size-of-full (suc n) = omega (arith, ones_step (full (suc n)), size-of-full n, pow_pos n, ap size (half n))
  where
    half : (n : ℕ) → full (suc n) / 2 ≡ full n
    half n = omega (arith, pow_pos n)

-- the memo's last row is the set of all tables
pub memo-last : (g : Graph) → 1 ≤ table_count g → Connected g (full (table_count g)) → (0 < length (memo g)) × (get_or (memo g) (length (memo g) - 1) 0 ≡ full (table_count g))
memo-last g some c =
    let n = table_count g in
    let l : full n < 2 ^ n = below_all g (full n) c in
    let s : size (full n) ≡ n = size-of-full n in
    let m : Memᴰ (full n) (rows_of g n) = rw s at (rows_all g (full n) c) in
    let i = in_some (rows_of g n) (full n) m in
    let p = length (memo g) - 1 in
    let k = start-next g n some in
    let a : start_of g n ≤ p = omega (arith, start-end g) in
    let b : p < start_of g (n + 1) = omega (arith, start-end g) in
    let r = rows-only g n (get_or (memo g) p 0) (mathlib.Core.List.Memᴰ.cast (memo-row g n p some a b) (at_in 0 (rows_of g n) (p - start_of g n) (in_size g n p some a b))) in
    (omega (arith, start-end g), full-only n (get_or (memo g) p 0) (below_all g (get_or (memo g) p 0) r.0) r.1)
  where
    in_some : (l : List ℕ) (x : ℕ) → Memᴰ x l → 0 < length l
    in_some [] x m = absurd (mathlib.Core.List.Memᴰ.not-nil m)
    in_some (y ∷ l) x m = omega arith

module _ (i : Input) (e : (first_of (checks i)).number ≡ 0) {new : Lent} {l : Laid} (z : LaidOut i.query.graph (lent_of i.lent) new (Ok l)) where
  abbrev g : Graph
  g = i.query.graph

  good : Checked i
  good = checked i e

  room : Room i.query.graph (lent_of i.lent)
  room = laid-room i z

  is-laid : new ≡ laid i.query.graph (lent_of i.lent)
  is-laid = (z.given room).1

  zeros : List ℕ
  zeros = replicate (length (memo i.query.graph)) 0

  zeros-fit : 0 + length zeros ≤ length (memo i.query.graph)
  unfolding zeros
  zeros-fit = let z : ℕ = 0 in omega (arith, length-replicate (length (memo i.query.graph)) z)

  -- the search may begin
  pub search-ready : {crew : Crew} → new_crew i.workers i.scheme ≡ Some crew → SearchReady i.query crew i.turns new.sets new.estimates new.skips (columns new.costs new.outers new.methods) (log_of i.lent.log_workers i.lent.log_driving i.lent.log_inner i.lent.log_costs)
  search-ready {crew} named = record {
    sound = good.sound;
    some-worker = omega (arith, workers, good.crew.some-worker);
    few-workers = omega (arith, workers, good.crew.few-workers);
    turns-known = λ j l. omega (arith, workers, good.turns j l);
    sets-laid = front (memo g) i.lent.sets room.rows refl (ap (λ (x : Lent). x.sets) is-laid);
    cells-laid = front (skips g) i.lent.skips room.cells refl (ap (λ (x : Lent). x.skips) is-laid);
    estimated = estimated-of g i.lent.estimates (omega (arith, room.rows, good.columns.estimates)) (ap (λ (x : Lent). x.estimates) is-laid);
    old_costs = i.lent.costs;
    old_outers = i.lent.outers;
    old_methods = i.lent.methods;
    costs-room = omega (arith, room.rows, good.columns.costs);
    outers-room = omega (arith, room.rows, good.columns.outers);
    methods-room = omega (arith, room.rows, good.columns.methods);
    costs-laid = ap (λ (x : Lent). x.costs) is-laid;
    outers-laid = ap (λ (x : Lent). x.outers) is-laid;
    methods-laid = ap (λ (x : Lent). x.methods) is-laid;
    log-fits = log-fits i e;
  }
    where
      workers : crew.workers ≡ i.workers
      workers = crew-workers i.workers i.scheme named

  -- how many rows there are: one at least, and few
  counted-rows : l ≡ counts i.query.graph
  counted-rows = let p = (z.given room).0 in cc

  pub rows_are : l.rows ≡ length (memo g)
  rows_are = ap (λ (x : Laid). x.rows) counted-rows

  pub rows-some : 1 ≤ l.rows
  rows-some = omega (arith, rows_are, (memo-last g good.sound.graph.some-table good.sound.connected).0)

  pub rows_few : l.rows ≤ few
  rows_few = omega (arith, rows_are, memo-few g good.sound.graph)

  pub rows_fit : l.rows ≤ length new.costs
  rows_fit = omega (arith, rows_are, room.rows, good.columns.costs, (laid-lengths z).costs)

  -- its end is a plan
  module _ {crew : Crew} (named : new_crew i.workers i.scheme ≡ Some crew) (a : Answer) (left : Memory)
      (d : SearchDone i.query crew (schedule_of i) i.turns (columns new.costs new.outers new.methods) (columns left.costs left.outers left.methods)
      (log_of i.lent.log_workers i.lent.log_driving i.lent.log_inner i.lent.log_costs) (log_of left.log_workers left.log_driving left.log_inner left.log_costs) a.pairs a.counts)
      (same-sets : left.sets ≡ new.sets) (same-estimates : left.estimates ≡ new.estimates) (same-cells : left.skips ≡ new.skips)
      (best : a.best ≡ get_or left.costs (l.rows - 1) 0) (rows : a.rows ≡ l.rows) (cells : a.cells ≡ l.cells) where
    -- a column that was cleared and then filled
    column : (lent laid_out after : List ℕ) → laid_out ≡ written lent 0 (replicate (length (memo g)) 0) → Spared (length (memo g)) laid_out after → Spared (length (memo g)) lent after
    unfolding zeros
    column lent laid_out after l s = spared-on (length (memo g)) lent laid_out after (rw l (spared-written (length (memo g)) 0 zeros lent zeros-fit)) s

    filled : Filled i.query i.lent left
    filled = record {
      sets = same-sets ∙ ap (λ (x : Lent). x.sets) is-laid ∙ written_over (memo g) i.lent.sets room.rows;
      estimates = same-estimates ∙ ap (λ (x : Lent). x.estimates) is-laid ∙ written_over (map (estimate g) (memo g)) i.lent.estimates (omega (arith, length-map (estimate g) (memo g), room.rows, good.columns.estimates));
      rows = d.rows;
      costs = column i.lent.costs new.costs left.costs (ap (λ (x : Lent). x.costs) is-laid) d.kept.costs;
      outers = column i.lent.outers new.outers left.outers (ap (λ (x : Lent). x.outers) is-laid) d.kept.outers;
      methods = column i.lent.methods new.methods left.methods (ap (λ (x : Lent). x.methods) is-laid) d.kept.methods;
      skips = same-cells ∙ ap (λ (x : Lent). x.skips) is-laid ∙ written_over (skips g) i.lent.skips room.cells;
    }

    logged : Logged i.query d.handed i.lent left
    logged = record { workers = d.logged.workers; driving = d.logged.driving; inner = d.logged.inner; costs = d.logged.costs; spare = d.logged.spare }

    counted : Counted i.query d.handed (answer_of (Ok a))
    counted =
        let last = memo-last g good.sound.graph.some-table good.sound.connected in
        record {
          refusal = refl;
          place = refl;
          best = rw (best, rows_are) (rw last.1 at (d.rows (length (memo g) - 1) (omega (arith, last.0))).least);
          rows = rows ∙ rows_are;
          cells = cells ∙ ap (λ (x : Laid). x.cells) counted-rows;
          pairs = d.count;
          counts = d.tallies;
        }

    pub planned-given : Planned i (outcome_of (Ok a) left)
    planned-given = record {
      given = λ _. record { handed = d.handed; turns = record { crew = crew; named = named; groups = d.turns-run }; memory = filled; log = logged; answer = counted };
      refused = λ l. absurd (omega (arith, ap (λ (x : Verdict). x.number) (verdict-rooms i e), laid-verdict i z));
    }

-- ---- the last row, over plain numbers: omega at a place deep in the code reads every record on the way to it
pub last-cell : {n : ℕ} → n ≤ few → Fits w64 ((n - 1) * 8)
last-cell h = omega arith

pub last-in : {n m k : ℕ} → 1 ≤ n → n ≤ m → k ≡ m → n - 1 < k
last-in a b e = omega arith

-- Opening a group, its turns and its end, as the program meets them.
use Rattle.std.specs.Prelude.{◌≡◌, ◌⊎◌, Bool, true, false, cond, List, [], ◌∷◌, Option, Some, Result, ℕ, ◌+◌, ◌-◌, ◌*◌, ◌≤◌, ◌<◌, ltb, length, get_or, map, take, replicate}
use Rattle.std.specs.Result.{is_err}
use Rattle.std.proofs.Common.{sym, ap, ◌∙◌, inl, inr, ⊎_elim, add-one, arith, ltb-true, length-take, get_or-take}
use Rattle.std.proofs.Math.Decide.{dec_lt}
use Rattle.std.proofs.lemmas.Option.{same_Some}
use Rattle.rules.specs.declared.Crew.{Crew}
use Rattle.rules.specs.declared.Group.{Group}
use Rattle.rules.specs.declared.Scheme.{Scheme}
use Rattle.rules.specs.Kinds.{new_crew}
use Rattle.rules.specs.Schedule.{Schedule, by_size}
use Rattle.rules.proofs.laws.Schedule.{by-size}
use Rattle.rules.specs.Query.{Graph, Query, table_count}
use Rattle.rules.specs.Estimate.{estimate}
use Rattle.rules.specs.Rows.{memo}
use Rattle.rules.specs.Shares.{met}
use Rattle.rules.specs.Skips.{skips}
use Rattle.rules.specs.Refusals.{first_of, checks_of}
use Rattle.rules.specs.Checked.{Sound}
use Rattle.rules.specs.laws.Bools.{true-or-false, not-both}
use Rattle.rules.specs.laws.Shares.{cut-mono}
use Rattle.rules.specs.laws.Refusals.{sound-of, crew-named, crew-of, turns-of}
use Rattle.memo.specs.declared.layout.Laid.{Laid}
use Rattle.rules.specs.declared.refusal.Refusal.{Refusal}
use Rattle.skips.specs.Vectors.{written}
use Rattle.starts.specs.Starts.{starts, cell_starts}
use Rattle.memo.specs.Layout.{Lent, OneLength, Room, laid, LaidOut}
use Rattle.memo.specs.LayoutLaws.{still-long, one-length}
use Rattle.shares.specs.Nowhere.{left}
use Rattle.shares.specs.Shares.{few}
use Rattle.pairs.specs.Places.{Fit, Ground}
use Rattle.crew.specs.declared.Worker.{Worker}
use Rattle.crew.specs.declared.Handed as code
use Rattle.opening.specs.Opening.{Opened}
use Rattle.results.specs.declared.keep.Columns as lent
use Rattle.results.specs.Kept.{SameColumns}
use Rattle.turns.specs.Taken.{columns_of}
use Rattle.turns.specs.Standing.{Columns, columns, top_of, Reach, Open, Board, InPlace, TurnTaken, Work}
use Rattle.crew.specs.Workers.{nobody, worker_at}
use Rattle.turns.specs.StandingLaws.{open-first, open-places, top-is, fit_is, few-handed, standing-open, standing-turn, standing-closed}
use Rattle.turns.specs.QueueLaws.{still_met, turn-progress, turn-progress-none}
use Rattle.turns.specs.StepLaws.{set_at, driving-inside, inner-inside, step-costs, step-outers, step-methods}
use Rattle.turns.specs.StartLaws.{tables-fit, Starting, final-start, reach-start, ground-of, estimated-of, open-of}
use Rattle.crew.specs.Whose.{LowestLeft, whose, entries_on}
use Rattle.rounds.specs.Rounds.{Shown, Between, Within, SameRows, Started}

-- whoever has the turn is one of the workers
pub whose-known : {q : Query} {crew : Crew} {groups : Schedule} {turns : List ℕ} (used low : ℕ) {w : ℕ} → Work q crew groups turns → low < crew.workers → w ≡ whose turns used low → w < crew.workers
whose-known {crew = crew} {turns = turns} used low {w} z l e = go (true-or-false (ltb used (length turns)))
  where
    is : (b : Bool) → ltb used (length turns) ≡ b → w ≡ cond b (get_or turns used 0) low
    is b t = e ∙ ap (λ (x : Bool). cond x (get_or turns used 0) low) t

    go : (ltb used (length turns) ≡ true) ⊎ (ltb used (length turns) ≡ false) → w < crew.workers
    go (inl t) = omega (arith, is true t, z.turns-known used (ltb-true used (length turns) t))
    go (inr t) = omega (arith, is false t)

module _ {g : Graph} {fixed outer inner result sets estimates cells starts cell_starts : List ℕ} {group : Group} {c : Columns} (b : Board g fixed outer inner result sets estimates cells starts cell_starts group c) where
  -- where a worker waits can be printed
  pub shown_of : {crew : Crew} {workers : List Worker} → InPlace g group crew workers → (w : ℕ) → w < crew.workers → Shown sets (worker_at workers w)
  shown_of {crew} z w l = record {
    share = rw (z.share w l) (cut-mono (length (met g group)) crew.workers w (w + 1) (omega arith) (omega arith));
    driving = λ s e. (set_at b _ (driving-inside b (z.ready w l) e)).0;
    inner = λ s e. (set_at b _ (inner-inside b (z.ready w l) e)).0;
  }

-- the first m workers
pub shown-taken : {sets : List ℕ} (workers : List Worker) {m : ℕ} → ((w : ℕ) → w < m → Shown sets (worker_at workers w)) → (w : ℕ) → w < length (take m workers) → Shown sets (worker_at (take m workers) w)
shown-taken workers {m} f w l =
    let k : w < m = omega (arith, length-take m workers) in
    rw (get_or-take m workers w nobody k) (f w k)

-- no column gets shorter
turn-reach : {g : Graph} {fixed outer inner result : List ℕ} {group : Group} {w : ℕ} {workers workers' : List Worker} {c new : Columns} {pair : Option code.Handed} → TurnTaken g fixed outer inner result group w workers workers' c new pair → Reach g c → Reach g new
turn-reach t r = record { costs = omega (arith, r.costs, step-costs t.step); outers = omega (arith, r.outers, step-outers t.step); methods = omega (arith, r.methods, step-methods t.step) }

-- they are still the same
pub rows-on : {g : Graph} {fixed outer inner result : List ℕ} {group : Group} {w : ℕ} {workers workers' : List Worker} {c c' c'' : lent.Columns} {pair : Option code.Handed} → SameRows c' c
    → TurnTaken g fixed outer inner result group w workers workers' (columns_of c') (columns_of c'') pair → SameColumns c'' c' → SameRows c'' c
rows-on s t a = record {
  columns = record { costs = a.costs ∙ s.columns.costs; outers = a.outers ∙ s.columns.outers; methods = a.methods ∙ s.columns.methods };
  costs = step-costs t.step ∙ s.costs;
  outers = step-outers t.step ∙ s.outers;
  methods = step-methods t.step ∙ s.methods;
}

module _ {q : Query} {crew : Crew} {turns : List ℕ} (work : Work q crew (by_size q.shape) turns) {k : ℕ} (one : 1 ≤ k) (known : k ≤ table_count q.graph - 1) {group : Group} (is : group ≡ by_size q.shape k) where
  -- it fits
  pub group-fit : Fit q.graph group
  group-fit = rw is (fit_is work one known)

  -- it is opened
  pub opened-within : {workers workers' : List Worker} {c : Columns} → Between q crew k workers c → Opened q.graph group crew workers workers' → Within q crew k workers' c
  opened-within {workers} {workers'} {c} b o' = record { reach = b.reach; standing = standing-open work one known (open-places o work.some-worker work.few-workers bound) (open-first o) c b.final }
    where
      o : Opened q.graph (by_size q.shape k) crew workers workers'
      o = rw is at o'

      bound : (w : ℕ) → w < crew.workers → (worker_at workers w).handed ≤ (top_of (by_size q.shape k) - 1) * few
      bound w l = rw (top-is work one known) (b.handed w l)

  module _ {workers : List Worker} {c : Columns} (z : Within q crew k workers c) where
    -- each worker is at its place
    pub within-places : InPlace q.graph group crew workers
    within-places = rw is z.standing.places

    -- a turn of it may be taken
    pub within-plays : Open q.graph group c
    within-plays =
        let e = top-is work one known in
        rw is (open-of work.sound (fit_is work one known) (omega (arith, e)) z.reach (λ S d l. z.standing.rows.final S d (omega (arith, e))))

    module _ {w : ℕ} {workers' : List Worker} {new : Columns} {pair : Option code.Handed} (l : w < crew.workers)
        (t : TurnTaken q.graph q.fixed q.per_outer q.per_inner q.per_result group w workers workers' c new pair) where
      -- is taken
      pub turned-within : Within q crew k workers' new
      turned-within = record {
        reach = turn-reach t z.reach;
        standing = standing-turn work one known l z.reach z.standing (rw is at t);
      }

      -- and uses up an entry of the list, or passes a candidate of the lowest worker
      pub turned-less : (used low : ℕ) {used' : ℕ} → LowestLeft workers crew.workers low → low < crew.workers → w ≡ whose turns used low → used' ≡ entries_on (length turns) used
          → length turns - used' + still_met q.graph group crew.workers workers' < length turns - used + still_met q.graph group crew.workers workers
      turned-less used low {used'} n j e f = go (true-or-false (ltb used (length turns)))
        where
          fewer : left (worker_at workers w).place ≡ true → still_met q.graph group crew.workers workers' < still_met q.graph group crew.workers workers
          fewer h = turn-progress within-places l t h

          no_more : still_met q.graph group crew.workers workers' ≤ still_met q.graph group crew.workers workers
          no_more = ⊎_elim (λ h. omega (arith, fewer h)) (λ h. omega (arith, turn-progress-none within-places l t h)) (true-or-false (left (worker_at workers w).place))

          go : (ltb used (length turns) ≡ true) ⊎ (ltb used (length turns) ≡ false) → length turns - used' + still_met q.graph group crew.workers workers' < length turns - used + still_met q.graph group crew.workers workers
          go (inl b) =
              let i : used' ≡ used + 1 = f ∙ ap (λ (x : Bool). cond x (used + 1) used) b in
              omega (arith, no_more, ltb-true used (length turns) b)
          go (inr b) =
              let i : used' ≡ used = f ∙ ap (λ (x : Bool). cond x (used + 1) used) b in
              let h : low ≡ w = sym (e ∙ ap (λ (x : Bool). cond x (get_or turns used 0) low) b) in
              omega (arith, fewer (rw h at (n.left j)))

    -- it ends where no worker has a pair left
    pub closed-between : {low : ℕ} → LowestLeft workers crew.workers low → crew.workers ≤ low → Between q crew (k + 1) workers c
    closed-between {low} n e = rw (add-one k) (record {
      reach = z.reach;
      final = standing-closed work one known z.standing.places (λ w l. n.lower w (omega arith)) c z.standing;
      handed = λ w l. omega (arith, few-handed work one known z.standing.places w l);
    })

-- ---- laying out
module _ (q : Query) (workers scheme : ℕ) (turns log : List ℕ) (old : Lent)
    (passed : (first_of (checks_of q workers scheme turns (length old.sets ∷ length old.estimates ∷ length old.costs ∷ length old.outers ∷ length old.methods ∷ []) log)).number ≡ 0) where
  abbrev lengths : List ℕ
  lengths = length old.sets ∷ length old.estimates ∷ length old.costs ∷ length old.outers ∷ length old.methods ∷ []

  pub sound : Sound q
  sound = sound-of q workers scheme turns lengths log passed

  pub one : OneLength old
  one = one-length q workers scheme turns log old passed

  module _ {new : Lent} {r : Result Laid Refusal} (laid_out : LaidOut q.graph old new r) (not-refused : is_err r ≡ false) where
    -- what is not refused has room
    room : Room q.graph old
    room = record { rows = rows (dec_lt (length old.sets) (length (memo q.graph))); cells = cells (dec_lt (length old.sets) (length (memo q.graph))) (dec_lt (length old.skips) (length (skips q.graph))) }
      where
        rows : Dec (length old.sets < length (memo q.graph)) → length (memo q.graph) ≤ length old.sets
        rows (yes l) = absurd (not-both (is_err r) (ap is_err (laid_out.refused13 l).0) not-refused)
        rows (no n) = omega arith

        cells : Dec (length old.sets < length (memo q.graph)) → Dec (length old.skips < length (skips q.graph)) → length (skips q.graph) ≤ length old.skips
        cells (yes l) d = absurd (not-both (is_err r) (ap is_err (laid_out.refused13 l).0) not-refused)
        cells (no n) (yes k) = absurd (not-both (is_err r) (ap is_err (laid_out.refused14 (omega arith) k).0) not-refused)
        cells (no n) (no k) = omega arith

    is : new ≡ laid q.graph old
    is = (laid_out.given room).1

    -- there is a row for each table
    pub scans-fit : length q.scans ≤ length new.costs
    scans-fit =
        let z : ℕ = 0 in
        let zeros = replicate (length (memo q.graph)) z in
        omega (arith, sound.scan-list, tables-fit q.graph sound.graph, room.rows, one.costs, still-long zeros old.costs (ap (λ (x : Lent). x.costs) is))

    -- candidates may be met
    pub grounded : (old_starts old_cell_starts : List ℕ) {starts₁ cell_starts₁ : List ℕ} → table_count q.graph + 2 ≤ length old_starts → table_count q.graph + 2 ≤ length old_cell_starts
        → starts₁ ≡ written old_starts 0 (starts q.graph) → cell_starts₁ ≡ written old_cell_starts 0 (cell_starts q.graph) → Ground q.graph new.sets new.skips starts₁ cell_starts₁
    grounded old_starts old_cell_starts a b e f = ground-of q.graph old.sets old.skips old_starts old_cell_starts room.rows room.cells a b (ap (λ (x : Lent). x.sets) is) (ap (λ (x : Lent). x.skips) is) e f

    pub estimated : take (length (memo q.graph)) new.estimates ≡ map (estimate q.graph) (memo q.graph)
    estimated = estimated-of q.graph old.estimates (omega (arith, room.rows, one.estimates)) (ap (λ (x : Lent). x.estimates) is)

    -- and the first group may be opened, under each scheme
    pub started_as : (named : Scheme) {costs : List ℕ} → costs ≡ written new.costs 0 q.scans → Started q (record { workers = workers; scheme = named }) turns (columns costs new.outers new.methods)
    started_as named {costs} h =
        let z : Starting q old.costs old.outers old.methods (columns costs new.outers new.methods) = record {
          costs-room = omega (arith, room.rows, one.costs);
          outers-room = omega (arith, room.rows, one.outers);
          methods-room = omega (arith, room.rows, one.methods);
          costs-are = h ∙ ap (λ (x : Lent). written x.costs 0 q.scans) is;
          outers-are = ap (λ (x : Lent). x.outers) is;
          methods-are = ap (λ (x : Lent). x.methods) is;
        } in
        let good = crew-of q workers scheme turns lengths log passed in
        record {
          work = record { sound = sound; some-worker = good.some-worker; few-workers = good.few-workers; turns-known = turns-of q workers scheme turns lengths log passed; serves = by-size q.shape (table_count q.graph) };
          reach = reach-start q sound z;
          final = final-start q sound z (record { workers = workers; scheme = named }) (by_size q.shape);
        }

    -- so under the one that the check names
    pub started_of : (crew : Crew) {costs : List ℕ} → new_crew workers scheme ≡ Some crew → costs ≡ written new.costs 0 q.scans → Started q crew turns (columns costs new.outers new.methods)
    started_of crew {costs} named h =
        let good = crew-of q workers scheme turns lengths log passed in
        let e : crew.workers ≡ workers = ap (λ (c : Crew). c.workers) (same_Some _ _ (sym named ∙ crew-named good)) in
        rw e (started_as crew.scheme {costs = costs} h)

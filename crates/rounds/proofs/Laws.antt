-- Laws that no proof cites any more, since a set prints whatever it is and a checked crew names its scheme: they hold as before.
use Rattle.std.specs.Prelude.{◌≡◌, true, false, Option, Some, None, Result, List, [], ◌∷◌, ℕ, ◌+◌, ◌-◌, ◌^◌, ◌≤◌, ◌<◌, length, get_or, map, take, replicate}
use Rattle.std.proofs.Common.{sym, ap, ◌∙◌, ⊎_elim, arith, pow_mono}
use Rattle.std.specs.Result.{is_err}
use Rattle.std.proofs.lemmas.Option.{same_Some}
use Rattle.std.proofs.lemmas.List.{get_or-replicate}
use Rattle.rules.specs.Limits.{max_workers}
use Rattle.rules.specs.declared.Crew.{Crew}
use Rattle.rules.specs.declared.Group.{Group}
use Rattle.rules.specs.Schedule.{by_size}
use Rattle.rules.specs.Query.{Graph, Query, table_count}
use Rattle.rules.specs.Rows.{memo}
use Rattle.rules.specs.declared.Scheme.{Scheme}
use Rattle.rules.specs.declared.refusal.Refusal.{Refusal}
use Rattle.rules.specs.Estimate.{estimate}
use Rattle.rules.specs.Refusals.{first_of, checks_of}
use Rattle.rules.specs.laws.Bools.{true-or-false}
use Rattle.memo.specs.declared.layout.Laid.{Laid}
use Rattle.memo.specs.Layout.{Lent, LaidOut}
use Rattle.skips.specs.Vectors.{written}
use Rattle.starts.specs.Starts.{starts, cell_starts}
use Rattle.rules.specs.Checked.{GoodGraph}
use Rattle.rules.specs.laws.Lists.{at_in}
use Rattle.rules.proofs.laws.Rows.{memo-only, below_all}
use Rattle.rules.specs.laws.Choice.{kept}
use Rattle.shares.specs.Nowhere.{left}
use Rattle.shares.specs.declared.places.Spot.{Spot}
use Rattle.crew.specs.declared.Worker.{Worker}
use Rattle.crew.specs.declared.Handed as code
use Rattle.crew.specs.Workers.{nobody, worker_at}
use Rattle.turns.specs.Standing.{Columns, columns, choice_in, Reach, Final, Board, Ready, InPlace, pair_at, handed_pair, TurnTaken, Work}
use Rattle.pairs.specs.Places.{Ground}
use Rattle.results.specs.Prices.{Methods}
use Rattle.turns.specs.StartLaws.{methods-of}
use Rattle.turns.specs.StandingLaws.{top-is, fit_is}
use Rattle.turns.proofs.Laws.{Prepared, board-of}
use Rattle.turns.specs.StepLaws.{set_at, driving-inside, inner-inside}
use Rattle.rounds.specs.Rounds.{Between, Within}
use Rattle.rounds.specs.Rounds as specs
use Rattle.rounds.specs.RoundLaws.{sound, grounded, estimated, started_as}

-- a set that can be printed table by table
abbrev pub Printable : ℕ → Type 0
Printable S = S < 2 ^ 32

-- a row's set can be printed
printable-row : (g : Graph) → GoodGraph g → (r : ℕ) → r < length (memo g) → Printable (get_or (memo g) r 0)
printable-row g good r l = omega (arith, below_all g (get_or (memo g) r 0) (memo-only g (get_or (memo g) r 0) (at_in 0 (memo g) r l)), pow_mono {i = table_count g} {j = 32} (omega (arith, good.few-tables)))

module _ {g : Graph} {fixed outer inner result sets estimates cells starts cell_starts : List ℕ} {group : Group} {c : Columns} (b : Board g fixed outer inner result sets estimates cells starts cell_starts group c) where
  -- so can where a worker waits
  pub printable-place : {crew : Crew} {workers : List Worker} → InPlace g group crew workers → (w : ℕ) → w < crew.workers → (p : Spot) → (worker_at workers w).place.pair ≡ Some p → Printable (get_or sets p.row 0) × Printable (get_or sets p.inner 0)
  printable-place z w l p e =
      let i = driving-inside b (z.ready w l) e in
      let j = inner-inside b (z.ready w l) e in
      (rw (set_at b _ i).1 (printable-row g b.graph _ i), rw (set_at b _ j).1 (printable-row g b.graph _ j))

  -- and what a turn hands
  pub printable-pair : {w : ℕ} {workers workers' : List Worker} {new : Columns} {pair : Option code.Handed} → TurnTaken g fixed outer inner result group w workers workers' c new pair → Ready g group (worker_at workers w) → (h : code.Handed) → pair ≡ Some h → Printable h.driving × Printable h.inner
  printable-pair {w} {workers} t r h e = ⊎_elim some none (true-or-false (left (worker_at workers w).place))
    where
      some : left (worker_at workers w).place ≡ true → Printable h.driving × Printable h.inner
      some y =
          let s = t.step.some y in
          let a : h ≡ handed_pair (pair_at g s.spot) (kept (choice_in c s.row) s.offer).cost = same_Some _ _ (sym e ∙ s.answer) in
          let D : h.driving ≡ get_or (memo g) s.spot.row 0 = ap (λ (p : code.Handed). p.driving) a in
          let I : h.inner ≡ get_or (memo g) s.spot.inner 0 = ap (λ (p : code.Handed). p.inner) a in
          (rw D (printable-row g b.graph _ (driving-inside b r s.at)), rw I (printable-row g b.graph _ (inner-inside b r s.at)))

      none : left (worker_at workers w).place ≡ false → Printable h.driving × Printable h.inner
      none n =
          let k : Some h ≡ None = sym e ∙ (t.step.none n).2 in
          let k' : ◌≡◌ {A = ℕ} 0 1 = cc in
          absurd (omega arith)

-- before the first group nothing was handed
pub first-between : {q : Query} {crew : Crew} {c : Columns} {v : Worker} → crew.workers ≤ max_workers → v ≡ nobody → Reach q.graph c → Final q crew (by_size q.shape) 1 c → Between q crew 1 (replicate 8 v) c
first-between {v = v} few-workers e r f = record { reach = r; final = f; handed = λ w l. omega (arith, ap (λ (x : Worker). x.handed) (get_or-replicate 8 w v nobody (omega arith) ∙ e)) }

-- a turn of an open group may be taken
pub within-board : {q : Query} {crew : Crew} {turns : List ℕ} → Work q crew (by_size q.shape) turns → {k : ℕ} → 1 ≤ k → k ≤ table_count q.graph - 1 → {group : Group} → group ≡ by_size q.shape k → {workers : List Worker} {c : Columns} → Within q crew k workers c
    → {sets estimates cells starts cell_starts : List ℕ} → Prepared q sets estimates cells starts cell_starts → Board q.graph q.fixed q.per_outer q.per_inner q.per_result sets estimates cells starts cell_starts group c
within-board work one known is z p =
    let e = top-is work one known in
    rw is (board-of p (fit_is work one known) (omega (arith, e)) z.reach (λ S d l. z.standing.rows.final S d (omega (arith, e))))

-- ---- laying out
-- all is laid out and checked, with what no turn changes: the first group may be opened
pub record Started (q : Query) (crew : Crew) (turns sets estimates cells starts cell_starts : List ℕ) (c : Columns) : Type 0 where
  pub prepared : Prepared q sets estimates cells starts cell_starts
  pub work : Work q crew (by_size q.shape) turns
  pub reach : Reach q.graph c
  pub final : Final q crew (by_size q.shape) 1 c

-- that is what is asked before the sizes, by clauses and by the types of what the memo stands in and of the methods' rates
pub asked-of : {q : Query} {crew : Crew} {turns sets estimates cells starts cell_starts : List ℕ} {c : Columns} → Started q crew turns sets estimates cells starts cell_starts c
    → specs.Started q crew turns c × (take (length (memo q.graph)) estimates ≡ map (estimate q.graph) (memo q.graph)) × GoodGraph q.graph × Ground q.graph sets cells starts cell_starts × Methods q.fixed q.per_outer q.per_inner q.per_result
asked-of {q} s = (record { work = s.work; reach = s.reach; final = s.final }, s.prepared.estimated, s.prepared.sound.graph, s.prepared.footing, methods-of q s.prepared.sound)

module _ (q : Query) (workers scheme : ℕ) (turns log : List ℕ) (old : Lent) {new : Lent} {r : Result Laid Refusal}
    (passed : (first_of (checks_of q workers scheme turns (length old.sets ∷ length old.estimates ∷ length old.costs ∷ length old.outers ∷ length old.methods ∷ []) log)).number ≡ 0)
    (laid_out : LaidOut q.graph old new r) (not-refused : is_err r ≡ false) where
  -- the first group may be opened, under each scheme
  pub started_of : (named : Scheme) (old_starts old_cell_starts : List ℕ) {costs starts₁ cell_starts₁ : List ℕ} → table_count q.graph + 2 ≤ length old_starts → table_count q.graph + 2 ≤ length old_cell_starts
      → starts₁ ≡ written old_starts 0 (starts q.graph) → cell_starts₁ ≡ written old_cell_starts 0 (cell_starts q.graph) → costs ≡ written new.costs 0 q.scans
      → Started q (record { workers = workers; scheme = named }) turns new.sets new.estimates new.skips starts₁ cell_starts₁ (columns costs new.outers new.methods)
  started_of named old_starts old_cell_starts {costs} a b e f h =
      let s = started_as q workers scheme turns log old passed laid_out not-refused named {costs = costs} h in
      record {
        prepared = record {
          sound = sound q workers scheme turns log old passed;
          footing = grounded q workers scheme turns log old passed laid_out not-refused old_starts old_cell_starts a b e f;
          estimated = estimated q workers scheme turns log old passed laid_out not-refused;
        };
        work = s.work;
        reach = s.reach;
        final = s.final;
      }

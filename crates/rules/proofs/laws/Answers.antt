-- Any two outcomes that `Planned` allows for one input are equal; the finished memo does not depend on the crew; the counts sum up.
use Rattle.std.specs.Prelude.{◌≡◌, refl, List, [], ◌∷◌, map, get_or, drop}
use Rattle.std.proofs.Math.Path.{sym, ap}
use Rattle.std.proofs.Common.{◌∙◌, subst, arith, ext_get_or, get_or-drop}
use Prim.Native.Nat.{ℕ, zero, suc, ◌+◌, ◌-◌, ◌≤◌, ◌<◌}
use Rattle.std.proofs.Math.Decide.{dec_lt}
use Rattle.std.proofs.Math.Nat.{zero-add}
use Rattle.std.proofs.Math.ListN.{length}
use Rattle.rules.specs.Limits.{max_workers}
use Rattle.rules.specs.Lists.{over}
use Rattle.rules.specs.Estimate.{estimate}
use Rattle.rules.specs.Skips.{skips}
use Rattle.rules.specs.Sets.{size, full}
use Rattle.rules.specs.Query.{Query, table_count}
use Rattle.rules.specs.Trees.{Least}
use Rattle.rules.specs.Rows.{memo}
use Rattle.rules.specs.Shares.{Numbered}
use Rattle.rules.specs.Turns.{Hand, only}
use Rattle.rules.specs.Refusals.{Memory, Input, verdict}
use Rattle.rules.specs.Answers.{Outcome, each, Refused, Spared, Row, Filled, queues_of, InTurn, Logged, Counted, Given, Planned}
use Rattle.rules.specs.laws.Lists.{sum}
use Rattle.rules.proofs.laws.Bellman.{least-unique, pick-unique}
use Rattle.rules.proofs.laws.Handed.{stands-unique}
use Rattle.rules.specs.laws.Turns.{groups-unique, sum_to, counts-sum, Below}
use Rattle.rules.specs.laws.Hands.{only-absent}
use Rattle.rules.proofs.laws.Complete.{groups-below}
use Rattle.rules.specs.laws.Kinds.{crew-workers}
use Rattle.rules.specs.laws.Refusals.{accepted}
use Rattle.rules.proofs.laws.Outcome.{outcome, outcome-planned, entries-of}

-- a column is settled by its first cells and what it was
spared-unique : {n : ℕ} {old a b : List ℕ} → Spared n old a → Spared n old b → ((j : ℕ) → j < n → get_or a j 0 ≡ get_or b j 0) → a ≡ b
spared-unique {n} {old} {a} {b} s t h = ext_get_or 0 a b (s.length-kept ∙ sym t.length-kept) (λ j l. go j (dec_lt j n))
  where
    go : (j : ℕ) → Dec (j < n) → get_or a j 0 ≡ get_or b j 0
    go j (yes l) = h j l
    go j (no g) =
        let e : n + (j - n) ≡ j = omega arith in
        let k : drop n a ≡ drop n b = s.kept ∙ sym t.kept in
        subst (λ (x : ℕ). get_or a x 0 ≡ get_or b x 0) e (sym (get_or-drop n a (j - n) 0) ∙ ap (λ (l : List ℕ). get_or l (j - n) 0) k ∙ get_or-drop n b (j - n) 0)

-- cost, outer set and method of a row are settled by its set
row-unique : {q : Query} {S c x m c' x' m' : ℕ} → Row q S c x m → Row q S c' x' m' → (c ≡ c') × (x ≡ x') × (m ≡ m')
row-unique {q} {S} {c} {x} {m} {c'} {x'} {m'} r r' = go (dec_lt 1 (size S))
  where
    go : Dec (1 < size S) → (c ≡ c') × (x ≡ x') × (m ≡ m')
    go (yes l) = let p = pick-unique (r.more l) (r'.more l) in (least-unique r.least r'.least, p.0, p.1)
    go (no g) =
        let a = r.one (omega arith) in
        let b = r'.one (omega arith) in
        (least-unique r.least r'.least, a.0 ∙ sym b.0, a.1 ∙ sym b.1)

-- two memories agree in memo and skip cells; their logs may differ
pub record SameMemo (a b : Memory) : Type 0 where
  pub sets : a.sets ≡ b.sets
  pub estimates : a.estimates ≡ b.estimates
  pub costs : a.costs ≡ b.costs
  pub outers : a.outers ≡ b.outers
  pub methods : a.methods ≡ b.methods
  pub skips : a.skips ≡ b.skips

-- what a memo holds is settled by the query and by what it held
filled-unique : {q : Query} {before before' a b : Memory} → SameMemo before before' → Filled q before a → Filled q before' b → SameMemo a b
filled-unique {q} {before} {before'} {a} {b} e f g = record {
  sets = f.sets ∙ ap (over (memo q.graph)) e.sets ∙ sym g.sets;
  estimates = f.estimates ∙ ap (over (map (estimate q.graph) (memo q.graph))) e.estimates ∙ sym g.estimates;
  costs = spared-unique (rw e.costs at f.costs) g.costs (λ j l. (row-unique (f.rows j l) (g.rows j l)).0);
  outers = spared-unique (rw e.outers at f.outers) g.outers (λ j l. (row-unique (f.rows j l) (g.rows j l)).1);
  methods = spared-unique (rw e.methods at f.methods) g.methods (λ j l. (row-unique (f.rows j l) (g.rows j l)).2);
  skips = f.skips ∙ ap (over (skips q.graph)) e.skips ∙ sym g.skips;
}

-- THE CREW DOES NOT COUNT: memo, skip tables and plan are the same for all workers, schemes, lists of turns and logs
pub crew-free : {i i' : Input} {o o' : Outcome} → i.query ≡ i'.query → SameMemo i.lent i'.lent → Given i o → Given i' o' → SameMemo o.left o'.left × (o.answer.best ≡ o'.answer.best)
crew-free {i} {i'} {o} {o'} e l g g' =
    let m : Filled i'.query i.lent o.left = rw e at g.memory in
    let b : Least i'.query (full (table_count i'.query.graph)) o.answer.best = rw e at g.answer.best in
    (filled-unique l m g'.memory, least-unique b g'.answer.best)

-- what the turns hand is settled by the input
pub hands-unique : {i : Input} {h h' : List (Hand Numbered)} → InTurn i h → InTurn i h' → h ≡ h'
hands-unique {i} {h} {h'} t t' =
    let e : t.crew ≡ t'.crew = cc (t.named, t'.named) in
    groups-unique t'.crew.workers (queues_of i t'.crew) 1 (table_count i.query.graph - 1) i.turns h h' (rw e at t.groups) t'.groups

-- ANY TWO PLANS of one input are equal
given-unique : {i : Input} {o o' : Outcome} → Given i o → Given i o' → o ≡ o'
given-unique {i} {o} {o'} g g' = λ t. record {
  answer = record {
    refusal = (a.refusal ∙ sym a'.refusal) t;
    place = (a.place ∙ sym a'.place) t;
    best = least-unique a.best a'.best t;
    rows = (a.rows ∙ sym a'.rows) t;
    cells = (a.cells ∙ sym a'.cells) t;
    pairs = (a.pairs ∙ sym a'.pairs) t;
    counts = (a.counts ∙ sym a'.counts) t;
  };
  left = record {
    sets = m.sets t;
    estimates = m.estimates t;
    costs = m.costs t;
    outers = m.outers t;
    methods = m.methods t;
    skips = m.skips t;
    log_workers = (l.workers ∙ sym l'.workers) t;
    log_driving = (l.driving ∙ sym l'.driving) t;
    log_inner = (l.inner ∙ sym l'.inner) t;
    log_costs = spared-unique l.spare l'.spare (λ j k. stands-unique (l.costs j k) (l'.costs j k)) t;
  };
}
  where
    q : Query
    q = i.query

    h : List (Hand Numbered)
    h = g'.handed

    e : g.handed ≡ h
    e = hands-unique g.turns g'.turns

    a : Counted q h o.answer
    a = subst (λ (x : List (Hand Numbered)). Counted q x o.answer) e g.answer

    a' : Counted q h o'.answer
    a' = g'.answer

    l : Logged q h i.lent o.left
    l = subst (λ (x : List (Hand Numbered)). Logged q x i.lent o.left) e g.log

    l' : Logged q h i.lent o'.left
    l' = g'.log

    same : SameMemo i.lent i.lent
    same = record { sets = refl; estimates = refl; costs = refl; outers = refl; methods = refl; skips = refl }

    m : SameMemo o.left o'.left
    m = filled-unique same g.memory g'.memory

refused-unique : {i : Input} {o o' : Outcome} → Refused i o → Refused i o' → o ≡ o'
refused-unique r r' = λ t. record { answer = (r.answer ∙ sym r'.answer) t; left = (r.lent ∙ sym r'.lent) t }

-- ANY TWO OUTCOMES that `Planned` allows for one input are equal
pub planned-unique : {i : Input} {o o' : Outcome} → Planned i o → Planned i o' → o ≡ o'
planned-unique {i} {o} {o'} p p' = go (dec_lt 0 (verdict i).number)
  where
    go : Dec (0 < (verdict i).number) → o ≡ o'
    go (yes l) = refused-unique (p.refused l) (p'.refused l)
    go (no g) = let e : (verdict i).number ≡ 0 = omega arith in given-unique (p.given e) (p'.given e)

-- so it is the one that computes
pub planned-outcome : {i : Input} {o : Outcome} → Planned i o → o ≡ outcome i
planned-outcome {i} p = planned-unique p (outcome-planned i)

-- ---- counts
-- f 0 to f (w + n - 1), cut at w
sum-each : (f : ℕ → ℕ) (w n : ℕ) → sum_to f (w + n) ≡ sum_to f w + sum (each f w n)
unfolding sum each sum_to
sum-each f w zero = let e : w + 0 ≡ w = omega arith in rw e (omega arith)
sum-each f w (suc n) = let e : w + suc n ≡ suc w + n = omega arith in rw e (omega (arith, sum-each f (suc w) n))

below_more : (m n : ℕ) (h : List (Hand Numbered)) → m ≤ n → Below m h → Below n h
unfolding Below
below_more m n [] l b = tt
below_more m n (x ∷ h) l b = (omega (arith, b.0), below_more m n h l b.1)

each-at-zero : (f : ℕ → ℕ) (v n w : ℕ) → ((k : ℕ) → v + w ≤ k → f k ≡ 0) → get_or (each f v n) w 0 ≡ 0
unfolding each
each-at-zero f v zero w h = refl
each-at-zero f v (suc n) zero h = h v (omega arith)
each-at-zero f v (suc n) (suc w) h = each-at-zero f (suc v) n w (λ k l. h k (omega arith))

module _ {i : Input} {o : Outcome} (e : (verdict i).number ≡ 0) (g : Given i o) where
  handed-below : Below i.workers g.handed
  handed-below =
      let w : g.turns.crew.workers ≡ i.workers = crew-workers i.workers i.scheme g.turns.named in
      let b = groups-below g.turns.crew.workers (queues_of i g.turns.crew) 1 (table_count i.query.graph - 1) i.turns g.handed
      (rw w (entries-of i.workers i.turns (accepted i e).checked.turns)) g.turns.groups in
      rw w at b

  -- "The eight sum to the number of pairs."
  pub counts-pairs : sum o.answer.counts ≡ o.answer.pairs
  unfolding sum_to
  counts-pairs =
      let h = g.handed in
      let f : ℕ → ℕ = λ w. length (only w h) in
      let n : sum_to f max_workers ≡ length h = counts-sum max_workers h (below_more i.workers max_workers h (accepted i e).checked.crew.few-workers handed-below) in
      let k : sum_to f max_workers ≡ sum (each f 0 max_workers) = sum-each f 0 max_workers ∙ zero-add _ in
      ap sum g.answer.counts ∙ sym k ∙ n ∙ sym g.answer.pairs

  -- "0 for absent workers"
  pub counts-absent : (w : ℕ) → i.workers ≤ w → get_or o.answer.counts w 0 ≡ 0
  counts-absent w l =
      rw g.answer.counts (each-at-zero (λ v. length (only v g.handed)) 0 max_workers w (λ k u. ap length (only-absent i.workers g.handed handed-below k (omega arith))))

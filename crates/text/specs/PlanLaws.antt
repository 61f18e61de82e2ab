-- From what planning promises to the lines of its answer.
use Rattle.std.specs.Prelude.{◌≡◌, refl, ℕ, zero, suc, ◌+◌, ◌-◌, ◌^◌, ◌≤◌, ◌<◌, length, get_or, Result, Ok, Err}
use Rattle.std.proofs.Common.{sym, ap, ◌∙◌, subst, arith, length-append}
use mathlib.Core.List.{List, ◌++◌, map, Memᴰ}
use Rattle.std.proofs.Math.Decide.{dec_lt}
use Rattle.rules.specs.declared.refusal.Refusal.{Refusal}
use Rattle.rules.specs.Verdict.{number_of, told}
use Rattle.rules.specs.Limits.{max_tables, text_rows, answer_room}
use Rattle.rules.specs.Sets.{size, single, full}
use Rattle.rules.specs.Query.{Graph, table_count}
use Rattle.rules.specs.Estimate.{estimate}
use Rattle.rules.specs.Rows.{memo}
use Rattle.rules.specs.Trees.{Tree, tables_of, cost_of, Least, Picked}
use Rattle.rules.specs.Refusals.{Input, verdict}
use Rattle.rules.specs.Checked.{Accepted}
use Rattle.rules.specs.Answers as rules
use Rattle.rules.specs.Answers.{Outcome, Row, Filled, Given, Planned}
use Rattle.rules.specs.Writing.{plan_line, join_lines, refusal_line}
use Rattle.rules.specs.Text.{blanks, PlanText}
use Rattle.rules.specs.laws.Lists.{in-at, length-map, at_map, over-length, over-at, over-past}
use Rattle.rules.specs.laws.Sets.{size-le}
use Rattle.rules.proofs.laws.Rows.{memo-only, below_all}
use Rattle.rules.specs.laws.Refusals.{accepted}
use Rattle.rules.proofs.laws.Bellman.{least-unique}
use Rattle.rules.proofs.laws.Picked.{picked-valid, picked-least}
use Rattle.rules.proofs.laws.Writing.{line_room, plan-room, refusal-room, joins-room}
use Rattle.rules.proofs.laws.Text.{given-tree}
use Rattle.digits.specs.declared.Line.{Line}
use Rattle.digits.specs.Put.{Put}
use Rattle.digits.specs.PutLaws.{put_then, put-length}
use Rattle.writer.specs.declared.joins.Memo.{Memo}
use Rattle.writer.specs.Plans.{Kept, ToPut}
use Rattle.reader.specs.LoopLaws.{number-within}
use Rattle.planner.specs.declared.Answer.{Answer}
use Rattle.planner.specs.Plans.{memory_of, outcome_of}
use Rattle.text.specs.Composing.{Answered, Composed}

-- ---- a refusal
-- "X, number, place": the answer's own
pub refused-composed : {i : Input} {o : Outcome} (r : Refusal) {before after : Line} → Planned i o → o.answer ≡ rules.refusal (told r) → r.place < 10 ^ 20
    → Put before after (refusal_line (told r)) → Composed (verdict i) i before after
refused-composed {i} {o} r {before} {after} p a l w = go (dec_lt 0 (verdict i).number)
  where
    n : (1 ≤ number_of r.reason) × (number_of r.reason ≤ 25)
    n = number-within r.reason

    go : Dec (0 < (verdict i).number) → Composed (verdict i) i before after
    go (no z) = absurd (omega (arith, n.0, ap (λ (x : rules.Answer). x.refusal) a, (p.given (omega arith)).answer.refusal))
    go (yes z) =
        let e = sym a ∙ (p.refused z).answer in
        let same : told r ≡ verdict i = λ t. record { number = (e t).refusal; place = (e t).place } in
        record { bytes = refusal_line (told r); lined = record { planned = λ y. absurd (omega (arith, y, z)); refused = λ _. ap refusal_line same }; put = w; short = omega (arith, refusal-room (told r) (omega (arith, n.1)) l) }

-- ---- a plan
-- an answer that is no refusal is a plan's
pub given-of : {i : Input} {o : Outcome} → Planned i o → o.answer.refusal ≡ 0 → ((verdict i).number ≡ 0) × Given i o
given-of {i} {o} p e = go (dec_lt 0 (verdict i).number)
  where
    go : Dec (0 < (verdict i).number) → ((verdict i).number ≡ 0) × Given i o
    go (yes l) = absurd (omega (arith, ap (λ (a : rules.Answer). a.refusal) (p.refused l).answer))
    go (no z) = let v : (verdict i).number ≡ 0 = omega arith in (v, p.given v)

-- blank cells hold 0
blank-cell : (n j : ℕ) → get_or (blanks n) j 0 ≡ 0
blank-cell zero j = refl
blank-cell (suc n) zero = refl
blank-cell (suc n) (suc j) = blank-cell n j

-- the memo that a plan left in blank rows is what the writer reads
module _ {i : Input} {o : Outcome} (blank : i.lent.sets ≡ blanks text_rows) (e : (verdict i).number ≡ 0) (g : Given i o) where
  abbrev graph : Graph
  graph = i.query.graph

  -- what the row of S says
  abbrev Says : ℕ → ℕ → Type 0
  Says j S = (get_or o.left.estimates j 0 ≡ estimate graph S) × Row i.query S (get_or o.left.costs j 0) (get_or o.left.outers j 0) (get_or o.left.methods j 0)

  a : Accepted i
  a = accepted i e

  f : Filled i.query i.lent o.left
  f = g.memory

  long : length o.left.sets ≡ length i.lent.sets
  long = ap length f.sets ∙ over-length (memo graph) i.lent.sets a.rows

  set_at : (j : ℕ) → j < length (memo graph) → get_or o.left.sets j 0 ≡ get_or (memo graph) j 0
  set_at j l = ap (λ (x : List ℕ). get_or x j 0) f.sets ∙ over-at (memo graph) i.lent.sets j l

  estimate-at : (j : ℕ) → j < length (memo graph) → get_or o.left.estimates j 0 ≡ estimate graph (get_or (memo graph) j 0)
  estimate-at j l =
      ap (λ (x : List ℕ). get_or x j 0) f.estimates ∙ over-at (map (estimate graph) (memo graph)) i.lent.estimates j (omega (arith, l, length-map (estimate graph) (memo graph))) ∙ at_map (estimate graph) 0 (memo graph) j l

  -- spare rows hold 0, which is no set of the memo
  no-spare : (j : ℕ) → length (memo graph) ≤ j → get_or o.left.sets j 0 ≡ 0
  no-spare j l = ap (λ (x : List ℕ). get_or x j 0) f.sets ∙ over-past (memo graph) i.lent.sets j l ∙ ap (λ (x : List ℕ). get_or x j 0) blank ∙ blank-cell text_rows j

  says : (j : ℕ) → Dec (j < length (memo graph)) → Memᴰ (get_or o.left.sets j 0) (memo graph) → Says j (get_or o.left.sets j 0)
  says j (yes l) m = rw (set_at j l) (estimate-at j l, f.rows j l)
  says j (no z) m = absurd (omega (arith, no-spare j (omega arith), (memo-only graph (get_or o.left.sets j 0) m).some))

  stands : (S : ℕ) → Memᴰ S (memo graph) → (j : ℕ) × (j < length o.left.sets) × (get_or o.left.sets j 0 ≡ S)
  stands S m = let p = in-at 0 (memo graph) S m in (p.0, omega (arith, p.1, a.rows, long), set_at p.0 p.1 ∙ p.2)

  pub kept_of : (m : Memo) → m.tables ≡ table_count i.query.graph → m.sets.now ≡ o.left.sets → m.estimates.now ≡ o.left.estimates → m.costs.now ≡ o.left.costs → m.outers.now ≡ o.left.outers → m.methods.now ≡ o.left.methods → Kept i.query m
  kept_of m n s e c o' w =
      let k = a.checked.columns in
      let fit : length (map (estimate graph) (memo graph)) ≤ length i.lent.estimates = omega (arith, length-map (estimate graph) (memo graph), a.rows, k.estimates) in
      record {
        tables = n;
        few = omega (arith, n, a.checked.sound.graph.few-tables);
        stands = rw s stands;
        lengths = rw (s, e, c, o', w) (ap length f.estimates ∙ over-length (map (estimate graph) (memo graph)) i.lent.estimates fit ∙ k.estimates ∙ sym long, f.costs.length-kept ∙ k.costs ∙ sym long, f.outers.length-kept ∙ k.outers ∙ sym long, f.methods.length-kept ∙ k.methods ∙ sym long);
        holds = rw (s, e, c, o', w) (λ j m l. says j (dec_lt j (length (memo graph))) m);
      }

-- a plan's lines are short
pub lines-short : {i : Input} {o : Outcome} (e : (verdict i).number ≡ 0) (g : Given i o) → length (join_lines i.query (given-tree e g).tree) + line_room ≤ answer_room
lines-short {i} e g =
    let t = given-tree e g in
    let s = (accepted i e).checked.sound in
    let n = table_count i.query.graph in
    omega (arith, joins-room i.query s t.tree (picked-valid i.query t.tree t.picked), ap size t.covers, size-le n (full n) (below_all i.query.graph (full n) s.connected), s.graph.few-tables)

-- the plan's own tree is to be put behind the P line, and there is room for it
pub to-put : {i : Input} {o : Outcome} {before mid : Line} → (verdict i).number ≡ 0 → Given i o → o.answer.best < 10 ^ 20 → o.answer.pairs < 10 ^ 20
    → Put before mid (plan_line o.answer.best o.answer.pairs) → before.at + answer_room ≤ length before.out.now → ToPut i.query (full (table_count i.query.graph)) mid
to-put {i} {o} e g l₁ l₂ p room =
    let t = given-tree e g in
    record { tree = t.tree; picked = t.picked; covers = t.covers; room-left = omega (arith, p.end, put-length p, room, lines-short e g, plan-room o.answer.best o.answer.pairs l₁ l₂) }

-- P and J lines, one behind the other, are the answer
pub planned-composed : {i : Input} {o : Outcome} {before mid after : Line} → (verdict i).number ≡ 0 → (g : Given i o) → o.answer.best < 10 ^ 20 → o.answer.pairs < 10 ^ 20
    → Put before mid (plan_line o.answer.best o.answer.pairs) → ((t : Tree) → Picked i.query t → tables_of t ≡ full (table_count i.query.graph) → Put mid after (join_lines i.query t))
    → Composed (verdict i) i before after
planned-composed {i} {o} e g l₁ l₂ p joins =
    let tree = given-tree e g in
    let c = g.answer in
    let best : o.answer.best ≡ cost_of i.query tree.tree = least-unique c.best (subst (λ (S : ℕ). Least i.query S (cost_of i.query tree.tree)) tree.covers (picked-least i.query tree.tree tree.picked)) in
    let bytes : List ℕ = plan_line o.answer.best o.answer.pairs ++ join_lines i.query tree.tree in
    let plan : PlanText i bytes = record { tree = tree.tree; picked = tree.picked; whole = tree.covers; handed = g.handed; turns = g.turns; bytes-are = λ t. plan_line (best t) (c.pairs t) ++ join_lines i.query tree.tree } in
    record {
      bytes = bytes;
      lined = record { planned = λ _. plan; refused = λ l. absurd (omega (arith, e, l)) };
      put = put_then p (joins tree.tree tree.picked tree.covers);
      short = omega (arith, length-append (plan_line o.answer.best o.answer.pairs) (join_lines i.query tree.tree), lines-short e g, plan-room o.answer.best o.answer.pairs l₁ l₂);
    }

-- ---- what planning answered
pub answered_is : {i : Input} {a b : Result Answer Refusal} {m : Memo} → a ≡ b → Answered i a m → Answered i b m
answered_is {i} {a} {b} {m} e z = subst (λ (x : Result Answer Refusal). Answered i x m) e z

pub answered-refused : {i : Input} {r : Refusal} {m : Memo} {before after : Line} → Answered i (Err r) m → r.place < 10 ^ 20
    → Put before after (refusal_line (told r)) → Composed (verdict i) i before after
answered-refused {i} {r} z = refused-composed r z.planned refl

module _ {i : Input} {a : Answer} {m : Memo} (z : Answered i (Ok a) m) where
  none : (verdict i).number ≡ 0
  none = (given-of z.planned refl).0

  abbrev given : Given i (outcome_of (Ok a) (memory_of m.sets.now m.estimates.now m.costs.now m.outers.now m.methods.now z.skips z.log_workers z.log_driving z.log_inner z.log_costs))
  given = (given-of z.planned refl).1

  pub answered-few : m.tables ≤ max_tables
  answered-few = omega (arith, z.tables, (accepted i none).checked.sound.graph.few-tables)

  pub answered-kept : Kept i.query m
  answered-kept = kept_of z.blank none given m z.tables refl refl refl refl refl

  module _ (best : a.best < 10 ^ 20) (pairs : a.pairs < 10 ^ 20) {before mid : Line} (p : Put before mid (plan_line a.best a.pairs)) where
    pub answered-put : {S : ℕ} → S ≡ full m.tables → before.at + answer_room ≤ length before.out.now → ToPut i.query S mid
    answered-put s room = rw (s, z.tables) (to-put none given best pairs p room)

    pub answered-planned : {S : ℕ} {after : Line} → S ≡ full m.tables → ((t : Tree) → Picked i.query t → tables_of t ≡ S → Put mid after (join_lines i.query t)) → Composed (verdict i) i before after
    answered-planned s joins = planned-composed none given best pairs p (λ t k c. joins t k (c ∙ ap full (sym z.tables) ∙ sym s))

-- "the P line" fits any buffer of the entry's own
pub plan-fits : (line : Line) (best pairs : ℕ) → best < 10 ^ 20 → pairs < 10 ^ 20 → line.at + answer_room ≤ length line.out.now → line.at + length (plan_line best pairs) ≤ length line.out.now
plan-fits line best pairs l₁ l₂ h = omega (arith, plan-room best pairs l₁ l₂)

-- and so does an X line
pub refusal-fits : (line : Line) (r : Refusal) (n : ℕ) → n ≡ number_of r.reason → r.place < 10 ^ 20 → line.at + answer_room ≤ length line.out.now → line.at + length (refusal_line (record { number = n; place = r.place })) ≤ length line.out.now
refusal-fits line r n e l h = rw e (omega (arith, refusal-room (told r) (omega (arith, (number-within r.reason).1)) l))

-- all tables, as the code finds them
pub all-tables : (n : ℕ) {s : ℕ} → s ≡ single (n + 1) → s - 1 ≡ full n
all-tables n {s} e = let k : n + 1 - 1 ≡ n = omega arith in rw (e, k) refl

-- The text entry: each text has one answer; it begins with P exactly where the text is good and the library accepts its query.
use Rattle.std.specs.Prelude.{◌≡◌, refl, List, [], ◌∷◌, ◌++◌, ℕ, ◌≤◌, ◌<◌, length, get_or}
use Rattle.std.proofs.Common.{sym, ap, ◌∙◌, subst, le_refl, arith, eq-eqb, ne_eqb}
use Rattle.std.proofs.Math.Decide.{dec_lt, ℕ_discrete}
use Rattle.rules.specs.Verdict.{Verdict}
use Rattle.rules.specs.Limits.{answer_room}
use Rattle.rules.specs.Lists.{over}
use Rattle.rules.specs.Sets.{size, full}
use Rattle.rules.specs.Query.{table_count}
use Rattle.rules.specs.Connected.{Connected}
use Rattle.rules.specs.Rows.{memo}
use Rattle.rules.specs.Trees.{tables_of, cost_of, Least, Pick, Picked}
use Rattle.rules.specs.Refusals.{Input, first_of, verdict}
use Rattle.rules.specs.Answers.{Outcome, Given}
use Rattle.rules.specs.Reading.{reading}
use Rattle.rules.specs.Writing.{answer_line, plan_line, refusal_line, join_lines}
use Rattle.rules.specs.Text.{input_of, text_verdict, PlanText, Lined, Answers, Written}
use Rattle.rules.specs.laws.Lists.{in-at}
use Rattle.rules.proofs.laws.Rows.{memo-all}
use Rattle.rules.proofs.laws.Picked.{PickedTree, picked-exists, picked-least, picked-unique}
use Rattle.rules.specs.laws.Refusals.{accepted}
use Rattle.rules.proofs.laws.Outcome.{outcome-planned}
use Rattle.rules.proofs.laws.Answers.{hands-unique}

-- ---- the answer of a plan
-- the memo of a plan has the pick of each connected set of two tables or more
given-picks : {i : Input} {o : Outcome} → Given i o → (S : ℕ) → Connected i.query.graph S → 2 ≤ size S → (x m : ℕ) × Pick i.query S x m
given-picks {i} {o} g S c l =
    let p = in-at 0 (memo i.query.graph) S (memo-all i.query.graph S c) in
    let more = (g.memory.rows p.0 p.1).more in
    (get_or o.left.outers p.0 0, get_or o.left.methods p.0 0, rw p.2 at (more (rw p.2 l)))

-- so it has a tree that the tie rule picks
pub given-tree : {i : Input} {o : Outcome} → (verdict i).number ≡ 0 → (g : Given i o) → PickedTree i.query (full (table_count i.query.graph))
given-tree {i} e g =
    let S = full (table_count i.query.graph) in
    picked-exists i.query (given-picks g) (size S) S (le_refl (size S)) (accepted i e).checked.sound.connected

pub plan-exists : (i : Input) → (verdict i).number ≡ 0 → (bytes : List ℕ) × PlanText i bytes
plan-exists i e =
    let g = (outcome-planned i).given e in
    let t = given-tree e g in (
      plan_line (cost_of i.query t.tree) (length g.handed) ++ join_lines i.query t.tree,
      record {
        tree = t.tree;
        picked = t.picked;
        whole = t.covers;
        handed = g.handed;
        turns = g.turns;
        bytes-are = refl;
      },
    )

pub plan-unique : {i : Input} {a b : List ℕ} → PlanText i a → PlanText i b → a ≡ b
plan-unique {i} {a} {b} p r =
    let e : p.tree ≡ r.tree = picked-unique i.query p.tree r.tree p.picked r.picked (p.whole ∙ sym r.whole) in
    let h : p.handed ≡ r.handed = hands-unique p.turns r.turns in
    let f : plan_line (cost_of i.query p.tree) (length p.handed) ++ join_lines i.query p.tree ≡ plan_line (cost_of i.query r.tree) (length r.handed) ++ join_lines i.query r.tree = rw (e, h) refl in
    p.bytes-are ∙ f ∙ sym r.bytes-are

-- the plan itself does not depend on crew and turns
pub plan-free : {i i' : Input} {a b : List ℕ} → i.query ≡ i'.query → (p : PlanText i a) (r : PlanText i' b) → p.tree ≡ r.tree
plan-free {i} {i'} e p r =
    let k : Picked i'.query p.tree = rw e at p.picked in
    let w : tables_of p.tree ≡ full (table_count i'.query.graph) = rw e at p.whole in
    picked-unique i'.query p.tree r.tree k r.picked (w ∙ sym r.whole)

-- its best cost is the least over all trees of all tables
pub plan-least : {i : Input} {bytes : List ℕ} (p : PlanText i bytes) → Least i.query (full (table_count i.query.graph)) (cost_of i.query p.tree)
plan-least {i} p = subst (λ (S : ℕ). Least i.query S (cost_of i.query p.tree)) p.whole (picked-least i.query p.tree p.picked)

-- ---- which texts get a plan
-- the first of two refusals
first-none : (v w : Verdict) → v.number ≡ 0 → w.number ≡ 0 → (first_of (v ∷ w ∷ [])).number ≡ 0
unfolding first_of
first-none v w a b = rw (eq-eqb v.number 0 a, eq-eqb w.number 0 b) refl

first_some : (v w : Verdict) → (v.number ≡ 0 → ⊥) → first_of (v ∷ w ∷ []) ≡ v
unfolding first_of
first_some v w a = rw (ne_eqb v.number 0 a) refl

first-second : (v w : Verdict) → v.number ≡ 0 → (w.number ≡ 0 → ⊥) → first_of (v ∷ w ∷ []) ≡ w
unfolding first_of
first-second v w a b = rw (eq-eqb v.number 0 a, ne_eqb w.number 0 b) refl

-- a good text, and a query that the library accepts
pub record GoodText (text : List ℕ) : Type 0 where
  pub good : (reading text).verdict.number ≡ 0
  pub accepted-query : (verdict (input_of text)).number ≡ 0

pub good_none : {text : List ℕ} → GoodText text → (text_verdict text).number ≡ 0
unfolding text_verdict
good_none {text} g = first-none (reading text).verdict (verdict (input_of text)) g.good g.accepted-query

pub unread-verdict : (text : List ℕ) → ((reading text).verdict.number ≡ 0 → ⊥) → text_verdict text ≡ (reading text).verdict
unfolding text_verdict
unread-verdict text n = first_some (reading text).verdict (verdict (input_of text)) n

pub unplanned-verdict : (text : List ℕ) → (reading text).verdict.number ≡ 0 → ((verdict (input_of text)).number ≡ 0 → ⊥) → text_verdict text ≡ verdict (input_of text)
unfolding text_verdict
unplanned-verdict text e n = first-second (reading text).verdict (verdict (input_of text)) e n

pub none-good : (text : List ℕ) → (text_verdict text).number ≡ 0 → GoodText text
none-good text e = go (ℕ_discrete (reading text).verdict.number 0) (ℕ_discrete (verdict (input_of text)).number 0)
  where
    go : Dec ((reading text).verdict.number ≡ 0) → Dec ((verdict (input_of text)).number ≡ 0) → GoodText text
    go (yes a) (yes b) = record { good = a; accepted-query = b }
    go (no a) b = absurd (a (ap (λ (v : Verdict). v.number) (sym (unread-verdict text a)) ∙ e))
    go (yes a) (no b) = absurd (b (ap (λ (v : Verdict). v.number) (sym (unplanned-verdict text a b)) ∙ e))

-- ---- the answer to a text
-- FOR EVERY TEXT THERE IS AN ANSWER
pub answers-exist : (text : List ℕ) → (bytes : List ℕ) × Answers text bytes
answers-exist text = go (dec_lt 0 (text_verdict text).number)
  where
    go : Dec (0 < (text_verdict text).number) → (bytes : List ℕ) × Answers text bytes
    go (yes l) = (refusal_line (text_verdict text), record { planned = λ e. absurd (omega arith); refused = λ _. refl })
    go (no z) =
        let p = plan-exists (input_of text) (none-good text (omega arith)).accepted-query in
        (p.0, record { planned = λ _. p.1; refused = λ l. absurd (omega arith) })

lined-unique : {v : Verdict} {i : Input} {a b : List ℕ} → Lined v i a → Lined v i b → a ≡ b
lined-unique {v} {i} {a} {b} p r = go (dec_lt 0 v.number)
  where
    go : Dec (0 < v.number) → a ≡ b
    go (yes l) = p.refused l ∙ sym (r.refused l)
    go (no z) = let e : v.number ≡ 0 = omega arith in plan-unique (p.planned e) (r.planned e)

pub answers-unique : (text : List ℕ) {a b : List ℕ} → Answers text a → Answers text b → a ≡ b
answers-unique text p r = lined-unique p r

-- ANY TWO OUTCOMES that `Written` allows for one text and one buffer are equal
pub written-unique : {text old a b : List ℕ} {r s : ℕ} → Written text old a r → Written text old b s → (a ≡ b) × (r ≡ s)
written-unique {text} {old} {a} {b} {r} {s} w u = go (dec_lt (length old) (length u.bytes))
  where
    same : w.bytes ≡ u.bytes
    same = answers-unique text w.answer u.answer

    go : Dec (length old < length u.bytes) → (a ≡ b) × (r ≡ s)
    go (yes l) = ((w.long (rw same l)).1 ∙ sym (u.long l).1, (w.long (rw same l)).0 ∙ sym (u.long l).0)
    go (no z) =
        let k : length u.bytes ≤ length old = omega arith in
        ((w.fits (rw same k)).1 ∙ ap (λ (x : List ℕ). over x old) same ∙ sym (u.fits k).1, (w.fits (rw same k)).0 ∙ ap length same ∙ sym (u.fits k).0)

-- no answer is empty
letter-some : (letter : ℕ) (parts : List (List ℕ)) → 0 < length (answer_line letter parts)
unfolding answer_line
letter-some letter parts = omega arith

line-some : (letter : ℕ) (parts : List (List ℕ)) (more : List ℕ) → 0 < length (answer_line letter parts ++ more)
unfolding answer_line
line-some letter parts more = omega arith

pub answer-some : (text : List ℕ) {bytes : List ℕ} → Answers text bytes → 0 < length bytes
unfolding plan_line refusal_line
answer-some text {bytes} a = go (dec_lt 0 (text_verdict text).number)
  where
    go : Dec (0 < (text_verdict text).number) → 0 < length bytes
    go (yes l) = rw (a.refused l) (letter-some 88 _)
    go (no z) = let p = a.planned (omega arith) in rw p.bytes-are (line-some 80 _ _)

-- 0 IS RETURNED EXACTLY WHERE THE ANSWER IS LONGER THAN ITS BUFFER
pub zero-long : {text old new : List ℕ} {r : ℕ} (w : Written text old new r) → r ≡ 0 → length old < length w.bytes
zero-long {text} {old} w e = go (dec_lt (length old) (length w.bytes))
  where
    go : Dec (length old < length w.bytes) → length old < length w.bytes
    go (yes l) = l
    go (no z) = absurd (omega (arith, answer-some text w.answer, (w.fits (omega arith)).0))

-- the length is within the buffer
pub written-within : {text old new : List ℕ} {r : ℕ} → Written text old new r → r ≤ length old
written-within {old = old} {r = r} w = go (dec_lt (length old) (length w.bytes))
  where
    go : Dec (length old < length w.bytes) → r ≤ length old
    go (yes l) = omega (arith, (w.long l).0)
    go (no z) = omega (arith, (w.fits (omega arith)).0)

-- A BUFFER OF 4,096 BYTES ALWAYS SUFFICES
pub room-suffices : {text old new : List ℕ} {r : ℕ} (w : Written text old new r) → answer_room ≤ length old → (r ≡ length w.bytes) × (new ≡ over w.bytes old)
room-suffices w l = w.fits (omega (arith, w.short))

-- ---- P EXACTLY FOR A PLAN
line-letter : (letter : ℕ) (parts : List (List ℕ)) (more : List ℕ) → get_or (answer_line letter parts ++ more) 0 0 ≡ letter
unfolding answer_line
line-letter letter parts more = refl

pub good-plan : (text : List ℕ) {bytes : List ℕ} → Answers text bytes → GoodText text → get_or bytes 0 0 ≡ 80
unfolding plan_line
good-plan text a g = let p = a.planned (good_none g) in ap (λ (l : List ℕ). get_or l 0 0) p.bytes-are ∙ line-letter 80 _ _

pub plan-good : (text : List ℕ) {bytes : List ℕ} → Answers text bytes → get_or bytes 0 0 ≡ 80 → GoodText text
unfolding refusal_line answer_line
plan-good text {bytes} a e = go (dec_lt 0 (text_verdict text).number)
  where
    go : Dec (0 < (text_verdict text).number) → GoodText text
    go (yes l) = let k : ◌≡◌ {A = ℕ} 88 80 = sym (ap (λ (x : List ℕ). get_or x 0 0) (a.refused l)) ∙ e in absurd (omega (arith, k))
    go (no z) = none-good text (omega arith)

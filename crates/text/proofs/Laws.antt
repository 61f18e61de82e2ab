-- Laws that no proof cites any more, since the check finds their goals: they hold as before.
use Rattle.std.specs.Prelude.{◌≡◌, refl, List, ℕ, ◌+◌, ◌-◌, ◌^◌, ◌≤◌, ◌<◌, ◌++◌, length, take, drop, replicate}
use Rattle.std.proofs.Common.{sym, ap, ◌∙◌, arith, subst, pow_pos, length-take-le}
use Rattle.std.proofs.Math.Decide.{dec_lt}
use Rattle.std.proofs.lemmas.List.{length-replicate}
use Rattle.rules.specs.Verdict.{Verdict, none}
use Rattle.rules.specs.Limits.{answer_room}
use Rattle.rules.specs.Sets.{single, full}
use Rattle.rules.specs.Query.{table_count}
use Rattle.rules.specs.Reading.{Read, Reading, reading}
use Rattle.rules.specs.Refusals.{Input, verdict}
use Rattle.rules.specs.Answers.{Outcome, Given, Planned}
use Rattle.rules.specs.Writing.{plan_line, refusal_line}
use Rattle.rules.specs.Text.{text_input, input_for, input_of, text_verdict, Written}
use Rattle.rules.proofs.laws.Writing.{plan-room, refusal-room}
use Rattle.rules.proofs.laws.Text.{unread-verdict, given-tree}
use Rattle.query.specs.Lists.{query_of}
use Rattle.fields.specs.declared.kinds.Progress.{Progress}
use Rattle.reader.specs.Lists.{lists}
use Rattle.reader.specs.Records.{read_of}
use Rattle.digits.specs.declared.Line.{Line}
use Rattle.digits.specs.Put.{Put}
use Rattle.writer.specs.Plans.{ToPut}
use Rattle.text.specs.Composing.{Composed}
use Rattle.text.specs.ReadLaws.{good-lined, lines-within}
use Rattle.text.specs.ReadLaws as read
use Rattle.rules.specs.Lists.{over}
use Rattle.text.specs.PlanLaws.{lines-short}

-- a part from 0 on
cut-from : (n : ℕ) → n - 0 ≡ n
cut-from n = omega arith

-- the input of columns, each cut to its records as `&a[0..n]` is
abbrev cut_input : Progress → (rows scans left right divisors fixed outer inner result : List ℕ) → Input
cut_input p rows scans left right divisors fixed outer inner result =
    text_input
    (query_of (take (p.tables - 0) rows) (take (p.tables - 0) scans) (take (p.edges - 0) left) (take (p.edges - 0) right) (take (p.edges - 0) divisors) (take (p.methods - 0) fixed) (take (p.methods - 0) outer) (take (p.methods - 0) inner) (take (p.methods - 0) result))
    p.workers p.scheme

pub cut-is : (p : Progress) (rows scans left right divisors fixed outer inner result : List ℕ)
    → cut_input p rows scans left right divisors fixed outer inner result ≡ input_for (read_of p (lists rows scans left right divisors fixed outer inner result))
cut-is p rows scans left right divisors fixed outer inner result =
    let t = cut-from p.tables in
    let u = cut-from p.edges in
    let m = cut-from p.methods in
    λ k. text_input (query_of (take (t k) rows) (take (t k) scans) (take (u k) left) (take (u k) right) (take (u k) divisors) (take (m k) fixed) (take (m k) outer) (take (m k) inner) (take (m k) result)) p.workers p.scheme

-- what the code has planned is what was read, whatever verdict of number 0 is told
pub read-planned : (text : List ℕ) (p : Progress) (rows scans left right divisors fixed outer inner result : List ℕ) {v : Verdict} {before after : Line}
    → record { verdict = v; read = read_of p (lists rows scans left right divisors fixed outer inner result) } ≡ reading text → v.number ≡ 0
    → Composed (verdict (cut_input p rows scans left right divisors fixed outer inner result)) (cut_input p rows scans left right divisors fixed outer inner result) before after → Composed (text_verdict text) (input_of text) before after
read-planned text p rows scans left right divisors fixed outer inner result {v} {before} {after} e z c =
    let same : cut_input p rows scans left right divisors fixed outer inner result ≡ input_of text = cut-is p rows scans left right divisors fixed outer inner result ∙ ap (λ (x : Reading). input_for x.read) e in
    let d : Composed (verdict (input_of text)) (input_of text) before after = subst (λ (i : Input). Composed (verdict i) i before after) same c in
    record { bytes = d.bytes; lined = good-lined text (ap (λ (x : Reading). x.verdict.number) (sym e) ∙ z) d.lined; put = d.put; short = d.short }

pub cut-planned : (text : List ℕ) (p : Progress) (rows scans left right divisors fixed outer inner result : List ℕ) {before after : Line}
    → record { verdict = none; read = read_of p (lists rows scans left right divisors fixed outer inner result) } ≡ reading text
    → Composed (verdict (cut_input p rows scans left right divisors fixed outer inner result)) (cut_input p rows scans left right divisors fixed outer inner result) before after → Composed (text_verdict text) (input_of text) before after
cut-planned text p rows scans left right divisors fixed outer inner result e c = read-planned text p rows scans left right divisors fixed outer inner result e refl c

-- ---- what is told, whatever its number
-- "X, number, place": the text's own
pub read-refused : (text : List ℕ) {v : Verdict} {s : Read} {before after : Line} → record { verdict = v; read = s } ≡ reading text → (v.number ≡ 0 → ⊥) → v.number < 10 ^ 20 → v.place < 10 ^ 20
    → Put before after (refusal_line v) → Composed (text_verdict text) (input_of text) before after
read-refused text {v} e n l₁ l₂ w =
    let same : v ≡ (reading text).verdict = ap (λ (x : Reading). x.verdict) e in
    let whole : text_verdict text ≡ v = unread-verdict text (λ z. n (ap (λ (x : Verdict). x.number) same ∙ z)) ∙ sym same in
    record {
      bytes = refusal_line v;
      lined = record { planned = λ z. absurd (n (ap (λ (x : Verdict). x.number) (sym whole) ∙ z)); refused = λ _. ap refusal_line (sym whole) };
      put = w;
      short = omega (arith, refusal-room v l₁ l₂);
    }

-- and the answer's own
pub refused-composed : {i : Input} {o : Outcome} {before after : Line} → Planned i o → (o.answer.refusal ≡ 0 → ⊥) → o.answer.refusal < 10 ^ 20 → o.answer.place < 10 ^ 20
    → Put before after (refusal_line (record { number = o.answer.refusal; place = o.answer.place })) → Composed (verdict i) i before after
refused-composed {i} {o} {before} {after} p n l₁ l₂ w = go (dec_lt 0 (verdict i).number)
  where
    go : Dec (0 < (verdict i).number) → Composed (verdict i) i before after
    go (no z) = absurd (n (p.given (omega arith)).answer.refusal)
    go (yes l) =
        let e = (p.refused l).answer in
        let v : Verdict = record { number = o.answer.refusal; place = o.answer.place } in
        let same : v ≡ verdict i = λ t. record { number = (e t).refusal; place = (e t).place } in
        record { bytes = refusal_line v; lined = record { planned = λ z. absurd (omega (arith, z, l)); refused = λ _. ap refusal_line same }; put = w; short = omega (arith, refusal-room v l₁ l₂) }

-- the plan's own tree is to be put behind the P line, and there is room for it
pub to-put : {i : Input} {o : Outcome} {mid : Line} → (verdict i).number ≡ 0 → Given i o → o.answer.best < 10 ^ 20 → o.answer.pairs < 10 ^ 20
    → mid.at ≡ 0 + length (plan_line o.answer.best o.answer.pairs) → answer_room ≤ length mid.out.now → ToPut i.query (full (table_count i.query.graph)) mid
to-put {i} {o} e g l₁ l₂ p room =
    let t = given-tree e g in
    record { tree = t.tree; picked = t.picked; covers = t.covers; room-left = omega (arith, p, room, lines-short e g, plan-room o.answer.best o.answer.pairs l₁ l₂) }

-- "the P line" fits any buffer of the entry's own, and so does an X line
pub plan-fits : (best pairs room : ℕ) → best < 10 ^ 20 → pairs < 10 ^ 20 → answer_room ≤ room → 0 + length (plan_line best pairs) ≤ room
plan-fits best pairs room l₁ l₂ h = omega (arith, plan-room best pairs l₁ l₂)

pub refusal-fits : (v : Verdict) (room : ℕ) → v.number < 10 ^ 20 → v.place < 10 ^ 20 → answer_room ≤ room → 0 + length (refusal_line v) ≤ room
refusal-fits v room l₁ l₂ h = omega (arith, refusal-room v l₁ l₂)

-- a column of n cells, as it was read into, holds what was read
pub held : {r l : ℕ} (n : ℕ) → r ≤ n → l ≡ length {A = ℕ} (replicate n 0) → r ≤ l
held n h e = let z : ℕ = 0 in omega (arith, length-replicate n z)

pub some-tables : (n : ℕ) {s : ℕ} → s ≡ single (n + 1) → 1 ≤ s
some-tables n e = omega (arith, e, pow_pos (n + 1 - 1))

-- lines that end past what is lent are not written
pub written-long : (text : List ℕ) {start end : Line} {old : List ℕ} → Composed (text_verdict text) (input_of text) start end → start.at ≡ 0 → length old < end.at → Written text old old 0
written-long text c z l = record {
  bytes = c.bytes;
  answer = c.lined;
  short = c.short;
  fits = λ k. absurd (omega (arith, k, l, z, c.put.end));
  long = λ _. (refl, refl);
}

-- and those that end within it are
pub written-fits : (text : List ℕ) {start end : Line} {old new : List ℕ} → Composed (text_verdict text) (input_of text) start end → start.at ≡ 0 → answer_room ≤ length start.out.now → end.at ≤ length old → new ≡ over (take (end.at - 0) end.out.now) old → Written text old new end.at
written-fits text {start} {end} {old} c z room l w =
    let k : end.at ≤ length end.out.now = omega (arith, lines-within c (omega (arith, z, room))) in
    let n : length (take end.at end.out.now) ≡ end.at = length-take-le end.at end.out.now k in
    let e : over (take (end.at - 0) end.out.now) old ≡ take end.at end.out.now ++ drop end.at old = ap (λ (m : ℕ). over (take m end.out.now) old) (cut-from end.at) ∙ ap (λ (m : ℕ). take end.at end.out.now ++ drop m old) n in
    subst (λ (x : List ℕ). Written text old x end.at) (sym (w ∙ e)) (read.written-fits text c z room l refl)

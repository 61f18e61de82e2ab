-- From the reading of a text to its answer, and from there to the lent buffer.
use Rattle.std.specs.Prelude.{◌≡◌, refl, List, ℕ, ◌+◌, ◌^◌, ◌≤◌, ◌<◌, ◌++◌, length, take, drop}
use Rattle.std.proofs.Common.{sym, ap, ◌∙◌, subst, arith}
use Rattle.std.proofs.Math.Decide.{ℕ_discrete}
use Rattle.std.proofs.lemmas.List.Edits.{sets}
use Rattle.rules.specs.declared.refusal.Refusal.{Refusal}
use Rattle.rules.specs.Verdict.{Verdict, none, told}
use Rattle.rules.specs.Limits.{answer_room}
use Rattle.rules.specs.Refusals.{Input, verdict}
use Rattle.rules.specs.Reading.{Read, Reading, reading}
use Rattle.rules.specs.Writing.{refusal_line}
use Rattle.rules.specs.Text.{input_for, input_of, text_verdict, Lined, Answers, Written}
use Rattle.rules.proofs.laws.Writing.{refusal-room}
use Rattle.rules.proofs.laws.Text.{good_none, unread-verdict, unplanned-verdict}
use Rattle.memo.specs.LayoutLaws.{front}
use Rattle.fields.specs.declared.kinds.Progress.{Progress}
use Rattle.reader.specs.Lists.{Lists}
use Rattle.reader.specs.LoopLaws.{number-within}
use Rattle.reader.specs.Records.{read_of}
use Rattle.digits.specs.declared.Line.{Line}
use Rattle.digits.specs.Put.{Put}
use Rattle.digits.specs.PutLaws.{put-length}
use Rattle.text.specs.Composing.{Composed}

-- ---- a text that is not good
pub read-refused : (text : List ℕ) (r : Refusal) {s : Read} {before after : Line} → record { verdict = told r; read = s } ≡ reading text → r.place < 10 ^ 20
    → Put before after (refusal_line (told r)) → Composed (text_verdict text) (input_of text) before after
read-refused text r e l w =
    let n = number-within r.reason in
    let same : told r ≡ (reading text).verdict = ap (λ (x : Reading). x.verdict) e in
    let whole : text_verdict text ≡ told r = unread-verdict text (λ z. absurd (omega (arith, n.0, z, ap (λ (x : Verdict). x.number) same))) ∙ sym same in
    record {
      bytes = refusal_line (told r);
      lined = record { planned = λ z. absurd (omega (arith, n.0, z, ap (λ (x : Verdict). x.number) whole)); refused = λ _. ap refusal_line (sym whole) };
      put = w;
      short = omega (arith, refusal-room (told r) (omega (arith, n.1)) l);
    }

-- ---- a good one: what the library answers is the answer
pub good-lined : (text : List ℕ) {bytes : List ℕ} → (reading text).verdict.number ≡ 0 → Lined (verdict (input_of text)) (input_of text) bytes → Answers text bytes
good-lined text {bytes} good l = go (ℕ_discrete (verdict (input_of text)).number 0)
  where
    go : Dec ((verdict (input_of text)).number ≡ 0) → Answers text bytes
    go (yes e) = record { planned = λ _. l.planned e; refused = λ p. absurd (omega (arith, p, good_none (record { good = good; accepted-query = e }))) }
    go (no n) = subst (λ (v : Verdict). Lined v (input_of text) bytes) (sym (unplanned-verdict text good n)) l

-- what the code has planned is what was read
pub read-planned : (text : List ℕ) (p : Progress) (a : Lists) {before after : Line} → record { verdict = none; read = read_of p a } ≡ reading text
    → Composed (verdict (input_for (read_of p a))) (input_for (read_of p a)) before after → Composed (text_verdict text) (input_of text) before after
read-planned text p a {before} {after} e c =
    let same : input_for (read_of p a) ≡ input_of text = ap (λ (x : Reading). input_for x.read) e in
    let d : Composed (verdict (input_of text)) (input_of text) before after = subst (λ (i : Input). Composed (verdict i) i before after) same c in
    record { bytes = d.bytes; lined = good-lined text (ap (λ (x : Reading). x.verdict.number) (sym e)) d.lined; put = d.put; short = d.short }

-- ---- the lent buffer
-- the lines end within the entry's own
pub lines-within : {v : Verdict} {i : Input} {start end : Line} → Composed v i start end → start.at + answer_room ≤ length start.out.now → end.at ≤ length end.out.now
lines-within c room = omega (arith, c.put.end, put-length c.put, c.short, room)

pub written-fits : (text : List ℕ) {start end : Line} {old copied : List ℕ} → Composed (text_verdict text) (input_of text) start end → start.at ≡ 0 → answer_room ≤ length start.out.now → end.at ≤ length old → copied ≡ take end.at end.out.now → Written text old (copied ++ drop end.at old) end.at
written-fits text {start} {end} {old} {copied} c z room l w =
    let e : end.at ≡ length c.bytes = omega (arith, z, c.put.end) in
    let p : end.out.now ≡ sets start.out.now 0 c.bytes = rw z at c.put.written in
    let f : take end.at end.out.now ≡ c.bytes = front c.bytes start.out.now (omega (arith, c.short, room)) e p in
    record {
      bytes = c.bytes;
      answer = c.lined;
      short = c.short;
      fits = λ _. (e, rw (w, f, e) refl);
      long = λ k. absurd (omega (arith, k, l, e));
    }

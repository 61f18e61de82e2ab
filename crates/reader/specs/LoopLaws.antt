-- The lines in a row: what has been read, with what the rest of the text adds to it, is the reading of the text.
use Rattle.std.specs.Prelude.{◌≡◌, refl, Bool, List, [], ◌∷◌, ℕ, ◌≤◌, ◌<◌, ◌+◌, ◌-◌, length, take, drop, get_or}
use Rattle.std.proofs.Math.Path.{sym, ap}
use Rattle.std.proofs.Common.{◌∙◌, add-one, arith, length-take-le, eq-eqb, ne_eqb}
use Rattle.std.proofs.Math.Bool.{true, false}
use Rattle.rules.specs.declared.forms.Kind.{Kind}
use Rattle.rules.specs.declared.forms.Kind.TheVariants.{Table, Method, Edge, Crew}
use Rattle.rules.specs.Limits.{max_bytes}
use Rattle.rules.specs.Lines.{newline, lines}
use Rattle.rules.specs.Reading.{Read, stage, values, line_form, line_number, with_record, with_line_as, with_line, stopped, ended, read_from, unfit, reading}
use Rattle.fields.specs.declared.kinds.Progress.{Progress}
use Rattle.fields.specs.declared.kinds.Record.{Record}
use Rattle.reader.specs.Lists.{Lists}
use Rattle.reader.specs.declared.reading.Stopped.{Stopped}
use Rattle.rules.specs.declared.refusal.Refusal.{Refusal}
use Rattle.rules.specs.declared.refusal.Reason.{Reason}
use Rattle.rules.specs.declared.refusal.Reason.TheVariants.{ListLengths, TableCount, TableOver, MethodCount, MethodOver, EdgeOutside, EdgeItself, EdgeDivisor, EdgeRepeated, Unconnected, CrewRange, TurnWorker, MemoRows, SkipCells, LineFields, LineNumber, LineOrder, TextEnd, LineExcess}
use Rattle.rules.specs.Verdict.{number_of, none, told}
use Rattle.fields.specs.Spans.{span}
use Rattle.fields.specs.Recorded.{number_as, Recorded, Judged}
use Rattle.reader.specs.Records.{Within, Spare, read_of, reading_of, no_line}
use Rattle.reader.specs.ReadLaws.{Ended, fit_is, line-ends, lines_none, lines_next, after-length, after-ended}
use Rattle.reader.specs.StoreLaws.{Held, Stored, spare-none, spared-on}
use Rattle.std.specs.Prelude.{Option, Result, Ok, Err, MatchResult, IsErrAnd}
use Rattle.rules.specs.declared.forms.Form.{Form}

-- ---- one line
step-stop : (k : ℕ) (s : Read) (l : List ℕ) (ls : List (List ℕ)) (n : ℕ) → line_number s l ≡ n → (n ≡ 0 → ⊥) → read_from k s (l ∷ ls) ≡ stopped n k s
unfolding read_from
step-stop k s l ls n e z = rw (e, ne_eqb n 0 z) refl

step-next : (k : ℕ) (s : Read) (l : List ℕ) (ls : List (List ℕ)) → line_number s l ≡ 0 → read_from k s (l ∷ ls) ≡ read_from (k + 1) (with_line s l) ls
unfolding read_from
step-next k s l ls e = rw (eq-eqb (line_number s l) 0 e, add-one) refl

step_end : (k : ℕ) (s : Read) → read_from k s [] ≡ ended k s
unfolding read_from
step_end k s = refl

-- a record is what its cells hold
same-record : (kind : Kind) (a b : List ℕ) (s : Read) → ((k : ℕ) → get_or a k 0 ≡ get_or b k 0) → with_record kind a s ≡ with_record kind b s
unfolding with_record
same-record Table a b s h = rw (h 1, h 2) refl
same-record Method a b s h = rw (h 0, h 1, h 2, h 3) refl
same-record Edge a b s h = rw (h 0, h 1, h 2) refl
same-record Crew a b s h = rw (h 0, h 1) refl

with-line : {line : List ℕ} {r : Record} (s : Read) → Recorded (line_form line) line r → with_line s line ≡ with_record r.kind r.cells s
with-line {line} {r} s d = ap (λ (x : Option Form). with_line_as x line s) d.form ∙ sym (same-record r.kind r.cells (values line) s d.cells_are)

-- ---- nine columns
spare-on : (p n : Progress) (a b c : Lists) → p.tables ≤ n.tables → p.methods ≤ n.methods → p.edges ≤ n.edges → Spare p a b → Spare n b c → Spare n a c
spare-on p n a b c t m e s u = record {
  rows-spare = spared-on p.tables n.tables a.rows b.rows c.rows t s.rows-spare u.rows-spare;
  scans-spare = spared-on p.tables n.tables a.scans b.scans c.scans t s.scans-spare u.scans-spare;
  left-spare = spared-on p.edges n.edges a.left b.left c.left e s.left-spare u.left-spare;
  right-spare = spared-on p.edges n.edges a.right b.right c.right e s.right-spare u.right-spare;
  divisors-spare = spared-on p.edges n.edges a.divisors b.divisors c.divisors e s.divisors-spare u.divisors-spare;
  fixed-spare = spared-on p.methods n.methods a.fixed b.fixed c.fixed m s.fixed-spare u.fixed-spare;
  outer-spare = spared-on p.methods n.methods a.per_outer b.per_outer c.per_outer m s.outer-spare u.outer-spare;
  inner-spare = spared-on p.methods n.methods a.per_inner b.per_inner c.per_inner m s.inner-spare u.inner-spare;
  result-spare = spared-on p.methods n.methods a.per_result b.per_result c.per_result m s.result-spare u.result-spare;
}

-- the refusal of the next line by the records so far
number-here : (p : Progress) (a : Lists) → Held p a → (line : List ℕ) → line_number (read_of p a) line ≡ number_as (line_form line) p line
number-here p a h line =
    let t : length (take p.tables a.rows) ≡ p.tables = length-take-le p.tables a.rows h.tables in
    let m : length (take p.methods a.fixed) ≡ p.methods = length-take-le p.methods a.fixed h.methods in
    let e : length (take p.edges a.left) ≡ p.edges = length-take-le p.edges a.left h.edges in
    rw (t, m, e) refl

-- ---- all lines
-- between two lines: `rest` is still to be read
pub record Reads (text rest : List ℕ) (place : ℕ) (p : Progress) (a b : Lists) : Type 0 where
  pub spare : Spare p a b
  pub within : Within p
  pub held : Held p b
  pub goes : read_from place (read_of p b) (lines rest) ≡ reading text
  pub last : Ended rest
  pub count : place + length rest ≤ length text + 1
  pub short : length text ≤ max_bytes

-- the numbers of reasons are 1 to 25
pub number-within : (r : Reason) → (1 ≤ number_of r) × (number_of r ≤ 25)
number-within ListLengths = (omega arith, omega arith)
number-within TableCount = (omega arith, omega arith)
number-within TableOver = (omega arith, omega arith)
number-within MethodCount = (omega arith, omega arith)
number-within MethodOver = (omega arith, omega arith)
number-within EdgeOutside = (omega arith, omega arith)
number-within EdgeItself = (omega arith, omega arith)
number-within EdgeDivisor = (omega arith, omega arith)
number-within EdgeRepeated = (omega arith, omega arith)
number-within Unconnected = (omega arith, omega arith)
number-within CrewRange = (omega arith, omega arith)
number-within TurnWorker = (omega arith, omega arith)
number-within MemoRows = (omega arith, omega arith)
number-within SkipCells = (omega arith, omega arith)
number-within LineFields = (omega arith, omega arith)
number-within LineNumber = (omega arith, omega arith)
number-within LineOrder = (omega arith, omega arith)
number-within TextEnd = (omega arith, omega arith)
number-within LineExcess = (omega arith, omega arith)

nothing-within : (p : Progress) → p ≡ no_line → Within p
nothing-within p e = rw e (record { tables = omega arith; methods = omega arith; edges = omega arith })

module _ (text : List ℕ) (p : Progress) (z : p ≡ no_line) (u : Bool) (e : u ≡ unfit text) (a : Lists) where
  pub read-unfit : (f : Refusal) → u ≡ true → f ≡ record { reason = TextEnd; place = 0 } → record { verdict = told f; read = read_of p a } ≡ reading text
  unfolding reading
  read-unfit f t d = let y : unfit text ≡ true = sym e ∙ t in rw (d, z, y) refl

  pub reads-start : u ≡ false → Reads text text 1 p a a
  unfolding reading
  reads-start t =
      let y : unfit text ≡ false = sym e ∙ t in
      let f = fit_is text y in
      record {
        spare = spare-none p a;
        within = nothing-within p z;
        held = rw z (record { tables = omega arith; methods = omega arith; edges = omega arith });
        goes = rw (z, y) refl;
        last = f.ended;
        count = omega arith;
        short = f.short;
      }

module _ {text rest : List ℕ} {place : ℕ} {p : Progress} {a b : Lists} (r : Reads text rest place p a b) where
  -- after the last line
  at-end : length rest ≤ 0 → ended place (read_of p b) ≡ reading text
  at-end l = sym (step_end place (read_of p b)) ∙ ap (read_from place (read_of p b)) (sym (lines_none rest l)) ∙ r.goes

  pub read-crew : length rest ≤ 0 → p.latest ≡ stage Crew → record { verdict = none; read = read_of p b } ≡ reading text
  read-crew l e = sym (rw (eq-eqb p.latest (stage Crew) e) refl) ∙ at-end l

  pub read-uncrewed : (f : Refusal) → length rest ≤ 0 → (p.latest ≡ stage Crew → ⊥) → f ≡ record { reason = LineOrder; place = place } → record { verdict = told f; read = read_of p b } ≡ reading text
  read-uncrewed f l n d = rw d (sym (rw (ne_eqb p.latest (stage Crew) n) refl) ∙ at-end l)

  module _ (l : 0 < length rest) (e : ℕ) (q : e ≡ span newline rest) where
    pub line-in : e < length rest
    line-in = rw q (line-ends rest l r.last)

    abbrev after : List ℕ
    after = take (length rest - (e + 1)) (drop (e + 1) rest)

    split : read_from place (read_of p b) (take e rest ∷ lines after) ≡ reading text
    split = ap (read_from place (read_of p b)) (sym (lines_next rest e q line-in)) ∙ r.goes

    module _ (number : ℕ) (n : number ≡ number_as (line_form (take e rest)) p (take e rest)) where
      is : line_number (read_of p b) (take e rest) ≡ number
      is = number-here p b r.held (take e rest) ∙ sym n

      -- where it refuses, the reading ends
      pub read-stopped : (number ≡ 0 → ⊥) → stopped number place (read_of p b) ≡ reading text
      read-stopped z = sym (step-stop place (read_of p b) (take e rest) (lines after) number is z) ∙ split

    -- what a refused line is made into
    abbrev pub Refuses : Result Record Reason → Result Record Stopped → Type 0
    Refuses judged out = MatchResult judged (λ k. out ≡ Ok k) (λ reason. IsErrAnd out (λ s. (s.refusal ≡ record { reason = reason; place = place }) × (s.progress ≡ p)))

    pub read-refused : (judged : Result Record Reason) (out : Result Record Stopped) (s : Stopped) → Judged p (take e rest) judged → Refuses judged out → out ≡ Err s → reading_of (Err s) b ≡ reading text
    read-refused (Ok k) out s j m z = let w : Ok k ≡ Err s = sym m ∙ z in let w' : ◌≡◌ {A = ℕ} 0 1 = cc in absurd (omega arith)
    read-refused (Err reason) out s j m z =
        let d : (s.refusal ≡ record { reason = reason; place = place }) × (s.progress ≡ p) = rw z at m in
        rw (d.0, d.1) (read-stopped (number_of reason) j.0 (λ z. omega (arith, z, number-within reason)))

    pub reads-next : {k : Record} {m : Progress} {c : Lists} → Judged p (take e rest) (Ok k) → Stored k.kind k.cells p m b c → Reads text after (place + 1) m a c
    reads-next {k} {m} {c} j s =
        let w = s.read ∙ sym (with-line (read_of p b) j.1) in
        record {
          spare = spare-on p m a b c s.tables-grow s.methods-grow s.edges-grow r.spare s.spare;
          within = s.within;
          held = s.held;
          goes = ap (λ (x : Read). read_from (place + 1) x (lines after)) w ∙ sym (step-next place (read_of p b) (take e rest) (lines after) (is 0 j.0)) ∙ split;
          last = after-ended rest e q line-in r.last;
          count = omega (arith, r.count, line-in, after-length rest e q line-in);
          short = r.short;
        }

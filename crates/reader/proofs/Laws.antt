-- Laws that no proof cites any more, since the check finds their goals: they hold as before.
use Rattle.std.specs.Prelude.{◌≡◌, refl, Bool, false, true, cond, not, List, [], ◌∷◌, ℕ, zero, suc, ◌≤◌, ◌<◌, ◌+◌, ◌-◌, eqb, length, take, drop, get_or, Option, Some, None, Result, Ok, Err}
use Rattle.std.proofs.Common.{sym, ◌∙◌, arith, length-take-le, lt-ltb, le-ltb, eq-eqb, ne_eqb}
use Rattle.std.proofs.Math.Decide.{ℕ_discrete}
use Rattle.std.proofs.Math.ListN.{get_or-eq_default}
use Rattle.rules.specs.declared.forms.Kind.{Kind}
use Rattle.rules.specs.declared.forms.Kind.TheVariants.{Crew}
use Rattle.rules.specs.Verdict.{Verdict, number_of}
use Rattle.rules.specs.declared.refusal.Reason.{Reason}
use Rattle.rules.specs.declared.refusal.Reason.TheVariants.{LineOrder, TextEnd}
use Rattle.rules.specs.Limits.{max_bytes}
use Rattle.rules.specs.Lines.{newline, lines}
use Rattle.rules.specs.Reading.{stage, line_form, line_number, with_record, read_from, unfit, reading}
use Rattle.fields.specs.declared.kinds.Progress.{Progress}
use Rattle.fields.specs.Spans.{span}
use Rattle.fields.specs.Recorded.{number_as, Recorded}
use Rattle.reader.specs.declared.reading.Stopped.{Stopped}
use Rattle.reader.specs.Lists.{Lists, Room}
use Rattle.reader.specs.Records.{Within, Spare, read_of, progress_of, reading_of, no_line}
use Rattle.reader.specs.ReadLaws.{Ended, after-length}
use Rattle.reader.specs.StoreLaws.{spare-none}
use Rattle.reader.specs.StoreLaws as store
use Rattle.reader.specs.LoopLaws.{number-within}
use Rattle.reader.specs.LoopLaws as loop

-- ---- 24
pub unfit-long : (s : List ℕ) → max_bytes < length s → true ≡ unfit s
unfolding unfit
unfit-long s l = rw (lt-ltb max_bytes (length s) l)

module _ (s : List ℕ) (l : length s ≤ max_bytes) where
  pub fit-empty : length s ≡ 0 → false ≡ unfit s
  unfolding unfit
  fit-empty e = rw (le-ltb max_bytes (length s) l, get_or-eq_default s newline {n = length s - 1} (omega arith))

  same-default : (xs : List ℕ) (i a b : ℕ) → i < length xs → get_or xs i a ≡ get_or xs i b
  same-default [] i a b l = absurd (omega arith)
  same-default (x ∷ xs) zero a b l = refl
  same-default (x ∷ xs) (suc i) a b l = same-default xs i a b (omega arith)

  pub unfit-end : (length s ≡ 0 → ⊥) → not (eqb (get_or s (length s - 1) 0) newline) ≡ unfit s
  unfolding unfit
  unfit-end n = rw (le-ltb max_bytes (length s) l, same-default s (length s - 1) newline 0 (omega arith))

-- ---- nine columns
room-kept : (p : Progress) (a b : Lists) → Room a → Spare p a b → Room b
room-kept p a b r s = record {
  rows_fit = omega (arith, r.rows_fit, s.rows-spare.length-kept);
  scans-fit = omega (arith, r.scans-fit, s.scans-spare.length-kept);
  left-fit = omega (arith, r.left-fit, s.left-spare.length-kept);
  right-fit = omega (arith, r.right-fit, s.right-spare.length-kept);
  divisors-fit = omega (arith, r.divisors-fit, s.divisors-spare.length-kept);
  fixed-fit = omega (arith, r.fixed-fit, s.fixed-spare.length-kept);
  outer-fit = omega (arith, r.outer-fit, s.outer-spare.length-kept);
  inner-fit = omega (arith, r.inner-fit, s.inner-spare.length-kept);
  result-fit = omega (arith, r.result-fit, s.result-spare.length-kept);
}

-- ---- all lines
-- what `read` promises
abbrev pub Ends : List ℕ → Result Progress Stopped → (a b : Lists) → Type 0
Ends text h a b = (reading_of h b ≡ reading text) × (Spare (progress_of h) a b × Within (progress_of h))

-- a reason at a place or none, and how far the lines were good
abbrev pub held_as : Option Reason → ℕ → Progress → Result Progress Stopped
held_as None place p = Ok p
held_as (Some reason) place p = Err (record { refusal = record { reason = reason; place = place }; progress = p })

-- a text that is told v, after lines that were good so far
abbrev pub EndsAs : List ℕ → Verdict → Progress → (a b : Lists) → Type 0
EndsAs text v p a b = (record { verdict = v; read = read_of p b } ≡ reading text) × (Spare p a b × Within p)

-- a text that is unfit
pub read-unfit : (text : List ℕ) (p : Progress) → p ≡ no_line → (u : Bool) → u ≡ unfit text → (a : Lists) (h : Result Progress Stopped) → u ≡ true → h ≡ held_as (Some TextEnd) 0 p → Ends text h a a
read-unfit text p z u e a h t f = rw f (loop.read-unfit text p z u e a (record { reason = TextEnd; place = 0 }) t refl, (spare-none p a, rw z (record { tables = omega arith; methods = omega arith; edges = omega arith })))

-- what is told after the last line
abbrev pub ended_as : ℕ → Progress → Result Progress Stopped
ended_as place p = cond (eqb p.latest (stage Crew)) (held_as None 0 p) (held_as (Some LineOrder) place p)

module _ (place : ℕ) (p : Progress) (h : Result Progress Stopped) (at : ℕ) (s : at ≡ stage Crew) where
  pub ended-crew : p.latest ≡ at → h ≡ held_as None 0 p → h ≡ ended_as place p
  ended-crew e f = rw (eq-eqb p.latest (stage Crew) (e ∙ s)) f

  pub ended-other : (p.latest ≡ at → ⊥) → h ≡ held_as (Some LineOrder) place p → h ≡ ended_as place p
  ended-other n f = rw (ne_eqb p.latest (stage Crew) (λ e. n (e ∙ sym s))) f

module _ {text rest : List ℕ} {place : ℕ} {p : Progress} {a b : Lists} (r : loop.Reads text rest place p a b) where
  -- after the last line
  pub read-end : (h : Result Progress Stopped) → length rest ≤ 0 → h ≡ ended_as place p → Ends text h a b
  read-end h l e = go (ℕ_discrete p.latest (stage Crew))
    where
      go : Dec (p.latest ≡ stage Crew) → Ends text h a b
      go (yes y) = let f : h ≡ Ok p = e ∙ rw (eq-eqb p.latest (stage Crew) y) refl in rw f (loop.read-crew r l y, (r.spare, r.within))
      go (no n) =
          let f : h ≡ held_as (Some LineOrder) place p = e ∙ rw (ne_eqb p.latest (stage Crew) n) refl in
          rw f (loop.read-uncrewed r (record { reason = LineOrder; place = place }) l n refl, (r.spare, r.within))

  module _ (l : 0 < length rest) (e : ℕ) (q : e ≡ span newline rest) where
    -- a place is small enough to count on
    pub place-small : place ≤ max_bytes
    place-small = omega (arith, r.count, r.short)

    pub rest-falls : length (take (length rest - (e + 1)) (drop (e + 1) rest)) < length rest
    rest-falls = let i = loop.line-in r l e q in omega (arith, i, after-length rest e q i)

    module _ (number : ℕ) (n : number ≡ number_as (line_form (take e rest)) p (take e rest)) where
      told : line_number (read_of p b) (take e rest) ≡ number
      told =
          let t : length (take p.tables b.rows) ≡ p.tables = length-take-le p.tables b.rows r.held.tables in
          let m : length (take p.methods b.fixed) ≡ p.methods = length-take-le p.methods b.fixed r.held.methods in
          let g : length (take p.edges b.left) ≡ p.edges = length-take-le p.edges b.left r.held.edges in
          rw (t, m, g) (sym n)

      -- at a line that is refused
      pub read-told : (number ≡ 0 → ⊥) → EndsAs text (record { number = number; place = place }) p a b
      read-told z = (loop.read-stopped r l e q number n z, (r.spare, r.within))

      pub read-refused : (h : Result Progress Stopped) (reason : Reason) → number ≡ number_of reason → h ≡ held_as (Some reason) place p → Ends text h a b
      read-refused h reason t f = rw f (loop.read-stopped r l e q (number_of reason) (sym t ∙ n) (λ z. absurd (omega (arith, z, (number-within reason).0))), (r.spare, r.within))

-- ---- in columns that have room
-- a line's record more: what is read, what is spare
pub record Stored (kind : Kind) (cells : List ℕ) (p n : Progress) (a b : Lists) : Type 0 where
  pub read : read_of n b ≡ with_record kind cells (read_of p a)
  pub spare : Spare n a b
  pub within : Within n
  pub tables-grow : p.tables ≤ n.tables
  pub methods-grow : p.methods ≤ n.methods
  pub edges-grow : p.edges ≤ n.edges

-- between two lines: `rest` is still to be read
pub record Reads (text rest : List ℕ) (place : ℕ) (p : Progress) (a b : Lists) : Type 0 where
  pub spare : Spare p a b
  pub within : Within p
  pub room : Room b
  pub goes : read_from place (read_of p b) (lines rest) ≡ reading text
  pub last : Ended rest
  pub count : place + length rest ≤ length text + 1
  pub short : length text ≤ max_bytes

held_in : (p : Progress) (b : Lists) → Room b → Within p → store.Held p b
held_in p b r w = record { tables = omega (arith, r.rows_fit, w.tables); methods = omega (arith, r.fixed-fit, w.methods); edges = omega (arith, r.left-fit, w.edges) }

pub stored-held : {kind : Kind} {cells : List ℕ} {p n : Progress} {a b : Lists} → Room a → Stored kind cells p n a b → store.Stored kind cells p n a b
stored-held {n = n} {a = a} {b = b} r s = record { read = s.read; spare = s.spare; within = s.within; held = held_in n b (room-kept n a b r s.spare) s.within; tables-grow = s.tables-grow; methods-grow = s.methods-grow; edges-grow = s.edges-grow }

pub reads-held : {text rest : List ℕ} {place : ℕ} {p : Progress} {a b : Lists} → Reads text rest place p a b → loop.Reads text rest place p a b
reads-held {p = p} {b = b} r = record { spare = r.spare; within = r.within; held = held_in p b r.room r.within; goes = r.goes; last = r.last; count = r.count; short = r.short }

reads-in : {text rest : List ℕ} {place : ℕ} {p : Progress} {a b : Lists} → Room b → loop.Reads text rest place p a b → Reads text rest place p a b
reads-in o r = record { spare = r.spare; within = r.within; room = o; goes = r.goes; last = r.last; count = r.count; short = r.short }

pub reads-start : (text : List ℕ) (p : Progress) → p ≡ no_line → (u : Bool) → u ≡ unfit text → (a : Lists) → u ≡ false → Room a → Reads text text 1 p a a
reads-start text p z u e a t o = reads-in o (loop.reads-start text p z u e a t)

pub reads-next : {text rest : List ℕ} {place : ℕ} {p : Progress} {a b : Lists} → Reads text rest place p a b → 0 < length rest → (e : ℕ) → e ≡ span newline rest → (number : ℕ) → number ≡ number_as (line_form (take e rest)) p (take e rest)
    → {kind : Kind} {cells : List ℕ} {m : Progress} {c : Lists} → number ≡ 0 → Recorded (line_form (take e rest)) (take e rest) (record { kind = kind; cells = cells }) → Stored kind cells p m b c
    → Reads text (take (length rest - (e + 1)) (drop (e + 1) rest)) (place + 1) m a c
reads-next {b = b} r l e q number n {kind} {cells} {m} {c} z d s =
    reads-in (room-kept m b c r.room s.spare) (loop.reads-next (reads-held r) l e q {k = record { kind = kind; cells = cells }} (sym z ∙ n, d) (stored-held r.room s))

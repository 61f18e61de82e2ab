-- Any two answers that the contract of `read` allows are equal, with the columns that they leave.
use Rattle.std.specs.Prelude.{◌≡◌, List, ◌++◌, ℕ, ◌≤◌, length, take, Result, Ok, Err}
use Rattle.std.proofs.Common.{sym, ap, ap₂, subst, ◌∙◌, arith, length-take-le}
use Rattle.std.proofs.lemmas.List.{take-append-drop}
use Rattle.rules.specs.Answers.{Spared}
use Rattle.rules.specs.Reading.{Read, Reading, reading}
use Rattle.rules.proofs.laws.Told.{told-some, told-unique}
use Rattle.fields.specs.declared.kinds.Progress.{Progress}
use Rattle.reader.specs.declared.reading.Stopped.{Stopped}
use Rattle.reader.specs.Lists.{Lists, Room}
use Rattle.reader.specs.Records.{Within, Spare, read_of, progress_of, reading_of}

-- how many records there are
count-unique : {n n' : ℕ} (l l' : List ℕ) → n ≤ length l → n' ≤ length l' → take n l ≡ take n' l' → n ≡ n'
count-unique {n} {n'} l l' a b e = sym (length-take-le n l a) ∙ ap length e ∙ length-take-le n' l' b

progress-unique : {p p' : Progress} {a a' : Lists} → Room a → Room a' → Within p → Within p' → read_of p a ≡ read_of p' a' → p ≡ p'
progress-unique {p} {p'} {a} {a'} f f' z z' e =
    let tables : p.tables ≡ p'.tables = count-unique a.rows a'.rows (omega (arith, f.rows_fit, z.tables)) (omega (arith, f'.rows_fit, z'.tables)) (ap (λ (r : Read). r.query.graph.rows) e) in
    let methods : p.methods ≡ p'.methods = count-unique a.fixed a'.fixed (omega (arith, f.fixed-fit, z.methods)) (omega (arith, f'.fixed-fit, z'.methods)) (ap (λ (r : Read). r.query.fixed) e) in
    let edges : p.edges ≡ p'.edges = count-unique a.left a'.left (omega (arith, f.left-fit, z.edges)) (omega (arith, f'.left-fit, z'.edges)) (ap (λ (r : Read). r.query.graph.left) e) in
    λ t. record { tables = tables t; methods = methods t; edges = edges t; latest = ap (λ (r : Read). r.latest) e t; workers = ap (λ (r : Read). r.workers) e t; scheme = ap (λ (r : Read). r.scheme) e t }

-- what stands in a column: its records, and behind them what was lent
column-unique : (n : ℕ) {old new new' : List ℕ} → Spared n old new → Spared n old new' → take n new ≡ take n new' → new ≡ new'
column-unique n {new = new} {new' = new'} z z' e = sym (take-append-drop n new) ∙ ap₂ (λ (a b : List ℕ). a ++ b) e (z.kept ∙ sym z'.kept) ∙ take-append-drop n new'

columns-unique : (p : Progress) {old new new' : Lists} → Spare p old new → Spare p old new' → read_of p new ≡ read_of p new' → new ≡ new'
columns-unique p z z' e = λ t. record {
  rows = column-unique p.tables z.rows-spare z'.rows-spare (ap (λ (r : Read). r.query.graph.rows) e) t;
  scans = column-unique p.tables z.scans-spare z'.scans-spare (ap (λ (r : Read). r.query.scans) e) t;
  left = column-unique p.edges z.left-spare z'.left-spare (ap (λ (r : Read). r.query.graph.left) e) t;
  right = column-unique p.edges z.right-spare z'.right-spare (ap (λ (r : Read). r.query.graph.right) e) t;
  divisors = column-unique p.edges z.divisors-spare z'.divisors-spare (ap (λ (r : Read). r.query.graph.divisors) e) t;
  fixed = column-unique p.methods z.fixed-spare z'.fixed-spare (ap (λ (r : Read). r.query.fixed) e) t;
  per_outer = column-unique p.methods z.outer-spare z'.outer-spare (ap (λ (r : Read). r.query.per_outer) e) t;
  per_inner = column-unique p.methods z.inner-spare z'.inner-spare (ap (λ (r : Read). r.query.per_inner) e) t;
  per_result = column-unique p.methods z.result-spare z'.result-spare (ap (λ (r : Read). r.query.per_result) e) t;
}

-- the columns keep their room
room-kept : {p : Progress} {old new : Lists} → Room old → Spare p old new → Room new
room-kept f z = record {
  rows_fit = omega (arith, f.rows_fit, z.rows-spare.length-kept);
  scans-fit = omega (arith, f.scans-fit, z.scans-spare.length-kept);
  left-fit = omega (arith, f.left-fit, z.left-spare.length-kept);
  right-fit = omega (arith, f.right-fit, z.right-spare.length-kept);
  divisors-fit = omega (arith, f.divisors-fit, z.divisors-spare.length-kept);
  fixed-fit = omega (arith, f.fixed-fit, z.fixed-spare.length-kept);
  outer-fit = omega (arith, f.outer-fit, z.outer-spare.length-kept);
  inner-fit = omega (arith, f.inner-fit, z.inner-spare.length-kept);
  result-fit = omega (arith, f.result-fit, z.result-spare.length-kept);
}

-- what is told and how far the lines were good make the answer
result-unique : (a a' : Lists) (r r' : Result Progress Stopped) → (reading_of r a).verdict ≡ (reading_of r' a').verdict → progress_of r ≡ progress_of r' → r ≡ r'
result-unique a a' (Ok p) (Ok p') v e = ap Ok e
result-unique a a' (Ok p) (Err s') v e = absurd (told-some s'.refusal (sym v))
result-unique a a' (Err s) (Ok p') v e = absurd (told-some s.refusal v)
result-unique a a' (Err s) (Err s') v e = let f = told-unique v in ap Err (λ t. record { refusal = f t; progress = e t })

read-of-result : (r : Result Progress Stopped) (a : Lists) → (reading_of r a).read ≡ read_of (progress_of r) a
read-of-result (Ok p) a = λ t. read_of p a
read-of-result (Err s) a = λ t. read_of s.progress a

-- ONE ANSWER for a text, and for the columns that were lent
pub read-unique : (text : List ℕ) {old new new' : Lists} {r r' : Result Progress Stopped} → Room old
    → reading_of r new ≡ reading text → Spare (progress_of r) old new → Within (progress_of r)
    → reading_of r' new' ≡ reading text → Spare (progress_of r') old new' → Within (progress_of r') → (r ≡ r') × (new ≡ new')
read-unique text {old} {new} {new'} {r} {r'} f e z w e' z' w' =
    let same : reading_of r new ≡ reading_of r' new' = e ∙ sym e' in
    let read : read_of (progress_of r) new ≡ read_of (progress_of r') new' = sym (read-of-result r new) ∙ ap (λ (x : Reading). x.read) same ∙ read-of-result r' new' in
    let p : progress_of r ≡ progress_of r' = progress-unique (room-kept f z) (room-kept f z') w w' read in
    let spare : Spare (progress_of r) old new' = subst (λ (x : Progress). Spare x old new') (sym p) z' in
    let here : read_of (progress_of r) new ≡ read_of (progress_of r) new' = read ∙ ap (λ (x : Progress). read_of x new') (sym p) in
    (result-unique new new' r r' (ap (λ (x : Reading). x.verdict) same) p, columns-unique (progress_of r) z spare here)

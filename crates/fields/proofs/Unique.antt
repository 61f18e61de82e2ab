-- Any two answers that the contract of `judge` allows are equal.
use Rattle.std.specs.Prelude.{◌≡◌, List, ℕ, get_or, length, Option, Result, Ok, Err, IfOk}
use Rattle.std.proofs.Common.{sym, ap, ◌∙◌}
use Rattle.std.proofs.lemmas.List.{ext_get_or}
use Rattle.std.proofs.lemmas.Option.{same_Some}
use Rattle.rules.specs.declared.forms.Form.{Form}
use Rattle.rules.specs.declared.refusal.Reason.{Reason}
use Rattle.rules.proofs.laws.Told.{number-unique, number-some}
use Rattle.fields.specs.declared.kinds.Progress.{Progress}
use Rattle.fields.specs.declared.kinds.Record.{Record}
use Rattle.fields.specs.Recorded.{Recorded, JudgedAs, Judged}

-- a good line is of one kind, and has one list of numbers
module _ {l : Option Form} {line : List ℕ} {x x' : Record} (z : Recorded l line x) (z' : Recorded l line x') where
  pub kind-unique : x.kind ≡ x'.kind
  kind-unique = ap (λ (f : Form). f.kind) (same_Some _ _ (sym z.form ∙ z'.form))

  pub cells-unique : (k : ℕ) → get_or x.cells k 0 ≡ get_or x'.cells k 0
  cells-unique k = z.cells_are k ∙ sym (z'.cells_are k)

  pub recorded-unique : length x.cells ≡ length x'.cells → x ≡ x'
  recorded-unique e = let c = ext_get_or 0 x.cells x'.cells e (λ k _. cells-unique k) in λ t. record { kind = kind-unique t; cells = c t }

-- a record in the code has four cells
abbrev pub FourCells : Result Record Reason → Type 0
FourCells r = IfOk r (λ x. length x.cells ≡ 4)

-- a refused line is refused for one reason, and a good one has one record
pub judged-as-unique : (l : Option Form) (p : Progress) (line : List ℕ) {r r' : Result Record Reason} → FourCells r → FourCells r' → JudgedAs l p line r → JudgedAs l p line r' → r ≡ r'
judged-as-unique l p line {r} {r'} = go r r'
  where
    go : (r r' : Result Record Reason) → FourCells r → FourCells r' → JudgedAs l p line r → JudgedAs l p line r' → r ≡ r'
    go (Ok x) (Ok x') n n' z z' = ap Ok (recorded-unique z.1 z'.1 (n ∙ sym n'))
    go (Ok x) (Err e') n n' z z' = absurd (number-some e' (z'.0 ∙ sym z.0))
    go (Err e) (Ok x') n n' z z' = absurd (number-some e (z.0 ∙ sym z'.0))
    go (Err e) (Err e') n n' z z' = ap Err (number-unique e e' (z.0 ∙ sym z'.0))

pub judged-unique : (p : Progress) (line : List ℕ) {r r' : Result Record Reason} → FourCells r → FourCells r' → Judged p line r → Judged p line r' → r ≡ r'
judged-unique p line n n' z z' = judged-as-unique _ p line n n' z z'

-- What a judged line means.
use Rattle.std.specs.Prelude.{◌≡◌, true, false, List, ℕ, get_or, Option, Some, None, Result, IfOk}
use Rattle.rules.specs.declared.forms.Form.{Form}
use Rattle.rules.specs.declared.refusal.Reason.{Reason}
use Rattle.rules.specs.Verdict.{number_in}
use Rattle.rules.specs.Reading.{known, all_numbers, number_fields, values, line_form, line_number_as}
use Rattle.fields.specs.declared.kinds.Progress.{Progress}
use Rattle.fields.specs.declared.kinds.Record.{Record}

-- the numbers of a line as cells, or None where one is no number
abbrev pub ReadAs : List ℕ → Option (List ℕ) → Type 0
ReadAs line None = all_numbers (number_fields line) ≡ false
ReadAs line (Some cells) = (all_numbers (number_fields line) ≡ true) × ((k : ℕ) → get_or cells k 0 ≡ get_or (values line) k 0)

-- the refusal of a line by what its letter says, 0 for none
abbrev pub number_as : Option Form → Progress → List ℕ → ℕ
number_as l p line = line_number_as l p.latest p.tables p.methods p.edges line

-- kind and numbers of a good line whose letter says l
pub record Recorded (l : Option Form) (line : List ℕ) (r : Record) : Type 0 where
  pub numbers : ℕ
  pub form : l ≡ known r.kind numbers
  pub cells_are : (k : ℕ) → get_or r.cells k 0 ≡ get_or (values line) k 0

-- what is told of a line whose letter says l: the reason of its refusal, or its record
abbrev pub JudgedAs : Option Form → Progress → List ℕ → Result Record Reason → Type 0
JudgedAs l p line r = (number_in r ≡ number_as l p line) × IfOk r (Recorded l line)

-- the same of any line
abbrev pub Judged : Progress → List ℕ → Result Record Reason → Type 0
Judged p line r = JudgedAs (line_form line) p line r

-- What is told tells it all: reasons have numbers of their own, and what is told of two refusals or answers is the same only where these are.
use Rattle.std.specs.Prelude.{◌≡◌, refl, ℕ, cond, eqb, Result, Ok, Err}
use Rattle.std.proofs.Common.{sym, ap, ◌∙◌, arith}
use Rattle.rules.specs.declared.refusal.Reason.{Reason}
use Rattle.rules.specs.declared.refusal.Reason.TheVariants.{ListLengths, TableCount, TableOver, MethodCount, MethodOver, EdgeOutside, EdgeItself, EdgeDivisor, EdgeRepeated, Unconnected, CrewRange, TurnWorker, MemoRows, SkipCells, LineFields, LineNumber, LineOrder, TextEnd, LineExcess}
use Rattle.rules.specs.declared.refusal.Refusal.{Refusal}
use Rattle.rules.specs.Verdict.{Verdict, number_of, number_in, none, told, verdict_of}

-- ---- a reason by its number
reason_by : ℕ → Reason
reason_by n =
    cond (eqb n 1) ListLengths
    (cond (eqb n 2) TableCount
    (cond (eqb n 3) TableOver
    (cond (eqb n 4) MethodCount
    (cond (eqb n 5) MethodOver
    (cond (eqb n 6) EdgeOutside
    (cond (eqb n 7) EdgeItself
    (cond (eqb n 8) EdgeDivisor
    (cond (eqb n 9) EdgeRepeated
    (cond (eqb n 10) Unconnected
    (cond (eqb n 11) CrewRange
    (cond (eqb n 12) TurnWorker
    (cond (eqb n 13) MemoRows
    (cond (eqb n 14) SkipCells
    (cond (eqb n 21) LineFields
    (cond (eqb n 22) LineNumber
    (cond (eqb n 23) LineOrder
    (cond (eqb n 24) TextEnd LineExcess)))))))))))))))))

by-number : (r : Reason) → reason_by (number_of r) ≡ r
unfolding reason_by
by-number ListLengths = refl
by-number TableCount = refl
by-number TableOver = refl
by-number MethodCount = refl
by-number MethodOver = refl
by-number EdgeOutside = refl
by-number EdgeItself = refl
by-number EdgeDivisor = refl
by-number EdgeRepeated = refl
by-number Unconnected = refl
by-number CrewRange = refl
by-number TurnWorker = refl
by-number MemoRows = refl
by-number SkipCells = refl
by-number LineFields = refl
by-number LineNumber = refl
by-number LineOrder = refl
by-number TextEnd = refl
by-number LineExcess = refl

-- reasons of one number are one
pub number-unique : (r r' : Reason) → number_of r ≡ number_of r' → r ≡ r'
number-unique r r' e = sym (by-number r) ∙ ap reason_by e ∙ by-number r'

-- every reason has a number
pub number-some : (r : Reason) → number_of r ≡ 0 → ⊥
number-some ListLengths e = absurd (omega arith)
number-some TableCount e = absurd (omega arith)
number-some TableOver e = absurd (omega arith)
number-some MethodCount e = absurd (omega arith)
number-some MethodOver e = absurd (omega arith)
number-some EdgeOutside e = absurd (omega arith)
number-some EdgeItself e = absurd (omega arith)
number-some EdgeDivisor e = absurd (omega arith)
number-some EdgeRepeated e = absurd (omega arith)
number-some Unconnected e = absurd (omega arith)
number-some CrewRange e = absurd (omega arith)
number-some TurnWorker e = absurd (omega arith)
number-some MemoRows e = absurd (omega arith)
number-some SkipCells e = absurd (omega arith)
number-some LineFields e = absurd (omega arith)
number-some LineNumber e = absurd (omega arith)
number-some LineOrder e = absurd (omega arith)
number-some TextEnd e = absurd (omega arith)
number-some LineExcess e = absurd (omega arith)

-- ---- what a refusal tells
-- refusals that tell the same are one
pub told-unique : {r r' : Refusal} → told r ≡ told r' → r ≡ r'
told-unique {r} {r'} e = λ t. record { reason = number-unique r.reason r'.reason (ap (λ (v : Verdict). v.number) e) t; place = ap (λ (v : Verdict). v.place) e t }

-- no refusal tells that there is none
pub told-some : (r : Refusal) → told r ≡ none → ⊥
told-some r e = number-some r.reason (ap (λ (v : Verdict). v.number) e)

-- ---- what an answer tells
-- of one record: number 0, or its reason's
pub number-in-unique : {a a' : Result (Unit {0}) Reason} → number_in a ≡ number_in a' → a ≡ a'
number-in-unique {a} {a'} = go a a'
  where
    go : (a a' : Result (Unit {0}) Reason) → number_in a ≡ number_in a' → a ≡ a'
    go (Ok x) (Ok x') e = refl
    go (Ok x) (Err r') e = absurd (number-some r' (sym e))
    go (Err r) (Ok x') e = absurd (number-some r e)
    go (Err r) (Err r') e = ap Err (number-unique r r' e)

module _ {T U : Type 0} {a : Result T Refusal} {b : Result U Refusal} (e : verdict_of a ≡ verdict_of b) where
  -- where two answers tell the same, none that gives something stands against a refusal
  pub given-refused : {x : T} {r : Refusal} → a ≡ Ok x → b ≡ Err r → ⊥
  given-refused {x} {r} p p' = told-some r (sym (ap verdict_of p') ∙ sym e ∙ ap verdict_of p)

  -- and two refusals are one
  pub refusals-unique : {r r' : Refusal} → a ≡ Err r → b ≡ Err r' → r ≡ r'
  refusals-unique p p' = told-unique (sym (ap verdict_of p) ∙ e ∙ ap verdict_of p')

-- so two answers that tell the same are one where what they give is
pub answers-unique : {T : Type 0} (a a' : Result T Refusal) → verdict_of a ≡ verdict_of a' → ((x x' : T) → a ≡ Ok x → a' ≡ Ok x' → x ≡ x') → a ≡ a'
answers-unique (Ok x) (Ok x') e h = ap Ok (h x x' refl refl)
answers-unique (Ok x) (Err r') e h = absurd (told-some r' (sym e))
answers-unique (Err r) (Ok x') e h = absurd (told-some r e)
answers-unique (Err r) (Err r') e h = ap Err (told-unique e)

-- answers that give nothing
pub verdict-unique : {a a' : Result (Unit {0}) Refusal} → verdict_of a ≡ verdict_of a' → a ≡ a'
verdict-unique {a} {a'} e = answers-unique a a' e (λ x x' p p'. refl)

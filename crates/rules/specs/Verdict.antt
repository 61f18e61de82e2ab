-- What is told of an input: "Numbered refusals", each a number and a place, or none.
use Rattle.std.specs.Prelude.{ℕ, Result, Ok, Err}
use Rattle.rules.specs.declared.refusal.Reason.{Reason}
use Rattle.rules.specs.declared.refusal.Reason.TheVariants.{ListLengths, TableCount, TableOver, MethodCount, MethodOver, EdgeOutside, EdgeItself, EdgeDivisor, EdgeRepeated, Unconnected, CrewRange, TurnWorker, MemoRows, SkipCells, LineFields, LineNumber, LineOrder, TextEnd, LineExcess}
use Rattle.rules.specs.declared.refusal.Refusal.{Refusal}

-- a numbered refusal and its place; number 0 is none
pub record Verdict : Type 0 where
  pub number : ℕ
  pub place : ℕ

-- 01's number of a reason
abbrev pub number_of : Reason → ℕ
number_of ListLengths = 1
number_of TableCount = 2
number_of TableOver = 3
number_of MethodCount = 4
number_of MethodOver = 5
number_of EdgeOutside = 6
number_of EdgeItself = 7
number_of EdgeDivisor = 8
number_of EdgeRepeated = 9
number_of Unconnected = 10
number_of CrewRange = 11
number_of TurnWorker = 12
number_of MemoRows = 13
number_of SkipCells = 14
number_of LineFields = 21
number_of LineNumber = 22
number_of LineOrder = 23
number_of TextEnd = 24
number_of LineExcess = 25

-- 01's number of what an answer says of one record, 0 for nothing
abbrev pub number_in : {T : Type 0} → Result T Reason → ℕ
number_in (Ok x) = 0
number_in (Err reason) = number_of reason

-- no refusal: number 0. "Place: the first such record or turn, counted from 0, else 0"
abbrev pub none : Verdict
none = record { number = 0; place = 0 }

-- what a refusal tells
abbrev pub told : Refusal → Verdict
told r = record { number = number_of r.reason; place = r.place }

-- what an answer tells: its refusal, or none
abbrev pub verdict_of : {T : Type 0} → Result T Refusal → Verdict
verdict_of (Ok x) = none
verdict_of (Err r) = told r

use Rattle.std.proofs.Common.{◌≡◌, ◌<◌, ◌^◌, drop}
use Rattle.fields.specs.NumberLaws.{digits_from}
use Rattle.fields.proofs.numbers.digits.Given as goal

abbrev pub invariant-loop-b : goal.invariant-loop-b
invariant-loop-b l = record { small : l.value < 10 ^ l.b-index; rest : digits_from 0 l.s ≡ digits_from l.value (drop l.b-index l.s) }

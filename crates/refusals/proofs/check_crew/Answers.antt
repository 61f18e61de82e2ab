use Rattle.std.proofs.Common.{rules}
use Rattle.std.proofs.lemmas.Result.{err_from_is_err_and}
use Rattle.rules.specs.Verdict.{none, told}
use Rattle.refusals.specs.CheckLaws.{crew-good, crew-refused}
use Rattle.refusals.proofs.check_crew.Goals as goal

pub returns-in_default-clause-verdict : goal.returns-in_default-clause-verdict
returns-in_default-clause-verdict c =
    let a = c.args in
    rw c.at.ensures (crew-refused a.workers a.scheme a.turns.now c.new.result c.new.ensures c.in_default.is)

pub returns-in_err-first_bad_turn-clause-verdict : goal.returns-in_err-first_bad_turn-clause-verdict
returns-in_err-first_bad_turn-clause-verdict c =
    let a = c.args in
    let p = err_from_is_err_and c.from_residual.result c.from_residual.ensures.1 in
    rw (p.1, p.2) (crew-good a.workers a.scheme a.turns.now c.new.result c.new.ensures c.in-Some.crew c.in-Some.is (told c.in_err-first_bad_turn.field-0.0) c.in_err-first_bad_turn.ensures)

pub returns-clause-verdict : goal.returns-clause-verdict
returns-clause-verdict c =
    let a = c.args in
    crew-good a.workers a.scheme a.turns.now c.new.result c.new.ensures c.in-Some.crew c.in-Some.is none c.in_ok-first_bad_turn.ensures

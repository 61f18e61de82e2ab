use Rattle.std.proofs.Common.{◌≡◌, refl, sym, ap, ◌∙◌}
use Rattle.rules.specs.Verdict.{Verdict, none, told}
use Rattle.rules.specs.Refusals.{Input, first_of, checks, checks_of, memo_lengths, log_lengths}
use Rattle.planner.specs.PlanLaws.{checks-are, lay-ready, relaid}
use Rattle.harness.specs.Columns.{lay_input}
use Rattle.harness.specs.ColumnLaws.{lay-refused, lay-laid}
use Rattle.refusals.specs.CheckLaws.{some-number}
use Rattle.harness.proofs.lay_columns.Goals as goal
use Rattle.harness.proofs.lay_columns.Goals.{Start}

-- what it was given
abbrev input : Start → Input
input s = lay_input s.args.rows.now s.args.left.now s.args.right.now s.args.divisors.now s.args.sets.now s.args.estimates.now s.args.costs.now s.args.outers.now s.args.methods.now s.args.skips.now

-- past the checks: none refuses
passed : (i : Input) → none ≡ first_of (checks_of i.query i.workers i.scheme i.turns (memo_lengths i.lent) (log_lengths i.lent)) → (first_of (checks i)).number ≡ 0
passed i e = sym (ap (λ (x : Verdict). x.number) (e ∙ checks-are i))

pub returns-in-Err : goal.returns-in-Err
returns-in-Err c =
    let i = input (goal.at.returns-in-Err c).Start in
    let r = c.in-Err.refusal in
    rw c.number.ensures (lay-refused i (c.in-Err.ensures.verdict ∙ checks-are i) (some-number r.reason))

pub invariant_of-graph : goal.invariant_of-graph
invariant_of-graph c = let i = input (goal.at.invariant_of-graph c).Start in (lay-ready i (passed i c.in_default.ensures.verdict)).0

pub lay_out-requires : goal.lay_out-requires
lay_out-requires c = let i = input (goal.at.lay_out-requires c).Start in (lay-ready i (passed i c.in_default.ensures.verdict)).1

pub returns-in-Ok : goal.returns-in-Ok
returns-in-Ok c =
    let i = input (goal.at.returns-in-Ok c).Start in
    let k = c.in-Ok.ensures.same in
    let z = relaid (c.sets-1.given.1.1 (sym k.sets)) (c.estimates-1.given.1.1 (sym k.estimates)) (c.costs-1.given.1.1 (sym k.costs)) (c.outers-1.given.1.1 (sym k.outers)) (c.methods-1.given.1.1 (sym k.methods)) (c.skips-1.given.1.1 (sym k.skips)) c.in-Ok.ensures.laid in
    lay-laid i (c.in_default.ensures.verdict ∙ checks-are i) refl z

pub returns-in-Err-lay_out : goal.returns-in-Err-lay_out
returns-in-Err-lay_out c =
    let i = input (goal.at.returns-in-Err-lay_out c).Start in
    let k = c.in-Err-lay_out.ensures.same in
    let z = relaid (c.sets-1.given.1.1 (sym k.sets)) (c.estimates-1.given.1.1 (sym k.estimates)) (c.costs-1.given.1.1 (sym k.costs)) (c.outers-1.given.1.1 (sym k.outers)) (c.methods-1.given.1.1 (sym k.methods)) (c.skips-1.given.1.1 (sym k.skips)) c.in-Err-lay_out.ensures.laid in
    rw c.number-in-Err-lay_out.ensures (lay-laid i (c.in_default.ensures.verdict ∙ checks-are i) refl z)

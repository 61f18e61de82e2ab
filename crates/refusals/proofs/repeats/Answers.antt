use native.Mathlib.Omega.{arith}
use mathlib.Core.Path.{sym, ◌∙◌}
use lib.ListN.{get_or}
use Rattle.rules.specs.Query.{graph_of}
use Rattle.refusals.specs.CheckLaws.{pair-joins, joined-none, joined-on, repeats-here, repeats-none}
use Rattle.refusals.proofs.repeats.Goals as goal

pub loop-j-init : goal.loop-j-init
loop-j-init c =
    let a = c.args in
    let g = graph_of a.rows.now a.left.now a.right.now a.divisors.now in
    joined-none g (get_or a.left.now a.i 0) (get_or a.right.now a.i 0)

pub returns-then-same_pair : goal.returns-then-same_pair
returns-then-same_pair c =
    let a = c.args in
    let g = graph_of a.rows.now a.left.now a.right.now a.divisors.now in
    repeats-here g a.i c.loop-j.j (omega arith) (sym c.same_pair.ensures ∙ c.if-same_pair.true)

pub loop-j-preserved : goal.loop-j-preserved
loop-j-preserved c =
    let a = c.args in
    let g = graph_of a.rows.now a.left.now a.right.now a.divisors.now in
    joined-on g (get_or a.left.now a.i 0) (get_or a.right.now a.i 0) c.loop-j.j c.loop-j.invariant (sym (pair-joins g (get_or a.left.now a.i 0) (get_or a.right.now a.i 0) c.loop-j.j) ∙ sym c.same_pair.ensures ∙ c.if-same_pair.false)

pub returns : goal.returns
returns c =
    let a = c.args in
    let g = graph_of a.rows.now a.left.now a.right.now a.divisors.now in
    repeats-none g a.i c.loop-j.j c.loop-j.invariant (omega arith)

use Rattle.std.proofs.Common.{ℕ, ◌∙◌, ap, arith, take, drop, length}
use Rattle.std.proofs.lemmas.Iterator.{YieldsList-from_slice}
use Rattle.std.proofs.lemmas.Iterator.Consumers.{sum_from_yields_List, fits_from_yields_list}
use Rattle.rules.specs.Query.{table_count}
use Rattle.rows.specs.TallyLaws.{sum-up_to}
use Rattle.rows.specs.WalkLaws.{up_to-end}
use Rattle.rows.proofs.tally.Tally.rows.Goals as goal

pub sum-requires-clause-fits : goal.sum-requires-clause-fits
sum-requires-clause-fits c =
    let s = c.args.self.now in
    let n = ap table_count c.graph.view_is in
    let o = sum-up_to s.good (omega (arith, c.graph.invariant.few-tables)) (length c.graph.inside.rows.now) (omega arith) in
    fits_from_yields_list c.iter.result _ (YieldsList-from_slice (take (length c.graph.inside.rows.now) (drop 1 s.counts.now)) (c.iter.ensures.rest ∙ ap (λ (i : ℕ). take i (drop 1 s.counts.now)) (omega arith))) (omega (arith, o.0, o.1, c.graph.invariant.few-tables))

pub returns : goal.returns
returns c =
    let s = c.args.self.now in
    let n = ap table_count c.graph.view_is in
    let o = sum-up_to s.good (omega (arith, c.graph.invariant.few-tables)) (length c.graph.inside.rows.now) (omega arith) in
    sum_from_yields_List c.iter.result c.sum.result c.sum.ensures.ran (YieldsList-from_slice (take (length c.graph.inside.rows.now) (drop 1 s.counts.now)) (c.iter.ensures.rest ∙ ap (λ (i : ℕ). take i (drop 1 s.counts.now)) (omega arith))) ∙ o.0 ∙ ap length (up_to-end _ _ n)

use Rattle.std.proofs.Common.{rules}
use Rattle.rules.specs.Query.{graph_of}
use Rattle.rules.specs.Refusals.{bad_edge}
use Rattle.refusals.proofs.first_bad_edge.Goals as goal

pub returns : goal.returns
returns c =
    let a = c.args in
    c.first_bad.ensures (bad_edge (graph_of a.rows.now a.left.now a.right.now a.divisors.now)) (λ i r l h. search rules)

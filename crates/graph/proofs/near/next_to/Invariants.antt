use Rattle.rules.specs.Query.{graph_of}
use Rattle.graph.specs.Near.{NextTo}
use Rattle.graph.proofs.near.next_to.Given as goal

abbrev pub invariant-loop-i : goal.invariant-loop-i
invariant-loop-i l =
    let g = l.graph-inside in
    NextTo (graph_of g.rows.now g.left.now g.right.now g.divisors.now) l.t l.i l.r

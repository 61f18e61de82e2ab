use Prim.Native.Nat.{◌-◌}
use Rattle.rules.specs.Query.{graph_of}
use Rattle.rules.specs.laws.Bools.{any}
use Rattle.rules.specs.laws.Decide.{crosses_in}
use Rattle.query.specs.ConnectedLaws.{Grown}
use Rattle.query.proofs.connected.reach.Given as goal

abbrev pub invariant-loop-i : goal.invariant-loop-i
invariant-loop-i l =
    let g = l.graph-inside in
    Grown (graph_of g.rows.now g.left.now g.right.now g.divisors.now) l.s l.part (any (crosses_in g.left.now g.right.now l.part (l.s - l.part)) l.i) l.grown

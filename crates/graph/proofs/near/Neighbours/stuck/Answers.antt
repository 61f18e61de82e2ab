use Rattle.std.proofs.Common.{ap, not}
use mathlib.Core.Path.{refl}
use native.Mathlib.Omega.{arith}
use borrow.Author.Tests.{not-true}
use Rattle.rules.specs.laws.Connected.{within-left}
use Rattle.graph.specs.NearLaws.{overlap-none}
use Rattle.graph.specs.NodeLaws.{stuck-closed, stuck-asked}
use Rattle.graph.proofs.near.Neighbours.stuck.Goals as goal

pub returns-then-not-overlap : goal.returns-then-not-overlap
returns-then-not-overlap c =
    let overlap' = c.overlap in
    stuck-closed c.args.self.now.of c.args.chosen.now c.args.rest c.if-chosen-eq0.false (overlap-none c.args.chosen.now.around c.args.rest overlap'.result overlap'.ensures (not-true overlap'.result (ap not c.if-not-overlap.true)))

pub joins-requires : goal.joins-requires
joins-requires c = (omega arith, omega arith, within-left (record { apart = c.requires.0; whole = refl }))

pub returns : goal.returns
returns c =
    stuck-asked c.args.self.now.of c.args.chosen.now c.args.rest c.joins.result c.joins.ensures

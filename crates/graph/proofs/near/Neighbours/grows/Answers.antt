use Rattle.std.proofs.Common.{ap, not}
use native.Mathlib.Omega.{arith}
use borrow.Author.Tests.{not-true, not-false}
use Rattle.rules.specs.laws.Connected.{within_same}
use Rattle.graph.specs.ApartLaws.{overlap-some}
use Rattle.graph.specs.NearLaws.{overlap-none}
use Rattle.graph.specs.NodeLaws.{grows-first, grows-never, grows-linked, grows-asked}
use Rattle.graph.proofs.near.Neighbours.grows.Goals as goal

pub returns-then-chosen-eq0 : goal.returns-then-chosen-eq0
returns-then-chosen-eq0 c =
    grows-first c.args.self.now.of c.args.chosen.now c.args.bit c.if-chosen-eq0.true

pub returns-then-not-overlap : goal.returns-then-not-overlap
returns-then-not-overlap c =
    let overlap' = c.overlap in
    grows-never c.args.self.now.of c.args.chosen.now c.args.bit c.if-chosen-eq0.false (overlap-none c.args.chosen.now.around c.args.bit overlap'.result overlap'.ensures (not-true overlap'.result (ap not c.if-not-overlap.true)))

pub returns-then-chosen : goal.returns-then-chosen
returns-then-chosen c =
    let overlap' = c.overlap in
    grows-linked c.args.self.now.of c.args.chosen.now c.args.bit (overlap-some c.args.chosen.now.around c.args.bit overlap'.result overlap'.ensures (not-false overlap'.result (ap not c.if-not-overlap.false))) c.if-chosen.true

pub joins-requires : goal.joins-requires
joins-requires c = (omega arith, omega arith, within_same _)

pub returns : goal.returns
returns c =
    grows-asked c.args.self.now.of c.args.chosen.now c.args.bit c.joins.result c.joins.ensures

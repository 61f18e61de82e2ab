use Rattle.std.proofs.Common.{arith}
use Rattle.crew.proofs.Lowest.{lowest-some, none-left, lowest-part}
use Rattle.rounds.specs.RoundLaws.{whose-known, within-places, within-plays, turned-within, turned-less, rows-on, closed-between}
use Rattle.rounds.proofs.take_turns.Goals as goal

pub turn-pair-requires-clause-open : goal.turn-pair-requires-clause-open
turn-pair-requires-clause-open g c =
    let r = c.requires.group in
    within-plays r.2 r.0 r.1 c.by_size-group.ensures c.loop-low.invariant.0

pub turn-pair-requires-clause-ready : goal.turn-pair-requires-clause-ready
turn-pair-requires-clause-ready g c =
    let r = c.requires.group in
    let k = whose-known c.loop-low.used c.in-Some.low r.2 (lowest-some (lowest-part c.lowest.ensures) c.in-Some.is).0 c.whose_turn-w.ensures in
    (omega (arith, k, r.2.few-workers), (within-places r.2 r.0 r.1 c.by_size-group.ensures c.loop-low.invariant.0).ready _ k)

pub loop-low-smaller : goal.loop-low-smaller
loop-low-smaller g c =
    let r = c.requires.group in
    let l = lowest-some (lowest-part c.lowest.ensures) c.in-Some.is in
    let k = whose-known c.loop-low.used c.in-Some.low r.2 l.0 c.whose_turn-w.ensures in
    turned-less r.2 r.0 r.1 c.by_size-group.ensures c.loop-low.invariant.0 k c.turn-pair.ensures.taken c.loop-low.used c.in-Some.low l.1 l.0 c.whose_turn-w.ensures c.entries_on-used.ensures

pub loop-low-preserved : goal.loop-low-preserved
loop-low-preserved g c =
    let r = c.requires.group in
    let k = whose-known c.loop-low.used c.in-Some.low r.2 (lowest-some (lowest-part c.lowest.ensures) c.in-Some.is).0 c.whose_turn-w.ensures in
    (turned-within r.2 r.0 r.1 c.by_size-group.ensures c.loop-low.invariant.0 k c.turn-pair.ensures.taken, rows-on c.loop-low.invariant.1 c.turn-pair.ensures.taken c.turn-pair.ensures.same_columns)

pub returns-clause-between : goal.returns-clause-between
returns-clause-between g c =
    let r = c.requires.group in
    closed-between r.2 r.0 r.1 c.by_size-group.ensures c.loop-low.invariant.0 (none-left (lowest-part c.lowest.ensures) c.in_default.is) (omega arith)

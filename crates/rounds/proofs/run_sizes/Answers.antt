use mathlib.Core.Path.{ap}
use Prim.Native.Nat.{◌-◌, ◌≤◌}
use Rattle.std.proofs.Common.{arith}
use Rattle.rules.specs.Query.{table_count}
use Rattle.turns.specs.Taken.{board-by}
use Rattle.rounds.specs.RoundLaws.{shown_of, shown-taken, group-fit, opened-within, within-places, within-plays}
use Rattle.rounds.proofs.run_sizes.Goals as goal

pub open-requires : goal.open-requires
open-requires g c =
    let z = c.requires.started.work in
    (group-fit z (omega arith) (omega (arith, ap table_count c.graph.view_is)) c.by_size.ensures, z.some-worker, z.few-workers)

pub print_size-requires : goal.print_size-requires
print_size-requires g c =
    let z = c.requires.started.work in
    let k : c.loop-k.k ≤ table_count c.args.footing.now.graph.now - 1 = omega (arith, ap table_count c.graph.view_is) in
    let o = opened-within z (omega arith) k c.by_size.ensures c.loop-k.invariant c.open.ensures in
    shown-taken c.open.new.workers (shown_of (board-by (record { footing = c.args.footing.now; rates = c.args.rates.now; estimates = c.args.estimates; estimated = c.requires.estimated }) (within-plays z (omega arith) k c.by_size.ensures o)) (within-places z (omega arith) k c.by_size.ensures o))

pub take_turns-requires-clause-within : goal.take_turns-requires-clause-within
take_turns-requires-clause-within g c =
    opened-within c.requires.started.work (omega arith) (omega (arith, ap table_count c.graph.view_is)) c.by_size.ensures c.loop-k.invariant c.open.ensures

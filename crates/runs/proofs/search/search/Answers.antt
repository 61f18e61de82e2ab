use mathlib.Core.Path.{◌≡◌, refl, ap, ◌∙◌}
use mathlib.Core.Bool.{not}
use mathlib.Core.List.{List}
use Prim.Native.Nat.{ℕ, ◌-◌, ◌≤◌}
use native.Mathlib.Nat.{le_refl}
use native.Mathlib.Omega.{arith}
use lib.ListN.{replicate}
use Rattle.rules.specs.declared.Shape.TheVariants.{Bushy}
use Rattle.rules.specs.Query.{table_count}
use Rattle.rules.specs.Schedule.{by_size}
use Rattle.crew.specs.Lent.{memory_of}
use Rattle.crew.specs.Whose.{Lowest}
use Rattle.crew.proofs.Lowest.{lowest-part}
use Rattle.turns.specs.Taken.{columns_of}
use Rattle.runs.specs.SearchLaws.{work-by-size, scans-fit, grounded, between_start, between-end, nobodies, within-open, within-closed, within-few, within-plays, within-ready, whose-known, TurnedTo, turned-to, open-fits}
use Rattle.runs.specs.Views.{query_by, same_on}
use Rattle.runs.proofs.search.search.Goals as goal
use Rattle.runs.proofs.search.search.Goals.{After-by_size-group, After-entries_on-at}

-- the tables of starts, before they are laid
abbrev zeros : List ℕ
zeros = replicate 18 0

-- group k is one of the N less 1
known : (c : After-by_size-group) → c.loop-k.k ≤ table_count c.args.tally.now.graph.now - 1
known c = omega (arith, ap table_count c.graph.view_is)

-- what the turn leaves
next : (c : After-entries_on-at) → c.loop-k.k ≤ table_count c.args.tally.now.graph.now - 1
    → TurnedTo (query_by c.args.tally.now.graph.now c.args.scans.now c.args.rates.now) c.args.crew (by_size Bushy) c.args.turns.now (columns_of c.args.columns.now) (memory_of c.args.log.now) c.loop-k.k c.in-Some.first c.loop-low.at c.loop-low.workers c.whose_turn-w.result
    c.turn-pair.new.workers c.entries_on-at.result c.note-pairs.result (columns_of c.turn-pair.new.columns) (memory_of c.note-pairs.new.self)
next c known =
    let m = c.loop-low.invariant in
    turned-to (work-by-size c.requires) (omega arith) known c.requires.log-fits (rw c.in-Some.is at m.0) (rw c.in-Some.is at m.1) c.whose_turn-w.ensures c.by_size-group.ensures c.turn-pair.ensures.taken c.entries_on-at.ensures c.note-pairs.ensures.count c.note-pairs.ensures.log

pub lay_scans-requires : goal.lay_scans-requires
lay_scans-requires c = scans-fit c.requires

pub invariant_of-setting : goal.invariant_of-setting
invariant_of-setting c =
    let z = c.requires in
    record { good = z.sound.graph; laid = grounded z zeros zeros (omega (arith, z.sound.graph.few-tables)) (omega (arith, z.sound.graph.few-tables)) c.lay_starts.ensures.firsts c.lay_starts.ensures.cells }

pub loop-k-init : goal.loop-k-init
loop-k-init c =
    let n = nobodies c.nobody-workers.ensures in
    (omega (arith, ap table_count c.graph.view_is, c.requires.sound.graph.some-table), between_start c.requires c.lay_scans.ensures (by_size Bushy) _ n.0 n.1, record { columns = record { costs = refl; outers = refl; methods = refl }; log = record { workers = refl; driving = refl; inner = refl; costs = refl } })

pub open-requires : goal.open-requires
open-requires c =
    let z = c.requires in
    (open-fits (work-by-size z) (omega arith) (known (goal.at.open-requires c).After-by_size-group) c.by_size-group.ensures, z.some-worker, z.few-workers)

pub loop-low-init : goal.loop-low-init
loop-low-init c =
    let b = c.loop-k.invariant in
    let l : Lowest c.open.new.workers c.args.crew.workers c.lowest-low.result = lowest-part c.lowest-low.ensures in
    (within-open (work-by-size c.requires) (omega arith) (known (goal.at.loop-low-init c).After-by_size-group) c.by_size-group.ensures b.1 c.open.ensures l.is, l.inside, b.2)

pub turn-pair-requires-clause-open : goal.turn-pair-requires-clause-open
turn-pair-requires-clause-open c =
    let m = c.loop-low.invariant in
    within-plays (work-by-size c.requires) (omega arith) (known (goal.at.turn-pair-requires-clause-open c).After-by_size-group) c.requires.log-fits (rw c.in-Some.is at m.0) (rw c.in-Some.is at m.1) c.by_size-group.ensures

pub turn-pair-requires-clause-ready : goal.turn-pair-requires-clause-ready
turn-pair-requires-clause-ready c =
    let z = c.requires in
    let m = c.loop-low.invariant in
    let k = known (goal.at.turn-pair-requires-clause-ready c).After-by_size-group in
    let w = rw c.in-Some.is at m.0 in
    let more = rw c.in-Some.is at m.1 in
    (omega (arith, whose-known (work-by-size z) (omega arith) k z.log-fits w more c.whose_turn-w.ensures, z.few-workers), rw c.by_size-group.ensures (within-ready (work-by-size z) (omega arith) k z.log-fits w more c.whose_turn-w.ensures))

pub note-pairs-requires : goal.note-pairs-requires
note-pairs-requires c =
    let z = c.requires in
    let k = known (goal.at.note-pairs-requires c).After-by_size-group in
    omega (arith, within-few (work-by-size z) (omega arith) k c.loop-low.invariant.0, k, z.sound.graph.few-tables)

pub loop-low-smaller-then-is_none : goal.loop-low-smaller-then-is_none
loop-low-smaller-then-is_none c =
    (next (goal.at.loop-low-smaller-then-is_none c).After-entries_on-at (known (goal.at.loop-low-smaller-then-is_none c).After-by_size-group)).less

pub loop-low-preserved-then-is_none : goal.loop-low-preserved-then-is_none
loop-low-preserved-then-is_none c =
    let l = lowest-part c.lowest-low-then-is_none.ensures in
    ((next (goal.at.loop-low-preserved-then-is_none c).After-entries_on-at (known (goal.at.loop-low-preserved-then-is_none c).After-by_size-group)).within l.is, l.inside, same_on c.loop-low.invariant.2 c.turn-pair.ensures.same_columns c.note-pairs.ensures.same_columns)

pub loop-low-smaller : goal.loop-low-smaller
loop-low-smaller c =
    (next (goal.at.loop-low-smaller c).After-entries_on-at (known (goal.at.loop-low-smaller c).After-by_size-group)).less

pub loop-low-preserved : goal.loop-low-preserved
loop-low-preserved c =
    let t = next (goal.at.loop-low-preserved c).After-entries_on-at (known (goal.at.loop-low-preserved c).After-by_size-group) in
    (t.within (t.lowest (c.is_none.ensures ∙ ap not c.if-is_none.false)), rw c.in-Some.is at c.loop-low.invariant.1, same_on c.loop-low.invariant.2 c.turn-pair.ensures.same_columns c.note-pairs.ensures.same_columns)

pub loop-k-preserved : goal.loop-k-preserved
loop-k-preserved c =
    let m = c.loop-low.invariant in
    (omega (arith, ap table_count c.graph.view_is), within-closed (work-by-size c.requires) (omega arith) (known (goal.at.loop-k-preserved c).After-by_size-group) (rw c.in_default.is at m.0) (le_refl _), m.2)

pub returns-clause-done : goal.returns-clause-done
returns-clause-done c =
    let l = c.loop-k in
    let e : l.k ≡ table_count c.args.tally.now.graph.now = omega (arith, ap table_count c.graph.view_is, c.requires.sound.graph.some-table) in
    rw c.counts_of.ensures (between-end c.requires (rw e at l.invariant.1))

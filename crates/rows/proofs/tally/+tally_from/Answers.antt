use Prim.Native.Nat.{◌+◌, ◌-◌}
use native.Mathlib.Omega.{arith}
use Rattle.graph.specs.ApartLaws.{all-fits, rest-is, rest_some, rest-apart, rest-fits}
use Rattle.graph.specs.NodeLaws.{node-with, node-without}
use Rattle.rows.specs.FoundLaws.{found_none, found-last, tallied-none, tallied-step, counting-with, counting-without, one-more}
use Rattle.rows.proofs.tally.+tally_from.Goals as goal

pub returns-then-t-near : goal.returns-then-t-near
returns-then-t-near t c =
    λ g d. tallied-none _ (found-last g c.args.near.now.tables c.args.chosen.now.size c.args.t c.args.chosen.now.set c.if-t-near.true)

pub overflow_sub-rest : goal.overflow_sub-rest
overflow_sub-rest t c =
    rest_some c.requires.g c.args.near.now.tables c.args.t c.args.chosen.now.set c.requires.node.some c.requires.node.last c.requires.node.below c.single.result c.single-bit.result c.single.ensures c.single-bit.ensures

pub stuck-requires : goal.stuck-requires
stuck-requires t c =
    let single' = c.single-bit in
    (rest-apart c.requires.g c.args.near.now.tables c.args.t c.args.chosen.now.set c.requires.node.some c.requires.node.last c.requires.node.below c.single.result single'.result c.single.ensures single'.ensures, all-fits c.args.near.now.tables (c.args.chosen.now.set + (c.single.result - single'.result)) c.requires.node.few (rest-fits c.requires.g c.args.near.now.tables c.args.t c.args.chosen.now.set c.requires.node.some c.requires.node.last c.requires.node.below c.single.result single'.result c.single.ensures single'.ensures))

pub returns-then-stuck : goal.returns-then-stuck
returns-then-stuck t c =
    λ g d. tallied-none _ (found_none g c.args.chosen.now.size c.args.t (c.args.near.now.tables + 1 - c.args.t) c.args.chosen.now.set (c.stuck.ensures.none c.if-stuck.true g c.args.near.now.tables c.args.t d (rest-is c.requires.g c.args.near.now.tables c.args.t c.args.chosen.now.set c.requires.node.some c.requires.node.last c.requires.node.below c.single.result c.single-bit.result c.single.ensures c.single-bit.ensures)))

pub tally_from-requires : goal.tally_from-requires
tally_from-requires t c =
    let if1' = c.if-t-near in
    let single' = c.single-bit in
    (omega (arith, if1'.false), counting-with c.requires single'.result c.grows-row.result if1'.false single'.ensures (λ g d. c.grows-row.ensures.told g c.args.near.now.tables c.args.t d if1'.false single'.ensures) (one-more c.grows-row.result _ c.from.ensures))

pub tally_from-requires-2 : goal.tally_from-requires-2
tally_from-requires-2 t c =
    let if1' = c.if-t-near in
    let single' = c.single-bit in
    (omega (arith, if1'.false), counting-without c.requires single'.result c.grows-row.result if1'.false single'.ensures (λ g d. c.grows-row.ensures.told g c.args.near.now.tables c.args.t d if1'.false single'.ensures) (one-more c.grows-row.result _ c.from.ensures) c.tally_from.auto.counts c.tally_from.ensures)

pub returns : goal.returns
returns t c =
    let single' = c.single-bit in
    let grows' = c.grows-row in
    let if1' = c.if-t-near in
    λ g d. tallied-step single'.result grows'.result c.args.counts.now if1'.false single'.ensures (grows'.ensures.told g c.args.near.now.tables c.args.t d if1'.false single'.ensures) (omega (arith, c.requires.smaller, c.requires.long, c.requires.node.few, if1'.false)) (one-more c.grows-row.result _ c.from.ensures) (c.tally_from.ensures g (node-with d single'.result if1'.false single'.ensures grows'.result (grows'.ensures.told g c.args.near.now.tables c.args.t d if1'.false single'.ensures))) (c.tally_from-2.ensures g (node-without d if1'.false))

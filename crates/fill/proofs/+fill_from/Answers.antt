use Prim.Native.Nat.{◌+◌, ◌-◌}
use native.Mathlib.Omega.{arith}
use Rattle.graph.specs.ApartLaws.{all-fits, rest-is, rest_some, rest-apart, rest-fits}
use Rattle.parts.specs.PartLaws.{linked-divides, value-fits}
use Rattle.rows.specs.FoundLaws.{found_none, found-last}
use Rattle.fill.specs.FillLaws.{filled_none, fits-row, filling-with, filling-without, filled-step}
use Rattle.fill.proofs.+fill_from.Goals as goal

pub returns-then-t-near : goal.returns-then-t-near
returns-then-t-near t c =
    λ g d. filled_none _ _ _ (found-last g c.args.near.now.tables c.args.chosen.now.size c.args.t c.args.chosen.now.set c.if-t-near.true)

pub overflow_sub-rest : goal.overflow_sub-rest
overflow_sub-rest t c =
    rest_some c.requires.0 c.args.near.now.tables c.args.t c.args.chosen.now.set c.requires.1.node.some c.requires.1.node.last c.requires.1.node.below c.single.result c.single-bit.result c.single.ensures c.single-bit.ensures

pub stuck-requires : goal.stuck-requires
stuck-requires t c =
    let single' = c.single-bit in
    (rest-apart c.requires.0 c.args.near.now.tables c.args.t c.args.chosen.now.set c.requires.1.node.some c.requires.1.node.last c.requires.1.node.below c.single.result single'.result c.single.ensures single'.ensures, all-fits c.args.near.now.tables (c.args.chosen.now.set + (c.single.result - single'.result)) c.requires.1.node.few (rest-fits c.requires.0 c.args.near.now.tables c.args.t c.args.chosen.now.set c.requires.1.node.some c.requires.1.node.last c.requires.1.node.below c.single.result single'.result c.single.ensures single'.ensures))

pub returns-then-stuck : goal.returns-then-stuck
returns-then-stuck t c =
    λ g d. filled_none _ _ _ (found_none g c.args.chosen.now.size c.args.t (c.args.near.now.tables + 1 - c.args.t) c.args.chosen.now.set (c.stuck.ensures.none c.if-stuck.true g c.args.near.now.tables c.args.t d.node (rest-is c.requires.0 c.args.near.now.tables c.args.t c.args.chosen.now.set c.requires.1.node.some c.requires.1.node.last c.requires.1.node.below c.single.result c.single-bit.result c.single.ensures c.single-bit.ensures)))

pub with_part-more-requires : goal.with_part-more-requires
with_part-more-requires t c = record { divides = linked-divides c.requires.1.node c.requires.1.valued c.if-t-near.false; limits = value-fits c.requires.1.node c.requires.1.valued c.if-t-near.false }

pub put-requires : goal.put-requires
put-requires t c =
    let single' = c.single-bit in
    fits-row c.requires.1 single'.result c.grows-row.result c.if-t-near.false single'.ensures (c.grows-row.ensures.told c.requires.0 c.args.near.now.tables c.args.t c.requires.1.node c.if-t-near.false single'.ensures)

pub fill_from-requires : goal.fill_from-requires
fill_from-requires t c =
    let if1' = c.if-t-near in
    let single' = c.single-bit in
    let put' = c.put in
    (omega (arith, if1'.false), (c.requires.0, filling-with c.requires.1 single'.result c.grows-row.result if1'.false single'.ensures (c.grows-row.ensures.told c.requires.0 c.args.near.now.tables c.args.t c.requires.1.node if1'.false single'.ensures) put'.ensures.next c.with_part-more.ensures put'.auto.out put'.auto.estimates))

pub fill_from-requires-2 : goal.fill_from-requires-2
fill_from-requires-2 t c =
    let if1' = c.if-t-near in
    let single' = c.single-bit in
    let grows' = c.grows-row in
    let put' = c.put in
    let fill-from' = c.fill_from in
    (omega (arith, if1'.false), (c.requires.0, filling-without c.requires.1 single'.result grows'.result if1'.false single'.ensures (grows'.ensures.told c.requires.0 c.args.near.now.tables c.args.t c.requires.1.node if1'.false single'.ensures) put'.ensures.next c.with_part-more.ensures put'.auto.out put'.auto.estimates (fill-from'.ensures c.requires.0 (filling-with c.requires.1 single'.result grows'.result if1'.false single'.ensures (grows'.ensures.told c.requires.0 c.args.near.now.tables c.args.t c.requires.1.node if1'.false single'.ensures) put'.ensures.next c.with_part-more.ensures put'.auto.out put'.auto.estimates)) fill-from'.auto.starts fill-from'.auto.out fill-from'.auto.estimates))

pub returns : goal.returns
returns t c =
    let fill-from' = c.fill_from in
    let single' = c.single-bit in
    let grows' = c.grows-row in
    let if1' = c.if-t-near in
    let put' = c.put in
    let with-part' = c.with_part-more in
    λ g d.
    let first = fill-from'.ensures g (filling-with d single'.result grows'.result if1'.false single'.ensures (grows'.ensures.told g c.args.near.now.tables c.args.t d.node if1'.false single'.ensures) put'.ensures.next with-part'.ensures put'.auto.out put'.auto.estimates) in
    filled-step d single'.result grows'.result if1'.false single'.ensures (grows'.ensures.told g c.args.near.now.tables c.args.t d.node if1'.false single'.ensures) put'.ensures.next with-part'.ensures put'.auto.out put'.auto.estimates first put'.ensures.wrote put'.ensures.valued (c.fill_from-2.ensures g (filling-without d single'.result grows'.result if1'.false single'.ensures (grows'.ensures.told g c.args.near.now.tables c.args.t d.node if1'.false single'.ensures) put'.ensures.next with-part'.ensures put'.auto.out put'.auto.estimates first fill-from'.auto.starts fill-from'.auto.out fill-from'.auto.estimates))

use mathlib.Core.Path.{◌≡◌, refl, sym, ap, ◌∙◌}
use Prim.Native.Nat.{ℕ, ◌+◌, ◌-◌, ◌≤◌}
use native.Mathlib.Omega.{arith}
use lib.ListN.{length, get_or, length-set, replicate}
use Rattle.rules.specs.Query.{table_count}
use Rattle.rows.specs.Sizes.{up_to}
use Rattle.rows.specs.WalkLaws.{up_to-none, length_more, rows_fit}
use Rattle.fill.specs.FillLaws.{starts_none, starts_more, filling-root, filled-root}
use Rattle.fill.proofs.lay_rows.Goals as goal

pub loop-k-init : goal.loop-k-init
loop-k-init c =
    let g = c.args.tally.now.graph.now in
    (refl, omega arith, sym (ap length (up_to-none g)), starts_none g (replicate 17 0) refl)

pub overflow_add-at-in-loop-k : goal.overflow_add-at-in-loop-k
overflow_add-at-in-loop-k c =
    let t = c.args.tally.now in
    let n = ap table_count c.graph.view_is in
    omega (arith, t.good.sizes c.loop-k.k (omega arith), rows_fit t.graph.now (c.loop-k.k + 1) (omega arith))

pub loop-k-preserved : goal.loop-k-preserved
loop-k-preserved c =
    let l = c.loop-k in
    let t = c.args.tally.now in
    let g = t.graph.now in
    let n = ap table_count c.graph.view_is in
    let counted = t.good.sizes l.k (omega arith) in
    (length-set l.starts (l.k + 1) l.at ∙ l.invariant.0, omega (arith, rows_fit g (l.k + 1) (omega arith)), omega (arith, length_more g l.k), starts_more g l.starts l.k (omega arith) l.invariant.2 l.invariant.3)

pub fill_from-requires : goal.fill_from-requires
fill_from-requires c =
    let l = c.loop-k in
    let g = c.args.tally.now.graph.now in
    let near = c.new-near.ensures in
    let n = ap table_count c.graph.view_is in
    rw near.count (g, filling-root g c.new-near.result.of c.table_parts-parts.result l.starts c.args.out.now c.args.estimates.now near.good near.near c.table_parts-parts.ensures (omega (arith, near.good.few-tables)) c.requires.room.0 c.requires.room.1 (λ i h. l.invariant.3 i (omega arith)))

pub returns : goal.returns
returns c =
    let l = c.loop-k in
    let g = c.args.tally.now.graph.now in
    let near = c.new-near.ensures in
    let n = ap table_count c.graph.view_is in
    let at-size : (s : ℕ) → s ≤ table_count g → get_or l.starts s 0 ≡ length (up_to g (s - 1)) = λ i h. l.invariant.3 i (omega arith) in
    let ready = filling-root g c.new-near.result.of c.table_parts-parts.result l.starts c.args.out.now c.args.estimates.now near.good near.near c.table_parts-parts.ensures (omega (arith, near.good.few-tables)) c.requires.room.0 c.requires.room.1 at-size in
    let r = filled-root g l.starts c.args.out.now c.args.estimates.now c.fill_from.auto.out c.fill_from.auto.estimates c.requires.room.0 c.requires.room.1 at-size (rw near.count at (c.fill_from.ensures g (rw near.count ready))) in
    record { out = r.0; estimates = r.1 }

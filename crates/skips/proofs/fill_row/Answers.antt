use mathlib.Core.Path.{◌≡◌, ap, ◌∙◌}
use Prim.Native.Nat.{ℕ, ◌+◌, ◌-◌}
use native.Mathlib.Omega.{arith}
use lib.ListN.{length-set}
use Rattle.rules.specs.Sets.{single, size}
use Rattle.rules.specs.laws.Sets.{holds-lt}
use Rattle.skips.specs.VectorLaws.{lowest-le, lowest-size, still_kept, row_more, row_done}
use Rattle.skips.proofs.fill_row.Goals as goal

pub next_cell-requires : goal.next_cell-requires
next_cell-requires c =
    let r = holds-lt 32 c.loop-left.left _ c.loop-left.invariant.0 c.lowest_table-t.ensures.stands in
    (r.0, r.1, omega (arith, c.size.ensures, c.loop-left.invariant.2))

pub bounds-out-i : goal.bounds-out-i
bounds-out-i c = omega (arith, lowest-size _ _ c.lowest_table-t.ensures, c.size.ensures)

pub single-left-requires : goal.single-left-requires
single-left-requires c =
    let l = c.loop-left in
    holds-lt 32 l.left _ l.invariant.0 c.lowest_table-t.ensures.stands

pub overflow_sub-left : goal.overflow_sub-left
overflow_sub-left c = omega (arith, c.single-left.ensures, lowest-le _ _ c.lowest_table-t.ensures)

pub loop-left-preserved : goal.loop-left-preserved
loop-left-preserved c =
    let t = c.lowest_table-t in
    let a = c.args in
    let b : ℕ = a.at + c.size.result in
    let e : c.loop-left.left - c.single-left.result ≡ c.loop-left.left - single t.result = ap (λ (x : ℕ). c.loop-left.left - x) c.single-left.ensures in
    let z : size (c.loop-left.left - c.single-left.result) + 1 ≡ size c.loop-left.left = ap (λ (x : ℕ). size x + 1) e ∙ lowest-size _ _ t.ensures in (
      omega arith,
      omega (arith, z, c.loop-left.invariant.1),
      length-set c.loop-left.out c.loop-left.i c.next_cell.result ∙ c.loop-left.invariant.2,
      still_kept b c.loop-left.i c.loop-left.out a.out.now c.loop-left.invariant.3 c.next_cell.result (omega (arith, z, c.loop-left.invariant.1)),
      row_more b c.loop-left.i c.loop-left.out a.out.now c.loop-left.invariant.3 a.next a.number c.loop-left.left t.result c.loop-left.invariant.0 t.ensures c.single-left.ensures c.next_cell.ensures ∙ c.loop-left.invariant.4,
    )

pub returns : goal.returns
returns c = row_done _ _ _ c.loop-left.left (omega arith) c.loop-left.invariant.4

use mathlib.Core.Path.{◌≡◌, sym}
use Prim.Native.Nat.{◌≤◌, ◌<◌}
use native.Mathlib.Omega.{arith}
use Rattle.pairs.specs.Places.{rows_of_size, count_at}
use Rattle.pairs.specs.FindLaws.{count_none, count_same, count_less, count_more, times-fit}
use Rattle.pairs.proofs.find.count_candidates.Goals as goal
use Rattle.pairs.proofs.find.count_candidates.Goals.{Joined-d-wide, else-d-wide, then-d-wide}

-- the candidates of one driving size, few
at : (c : Joined-d-wide) → (c.if-d-wide.count ≤ 4294967296) × (c.if-d-wide.count ≡ count_at c.args.starts.now c.args.group c.loop-d.d)
at c =
    let s = c.args.starts.now in
    let r = c.requires in
    let d = c.loop-d.d in
    let wide = c.inner_at-wide.result in
    let v : (1 ≤ wide) × (wide < r.sizes) = (omega (arith, r.rising d (omega arith) (omega arith)), omega (arith, r.inside d (omega arith) (omega arith))) in
    let a = r.fits.fits d (omega arith) (omega arith) in
    let b = r.fits.fits wide v.0 v.1 in
    elim c.if-d-wide.branch [
      | then-d-wide w ↦ (omega (arith, w.count-is, times-fit (rows_of_size s d) (rows_of_size s d) a a), count_same s c.args.group c.inner_at-wide.ensures w.if-d-wide.true w.count-is)
      | else-d-wide w ↦ (omega (arith, w.count-is, times-fit (rows_of_size s d) (rows_of_size s wide) a b), count_less s c.args.group c.inner_at-wide.ensures w.if-d-wide.false w.count-is)
    ]

pub loop-d-init : goal.loop-d-init
loop-d-init c = (omega arith, sym (count_none c.args.starts.now c.args.group))

pub overflow_add-count : goal.overflow_add-count
overflow_add-count c = omega (arith, (at (goal.at.overflow_add-count c).Joined-d-wide).0, c.loop-d.invariant.0)

pub loop-d-preserved : goal.loop-d-preserved
loop-d-preserved c =
    let n = at (goal.at.loop-d-preserved c).Joined-d-wide in
    (omega (arith, n.0, c.loop-d.invariant.0), count_more c.args.starts.now c.args.group c.loop-d.d (omega arith) c.loop-d.invariant.1 n.1)

use mathlib.Core.Path.{◌≡◌}
use Prim.Native.Nat.{ℕ, ◌-◌, ◌*◌, ◌≤◌}
use lib.ListN.{length, get_or}
use Rattle.rows.specs.Sizes.{up_to}
use Rattle.fill.proofs.lay_rows.Given as goal

abbrev pub invariant-loop-k : goal.invariant-loop-k
invariant-loop-k l =
    let g = l.tally.graph.now in
    (length l.starts ≡ 17) × (l.at ≤ l.k * 65536) × (l.at ≡ length (up_to g l.k))
    × ((s : ℕ) → s ≤ l.k → get_or l.starts s 0 ≡ length (up_to g (s - 1)))

use Rattle.std.proofs.Common.{◌≡◌, ◌≤◌, ◌-◌}
use Rattle.shares.specs.Nowhere.{nowhere}
use Rattle.pairs.specs.FindLaws.{Clear, Sized}
use Rattle.pairs.specs.LeafLaws.{Walked}
use Rattle.pairs.specs.Places.{RowFrom}
use Rattle.pairs.proofs.find.find.Given as goal

abbrev pub invariant-loop-inner : goal.invariant-loop-inner
invariant-loop-inner l = Walked l.footing.graph.now l.footing.sets.now l.x l.own l.inner × (l.place ≡ nowhere l.share.total)

abbrev pub decreases-loop-inner : goal.decreases-loop-inner
decreases-loop-inner l = l.own.end - l.inner

abbrev pub invariant-loop-i : goal.invariant-loop-i
invariant-loop-i l =
    Sized l.footing.graph.now l.group l.d l.wide l.rows.base l.end l.rows_from l.rows_to l.rows.cell × (l.ahead ≤ l.number) × RowFrom l.footing.graph.now l.group l.d l.i l.number × Clear l.footing.graph.now l.group l.share l.ahead l.number × (l.place ≡ nowhere l.share.total)

abbrev pub invariant-find : goal.invariant-find
invariant-find l = (l.ahead ≤ l.number) × RowFrom l.footing.graph.now l.group l.d l.from l.number × Clear l.footing.graph.now l.group l.share l.ahead l.number × (l.place ≡ nowhere l.share.total)

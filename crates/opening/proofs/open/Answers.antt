use native.Mathlib.Omega.{arith}
use Rattle.pairs.specs.PlaceLaws.{met-few}
use Rattle.pairs.specs.GroundLaws.{countable}
use Rattle.opening.specs.OpenLaws.{count-all, share-is, share-ready, opening-set}
use Rattle.opening.proofs.open.Goals as goal

pub count_candidates-total-requires : goal.count_candidates-total-requires
count_candidates-total-requires c =
    let f = c.args.footing.now in
    countable f.graph.now f.sets.now f.skips.now f.starts.now f.cells.now f.laid f.good c.args.group c.requires.0

pub share_of-share-requires : goal.share_of-share-requires
share_of-share-requires c =
    let f = c.args.footing.now in
    (c.requires.1, omega arith, c.requires.2, omega (arith, count-all f.laid c.requires.0 c.count_candidates-total.ensures, met-few f.graph.now f.good c.args.group c.requires.0))

pub first_pair-requires : goal.first_pair-requires
first_pair-requires c =
    let f = c.args.footing.now in
    let h = share-is f.graph.now c.args.group c.args.crew _ (count-all f.laid c.requires.0 c.count_candidates-total.ensures) c.share_of-share.ensures in
    (share-ready f.graph.now c.args.group c.args.crew _ c.requires.1 c.requires.2 (omega arith) h, c.requires.0)

pub loop-w-preserved : goal.loop-w-preserved
loop-w-preserved c =
    let f = c.args.footing.now in
    let l = c.loop-w in
    let h = share-is f.graph.now c.args.group c.args.crew _ (count-all f.laid c.requires.0 c.count_candidates-total.ensures) c.share_of-share.ensures in
    opening-set f.graph.now c.args.group c.args.crew _ l.w c.share_of-share.result c.first_pair.result l.invariant (omega (arith, c.told-workers, c.requires.2)) h c.first_pair.ensures

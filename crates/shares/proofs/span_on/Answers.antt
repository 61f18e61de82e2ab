use mathlib.Core.Path.{refl}
use Rattle.shares.specs.ShareLaws.{on-dealt-inner}
use Rattle.shares.proofs.span_on.Goals as goal

pub returns-in-DealInner : goal.returns-in-DealInner
returns-in-DealInner c =
    let a = c.args in
    on-dealt-inner a.share a.number a.inner a.end c.in-DealInner.is refl

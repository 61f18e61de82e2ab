use mathlib.Core.Path.{◌≡◌, refl}
use native.Mathlib.Omega.{arith}
use lib.ListN.{length, take}
use Rattle.std.proofs.Common.{sym, length-take-le}
use Rattle.text.specs.ReadLaws.{lines-within, written-fits}
use Rattle.text.proofs.plan_bytes.Goals as goal

pub slice_bounds-copy-end : goal.slice_bounds-copy-end
slice_bounds-copy-end c = sym (length-take-le _ _ (lines-within c.compose.ensures (omega arith)))

pub copy-requires : goal.copy-requires
copy-requires c = rw (length-take-le _ c.compose.new.line.out.now (lines-within c.compose.ensures (omega arith))) (omega arith)

pub returns : goal.returns
returns c =
    let at = c.compose.new.line.at in
    let lines = take at c.compose.new.line.out.now in
    let e : length lines ≡ at = length-take-le _ _ (lines-within c.compose.ensures (omega arith)) in
    rw (c.copy.ensures, e) (written-fits c.args.query.now c.compose.ensures refl (omega arith) (omega arith) refl)

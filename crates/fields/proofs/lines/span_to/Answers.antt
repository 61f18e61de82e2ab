use Rattle.std.proofs.Common.{rules, tests}
use Rattle.std.specs.Prelude.{eqb}
use Rattle.std.proofs.lemmas.Iterator.{YieldsList-from_slice}
use Rattle.std.proofs.lemmas.Iterator.Search.{position_from_yields_List}
use Rattle.fields.specs.SpanLaws.{span-found}
use Rattle.fields.proofs.lines.span_to.Goals as goal

pub returns : goal.returns
returns c =
    rw c.unwrap_or.ensures
    (span-found c.args.by c.args.bytes.now c.position.result
    (position_from_yields_List (λ b. eqb b c.args.by) _ _ c.position.result c.position.ensures.ran (YieldsList-from_slice c.args.bytes.now c.iter.ensures.rest) (λ x b q k. search (rules, tests))))

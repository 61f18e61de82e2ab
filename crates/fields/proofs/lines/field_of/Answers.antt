use Rattle.std.proofs.Common.{rules, tests, refl}
use Rattle.std.specs.Prelude.{eqb}
use Rattle.std.proofs.lemmas.Iterator.Consumers.{nth_from_yields_List}
use Rattle.std.proofs.lemmas.Iterator.Splits.{YieldsList-from_slice_split}
use Rattle.rules.specs.Lines.{tab}
use Rattle.fields.specs.CutLaws.{field-found}
use Rattle.fields.proofs.lines.field_of.Goals as goal

pub returns : goal.returns
returns c =
    rw c.unwrap_or.ensures
    (field-found c.args.line.now c.args.k c.nth.result _
    (nth_from_yields_List c.nth.result _ c.args.k c.nth.ensures.ran (YieldsList-from_slice_split _ (λ b. eqb b tab) c.args.line.now c.split.ensures.rest c.split.ensures.done c.split.ensures.closure (λ x b q k. search (rules, tests)))) refl)

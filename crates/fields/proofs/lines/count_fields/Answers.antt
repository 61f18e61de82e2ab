use Rattle.std.proofs.Common.{rules, ◌≡◌, ◌∙◌, ap, ◌+◌}
use Rattle.std.specs.Prelude.{eqb, count_by}
use Rattle.rules.specs.Lines.{tab}
use Rattle.fields.specs.CutLaws.{fields-counted}
use Rattle.fields.proofs.lines.count_fields.Goals as goal

pub returns : goal.returns
returns c = let e : c.count.result ≡ count_by (λ b. eqb b tab) c.args.line.now = search rules in ap (λ n. n + 1) e ∙ fields-counted c.args.line.now

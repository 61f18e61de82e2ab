-- The order of choices as the code has it: that of their fields.
use Rattle.std.specs.Prelude.{◌≡◌}
use Rattle.std.specs.Ordering.{partial_le, ord_min}
use Rattle.std.proofs.lemmas.Bool.Decides.{nat_tests}
use Rattle.std.proofs.Common.{arith}
use Rattle.results.specs.declared.price.Choice.{Choice}
use Rattle.results.specs.contracts.price.ChoicePartialOrd.TheImpl.{partial_cmp-value}
use Rattle.results.specs.contracts.price.ChoiceOrd.TheImpl.{cmp-value}
use Rattle.results.specs.Prices.{choice_of}
use Rattle.rules.specs.laws.Choice.{sooner, better}

-- it is that of rules
pub le-sooner : (a b : Choice) → partial_le partial_cmp-value.it a b ≡ sooner (choice_of a) (choice_of b)
unfolding sooner
le-sooner a b = grind (arith, nat_tests)

-- the lesser of two is the better one
pub min-better : (a b : Choice) → choice_of (ord_min cmp-value.it a b) ≡ better (choice_of a) (choice_of b)
unfolding sooner better
min-better a b = grind (arith, nat_tests)

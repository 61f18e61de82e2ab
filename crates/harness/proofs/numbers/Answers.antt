use Rattle.std.proofs.Common.{rules, ◌≡◌, refl, ap, List, ◌∷◌, ℕ, length}
use Rattle.rules.specs.Answers.{each}
use Rattle.harness.specs.ColumnLaws.{eight}
use Rattle.harness.proofs.numbers.Goals as goal

pub returns-in-Ok : goal.returns-in-Ok
returns-in-Ok c =
    let a = c.in-Ok.answer in
    let e : length a.counts ≡ 8 = search rules in
    rw c.in-Ok.is (ap (λ (l : List ℕ). 0 ∷ 0 ∷ a.best ∷ a.rows ∷ a.cells ∷ a.pairs ∷ l) (eight a.counts e), refl)

pub returns-in-Err : goal.returns-in-Err
unfolding each
returns-in-Err c = rw (c.in-Err.is, c.number.ensures) (refl, refl)

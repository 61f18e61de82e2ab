use Rattle.std.proofs.Common.{◌≡◌, sym, refl, ap, ◌∙◌}
use Rattle.std.proofs.lemmas.List.{set-get_or}
use Rattle.rules.specs.laws.Choice.{kept}
use Rattle.results.specs.Prices.{choice_of}
use Rattle.results.specs.Kept.{held_at}
use Rattle.results.specs.PriceLaws.{kept-old, kept-first, kept_new}
use Rattle.results.proofs.keep.Columns.keep.Goals as goal
use Rattle.results.proofs.keep.Columns.keep.Goals.{Then-sooner, Joined-else-held-ne0, else-held-ne0-via-then-held-ne0+else-sooner, else-held-ne0-via-else-held-ne0}

-- the row keeps what it holds
stays : (c : Then-sooner) → let a = c.args in kept (held_at a.self.now a.row) (choice_of a.choice) ≡ held_at a.self.now a.row
stays c =
    let a = c.args in
    kept-old (held_at a.self.now a.row) (choice_of a.choice) c.if-held-ne0.true (sym c.sooner.ensures ∙ c.if-sooner.true)

pub returns-then-sooner-clause-cost : goal.returns-then-sooner-clause-cost
returns-then-sooner-clause-cost c = ap (λ k. k.cost) (sym (stays c))

pub returns-then-sooner-clause-row : goal.returns-then-sooner-clause-row
returns-then-sooner-clause-row c =
    let a = c.args in
    rw (stays c) (record { costs = sym (set-get_or a.self.now.costs.now a.row 0); outers = sym (set-get_or a.self.now.outers.now a.row 0); methods = sym (set-get_or a.self.now.methods.now a.row 0) })

-- it takes the new choice
takes : (c : Joined-else-held-ne0) → let a = c.args in kept (held_at a.self.now a.row) (choice_of a.choice) ≡ choice_of a.choice
takes c =
    let a = c.args in
    let held = held_at a.self.now a.row in
    elim c.else-held-ne0.branch [
      | else-held-ne0-via-then-held-ne0+else-sooner w ↦ kept_new held (choice_of a.choice) w.if-held-ne0.true (sym w.sooner.ensures ∙ w.if-sooner.false)
      | else-held-ne0-via-else-held-ne0 w ↦ kept-first held (choice_of a.choice) w.if-held-ne0.false
    ]

pub returns-clause-cost : goal.returns-clause-cost
returns-clause-cost c = ap (λ k. k.cost) (sym (takes c))

pub returns-clause-row : goal.returns-clause-row
returns-clause-row c = rw (takes c) (record { costs = refl; outers = refl; methods = refl })

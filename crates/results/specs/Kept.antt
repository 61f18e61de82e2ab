-- A row of the columns that turns write, before and after it keeps a choice.
use Rattle.std.specs.Prelude.{◌≡◌, ℕ, set}
use Rattle.rules.specs.Offers as rules
use Rattle.results.specs.declared.keep.Columns.{Columns}
use Rattle.results.specs.Prices.{choice_at}

-- what row r holds
abbrev pub held_at : Columns → ℕ → rules.Choice
held_at c r = choice_at c.costs.now c.outers.now c.methods.now r

-- c' is c with the choice k in row r
pub record Holds (c : Columns) (r : ℕ) (k : rules.Choice) (c' : Columns) : Type 0 where
  pub costs : c'.costs.now ≡ set c.costs.now r k.cost
  pub outers : c'.outers.now ≡ set c.outers.now r k.outer
  pub methods : c'.methods.now ≡ set c.methods.now r k.method

-- they are the same lent columns
pub record SameColumns (c c' : Columns) : Type 0 where
  pub costs : c.costs.ghost_name ≡ c'.costs.ghost_name
  pub outers : c.outers.ghost_name ≡ c'.outers.ghost_name
  pub methods : c.methods.ghost_name ≡ c'.methods.ghost_name

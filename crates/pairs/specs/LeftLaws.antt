-- A place has a pair left, or none.
use Rattle.std.specs.Prelude.{◌≡◌, refl, true, false, Option, Some, None}
use Rattle.std.proofs.Common.{ap}
use Rattle.std.specs.Option.{is_some}
use Rattle.rules.specs.laws.Bools.{not-both}
use Rattle.shares.specs.declared.places.Place.{Place}
use Rattle.shares.specs.declared.places.Spot.{Spot}
use Rattle.shares.specs.Nowhere.{left}

module _ (p : Place) where
  -- it stands at a pair
  pub left-some : left p ≡ true → (s : Spot) × (p.pair ≡ Some s)
  left-some e = go p.pair refl
    where
      go : (o : Option Spot) → p.pair ≡ o → (s : Spot) × (p.pair ≡ Some s)
      go (Some s) f = (s, f)
      go None f = absurd (not-both (left p) e (ap is_some f))

  pub some-left : {s : Spot} → p.pair ≡ Some s → left p ≡ true
  some-left e = ap is_some e

  -- or nowhere
  pub left-none : left p ≡ false → p.pair ≡ None
  left-none e = go p.pair refl
    where
      go : (o : Option Spot) → p.pair ≡ o → p.pair ≡ None
      go (Some s) f = absurd (not-both (left p) (ap is_some f) e)
      go None f = f

  pub none-left : p.pair ≡ None → left p ≡ false
  none-left e = ap is_some e

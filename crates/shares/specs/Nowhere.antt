-- Where a worker stands, and where one with no pair left does.
use Rattle.std.specs.Prelude.{ℕ, Bool, Some, None}
use Rattle.std.specs.Option.{is_some}
use Rattle.shares.specs.declared.places.Place.{Place}
use Rattle.shares.specs.declared.places.Spot.{Spot}

-- it has a pair left
abbrev pub left : Place → Bool
left p = is_some p.pair

-- at the candidate with number x, which stands at s
abbrev pub placed : ℕ → Spot → Place
placed x s = record { number = x; pair = Some s }

abbrev pub nowhere : ℕ → Place
nowhere T = record { number = T; pair = None }

-- Where the set of a search stands.
use Rattle.std.specs.Prelude.{ℕ}
use Rattle.skips.specs.SizeRows.{Stands}
use Rattle.lookup.specs.declared.Search.{Search}

-- its row is p
abbrev pub StandsAt : Search → ℕ → Type 0
StandsAt x p = Stands x.sets.now x.from x.to x.set p

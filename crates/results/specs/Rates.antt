-- What the methods of a query cost, by the struct that holds them.
use Rattle.std.specs.Prelude.{ℕ, Bool, length}
use Rattle.rules.specs.Offers as rules
use Rattle.rules.specs.Offers.{Pair, Offered, sides}
use Rattle.results.specs.declared.price.Join.{Join}
use Rattle.results.specs.declared.price.Part.{Part}
use Rattle.results.specs.declared.price.Rates.{Rates}
use Rattle.results.specs.Prices.{Cheapest, packed_at, join_by}

-- the packed price of the method at place k
abbrev pub packed_of : Rates → Join → ℕ → ℕ
packed_of r j k = packed_at r.fixed.now r.outer.now r.inner.now r.res.now j.outer j.inner j.res k

-- v is the least of the packed prices
abbrev pub CheapestBy : Rates → Join → ℕ → Type 0
CheapestBy r j v = Cheapest r.fixed.now r.outer.now r.inner.now r.res.now j.outer j.inner j.res v

-- the pair of two parts
abbrev pub pair_of : Part → Part → Pair
pair_of x y = record { driving = x.set; inner = y.set }

-- k is one of the ways to join two parts, both ways round or only with y as the outer one
abbrev pub Joins : Rates → Bool → Part → Part → ℕ → ℕ → rules.Choice → Type 0
Joins r both x y er base k = Offered (sides both (pair_of x y)) (length r.fixed.now) (join_by r.fixed.now r.outer.now r.inner.now r.res.now x.set x.estimate y.estimate er base) k

-- The ways round of a pair: each whose inner part fits the shape, and no other. What it offers by them depends on their costs alone.
use Rattle.std.specs.Prelude.{◌≡◌, refl, ◌⊎◌, Bool, true, false, ℕ, ◌≤◌}
use Rattle.std.proofs.Common.{◌∙◌, ⊎_elim, arith, eq-eqb, ne_eqb}
use Rattle.std.proofs.Math.Logic.{inl, inr}
use mathlib.Core.List.Memᴰ
use mathlib.Core.List.{List, [], ◌∷◌, Memᴰ}
use Rattle.rules.specs.declared.Shape.{Shape}
use Rattle.rules.specs.declared.Shape.TheVariants.{Bushy, Single}
use Rattle.rules.specs.Lists.{keep}
use Rattle.rules.specs.Sets.{size}
use Rattle.rules.specs.Trees.{fits}
use Rattle.rules.specs.Offers.{Pair, Way, along, back, ways, sides, Choice, Priced, Offered}
use Rattle.rules.specs.laws.Choice.{Best, Either, best-same}
use Rattle.rules.specs.laws.Lists.{keep-in, keep-of}

module _ (shape : Shape) (p : Pair) where
  pub along-in : fits shape (size p.inner) ≡ true → Memᴰ (along p) (ways shape p)
  unfolding ways
  along-in e = keep-in (λ (w : Way). fits shape (size w.inner)) (along p) (along p ∷ back p ∷ []) (Memᴰ.head refl) e

  pub back_in : fits shape (size p.driving) ≡ true → Memᴰ (back p) (ways shape p)
  unfolding ways
  back_in e = keep-in (λ (w : Way). fits shape (size w.inner)) (back p) (along p ∷ back p ∷ []) (Memᴰ.tail (Memᴰ.head refl)) e

  pub way_of : (w : Way) → Memᴰ w (ways shape p) → ((w ≡ along p) ⊎ (w ≡ back p)) × (fits shape (size w.inner) ≡ true)
  unfolding ways
  way_of w m =
      let r = keep-of (λ (v : Way). fits shape (size v.inner)) w (along p ∷ back p ∷ []) m in
      (⊎_elim (λ e. inl e) (λ i. inr (Memᴰ.eq_of_singleton i)) (Memᴰ.cases_cons r.0), r.1)

-- as a group says it
pub sides-are : (shape : Shape) (p : Pair) (both : Bool) → fits shape (size p.inner) ≡ both → fits shape (size p.driving) ≡ true → ways shape p ≡ sides both p
unfolding ways keep
sides-are shape p true e f = rw (e, f) refl
sides-are shape p false e f = rw (e, f) refl

priced-at : {n : ℕ} {cost : ℕ → ℕ → ℕ → ℕ} {v w : Way} {k : Choice} → v ≡ w → Priced n cost v.outer v.inner k → Priced n cost w.outer w.inner k
priced-at e d = rw e at d

pub side-of : (both : Bool) (p : Pair) (w : Way) → Memᴰ w (sides both p) → (w ≡ along p) ⊎ (w ≡ back p)
side-of true p w m = ⊎_elim (λ e. inl e) (λ i. inr (Memᴰ.eq_of_singleton i)) (Memᴰ.cases_cons m)
side-of false p w m = inr (Memᴰ.eq_of_singleton m)

-- ---- the costs of the ways, and no others, decide what is offered
module _ {ws : List Way} {n : ℕ} {f g : ℕ → ℕ → ℕ → ℕ} where
  pub offered-same : ((w : Way) → Memᴰ w ws → (m : ℕ) → f w.outer w.inner m ≡ g w.outer w.inner m) → (k : Choice) → Offered ws n f k → Offered ws n g k
  offered-same e k o = record { way = o.way; offered = o.offered; priced = record { outer = o.priced.outer; from_one = o.priced.from_one; to-count = o.priced.to-count; costs = o.priced.costs ∙ e o.way o.offered k.method } }

-- the best of what both ways round offer, and of the one
module _ {p : Pair} {n : ℕ} {cost : ℕ → ℕ → ℕ → ℕ} {k : Choice} where
  pub both-sides : Best (Either (Priced n cost p.driving p.inner) (Priced n cost p.inner p.driving)) k → Best (Offered (sides true p) n cost) k
  both-sides b = best-same to from b
    where
      to : (j : Choice) → Either (Priced n cost p.driving p.inner) (Priced n cost p.inner p.driving) j → Offered (sides true p) n cost j
      to j (inl o) = record { way = along p; offered = Memᴰ.head refl; priced = o }
      to j (inr o) = record { way = back p; offered = Memᴰ.tail (Memᴰ.head refl); priced = o }

      from : (j : Choice) → Offered (sides true p) n cost j → Either (Priced n cost p.driving p.inner) (Priced n cost p.inner p.driving) j
      from j o = ⊎_elim (λ e. inl (priced-at e o.priced)) (λ i. inr (priced-at (Memᴰ.eq_of_singleton i) o.priced)) (Memᴰ.cases_cons o.offered)

  pub one_side : Best (Priced n cost p.inner p.driving) k → Best (Offered (sides false p) n cost) k
  one_side b = best-same (λ j o. record { way = back p; offered = Memᴰ.head refl; priced = o }) (λ j o. priced-at (Memᴰ.eq_of_singleton o.offered) o.priced) b

-- ---- what the two shapes offer
-- 01's shape: both ways round
pub bushy-ways : (p : Pair) → ways Bushy p ≡ along p ∷ back p ∷ []
unfolding ways keep fits
bushy-ways p = refl

-- result size 2: both ways round
pub two_ways : (p : Pair) → size p.driving ≡ 1 → size p.inner ≡ 1 → ways Single p ≡ along p ∷ back p ∷ []
unfolding ways keep fits
two_ways p d i = rw (eq-eqb (size p.inner) 1 i, eq-eqb (size p.driving) 1 d) refl

-- "Above result size 2 a turn prices only the choice with the driving table on the plan's inner side"
pub one_way : (p : Pair) → size p.driving ≡ 1 → 2 ≤ size p.inner → ways Single p ≡ back p ∷ []
unfolding ways keep fits
one_way p d i = rw (ne_eqb (size p.inner) 1 (λ e. omega arith), eq-eqb (size p.driving) 1 d) refl

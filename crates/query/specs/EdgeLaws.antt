-- Laws of the search for an edge between two sets.
use Rattle.std.specs.Prelude.{◌≡◌, Bool, true, false, ◌&&◌, ◌||◌, List, ℕ, zero, suc, ◌+◌, ◌/◌, ◌^◌, ◌≤◌, max, length, get_or}
use Rattle.std.proofs.Math.Path.{refl}
use Rattle.std.proofs.Common.{sym, ◌∙◌, add-one, arith, ne_eqb}
use Rattle.std.proofs.Math.Bool.{and-false}
use Rattle.std.proofs.lemmas.Bool.{eqb-false}
use Rattle.std.specs.Int.Bits.{bit_or, or_step}
use Rattle.std.proofs.lemmas.Nat.{or_shr}
use Rattle.rules.specs.Lists.{is_yes}
use Rattle.rules.specs.Sets.{has, holds}
use Rattle.rules.specs.Query.{Graph}
use Rattle.rules.specs.laws.Bools.{any, decide-is}
use Rattle.rules.specs.laws.Decide.{crosses_in, between_in, between?, between-true, between-of}

-- ---- an or whose left test says yes
pub or_yes : (a b : Bool) {r : Bool} → r ≡ a → r ≡ true → r ≡ (a || b)
or_yes a b e t = rw (sym e ∙ t) t

-- ---- a search of the numbers from 0 on
module _ (f : ℕ → Bool) where
  pub any-start : any f 0 ≡ false
  unfolding any
  any-start = refl

  pub any-more : (i : ℕ) → any f i ≡ false → f i ≡ false → any f (i + 1) ≡ false
  unfolding any
  any-more i h e = rw (add-one i, h) e

-- ---- an edge between two sets
-- the code's test of an edge that is so and so
pub crosses-is : (left right : List ℕ) (x y i : ℕ) {r b : Bool}
    → r ≡ ((has x (get_or left i 0) && has y (get_or right i 0)) || (has x (get_or right i 0) && has y (get_or left i 0))) → r ≡ b → crosses_in left right x y i ≡ b
unfolding crosses_in
crosses-is left right x y i e f = sym e ∙ f

pub between_is : (g : Graph) (x y : ℕ) → is_yes (between? g x y) ≡ between_in g.left g.right x y
unfolding between?
between_is g x y = decide-is (between_in g.left g.right x y) (between-true g x y) (between-of g x y)

-- a table stands in the bits of two sets where it stands in one of them
pub holds-either : (x y t : ℕ) → holds (bit_or x y) t ≡ max (holds x t) (holds y t)
unfolding holds
holds-either x y zero = refl
holds-either x y (suc i) = rw (or_shr x y i) (omega (arith, or_step (x / 2 ^ i) (y / 2 ^ i)))

pub holds-le : (S t : ℕ) → holds S t ≤ 1
unfolding holds
holds-le S zero = omega arith
holds-le S (suc i) = omega arith

-- a table that stands in neither of two sets
pub neither : (x y t : ℕ) → has (bit_or x y) t ≡ false → (has x t ≡ false) × (has y t ≡ false)
neither x y t e =
    let n = eqb-false (holds (bit_or x y) t) 1 e in
    let m = holds-either x y t in
    (ne_eqb (holds x t) 1 (λ h. n (omega (arith, holds-le y t))), ne_eqb (holds y t) 1 (λ h. n (omega (arith, holds-le x t))))

-- an edge whose left table stands in neither does not cross
pub crosses-not : (left right : List ℕ) (x y i : ℕ) {r : Bool} → r ≡ has (bit_or x y) (get_or left i 0) → r ≡ false → crosses_in left right x y i ≡ false
unfolding crosses_in
crosses-not left right x y i e f = let n = neither x y (get_or left i 0) (sym e ∙ f) in rw (n.0, n.1) (and-false (has x (get_or right i 0)))

-- none has been found among all
pub between_none : (g : Graph) (x y i : ℕ) → i ≡ length g.left → any (crosses_in g.left g.right x y) i ≡ false → is_yes (between? g x y) ≡ false
unfolding between_in
between_none g x y i l e = between_is g x y ∙ (rw l at e)

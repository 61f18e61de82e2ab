-- Laws that no proof cites any more, since the check finds their goals: they hold as before.
use Rattle.std.specs.Prelude.{◌≡◌, Bool, true, false, ◌&&◌, ◌||◌, ℕ, ◌<◌, ◌≤◌, length}
use Rattle.std.proofs.Common.{sym, ◌∙◌, arith}
use Rattle.rules.specs.Lists.{is_yes}
use Rattle.rules.specs.Query.{Graph}
use Rattle.rules.specs.laws.Bools.{any_of, true-yes}
use Rattle.rules.specs.laws.Decide.{crosses_in, between_in, between?, connected?}
use Rattle.query.specs.EdgeLaws.{between_is}
use Rattle.query.specs.ConnectedLaws.{Part, no-yes}

-- ---- tests, as early returns make them
pub and_yes : (a b : Bool) {r x : Bool} → r ≡ a → r ≡ true → x ≡ b → x ≡ (a && b)
and_yes a b e t f = rw (sym e ∙ t) f

pub and_no : (a b : Bool) {r : Bool} → r ≡ a → r ≡ false → false ≡ (a && b)
and_no a b e t = rw (sym e ∙ t)

pub or_no : (a b : Bool) {r x : Bool} → r ≡ a → r ≡ false → x ≡ b → x ≡ (a || b)
or_no a b e t f = rw (sym e ∙ t) f

-- ---- an edge that crosses is found
pub between-found : (g : Graph) (x y i : ℕ) → i < length g.left → crosses_in g.left g.right x y i ≡ true → is_yes (between? g x y) ≡ true
unfolding between_in
between-found g x y i l e = between_is g x y ∙ any_of (crosses_in g.left g.right x y) (length g.left) i l e

-- ---- a connected part of a set
pub part-le : (g : Graph) (s f : ℕ) → Part g s f → f ≤ s
part-le g s f p = omega (arith, p.splits.whole)

module _ (g : Graph) (s : ℕ) where
  pub empty-no : s ≡ 0 → is_yes (connected? g s) ≡ false
  empty-no e = no-yes (connected? g s) (λ c. omega (arith, c.some))

  -- the part is all of s
  pub whole-yes : (f : ℕ) → Part g s f → f ≡ s → is_yes (connected? g s) ≡ true
  whole-yes f p e = true-yes (connected? g s) (rw e at p.connected)

-- ---- an or whose left test says yes
pub or_yes : (a b : Bool) {r : Bool} → r ≡ a → r ≡ true → true ≡ (a || b)
or_yes a b e t = rw (sym e ∙ t)

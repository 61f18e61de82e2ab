-- What one look at a row tells of the place of a set, by the code's tests.
use Rattle.std.specs.Prelude.{◌≡◌, Bool, true, ℕ, ◌+◌, ◌≤◌, ◌<◌, get_or}
use Rattle.std.proofs.Common.{sym, ◌∙◌, arith}
use Rattle.std.proofs.Math.Decide.{dec_lt}
use Rattle.rules.specs.Sets.{tables}
use Rattle.rules.specs.Rows.{before}
use Rattle.rules.specs.laws.Bools.{not-both}
use Rattle.sets.specs.Laws.{before_self}
use Rattle.lookup.specs.declared.Search.{Search}
use Rattle.lookup.specs.Search.{StandsAt}
use Rattle.lookup.specs.FindLaws.{look-behind, look-ahead}

module _ (x : Search) (m : ℕ) (lm : x.from ≤ m) (mt : m < x.to) where
  -- the row holds the set: it is its row
  pub look-found : get_or x.sets.now m 0 ≡ x.set → (p : ℕ) → StandsAt x p → m ≡ p
  look-found e p h = omega (arith, go (dec_lt p m), look-ahead x.sets.now x.from x.to x.set m x.rows.0 x.rows.1 lm mt x.rows.2 (rw e (before_self (tables 32 x.set))) p h)
    where
      go : Dec (p < m) → m ≤ p
      go (yes l) = absurd (not-both _ (rw h.there at (x.rows.1.ascends p m h.after l mt)) (rw e (before_self (tables 32 x.set))))
      go (no g) = omega arith

  -- the row comes before the set: that stands behind it
  pub look-after : {b : Bool} → b ≡ before (tables 32 (get_or x.sets.now m 0)) (tables 32 x.set) → b ≡ true → (p : ℕ) → StandsAt x p → m + 1 ≤ p
  look-after e f = look-behind x.sets.now x.from x.to x.set m x.rows.0 x.rows.1 lm mt x.rows.2 (sym e ∙ f)

-- Laws that no proof cites any more, since the check finds their goals: they hold as before.
use Rattle.std.specs.Prelude.{◌≡◌, Bool, true, false, not, List, ℕ, ◌+◌, ◌^◌, ◌≤◌, ◌<◌, get_or}
use Rattle.std.proofs.Common.{sym, ap, ◌∙◌, arith}
use Rattle.std.proofs.Math.Decide.{dec_lt}
use Rattle.std.proofs.lemmas.Bool.{not-true, not-false}
use Rattle.rules.specs.Sets.{size, tables}
use Rattle.rules.specs.Rows.{before}
use Rattle.rules.specs.laws.Bools.{not-both}
use Rattle.sets.specs.Laws.{before_self}
use Rattle.skips.specs.SizeRows.{SizeRows, InOrder, Stands}
use Rattle.lookup.specs.FindLaws.{look-behind, look-ahead}

-- a part of the rows of one size is such rows
pub size-part : {sets : List ℕ} {from to low high k n : ℕ} → SizeRows sets from to k n → from ≤ low → low ≤ high → high ≤ to → SizeRows sets low high k n
size-part z a b c = record { forward = b; inside = omega (arith, z.inside); sized = λ p l h. z.sized p (omega arith) (omega arith); below = λ p l h. z.below p (omega arith) (omega arith) }

-- and stands in order
pub order-part : {sets : List ℕ} {from to low high : ℕ} → InOrder sets from to → from ≤ low → high ≤ to → InOrder sets low high
order-part o a c = record { ascends = λ p q l m h. o.ascends p q (omega arith) m (omega arith) }

module _ {sets : List ℕ} {from to s : ℕ} (m : ℕ) (z : SizeRows sets from to (size s) 32) (o : InOrder sets from to) (lm : from ≤ m) (mt : m < to) (ls : s < 2 ^ 32) where
  -- each row comes before those behind it
  not-before : before (tables 32 s) (tables 32 (get_or sets m 0)) ≡ false → (p : ℕ) → Stands sets from to s p → m ≤ p
  not-before e p h = go (dec_lt p m)
    where
      go : Dec (p < m) → m ≤ p
      go (yes l) = absurd (not-both _ (rw h.there at (o.ascends p m h.after l mt)) e)
      go (no g) = omega arith

  -- s does not come before the row: it stands there or behind it
  pub look-from : {b : Bool} → b ≡ before (tables 32 s) (tables 32 (get_or sets m 0)) → b ≡ false → (p : ℕ) → Stands sets from to s p → m ≤ p
  look-from e f = not-before (sym e ∙ f)

  -- the row holds s: it is its row
  pub look-found : get_or sets m 0 ≡ s → (p : ℕ) → Stands sets from to s p → m ≡ p
  look-found e p h = omega (arith, not-before (rw e (before_self (tables 32 s))) p h, look-ahead sets from to s m z o lm mt ls (rw e (before_self (tables 32 s))) p h)

  -- s comes after the row: it stands behind it
  pub look-after : {b : Bool} → b ≡ before (tables 32 (get_or sets m 0)) (tables 32 s) → not b ≡ false → (p : ℕ) → Stands sets from to s p → m + 1 ≤ p
  look-after e f = look-behind sets from to s m z o lm mt ls (sym e ∙ not-false _ f)

  -- it does not, and the row does not hold it: it stands ahead
  pub look-before : {b : Bool} → b ≡ before (tables 32 (get_or sets m 0)) (tables 32 s) → not b ≡ true → (get_or sets m 0 ≡ s → ⊥) → (p : ℕ) → Stands sets from to s p → p < m
  look-before e f n p h = go (dec_lt p m)
    where
      go : Dec (p < m) → p < m
      go (yes l) = l
      go (no g) =
          let d : m ≡ p = omega (arith, look-ahead sets from to s m z o lm mt ls (sym e ∙ not-true _ f) p h) in
          absurd (n (ap (λ (q : ℕ). get_or sets q 0) d ∙ h.there))

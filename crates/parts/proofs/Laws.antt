-- Laws that no proof cites any more, since the check finds their goals: they hold as before.
use Rattle.std.specs.Prelude.{◌≡◌, List, length, get_or, set}
use Rattle.std.proofs.Math.Path.{ap}
use Rattle.std.proofs.Common.{◌∙◌, mul-le-mul, arith, pow_mono, get_or-set_same, get_or-set_other}
use Prim.Native.Nat.{ℕ, ◌+◌, ◌-◌, ◌*◌, ◌/◌, ◌≤◌, ◌<◌, min, max}
use Rattle.std.proofs.Math.Decide.{ℕ_discrete}
use Rattle.rules.specs.Limits.{max_tables, max_rows, max_estimate}
use Rattle.rules.specs.Sets.{Lowest, single}
use Rattle.rules.specs.Query.{Graph, table_count, edge_count, at}
use Rattle.parts.specs.Parts.{cell_of, Own, Parts, by_parts, Divides}
use Rattle.parts.specs.PartLaws as part

-- ---- cells
pub cell-fits : (t u : ℕ) → 1 ≤ t → t ≤ max_tables → 1 ≤ u → u ≤ max_tables → cell_of t u < 256
cell-fits t u a b c d = omega arith

-- ---- storing
module _ (rows parts : List ℕ) where
  pub own-end : {n m : ℕ} → n ≡ m → Own rows n parts → Own rows m parts
  own-end e h = rw e at h

  pub own-none : Own rows 0 parts
  own-none = record { rows_of = λ t a b. absurd (omega arith) }

  -- the rows of table k + 1
  pub own-more : (k : ℕ) {v : ℕ} → k < max_tables → length parts ≡ 256 → v ≡ max 1 (get_or rows k 0) → Own rows k parts → Own rows (k + 1) (set parts (k * 16 + k) v)
  own-more k {v} l n e o = record { rows_of = λ t a b. go t a b (ℕ_discrete t (k + 1)) }
    where
      go : (t : ℕ) → 1 ≤ t → t ≤ k + 1 → Dec (t ≡ k + 1) → get_or (set parts (k * 16 + k) v) (cell_of t t) 0 ≡ max 1 (at rows t)
      go t a b (yes z) =
          let c : k * 16 + k ≡ cell_of t t = omega arith in
          let d : k ≡ t - 1 = omega arith in
          rw (← c) (get_or-set_same parts (k * 16 + k) v 0 (omega arith)) ∙ e ∙ ap (λ (i : ℕ). max 1 (get_or rows i 0)) d
      go t a b (no z) = get_or-set_other parts (k * 16 + k) (cell_of t t) v 0 (λ c. omega arith) ∙ o.rows_of t a (omega arith)

module _ (g : Graph) where
  pub parts_none : {parts : List ℕ} → Own g.rows (table_count g) parts → Parts g 0 parts
  parts_none o = record { own = o; divisors = λ t u i l. absurd (omega arith) }

  pub parts-end : {n : ℕ} {parts : List ℕ} → n ≡ edge_count g → Parts g n parts → Parts g (edge_count g) parts
  parts-end e h = rw e at h

-- ---- dividing by parts
module _ (parts : List ℕ) (t : ℕ) where
  pub divisor-at : (S u c : ℕ) → Lowest S u → Divides parts t S → c ≡ cell_of t u → 1 ≤ get_or parts c 0
  divisor-at S u c w d e = rw e (d.divisor u w.stands)

  pub divides-fits : {S : ℕ} → Divides parts t S → S < 65536
  divides-fits d = omega (arith, d.below, d.few, pow_mono {i = t - 1} {j = 16} (omega (arith, d.few)))

  -- the product fits, and the cut: c is the cell of t
  module _ (S e c : ℕ) (ec : c ≡ cell_of t t) where
    pub product-fits : e ≤ max_estimate → get_or parts (cell_of t t) 0 ≤ max_rows → e * get_or parts c 0 ≤ max_estimate * max_rows
    product-fits h l = rw ec (mul-le-mul h l)

    -- the cut as the lesser of two
    pub least-is : {r v : ℕ} → r ≡ by_parts parts S t (t - 1) (e * get_or parts c 0) → v ≡ min r max_estimate → v ≡ min max_estimate (by_parts parts S t (t - 1) (e * get_or parts (cell_of t t) 0))
    least-is {r} h w = let i : r ≡ by_parts parts S t (t - 1) (e * get_or parts (cell_of t t) 0) = rw ec at h in omega arith

-- ---- a turn of the loop over the parts: x is the lowest table as a set, v the value after it
module _ (parts : List ℕ) (t S u r : ℕ) (w : Lowest S u) (x : ℕ) (ex : x ≡ single u) (d : Divides parts t S) where
  pub linked-step : (L e c v : ℕ) → c ≡ cell_of t u → v ≡ max 1 (r / get_or parts c 0) → by_parts parts S t (t - 1) r ≡ by_parts parts L t (t - 1) e → by_parts parts (S - x) t (t - 1) v ≡ by_parts parts L t (t - 1) e
  linked-step L e c v ec i h = part.linked-step parts t S u r w x ex d L e c v ec (omega arith) h

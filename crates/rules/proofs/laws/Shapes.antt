-- Shapes: a single table is an inner part in each, and each connected set has a tree of the query's shape.
use Rattle.std.specs.Prelude.{◌≡◌, refl, true}
use Rattle.std.proofs.Common.{arith, eqb-true, eq-eqb}
use Prim.Native.Nat.{ℕ, zero, suc, ◌-◌, ◌≤◌, ◌<◌}
use Rattle.std.proofs.Math.Decide.{dec_lt}
use Rattle.rules.specs.Sets.{single, size}
use Rattle.rules.specs.laws.Sets.{size-pow, splits-size}
use Rattle.rules.specs.declared.Shape.{Shape}
use Rattle.rules.specs.declared.Shape.TheVariants.{Bushy, Single}
use Rattle.rules.specs.Query.{Query, IsMethod}
use Rattle.rules.specs.Connected.{Connected}
use Rattle.rules.specs.Trees.{Tree, scan, join, tables_of, fits, Inner, Valid}
use Rattle.rules.specs.laws.Connected.{one_table, connected-split}

-- a single table is an inner part in each shape
pub fits_one : (shape : Shape) (n : ℕ) → n ≡ 1 → fits shape n ≡ true
unfolding fits
fits_one Bushy n e = refl
fits_one Single n e = eq-eqb n 1 e

pub single-fits : (q : Query) (t : ℕ) → Inner q (single t)
single-fits q t = fits_one q.shape (size (single t)) (size-pow (t - 1))

-- and where a part is one, a smaller one is
pub fits-less : (shape : Shape) (m n : ℕ) → 1 ≤ m → m ≤ n → fits shape n ≡ true → fits shape m ≡ true
unfolding fits
fits-less Bushy m n p l e = refl
fits-less Single m n p l e = eq-eqb m 1 (omega (arith, eqb-true n 1 e))

-- so each connected set has a tree of the query's shape, given a method
unfoldable pub Made : Query → ℕ → Type 0
Made q S = (t : Tree) × Valid q t × (tables_of t ≡ S)

module _ (q : Query) (me : IsMethod q 1) where
  tree-one : (S : ℕ) → size S ≤ 1 → Connected q.graph S → Made q S
  unfolding Valid tables_of Made
  tree-one S l c = let o = one_table q.graph S l c in (scan o.0, o.1, o.2)

  pub tree_of : (n S : ℕ) → size S ≤ n → Connected q.graph S → Made q S
  unfolding Valid tables_of Made
  tree_of zero S l c = tree-one S (omega arith) c
  tree_of (suc n) S l c = go (dec_lt 1 (size S)) (λ X. tree_of n X)
    where
      go : Dec (1 < size S) → ((X : ℕ) → size X ≤ n → Connected q.graph X → Made q X) → Made q S
      go (yes h) ih =
          let a = connected-split q.graph S c h in
          let x = ih a.part (omega (arith, splits-size a.splits, size-pow (a.last - 1))) a.connected in
          (join x.0 (scan a.last) 1, (x.1, a.table, record { apart = rw x.2 a.splits.apart; between = rw x.2 a.between }, me, single-fits q a.last), rw x.2 a.splits.whole)
      go (no z) ih = tree-one S (omega arith) c

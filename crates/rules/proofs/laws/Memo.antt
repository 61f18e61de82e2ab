-- The finished memo: one whose rows are, for one table, the scan, and for more, the best of all pairs handed in any order, holds for each connected set its least cost and the tie rule's pick.
use Rattle.std.specs.Prelude.{◌≡◌, refl, ℕ, zero, suc, ◌-◌, ◌≤◌, ◌<◌}
use Rattle.std.proofs.Common.{ap, le_refl, arith}
use Rattle.std.proofs.Math.Decide.{dec_lt}
use Rattle.rules.specs.Offers.{Choice, Pair}
use Rattle.rules.specs.laws.Choice.{Best}
use Rattle.rules.specs.Sets.{size, single}
use Rattle.rules.specs.laws.Sets.{holds-single, holds-single-only, size-sum, size-pow, size-pos}
use Rattle.rules.specs.Query.{Query, IsTable, IsMethod, at}
use Rattle.rules.specs.Connected.{Connected}
use Rattle.rules.specs.Trees.{Tree, scan, join, tables_of, Valid, cost_of, Least, Pick}
use Rattle.rules.specs.laws.Connected.{one_table}
use Rattle.rules.proofs.laws.Bellman.{Offer, bellman-least, bellman-pick, tables_of-pos}
use Rattle.rules.proofs.laws.Handed.{row-final}
use Rattle.rules.specs.laws.Standing.{Handed, Complete}

single_inj : (u t : ℕ) → 0 < u → 0 < t → single u ≡ single t → u ≡ t
single_inj u t p r e = holds-single-only u t p (rw e (holds-single t r))

-- a set of one table has one tree
pub one-least : (q : Query) (t : ℕ) → IsTable q.graph t → Least q (single t) (at q.scans t)
unfolding Valid tables_of cost_of
one-least q t tab = record { tree = scan t; valid = tab; covers = refl; costs = refl; least = least }
  where
    least : (x : Tree) → Valid q x → tables_of x ≡ single t → at q.scans t ≤ cost_of q x
    least (scan u) v e = rw (single_inj u t v.from_one tab.from_one e) (le_refl _)
    least (join x y m) v e =
        absurd (omega (arith, ap size e, size-pow (t - 1), size-sum (tables_of x) (tables_of y) v.2.apart, size-pos (tables_of x) (tables_of-pos x), size-pos (tables_of y) (tables_of-pos y)))

module _ (q : Query) (best : ℕ → ℕ) (row : ℕ → Choice) (P : Pair → Type 0) where
  -- what the turns leave: the rows of one table, and of more
  pub record Memo : Type 0 where
    pub one : (t : ℕ) → IsTable q.graph t → best (single t) ≡ at q.scans t
    pub complete : (S : ℕ) → Connected q.graph S → 2 ≤ size S → Complete q P S
    pub best-row : (S : ℕ) → Connected q.graph S → 2 ≤ size S → Best (Handed q best P S) (row S)
    pub cost-row : (S : ℕ) → Connected q.graph S → 2 ≤ size S → (row S).cost ≡ best S

  module _ (me : IsMethod q 1) (memo : Memo) where
    best-offer : (S : ℕ) → Connected q.graph S → 2 ≤ size S → Best (Offer q best S) (row S)
    best-offer S c two = row-final q best P S (memo.complete S c two) (memo.best-row S c two)

    below : (n S : ℕ) → size S ≤ n → Connected q.graph S → Least q S (best S)
    below zero S l c = let o = one_table q.graph S (omega arith) c in rw (← o.2) (rw (memo.one o.0 o.1) (one-least q o.0 o.1))
    below (suc n) S l c = go (dec_lt 1 (size S)) (below n)
      where
        go : Dec (1 < size S) → ((Y : ℕ) → size Y ≤ n → Connected q.graph Y → Least q Y (best Y)) → Least q S (best S)
        go (yes two) ih = rw (memo.cost-row S c two) at (bellman-least q best S two (λ Y cy l₁. ih Y (omega arith) cy) (best-offer S c two))
        go (no g) ih = let o = one_table q.graph S (omega arith) c in rw (← o.2) (rw (memo.one o.0 o.1) (one-least q o.0 o.1))

    -- DEMAND 2: each connected set's cost is the least over all its trees
    pub memo-least : (S : ℕ) → Connected q.graph S → Least q S (best S)
    memo-least S c = below (size S) S (le_refl (size S)) c

    -- and its outer set and method are the tie rule's
    pub memo-pick : (S : ℕ) → Connected q.graph S → 2 ≤ size S → Pick q S (row S).outer (row S).method
    memo-pick S c two = bellman-pick q best S two (λ Y cy l₁. memo-least Y cy) (best-offer S c two)

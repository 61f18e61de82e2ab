-- Laws that no proof cites any more, since the check finds their goals: they hold as before.
use Rattle.std.specs.Prelude.{◌≡◌, false, List, ℕ, ◌+◌, ◌-◌, ◌*◌, ◌^◌, ◌≤◌, ◌<◌, length, get_or, set}
use Rattle.std.proofs.Math.Path.{refl}
use Rattle.std.proofs.Common.{inl, inr, arith, pow_mono, get_or-set_same, get_or-set_other, eq-eqb, ne_eqb}
use Rattle.std.proofs.Math.Decide.{ℕ_discrete}
use Rattle.std.specs.Int.Bits.{bit_and}
use Rattle.std.proofs.lemmas.Nat.{and_le_r}
use Rattle.rules.specs.Limits.{max_tables}
use Rattle.rules.specs.Lists.{is_yes}
use Rattle.query.specs.ConnectedLaws as connected
use Rattle.rules.specs.Sets.{holds, single}
use Rattle.rules.specs.Query.{Graph, table_count, edge_count, at, IsTable, Linked, Joins}
use Rattle.rules.specs.Checked.{GoodGraph, EdgeGood}
use Rattle.rules.specs.laws.Bools.{not-both}
use Rattle.rules.specs.laws.Sets.{holds-pos, holds-minus, holds-out, holds-single}
use Rattle.graph.specs.declared.chosen.Chosen.{Chosen}
use Rattle.graph.specs.Near.{far_of, NextTo, Near, Flood}
use Rattle.graph.specs.Node.{Stuck}
use Rattle.graph.specs.ApartLaws.{below-with}

-- ---- the chosen tables lie below the next one
pub with-fits : (t chosen : ℕ) → 1 ≤ t → chosen < 2 ^ (t - 1) → t ≤ max_tables → chosen + single t < 65536
with-fits t chosen some below l = omega (arith, below-with t chosen some below, pow_mono {i = t + 1 - 1} {j = 16} (omega arith))

-- ---- one edge
module _ (a b t : ℕ) {r : ℕ} where
  pub far-left : a ≡ t → r ≡ single b → r ≡ far_of a b t
  far-left e h = rw (eq-eqb a t e) h

  pub far_none : (a ≡ t → ⊥) → (b ≡ t → ⊥) → r ≡ 0 → r ≡ far_of a b t
  far_none n m h = rw (ne_eqb a t n, ne_eqb b t m) h

-- ---- neighbour sets
pub next-end : (g : Graph) (t : ℕ) {n r : ℕ} → n ≡ edge_count g → NextTo g t n r → NextTo g t (edge_count g) r
next-end g t e h = rw e at h

-- one table more
pub sets_more : (g : Graph) (near : List ℕ) (k : ℕ) {v : ℕ} → k < length near → ((j : ℕ) → j < k → NextTo g (j + 1) (edge_count g) (get_or near j 0)) → NextTo g (k + 1) (edge_count g) v
    → (j : ℕ) → j < k + 1 → NextTo g (j + 1) (edge_count g) (get_or (set near k v) j 0)
sets_more g near k {v} b h n j l = go (ℕ_discrete j k)
  where
    go : Dec (j ≡ k) → NextTo g (j + 1) (edge_count g) (get_or (set near k v) j 0)
    go (yes e) = rw (e, get_or-set_same near k v 0 b) n
    go (no e) = rw (get_or-set_other near k j v 0 e) (h j (omega arith))

pub near-all : (g : Graph) (near : List ℕ) → GoodGraph g → ((k : ℕ) → k < table_count g → NextTo g (k + 1) (edge_count g) (get_or near k 0)) → Near g near
near-all g near good h = record { linked = λ t u i k. from-set t u i k; all = λ t u k. to_set t u k (table t u k) }
  where
    at-t : (t : ℕ) → IsTable g t → NextTo g t (edge_count g) (at near t)
    at-t t i =
        let e : t - 1 + 1 ≡ t = omega (arith, i.from_one) in
        rw e at (h (t - 1) (omega (arith, i.from_one, i.to-count)))

    from-set : (t u : ℕ) → IsTable g t → holds (at near t) u ≡ 1 → Linked g t u
    from-set t u i k = let o = (at-t t i).joined u k in record { edge = o.0; known = o.1; joins = o.2 }

    table : (t u : ℕ) → Linked g t u → IsTable g t
    table t u k = go k.joins (good.edges k.edge k.known)
      where
        go : Joins g k.edge t u → EdgeGood g k.edge → IsTable g t
        go (inl e) o = record { from_one = omega (arith, e.0, o.left-some); to-count = omega (arith, e.0, o.left-known) }
        go (inr e) o = record { from_one = omega (arith, e.1, o.right-some); to-count = omega (arith, e.1, o.right-known) }

    to_set : (t u : ℕ) → Linked g t u → IsTable g t → holds (at near t) u ≡ 1
    to_set t u k i = (at-t t i).all u k.edge k.known k.joins

-- ---- the flood
module _ {inside seen todo : ℕ} (t m : ℕ) (f : Flood inside seen todo) (h : holds todo t ≡ 1) where
  abbrev fresh : ℕ
  fresh = bit_and m (inside - seen)

  pub flood-less : 2 * (inside - (seen + fresh)) + (todo - single t + fresh) < 2 * (inside - seen) + todo
  flood-less = omega (arith, and_le_r m (inside - seen), f.splits.whole, (holds-minus todo t h).whole, holds-pos (single t) t (holds-single t (holds-out todo t h).1))

-- ---- where the walk may go on
pub stuck-not : (near : List ℕ) (chosen : Chosen) (x : ℕ) → Stuck near chosen x false
stuck-not near chosen x = record { none = λ e. absurd (not-both false e refl) }

-- ---- a decision that says no
pub no-yes : {A : Type 0} (d : Dec A) → (A → ⊥) → is_yes d ≡ false
no-yes d n = connected.no-yes d n

-- Laws of the neighbour sets as they are made.
use Rattle.std.specs.Prelude.{◌≡◌, cond, ◌⊎◌, ℕ, ◌+◌, ◌≤◌, ◌<◌, eqb, get_or}
use Rattle.std.proofs.Common.{sym, ◌∙◌, inl, inr, arith, eq-eqb, ne_eqb}
use Rattle.std.proofs.Math.Decide.{ℕ_discrete}
use Rattle.std.specs.Int.Bits.{bit_or}
use Rattle.rules.specs.Limits.{max_tables}
use Rattle.rules.specs.Sets.{holds, single}
use Rattle.rules.specs.Query.{Graph, edge_count, Joins}
use Rattle.rules.specs.Checked.{GoodGraph, EdgeGood}
use Rattle.rules.specs.laws.Sets.{holds-pos, holds-single, holds-single-only}
use Rattle.graph.specs.Near.{far_of, NextTo}
use Rattle.graph.specs.NearLaws.{either-of, either_left, either-right}

-- ---- one edge
module _ (a b t : ℕ) {r : ℕ} where
  pub far-right : (a ≡ t → ⊥) → b ≡ t → r ≡ single a → r ≡ far_of a b t
  far-right n e h = rw (ne_eqb a t n, eq-eqb b t e) h

module _ (a b t u : ℕ) (sa : 1 ≤ a) (sb : 1 ≤ b) where
  far-of : holds (far_of a b t) u ≡ 1 → ((a ≡ t) × (b ≡ u)) ⊎ ((a ≡ u) × (b ≡ t))
  far-of h = go (ℕ_discrete a t) (ℕ_discrete b t) h
    where
      go : Dec (a ≡ t) → Dec (b ≡ t) → holds (cond (eqb a t) (single b) (cond (eqb b t) (single a) 0)) u ≡ 1 → ((a ≡ t) × (b ≡ u)) ⊎ ((a ≡ u) × (b ≡ t))
      go (yes x) y k = inl (x, holds-single-only b u sb (rw (eq-eqb a t x) at k))
      go (no x) (yes y) k = inr (holds-single-only a u sa (rw (ne_eqb a t x, eq-eqb b t y) at k), y)
      go (no x) (no y) k = absurd (omega (arith, holds-pos 0 u (rw (ne_eqb a t x, ne_eqb b t y) at k)))

  far-in : (a ≡ b → ⊥) → ((a ≡ t) × (b ≡ u)) ⊎ ((a ≡ u) × (b ≡ t)) → holds (far_of a b t) u ≡ 1
  far-in n (inl h) = rw (eq-eqb a t h.0) (rw (sym h.1) (holds-single b sb))
  far-in n (inr h) = rw (ne_eqb a t (λ e. n (e ∙ sym h.1)), eq-eqb b t h.1) (rw (sym h.0) (holds-single a sa))

-- one edge more
next_more : (g : Graph) (t i : ℕ) {r : ℕ} → GoodGraph g → i < edge_count g → NextTo g t i r → NextTo g t (i + 1) (bit_or r (far_of (get_or g.left i 0) (get_or g.right i 0) t))
next_more g t i {r} good l h = record { joined = λ u k. before-or-here u (either-of r x u k); all = λ u j m k. there-or-here u j m k (ℕ_discrete j i) }
  where
    a : ℕ
    a = get_or g.left i 0

    b : ℕ
    b = get_or g.right i 0

    x : ℕ
    x = far_of (get_or g.left i 0) (get_or g.right i 0) t

    edge : EdgeGood g i
    edge = good.edges i l

    before-or-here : (u : ℕ) → (holds r u ≡ 1) ⊎ (holds (far_of (get_or g.left i 0) (get_or g.right i 0) t) u ≡ 1) → (j : ℕ) × (j < i + 1) × Joins g j t u
    before-or-here u (inl k) = let o = h.joined u k in (o.0, omega (arith, o.1), o.2)
    before-or-here u (inr k) = (i, omega arith, far-of (get_or g.left i 0) (get_or g.right i 0) t u edge.left-some edge.right-some k)

    there-or-here : (u j : ℕ) → j < i + 1 → Joins g j t u → Dec (j ≡ i) → holds (bit_or r (far_of (get_or g.left i 0) (get_or g.right i 0) t)) u ≡ 1
    there-or-here u j m k (yes e) =
        either-right r (far_of (get_or g.left i 0) (get_or g.right i 0) t) u (far-in (get_or g.left i 0) (get_or g.right i 0) t u edge.left-some edge.right-some edge.different (rw e at k))
    there-or-here u j m k (no e) = either_left r (far_of (get_or g.left i 0) (get_or g.right i 0) t) u (h.all u j (omega arith) k)

pub next_edge : (g : Graph) (t i x : ℕ) {r : ℕ} → GoodGraph g → i < edge_count g → NextTo g t i r → x ≡ far_of (get_or g.left i 0) (get_or g.right i 0) t → NextTo g t (i + 1) (bit_or r x)
next_edge g t i x good l h e = rw e (next_more g t i good l h)

pub edge-fits : (g : Graph) (i : ℕ) → GoodGraph g → i < edge_count g → (1 ≤ get_or g.left i 0) × (get_or g.left i 0 ≤ max_tables) × (1 ≤ get_or g.right i 0) × (get_or g.right i 0 ≤ max_tables)
edge-fits g i good l = let o = good.edges i l in (o.left-some, omega (arith, o.left-known, good.few-tables), o.right-some, omega (arith, o.right-known, good.few-tables))

-- Growing a connected part of a set along edges.
use Rattle.std.specs.Prelude.{◌≡◌, refl, ◌⊎◌, Bool, true, false, cond, ◌&&◌, ◌||◌}
use Rattle.std.proofs.Common.{sym, ◌∙◌, inl, inr, arith, pow_pos, eqb-true}
use Prim.Native.Nat.{ℕ, ◌+◌, ◌-◌, ◌≤◌, ◌<◌, ◌^◌, ◌/◌}
use Rattle.std.proofs.Math.Nat.{div-eq_of_lt, lt-div-mul-add}
use Rattle.std.proofs.Math.ListN.{get_or}
use Rattle.rules.specs.Lists.{is_yes}
use Rattle.rules.specs.Sets.{has, holds, Splits, single, Lowest}
use Rattle.rules.specs.Query.{Graph, IsTable, Linked, table_count, edge_count}
use Rattle.rules.specs.Connected.{Connected}
use Rattle.rules.specs.Checked.{GoodGraph, EdgeGood}
use Rattle.rules.specs.laws.Bools.{true-or-false, not-both, and-true-l, and_true_r, any}
use Rattle.rules.specs.laws.Sets.{splits-inner, splits-outer, holds-minus, holds-single, holds-lt, lt-of-holds, holds-pos}
use Rattle.rules.specs.laws.Connected.{connected-join, connected-single, flood-done, Within, within-left, within_same, within_on}
use Rattle.rules.specs.laws.Decide.{crosses_in, between_in, between-of, connected?}
use Rattle.query.specs.EdgeLaws.{any-start, any-more}

-- f is a connected part of s
pub record Part (g : Graph) (s f : ℕ) : Type 0 where
  pub connected : Connected g f
  pub splits : Splits s f (s - f)

-- r is f or grew from it, no table of f left, and it is f only where the test, whether an edge leads on, says no
pub record Grown (g : Graph) (s f : ℕ) (onward : Bool) (r : ℕ) : Type 0 where
  pub part : Part g s r
  pub more : f ≤ r
  pub keeps : Within f r
  pub still : r ≡ f → onward ≡ false

-- f and the far table of an edge of a and b, where it leads from f to the rest of s
unfoldable pub grow : ℕ → ℕ → ℕ → ℕ → ℕ
grow s f a b = cond (has f a && has (s - f) b) (f + single b) (cond (has f b && has (s - f) a) (f + single a) f)

-- ---- the code's forms
-- the sum is at most s
pub joined-le : (s f v : ℕ) → f ≤ s → has (s - f) v ≡ true → f + single v ≤ s
joined-le s f v l h = omega (arith, (holds-minus (s - f) v (eqb-true (holds (s - f) v) 1 h)).whole)

module _ (s f a b : ℕ) where
  pub grow-right : (has f a && has (s - f) b) ≡ true → grow s f a b ≡ f + single b
  unfolding grow
  grow-right h = rw h

  pub grow-left : (has f a && has (s - f) b) ≡ false → (has f b && has (s - f) a) ≡ true → grow s f a b ≡ f + single a
  unfolding grow
  grow-left n h = rw (n, h)

  pub grow-not : (has f a && has (s - f) b) ≡ false → (has f b && has (s - f) a) ≡ false → grow s f a b ≡ f
  unfolding grow
  grow-not n m = rw (n, m)

-- ---- one edge
module _ (g : Graph) (s f : ℕ) (p : Part g s f) where
  -- the far table of an edge that leads on is one of the rest
  out : (u v : ℕ) → (has f u && has (s - f) v) ≡ true → Splits (s - f) (single v) (s - f - single v)
  out u v h = holds-minus (s - f) v (eqb-true (holds (s - f) v) 1 (and_true_r (has f u) (has (s - f) v) h))

  -- a table of the rest that an edge joins to the part
  part_join : (u v : ℕ) → IsTable g v → Linked g u v → (has f u && has (s - f) v) ≡ true → Part g s (f + single v)
  part_join u v tab l h = record {
    connected = connected-join p.connected (connected-single g v tab) (splits-inner p.splits (out u v h)) (record { from = u; to = v; from_in = eqb-true (holds f u) 1 (and-true-l (has f u) (has (s - f) v) h); to_in = holds-single v tab.from_one; linked = l });
    splits = rw e at (splits-outer p.splits (out u v h));
  }
    where
      e : s - f - single v ≡ s - (f + single v)
      e = omega arith

  grown-join : (onward : Bool) (u v : ℕ) → IsTable g v → Linked g u v → (has f u && has (s - f) v) ≡ true → Grown g s f onward (f + single v)
  grown-join onward u v tab l h = record { part = part_join u v tab l h; more = omega arith; keeps = within-left (splits-inner p.splits (out u v h)); still = λ e. absurd (omega (arith, holds-pos (single v) v (holds-single v tab.from_one))) }

  -- the part after edge i
  pub grown-edge : GoodGraph g → (i : ℕ) → i < edge_count g → Grown g s f (crosses_in g.left g.right f (s - f) i) (grow s f (get_or g.left i 0) (get_or g.right i 0))
  unfolding crosses_in
  grown-edge good i l = go (true-or-false (has f a && has (s - f) b)) (true-or-false (has f b && has (s - f) a))
    where
      a : ℕ
      a = get_or g.left i 0

      b : ℕ
      b = get_or g.right i 0

      onward : Bool
      onward = (has f a && has (s - f) b) || (has f b && has (s - f) a)

      edge : EdgeGood g i
      edge = good.edges i l

      go : ((has f a && has (s - f) b) ≡ true) ⊎ ((has f a && has (s - f) b) ≡ false) → ((has f b && has (s - f) a) ≡ true) ⊎ ((has f b && has (s - f) a) ≡ false) → Grown g s f onward (grow s f a b)
      go (inl h) y = rw (grow-right s f a b h) (grown-join onward a b (record { from_one = edge.right-some; to-count = edge.right-known }) (record { edge = i; known = l; joins = inl (refl, refl) }) h)
      go (inr n) (inl h) = rw (grow-left s f a b n h) (grown-join onward b a (record { from_one = edge.left-some; to-count = edge.left-known }) (record { edge = i; known = l; joins = inr (refl, refl) }) h)
      go (inr n) (inr m) = rw (grow-not s f a b n m) (record { part = p; more = omega arith; keeps = within_same f; still = λ e. rw (n, m) })

-- ---- one pass over the edges: f as it was, p as it is now
module _ (g : Graph) (s f : ℕ) where
  pub grown-start : Part g s f → Grown g s f (any (crosses_in g.left g.right f (s - f)) 0) f
  grown-start p = record { part = p; more = omega arith; keeps = within_same f; still = λ e. any-start (crosses_in g.left g.right f (s - f)) }

  pub grown-more : GoodGraph g → (i p : ℕ) → i < edge_count g → Grown g s f (any (crosses_in g.left g.right f (s - f)) i) p
      → Grown g s f (any (crosses_in g.left g.right f (s - f)) (i + 1)) (grow s p (get_or g.left i 0) (get_or g.right i 0))
  grown-more good i p l h = record {
    part = d.part;
    more = omega (arith, h.more, d.more);
    keeps = within_on f p (grow s p (get_or g.left i 0) (get_or g.right i 0)) h.keeps d.keeps;
    still = λ e. let same : p ≡ f = omega (arith, h.more, d.more) in any-more (crosses_in g.left g.right f (s - f)) i (h.still same) (rw same at (d.still (e ∙ sym same)));
  }
    where
      d : Grown g s p (crosses_in g.left g.right p (s - p) i) (grow s p (get_or g.left i 0) (get_or g.right i 0))
      d = grown-edge g s p h.part good i l

  pub grown-end : (i p : ℕ) → i ≡ edge_count g → Grown g s f (any (crosses_in g.left g.right f (s - f)) i) p → Grown g s f (between_in g.left g.right f (s - f)) p
  unfolding between_in
  grown-end i p e h = rw e at h

-- ---- sets of known tables
pub small_of : (n s : ℕ) → s / 2 ^ n ≡ 0 → s < 2 ^ n
small_of n s e = omega (arith, rw e at (lt-div-mul-add {a = s} {b = 2 ^ n} (pow_pos n)))

pub part-start : (g : Graph) (s t : ℕ) → s < 2 ^ table_count g → Lowest s t → Part g s (single t)
part-start g s t l h =
    let r = holds-lt (table_count g) s t l h.stands in
    record { connected = connected-single g t (record { from_one = r.0; to-count = r.1 }); splits = holds-minus s t h.stands }

-- ---- the answer
pub no-yes : {A : Type 0} (d : Dec A) → (A → ⊥) → is_yes d ≡ false
no-yes (yes a) n = absurd (n a)
no-yes (no m) n = refl

module _ (g : Graph) (s : ℕ) where
  pub unknown-no : (s / 2 ^ table_count g ≡ 0 → ⊥) → is_yes (connected? g s) ≡ false
  unknown-no n = no-yes (connected? g s) (λ c. n (div-eq_of_lt (lt-of-holds (table_count g) s (λ t h. (c.known t h).to-count))))

  -- the part is not all of s, and no edge leads on
  pub stuck-no : (f r : ℕ) → (f ≡ s → ⊥) → Part g s f → Grown g s f (between_in g.left g.right f (s - f)) r → r ≡ f → is_yes (connected? g s) ≡ false
  stuck-no f r n p h e =
      no-yes (connected? g s)
      (λ c. n (flood-done p.connected p.splits (λ b. not-both (between_in g.left g.right f (s - f)) (between-of g f (s - f) b) (h.still e)) c))

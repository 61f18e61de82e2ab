-- Connected sets: they join, they split, and each has a tree.
use Rattle.std.specs.Prelude.{◌≡◌, refl, ◌⊎◌}
use Rattle.std.proofs.Common.{sym, ap, ◌∙◌, inl, inr, ⊎_elim, arith, le_refl}
use Rattle.std.proofs.Math.Logic.{⊎_swap}
use Prim.Native.Nat.{ℕ, zero, suc, ◌+◌, ◌-◌, ◌≤◌, ◌<◌}
use Rattle.std.proofs.Math.Decide.{dec_lt}
use Rattle.rules.specs.Sets.{Splits, holds, single, Disjoint, size}
use Rattle.rules.specs.laws.Sets.{holds-apart, holds-single, holds-single-only, holds-out, holds-some, holds-pos, size-pos, size-pow, size-zero, splits-inner, splits-outer, splits-size, union-of, disjoint-sym}
use Rattle.rules.specs.Query.{Graph, Query, IsTable, Linked, Between}
use Rattle.rules.specs.Connected.{Walk, here, step, Connected}
use Rattle.rules.specs.Trees.{Tree, scan, join, tables_of, Joinable, Valid}

pub linked-sym : {g : Graph} {a b : ℕ} → Linked g a b → Linked g b a
linked-sym l = record { edge = l.edge; known = l.known; joins = ⊎_swap l.joins }

pub between-sym : {g : Graph} {X Y : ℕ} → Between g X Y → Between g Y X
between-sym b = record { from = b.to; to = b.from; from_in = b.to_in; to_in = b.from_in; linked = linked-sym b.linked }

pub joinable-sym : {g : Graph} {X Y : ℕ} → Joinable g X Y → Joinable g Y X
joinable-sym {g} {X} {Y} j = record { apart = disjoint-sym X Y j.apart; between = between-sym j.between }

-- every table of X is one of S
unfoldable pub Within : ℕ → ℕ → Type 0
Within X S = (t : ℕ) → holds X t ≡ 1 → holds S t ≡ 1

pub within_same : (f : ℕ) → Within f f
unfolding Within
within_same f t h = h

pub within_on : (f p r : ℕ) → Within f p → Within p r → Within f r
unfolding Within
within_on f p r v w t h = w t (v t h)

walk-within : {g : Graph} {X S a b : ℕ} → Within X S → Walk g X a b → Walk g S a b
unfolding Within
walk-within w (here e h) = here e (w _ h)
walk-within w (step r l h) = step (walk-within w r) l (w _ h)

walk_end : {g : Graph} {S a b : ℕ} → Walk g S a b → holds S b ≡ 1
walk_end (here e h) = h
walk_end (step r l h) = h

walk-cat : {g : Graph} {S a b c : ℕ} → Walk g S a b → Walk g S b c → Walk g S a c
walk-cat {g} {S} {a} r (here e h) = rw e at r
walk-cat r (step s l h) = step (walk-cat r s) l h

module _ {S X Y : ℕ} (p : Splits S X Y) where
  pub within-left : Within X S
  unfolding Within
  within-left t h = omega (arith, union-of p t, holds-apart X Y t p.apart)

  pub within-right : Within Y S
  unfolding Within
  within-right t h = omega (arith, union-of p t, holds-apart X Y t p.apart)

  holds-cases : (t : ℕ) → holds S t ≡ 1 → (holds X t ≡ 1) ⊎ (holds Y t ≡ 1)
  holds-cases t h = go (dec_lt 0 (holds X t))
    where
      go : Dec (0 < holds X t) → (holds X t ≡ 1) ⊎ (holds Y t ≡ 1)
      go (yes l) = inl (omega (arith, union-of p t))
      go (no z) = inr (omega (arith, union-of p t))

-- two connected sets with an edge between them
pub connected-join : {g : Graph} {S X Y : ℕ} → Connected g X → Connected g Y → Splits S X Y → Between g X Y → Connected g S
connected-join {g} {S} {X} {Y} cx cy p b = record {
  some = omega (arith, cx.some, p.whole);
  known = λ t h. ⊎_elim (cx.known t) (cy.known t) (holds-cases p t h);
  walks = λ s t hs ht. go s t (holds-cases p s hs) (holds-cases p t ht);
}
  where
    u : ℕ
    u = b.from

    v : ℕ
    v = b.to

    over : Linked g u v
    over = b.linked

    in-x : (s t : ℕ) → holds X s ≡ 1 → holds X t ≡ 1 → Walk g S s t
    in-x s t hs ht = walk-within (within-left p) (cx.walks s t hs ht)

    in-y : (s t : ℕ) → holds Y s ≡ 1 → holds Y t ≡ 1 → Walk g S s t
    in-y s t hs ht = walk-within (within-right p) (cy.walks s t hs ht)

    go : (s t : ℕ) → (holds X s ≡ 1) ⊎ (holds Y s ≡ 1) → (holds X t ≡ 1) ⊎ (holds Y t ≡ 1) → Walk g S s t
    go s t (inl hs) (inl ht) = in-x s t hs ht
    go s t (inr hs) (inr ht) = in-y s t hs ht
    go s t (inl hs) (inr ht) = walk-cat (step (in-x s u hs b.from_in) over (walk_end (in-y v v b.to_in b.to_in))) (in-y v t b.to_in ht)
    go s t (inr hs) (inl ht) = walk-cat (step (in-y s v hs b.to_in) (linked-sym over) (walk_end (in-x u u b.from_in b.from_in))) (in-x u t b.from_in ht)

-- one table is connected
pub connected-single : (g : Graph) (t : ℕ) → IsTable g t → Connected g (single t)
connected-single g t tab = record {
  some = holds-pos (single t) t (holds-single t l);
  known = λ s h. rw (holds-single-only t s l h) at tab;
  walks = λ a b ha hb. here (sym (holds-single-only t a l ha) ∙ holds-single-only t b l hb) hb;
}
  where
    l : 0 < t
    l = tab.from_one

-- a tree's tables_of are connected
pub connected-tree : (q : Query) (t : Tree) → Valid q t → Connected q.graph (tables_of t)
unfolding Valid tables_of
connected-tree q (scan t) v = connected-single q.graph t v
connected-tree q (join x y m) v = connected-join (connected-tree q x v.0) (connected-tree q y v.1) (record { apart = v.2.apart; whole = refl }) v.2.between

-- a walk from X to Y has an edge from X to Y
crossing : {g : Graph} {S X Y a b : ℕ} → Splits S X Y → holds X a ≡ 1 → Walk g S a b → holds Y b ≡ 1 → Between g X Y
crossing {g} {S} {X} {Y} {a} {b} p ha (here e h) hb = absurd (omega (arith, holds-apart X Y b p.apart, rw e at ha))
crossing {g} {S} {X} {Y} {a} {b} p ha (step {b = c} r l h) hb = go (λ hc. crossing p ha r hc) (holds-cases p c (walk_end r))
  where
    go : (holds Y c ≡ 1 → Between g X Y) → (holds X c ≡ 1) ⊎ (holds Y c ≡ 1) → Between g X Y
    go ih (inl hc) = record { from = c; to = b; from_in = hc; to_in = hb; linked = l }
    go ih (inr hc) = ih hc

-- in a connected set, a part and the rest have an edge between them
pub connected-between : {g : Graph} {S X Y : ℕ} → Connected g S → Splits S X Y → 0 < X → 0 < Y → Between g X Y
connected-between {g} {S} {X} {Y} c p px py =
    let a = holds-some X px in
    let b = holds-some Y py in
    crossing p a.1 (c.walks a.0 b.0 (unfold Within in (within-left p a.0 a.1)) (unfold Within in (within-right p b.0 b.1))) b.1

-- a connected part of S with one table left
pub record AllButOne (g : Graph) (S : ℕ) : Type 0 where
  pub part : ℕ
  pub last : ℕ
  pub table : IsTable g last
  pub connected : Connected g part
  pub splits : Splits S part (single last)
  pub between : Between g part (single last)

-- a connected part grows, table by table, until one is left
grow : (g : Graph) (n : ℕ) {S X Y : ℕ} → Y ≤ n → Connected g S → Splits S X Y → Connected g X → 0 < Y → AllButOne g S
unfolding Within
grow g zero {S} {X} {Y} l c p cx py = absurd (omega arith)
grow g (suc n) {S} {X} {Y} l c p cx py = go (dec_lt 0 R) (λ l₁. grow g n {S = S} {X = X + single v} {Y = R} l₁ c (splits-outer p out) (connected-join cx (connected-single g v (c.known v (within-right p v b.to_in))) (splits-inner p out) edge))
  where
    b : Between g X Y
    b = connected-between c p cx.some py

    v : ℕ
    v = b.to

    o : (R : ℕ) × (0 < v) × Disjoint (single v) R × (single v + R ≡ Y)
    o = holds-out Y v b.to_in

    R : ℕ
    R = o.0

    out : Splits Y (single v) R
    out = record { apart = o.2; whole = o.3 }

    edge : Between g X (single v)
    edge = record { from = b.from; to = v; from_in = b.from_in; to_in = holds-single v o.1; linked = b.linked }

    go : Dec (0 < R) → (R ≤ n → 0 < R → AllButOne g S) → AllButOne g S
    go (yes h) rec = rec (omega (arith, o.3, holds-pos (single v) v (holds-single v o.1))) h
    go (no z) rec =
        let e : Y ≡ single v = omega (arith, o.3) in
        record { part = X; last = v; table = c.known v (within-right p v b.to_in); connected = cx; splits = rw e at p; between = edge }

-- A CONNECTED SET OF TWO OR MORE TABLES SPLITS into two connected parts with an edge between them
pub connected-split : (g : Graph) (S : ℕ) → Connected g S → 2 ≤ size S → AllButOne g S
connected-split g S c h =
    grow g R {S = S} {X = single a} {Y = R} (le_refl R) c first (connected-single g a (c.known a (holds-some S c.some).1)) (no_zero (dec_lt 0 R))
  where
    a : ℕ
    a = (holds-some S c.some).0

    o : (R : ℕ) × (0 < a) × Disjoint (single a) R × (single a + R ≡ S)
    o = holds-out S a (holds-some S c.some).1

    R : ℕ
    R = o.0

    first : Splits S (single a) R
    first = record { apart = o.2; whole = o.3 }

    no_zero : Dec (0 < R) → 0 < R
    no_zero (yes l) = l
    no_zero (no z) =
        let e : R ≡ 0 = omega arith in
        absurd (omega (arith, splits-size first, size-pow (a - 1), ap size e, size-zero))

-- a connected set of one table
pub one_table : (g : Graph) (S : ℕ) → size S ≤ 1 → Connected g S → (t : ℕ) × IsTable g t × (single t ≡ S)
one_table g S l c = (a, c.known a (holds-some S c.some).1, omega (arith, o.3, none (dec_lt 0 o.0)))
  where
    a : ℕ
    a = (holds-some S c.some).0

    o : (R : ℕ) × (0 < a) × Disjoint (single a) R × (single a + R ≡ S)
    o = holds-out S a (holds-some S c.some).1

    first : Splits S (single a) o.0
    first = record { apart = o.2; whole = o.3 }

    none : Dec (0 < o.0) → o.0 ≡ 0
    none (yes h) = absurd (omega (arith, splits-size first, size-pow (a - 1), size-pos o.0 h))
    none (no z) = omega arith

-- ---- how a program tells: a part that is connected, and has no edge to the rest
pub flood-done : {g : Graph} {S X Y : ℕ} → Connected g X → Splits S X Y → (Between g X Y → ⊥) → Connected g S → X ≡ S
flood-done {g} {S} {X} {Y} cx p n c = go (dec_lt 0 Y)
  where
    go : Dec (0 < Y) → X ≡ S
    go (yes h) = absurd (n (connected-between c p cx.some h))
    go (no z) = omega (arith, p.whole)

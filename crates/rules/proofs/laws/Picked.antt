-- The tree that the tie rule picks: it is valid, it reaches the best cost, there is one for each connected set, and only one.
use Rattle.std.specs.Prelude.{◌≡◌, refl}
use Rattle.std.proofs.Math.Path.{sym, ap}
use Rattle.std.proofs.Common.{◌∙◌, subst, arith, eqb-true}
use mathlib.Core.List.{Memᴰ}
use Prim.Native.Nat.{ℕ, zero, suc, ◌+◌, ◌-◌, ◌^◌, ◌≤◌, ◌<◌}
use Rattle.std.proofs.Math.Decide.{dec_lt}
use Rattle.rules.specs.declared.Shape.TheVariants.{Single}
use Rattle.rules.specs.Sets.{Disjoint, size, single}
use Rattle.rules.specs.Query.{Query, IsTable, table_count}
use Rattle.rules.specs.Connected.{Connected}
use Rattle.rules.specs.Rows.{memo}
use Rattle.rules.specs.Trees.{Tree, scan, join, tables_of, Joinable, fits, Inner, Valid, price, cost_of, Least, Reaches, Pick, Picked}
use Rattle.rules.specs.laws.Sets.{size-sum, size-pow, size-pos, holds-single, holds-single-only}
use Rattle.rules.specs.laws.Connected.{connected-tree, one_table}
use Rattle.rules.proofs.laws.Rows.{below_all, memo-all}
use Rattle.rules.proofs.laws.Bellman.{tables_of-pos, least-unique, pick-unique}
use Rattle.rules.proofs.laws.Memo.{one-least}

-- the inner part of a picked join is what its outer part leaves
inner-is : {q : Query} {x y m : ℕ} (r : Reaches q (x + y) x m) → r.inner ≡ y
inner-is r = omega (arith, r.whole)

picked-joinable : {q : Query} {x y m : ℕ} → Reaches q (x + y) x m → Joinable q.graph x y
picked-joinable {q} {x} r = subst (λ (z : ℕ). Joinable q.graph x z) (inner-is r) r.joinable

picked-shaped : {q : Query} {x m : ℕ} (y : ℕ) → Reaches q (x + y) x m → Inner q y
picked-shaped {q} y r = subst (λ (z : ℕ). Inner q z) (inner-is r) r.shaped

-- ---- it is a tree of the query
pub picked-valid : (q : Query) (t : Tree) → Picked q t → Valid q t
unfolding Picked Valid
picked-valid q (scan t) p = p
picked-valid q (join x y m) p = (picked-valid q x p.0, picked-valid q y p.1, picked-joinable p.2.among, p.2.among.method, picked-shaped (tables_of y) p.2.among)

pub picked-parts : (q : Query) (x y : Tree) (m : ℕ) → Picked q (join x y m) → Disjoint (tables_of x) (tables_of y)
unfolding Picked
picked-parts q x y m p = (picked-joinable p.2.among).apart

pub picked-connected : (q : Query) (t : Tree) → Picked q t → Connected q.graph (tables_of t)
picked-connected q t p = connected-tree q t (picked-valid q t p)

pub picked-in : (q : Query) (t : Tree) → Picked q t → Memᴰ (tables_of t) (memo q.graph)
picked-in q t p = memo-all q.graph (tables_of t) (picked-connected q t p)

pub picked-below : (q : Query) (t : Tree) → Picked q t → tables_of t < 2 ^ table_count q.graph
picked-below q t p = below_all q.graph (tables_of t) (picked-connected q t p)

-- ---- it reaches the best cost
pub picked-least : (q : Query) (t : Tree) → Picked q t → Least q (tables_of t) (cost_of q t)
unfolding Picked tables_of cost_of
picked-least q (scan t) p = one-least q t p
picked-least q (join x y m) p =
    let r = p.2.among in
    let a : r.outer-cost ≡ cost_of q x = least-unique r.outer-best (picked-least q x p.0) in
    let b : r.inner-cost ≡ cost_of q y = least-unique r.inner-best (subst (λ (z : ℕ). Least q z (cost_of q y)) (sym (inner-is r)) (picked-least q y p.1)) in
    let e : r.outer-cost + r.inner-cost + price q (tables_of x) r.inner m ≡ cost_of q x + cost_of q y + price q (tables_of x) (tables_of y) m = rw (a, b, inner-is r) refl in
    subst (λ (c : ℕ). Least q (tables_of x + tables_of y) c) e r.reaches

-- ---- there is only one
-- a valid tree of one table is its scan
scan-only : (q : Query) (t : ℕ) (u : Tree) → IsTable q.graph t → Valid q u → tables_of u ≡ single t → u ≡ scan t
unfolding tables_of Valid
scan-only q t (scan v) k w e = ap scan (holds-single-only v t w.from_one (rw e (holds-single t k.from_one)))
scan-only q t (join x y m) k w e =
    absurd (omega (arith, ap size e, size-pow (t - 1), size-sum (tables_of x) (tables_of y) w.2.apart, size-pos (tables_of x) (tables_of-pos x), size-pos (tables_of y) (tables_of-pos y)))

-- R-2's second shape in its own words: the inner part of each join is a scan
pub single-inner : (q : Query) → q.shape ≡ Single → (x y : Tree) (m : ℕ) → Valid q (join x y m) → (t : ℕ) × (y ≡ scan t)
unfolding Valid fits
single-inner q e x y m v =
    let one : size (tables_of y) ≡ 1 = eqb-true (size (tables_of y)) 1 (rw e at v.4) in
    let o = one_table q.graph (tables_of y) (omega arith) (connected-tree q y v.1) in
    (o.0, scan-only q o.0 y o.1 v.1 (sym o.2))

pub picked-unique : (q : Query) (t u : Tree) → Picked q t → Picked q u → tables_of t ≡ tables_of u → t ≡ u
unfolding Picked tables_of
picked-unique q (scan t) u p r e = sym (scan-only q t u p (picked-valid q u r) (sym e))
picked-unique q (join x y m) (scan t) p r e = scan-only q t (join x y m) r (picked-valid q (join x y m) p) e
picked-unique q (join x y m) (join x' y' m') p r e =
    let k = pick-unique p.2 (subst (λ (z : ℕ). Pick q z (tables_of x') m') (sym e) r.2) in
    let a : x ≡ x' = picked-unique q x x' p.0 r.0 k.0 in
    let f : tables_of y ≡ tables_of y' = omega (arith, k.0, e) in
    let b : y ≡ y' = picked-unique q y y' p.1 r.1 f in
    λ i. join (a i) (b i) (k.1 i)

-- a picked tree of S
pub record PickedTree (q : Query) (S : ℕ) : Type 0 where
  pub tree : Tree
  pub picked : Picked q tree
  pub covers : tables_of tree ≡ S

-- ---- and there is one, where each connected set of two tables or more has a pick
module _ (q : Query) (picks : (S : ℕ) → Connected q.graph S → 2 ≤ size S → (x m : ℕ) × Pick q S x m) where
  tree-one : (S : ℕ) → size S ≤ 1 → Connected q.graph S → PickedTree q S
  unfolding Picked tables_of
  tree-one S l c = let o = one_table q.graph S l c in record { tree = scan o.0; picked = o.1; covers = o.2 }

  -- a set that has a tree is connected
  least-connected : {S c : ℕ} → Least q S c → Connected q.graph S
  least-connected l = subst (Connected q.graph) l.covers (connected-tree q l.tree l.valid)

  pub picked-exists : (n S : ℕ) → size S ≤ n → Connected q.graph S → PickedTree q S
  unfolding Picked tables_of
  picked-exists zero S l c = tree-one S (omega arith) c
  picked-exists (suc n) S l c = go (dec_lt 1 (size S)) (λ X. picked-exists n X)
    where
      go : Dec (1 < size S) → ((X : ℕ) → size X ≤ n → Connected q.graph X → PickedTree q X) → PickedTree q S
      go (no z) ih = tree-one S (omega arith) c
      go (yes h) ih =
          let p = picks S c h in
          let r = p.2.among in
          let k : size p.0 + size r.inner ≡ size S = sym (size-sum p.0 r.inner r.joinable.apart) ∙ ap size r.whole in
          let ox = least-connected r.outer-best in
          let iy = least-connected r.inner-best in
          let x = ih p.0 (omega (arith, k, size-pos r.inner iy.some)) ox in
          let y = ih r.inner (omega (arith, k, size-pos p.0 ox.some)) iy in
          let e : tables_of x.tree + tables_of y.tree ≡ S = rw (x.covers, y.covers) r.whole in
          let pick : Pick q (tables_of x.tree + tables_of y.tree) (tables_of x.tree) p.1 = rw (e, x.covers) p.2 in
          record { tree = join x.tree y.tree p.1; picked = (x.picked, y.picked, pick); covers = e }

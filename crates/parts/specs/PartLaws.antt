-- Laws of the tables' parts: storing them, dividing by them, and an estimate carried on by one table.
use Rattle.std.specs.Prelude.{◌≡◌, true, false, List, ◌⊎◌, eqb, length, get_or, set}
use Rattle.std.proofs.Math.Path.{refl, sym, ap}
use Rattle.std.proofs.Common.{◌∙◌, inl, inr, arith, length-set, get_or-set_same, get_or-set_other}
use Rattle.std.proofs.Math.Bool.{cond}
use Prim.Native.Nat.{ℕ, zero, suc, ◌+◌, ◌-◌, ◌*◌, ◌^◌, ◌≤◌, ◌<◌, ◌/◌, min, max}
use Rattle.std.proofs.Math.Decide.{ℕ_discrete}
use Rattle.std.specs.Int.Bits.{bit_and}
use borrow.Author.Tests.{eq-eqb, ne_eqb}
use Rattle.rules.specs.Limits.{max_tables, max_rows, max_estimate}
use Rattle.rules.specs.Sets.{has, holds, Splits, single, Lowest}
use Rattle.rules.specs.Query.{Graph, table_count, edge_count, at, IsTable, Joins}
use Rattle.rules.specs.Checked.{GoodGraph}
use Rattle.rules.specs.Estimate.{joins_at, divided, by_edges, by_lower, with_table, running, estimate}
use Rattle.rules.specs.laws.Bools.{true-or-false}
use Rattle.rules.specs.laws.Sets.{holds-pos, holds-lt, lt-of-holds, holds-sum, holds-single, holds-single-only, holds-out, holds-minus, union-of}
use Rattle.rules.specs.laws.Refusals.{joins_true, true-joins}
use Rattle.rules.proofs.laws.Estimate.{running-le}
use Rattle.graph.specs.declared.chosen.Chosen.{Chosen}
use Rattle.query.specs.EdgeLaws.{holds-le}
use Rattle.graph.specs.Node.{Node}
use Rattle.graph.specs.ApartLaws.{apart-tables, below-with}
use Rattle.graph.specs.NearLaws.{both_of, both-in, in_right}
use Rattle.parts.specs.Parts.{cell_of, Parts, by_parts, Divides, Valued}

-- ---- cells
same-cell : (t u a b : ℕ) → (1 ≤ u) × (u ≤ max_tables) → (1 ≤ b) × (b ≤ max_tables) → 1 ≤ t → 1 ≤ a → cell_of t u ≡ cell_of a b → (t ≡ a) × (u ≡ b)
same-cell t u a b p q r s e = (omega arith, omega arith)

-- ---- storing
module _ (g : Graph) where
  -- the tables of an edge
  pub ends-fit : (j t u : ℕ) → GoodGraph g → j < edge_count g → Joins g j t u → (1 ≤ t) × (t ≤ max_tables) × (1 ≤ u) × (u ≤ max_tables)
  ends-fit j t u good k (inl e) =
      let o = good.edges j k in
      (omega (arith, e.0, o.left-some), omega (arith, e.0, o.left-known, good.few-tables), omega (arith, e.1, o.right-some), omega (arith, e.1, o.right-known, good.few-tables))
  ends-fit j t u good k (inr e) =
      let o = good.edges j k in
      (omega (arith, e.1, o.right-some), omega (arith, e.1, o.right-known, good.few-tables), omega (arith, e.0, o.left-some), omega (arith, e.0, o.left-known, good.few-tables))

  swap : (i t u : ℕ) → Joins g i t u → Joins g i u t
  swap i t u (inl e) = inr e
  swap i t u (inr e) = inl e

  -- edge i, of the tables x and y, stored either way round
  module _ (i x y d : ℕ) (parts : List ℕ) {a b : ℕ} (good : GoodGraph g) (l : i < edge_count g) (n : length parts ≡ 256) (h : Parts g i parts) (p : a ≡ cell_of x y) (q : b ≡ cell_of y x) (ex : x ≡ get_or g.left i 0) (ey : y ≡ get_or g.right i 0) (ed : d ≡ get_or g.divisors i 0) where
    fit : (1 ≤ x) × (x ≤ max_tables) × (1 ≤ y) × (y ≤ max_tables)
    fit = ends-fit i x y good l (inl (sym ex, sym ey))

    differ : x ≡ y → ⊥
    differ e = (good.edges i l).different (sym ex ∙ e ∙ ey)

    new : (j : ℕ) → j < i → Joins g j x y → ⊥
    new j k o = (good.edges i l).new j k (rw (ex, ey) at o)

    own-kept : (t : ℕ) → 1 ≤ t → t ≤ table_count g → get_or (set (set parts a d) b d) (cell_of t t) 0 ≡ max 1 (at g.rows t)
    own-kept t f k =
        get_or-set_other (set parts a d) b (cell_of t t) d 0 (λ c. let o = same-cell t t y x (f, few) (fit.0, fit.1) f fit.2 (c ∙ q) in differ (sym o.1 ∙ o.0))
        ∙ get_or-set_other parts a (cell_of t t) d 0 (λ c. let o = same-cell t t x y (f, few) (fit.2, fit.3) f fit.0 (c ∙ p) in differ (sym o.0 ∙ o.1))
        ∙ h.own.rows_of t f k
      where
        few : t ≤ max_tables
        few = omega (arith, good.few-tables)

    kept-or-new : (t u j : ℕ) → j < i + 1 → Joins g j t u → Dec (j ≡ i) → get_or (set (set parts a d) b d) (cell_of t u) 0 ≡ get_or g.divisors j 0
    kept-or-new t u j k o (yes z) = here (rw z at o) ∙ ed ∙ ap (λ (m : ℕ). get_or g.divisors m 0) (sym z)
      where
        here : Joins g i t u → get_or (set (set parts a d) b d) (cell_of t u) 0 ≡ d
        here (inl e) =
            let c : a ≡ cell_of t u = rw (ex ∙ e.0, ey ∙ e.1) at p in
            rw (← c) (get_or-set_other (set parts a d) b a d 0 (λ m. differ (omega (arith, m, p, q, fit))) ∙ get_or-set_same parts a d 0 (omega (arith, p, fit, n)))
        here (inr e) =
            let c : b ≡ cell_of t u = rw (ey ∙ e.1, ex ∙ e.0) at q in
            rw (← c) (get_or-set_same (set parts a d) b d 0 (omega (arith, q, fit, n, length-set parts a d)))
    kept-or-new t u j k o (no z) =
        get_or-set_other (set parts a d) b (cell_of t u) d 0 (λ c. other_way (same-cell t u y x (room.2, room.3) (fit.0, fit.1) room.0 fit.2 (c ∙ q)))
        ∙ get_or-set_other parts a (cell_of t u) d 0 (λ c. this-way (same-cell t u x y (room.2, room.3) (fit.2, fit.3) room.0 fit.0 (c ∙ p)))
        ∙ h.divisors t u j (omega arith) o
      where
        room : (1 ≤ t) × (t ≤ max_tables) × (1 ≤ u) × (u ≤ max_tables)
        room = ends-fit j t u good (omega arith) o

        this-way : (t ≡ x) × (u ≡ y) → ⊥
        this-way e = new j (omega arith) (rw (e.0, e.1) at o)

        other_way : (t ≡ y) × (u ≡ x) → ⊥
        other_way e = new j (omega arith) (swap j y x (rw (e.0, e.1) at o))

    pub parts_more : Parts g (i + 1) (set (set parts a d) b d)
    parts_more = record { own = record { rows_of = own-kept }; divisors = λ t u j k o. kept-or-new t u j k o (ℕ_discrete j i) }

-- ---- edges: at most one joins two tables
module _ (g : Graph) (u t r : ℕ) where
  joins-not : (n : ℕ) → (Joins g n t u → ⊥) → joins_at g u t n ≡ false
  joins-not n h = go (true-or-false (joins_at g u t n))
    where
      go : (joins_at g u t n ≡ true) ⊎ (joins_at g u t n ≡ false) → joins_at g u t n ≡ false
      go (inl e) = absurd (h (swap g n u t (joins_true g u t n e)))
      go (inr e) = e

  edges_none : (n : ℕ) → ((i : ℕ) → i < n → Joins g i t u → ⊥) → by_edges g u t n r ≡ r
  unfolding by_edges
  edges_none zero h = refl
  edges_none (suc n) h = rw (joins-not n (h n (omega arith))) (edges_none n (λ i l. h i (omega arith)))

  both-join : (i j : ℕ) → Joins g i t u → Joins g j t u → Joins g j (get_or g.left i 0) (get_or g.right i 0)
  both-join i j (inl a) (inl b) = inl (b.0 ∙ sym a.0, b.1 ∙ sym a.1)
  both-join i j (inl a) (inr b) = inr (b.0 ∙ sym a.1, b.1 ∙ sym a.0)
  both-join i j (inr a) (inl b) = inr (b.0 ∙ sym a.1, b.1 ∙ sym a.0)
  both-join i j (inr a) (inr b) = inl (b.0 ∙ sym a.0, b.1 ∙ sym a.1)

  edges-one : GoodGraph g → (n i : ℕ) → n ≤ edge_count g → i < n → Joins g i t u → by_edges g u t n r ≡ divided (get_or g.divisors i 0) r
  unfolding by_edges
  edges-one good zero i m l o = absurd (omega arith)
  edges-one good (suc n) i m l o = go (ℕ_discrete i n) (λ k. edges-one good n i (omega arith) k o)
    where
      go : Dec (i ≡ n) → (i < n → by_edges g u t n r ≡ divided (get_or g.divisors i 0) r) → cond (joins_at g u t n) (divided (get_or g.divisors n 0) (by_edges g u t n r)) (by_edges g u t n r) ≡ divided (get_or g.divisors i 0) r
      go (yes e) ih =
          let here : Joins g n t u = rw e at o in
          rw (true-joins g u t n (swap g n t u here), edges_none n (λ j k p. (good.edges n (omega arith)).new j k (both-join n j here p)), e)
      go (no e) ih = rw (joins-not n (λ p. (good.edges n (omega arith)).new i (omega arith) (both-join n i p o))) (ih (omega arith))

-- ---- tables of a set
not-held : (S u : ℕ) → (holds S u ≡ 1 → ⊥) → holds S u ≡ 0
not-held S u h = go (ℕ_discrete (holds S u) 1)
  where
    go : Dec (holds S u ≡ 1) → holds S u ≡ 0
    go (yes e) = absurd (h e)
    go (no z) = omega (arith, holds-le S u)

-- ---- dividing by parts
module _ (parts : List ℕ) (t : ℕ) where
  -- no table of S is that low
  under : (S k r : ℕ) → ((u : ℕ) → u ≤ k → holds S u ≡ 1 → ⊥) → by_parts parts S t k r ≡ r
  unfolding by_parts
  under S zero r h = refl
  under S (suc k) r h = rw (ne_eqb (holds S (suc k)) 1 (h (suc k) (omega arith))) (under S k r (λ u l. h u (omega arith)))

  pub linked-none : (S k r : ℕ) → S ≡ 0 → by_parts parts S t k r ≡ r
  linked-none S k r e = under S k r (λ u l h. omega (arith, holds-pos S u h))

  -- the lowest table goes first
  module _ (S u r : ℕ) (w : Lowest S u) where
    out : Splits S (single u) (S - single u)
    out = holds-minus S u w.stands

    some : 0 < u
    some = (holds-out S u w.stands).1

    gone : holds (S - single u) u ≡ 1 → ⊥
    gone h = omega (arith, h, union-of out u, holds-le S u, holds-single u some)

    later : (j : ℕ) → (u ≡ j → ⊥) → holds S j ≡ holds (S - single u) j
    later j d = omega (arith, union-of out j, not-held (single u) j (λ e. d (holds-single-only u j some e)))

    linked-first : (k : ℕ) → u ≤ k → by_parts parts S t k r ≡ by_parts parts (S - single u) t k (divided (get_or parts (cell_of t u) 0) r)
    unfolding by_parts
    linked-first zero l = absurd (omega (arith, some))
    linked-first (suc k) l = go (ℕ_discrete u (suc k)) (λ m. linked-first k m)
      where
        go : Dec (u ≡ suc k) → (u ≤ k → by_parts parts S t k r ≡ by_parts parts (S - single u) t k (divided (get_or parts (cell_of t u) 0) r))
            → cond (eqb (holds S (suc k)) 1) (divided (get_or parts (cell_of t (suc k)) 0) (by_parts parts S t k r)) (by_parts parts S t k r)
            ≡ cond (eqb (holds (S - single u) (suc k)) 1) (divided (get_or parts (cell_of t (suc k)) 0) (by_parts parts (S - single u) t k (divided (get_or parts (cell_of t u) 0) r))) (by_parts parts (S - single u) t k (divided (get_or parts (cell_of t u) 0) r))
        go (yes e) ih =
            let low : by_parts parts S t k r ≡ r = under S k r (λ j m h. omega (arith, w.least j h)) in
            let next : by_parts parts (S - single u) t k (divided (get_or parts (cell_of t u) 0) r) ≡ divided (get_or parts (cell_of t u) 0) r = under (S - single u) k (divided (get_or parts (cell_of t u) 0) r) (λ j m h. omega (arith, w.least j (in_right out j h))) in
            let yes-u : holds S (suc k) ≡ 1 = rw e at w.stands in
            let no-u : holds (S - single u) (suc k) ≡ 1 → ⊥ = λ h. gone (rw (← e) at h) in
            rw (eq-eqb (holds S (suc k)) 1 yes-u, ne_eqb (holds (S - single u) (suc k)) 1 no-u, low, next) (ap (λ (j : ℕ). divided (get_or parts (cell_of t j) 0) r) (sym e))
        go (no e) ih = rw (later (suc k) e, ih (omega arith))

    -- a turn of the loop: x is the lowest table as a set, v the value after it
    module _ (x : ℕ) (ex : x ≡ single u) (d : Divides parts t S) where
      pub linked-step : (L e c v : ℕ) → c ≡ cell_of t u → v ≡ max (r / get_or parts c 0) 1 → by_parts parts S t (t - 1) r ≡ by_parts parts L t (t - 1) e → by_parts parts (S - x) t (t - 1) v ≡ by_parts parts L t (t - 1) e
      unfolding divided
      linked-step L e c v ec i h = let j : v ≡ max 1 (r / get_or parts c 0) = omega arith in rw (j, ec, ex) (sym (linked-first (t - 1) (holds-lt (t - 1) S u d.below w.stands).1)) ∙ h

      pub divides-rest : Divides parts t (S - x)
      divides-rest = record { some = d.some; few = d.few; below = omega (arith, d.below); divisor = λ j h. d.divisor j (in_right out j (rw ex at h)) }

      pub rest-less : (x ≤ S) × (S - x < S)
      rest-less = (omega (arith, ex, out.whole), omega (arith, ex, out.whole, holds-pos (single u) u (holds-single u some)))

  pub lowest-fits : (S u : ℕ) → Lowest S u → Divides parts t S → (1 ≤ u) × (u ≤ max_tables)
  lowest-fits S u w d = let o = holds-lt (t - 1) S u d.below w.stands in (o.0, omega (arith, o.1, d.few))

  -- the product fits, and the cut: c is the cell of t
  module _ (S e c : ℕ) (ec : c ≡ cell_of t t) where
    module _ {r : ℕ} (h : r ≡ by_parts parts S t (t - 1) (e * get_or parts c 0)) where
      pub cut-is : max_estimate < r → max_estimate ≡ min max_estimate (by_parts parts S t (t - 1) (e * get_or parts (cell_of t t) 0))
      cut-is l = let i : r ≡ by_parts parts S t (t - 1) (e * get_or parts (cell_of t t) 0) = rw ec at h in omega arith

      pub uncut-is : r ≤ max_estimate → r ≡ min max_estimate (by_parts parts S t (t - 1) (e * get_or parts (cell_of t t) 0))
      uncut-is l = let i : r ≡ by_parts parts S t (t - 1) (e * get_or parts (cell_of t t) 0) = rw ec at h in omega arith

-- ---- one table more
-- the tables up to k decide
lower-same : (g : Graph) (S R t k r : ℕ) → ((u : ℕ) → u ≤ k → holds S u ≡ holds R u) → by_lower g S t k r ≡ by_lower g R t k r
unfolding by_lower
lower-same g S R t zero r h = refl
lower-same g S R t (suc k) r h = rw (h (suc k) (omega arith), lower-same g S R t k r (λ u l. h u (omega arith)))

running-same : (g : Graph) (S R k : ℕ) → ((u : ℕ) → u ≤ k → holds S u ≡ holds R u) → running g S k ≡ running g R k
unfolding running with_table
running-same g S R zero h = refl
running-same g S R (suc k) h =
    rw (
      h (suc k) (omega arith),
      running-same g S R k (λ u l. h u (omega arith)),
      lower-same g S R (suc k) (suc k - 1) (running g R k * max 1 (at g.rows (suc k))) (λ u l. h u (omega arith)),
    )

-- no table of S is higher than k
running-on : (g : Graph) (S k m : ℕ) → S < 2 ^ k → k ≤ m → running g S m ≡ running g S k
unfolding running
running-on g S k zero h l = let e : 0 ≡ k = omega arith in ap (running g S) e
running-on g S k (suc m) h l = go (ℕ_discrete k (suc m)) (λ i. running-on g S k m h i)
  where
    go : Dec (k ≡ suc m) → (k ≤ m → running g S m ≡ running g S k) → cond (eqb (holds S (suc m)) 1) (with_table g S (suc m) (running g S m)) (running g S m) ≡ running g S k
    go (yes e) ih = ap (running g S) (sym e)
    go (no e) ih = rw (ne_eqb (holds S (suc m)) 1 (λ i. omega (arith, holds-lt k S (suc m) h i))) (ih (omega arith))

-- counted from 1 as the walk does
running-step : (g : Graph) (s t : ℕ) → 1 ≤ t → running g s (t + 1 - 1) ≡ cond (has s t) (with_table g s t (running g s (t - 1))) (running g s (t - 1))
unfolding running
running-step g s zero l = absurd (omega arith)
running-step g s (suc k) l =
    let x : suc k + 1 - 1 ≡ suc k = omega arith in
    let y : suc k - 1 ≡ k = omega arith in
    rw (x, y)

module _ {g : Graph} {near parts : List ℕ} {n t e : ℕ} {chosen : Chosen} (d : Node g near n t chosen) (p : Valued g parts t chosen.set e) (l : t ≤ n) where
  abbrev linked : ℕ
  linked = bit_and chosen.set (at near t)

  table : IsTable g t
  table = record { from_one = d.some; to-count = omega (arith, d.count) }

  cell-of : (u : ℕ) → holds linked u ≡ 1 → (i : ℕ) × (i < edge_count g) × Joins g i t u × (get_or parts (cell_of t u) 0 ≡ get_or g.divisors i 0)
  cell-of u h =
      let o = d.near-sets.linked t u table (both_of chosen.set (at near t) u h).1 in
      (o.edge, o.known, o.joins, p.all.divisors t u o.edge o.known o.joins)

  pub linked-divides : Divides parts t linked
  linked-divides = record {
    some = d.some;
    few = omega (arith, d.few);
    below = lt-of-holds (t - 1) linked (λ u h. (holds-lt (t - 1) chosen.set u d.below (both_of chosen.set (at near t) u h).0).1);
    divisor = λ u h. let o = cell-of u h in omega (arith, o.3, (p.good.edges o.0 o.1).divisor-some);
  }

  own : get_or parts (cell_of t t) 0 ≡ max 1 (at g.rows t)
  own = p.all.own.rows_of t d.some table.to-count

  pub value-fits : (e ≤ max_estimate) × (get_or parts (cell_of t t) 0 ≤ max_rows)
  value-fits = (omega (arith, p.value, running-le g chosen.set (t - 1)), omega (arith, own, p.good.rows (t - 1) (omega (arith, d.some, table.to-count))))

  -- by parts as by edges
  lower-parts : (S k r : ℕ) → k < t → ((u : ℕ) → u ≤ k → holds S u ≡ holds chosen.set u) → by_lower g S t k r ≡ by_parts parts linked t k r
  unfolding by_lower by_parts
  lower-parts S zero r b h = refl
  lower-parts S (suc k) r b h = go (ℕ_discrete (holds chosen.set (suc k)) 1) (ℕ_discrete (holds (at near t) (suc k)) 1) (lower-parts S k r (omega arith) (λ u i. h u (omega arith)))
    where
      go : Dec (holds chosen.set (suc k) ≡ 1) → Dec (holds (at near t) (suc k) ≡ 1) → by_lower g S t k r ≡ by_parts parts linked t k r
          → cond (eqb (holds S (suc k)) 1) (by_edges g (suc k) t (edge_count g) (by_lower g S t k r)) (by_lower g S t k r) ≡ cond (eqb (holds linked (suc k)) 1) (divided (get_or parts (cell_of t (suc k)) 0) (by_parts parts linked t k r)) (by_parts parts linked t k r)
      go (yes a) (yes c) ih =
          let in_both : holds linked (suc k) ≡ 1 = both-in chosen.set (at near t) (suc k) a c in
          let o = cell-of (suc k) in_both in
          rw (eq-eqb (holds S (suc k)) 1 (h (suc k) (omega arith) ∙ a), eq-eqb (holds linked (suc k)) 1 in_both, ih, o.3) (edges-one g (suc k) t (by_parts parts linked t k r) p.good (edge_count g) o.0 (omega arith) o.1 o.2)
      go (yes a) (no c) ih =
          rw (eq-eqb (holds S (suc k)) 1 (h (suc k) (omega arith) ∙ a), ne_eqb (holds linked (suc k)) 1 (λ i. c (both_of chosen.set (at near t) (suc k) i).1), ih)
          (edges_none g (suc k) t (by_parts parts linked t k r) (edge_count g) (λ i m j. c (d.near-sets.all t (suc k) (record { edge = i; known = m; joins = j }))))
      go (no a) c ih = rw (ne_eqb (holds S (suc k)) 1 (λ i. a (sym (h (suc k) (omega arith)) ∙ i)), ne_eqb (holds linked (suc k)) 1 (λ i. a (both_of chosen.set (at near t) (suc k) i).0)) ih

  module _ (x v : ℕ) (s : x ≡ single t) (w : v ≡ min max_estimate (by_parts parts linked t (t - 1) (e * get_or parts (cell_of t t) 0))) where
    apart : (u : ℕ) → holds chosen.set u ≡ 1 → holds x u ≡ 1 → ⊥
    apart u a b = omega (arith, holds-lt (t - 1) chosen.set u d.below a, holds-single-only t u d.some (rw s at b), d.some)

    lower : (u : ℕ) → u ≤ t - 1 → holds (chosen.set + x) u ≡ holds chosen.set u
    lower u i = omega (arith, holds-sum chosen.set x u (apart-tables chosen.set x apart), not-held x u (λ h. omega (arith, holds-single-only t u d.some (rw s at h), d.some)))

    taken : holds (chosen.set + x) t ≡ 1
    taken = omega (arith, holds-sum chosen.set x t (apart-tables chosen.set x apart), holds-le (chosen.set + x) t, rw (← s) at (holds-single t d.some))

    with_value : v ≡ running g (chosen.set + x) (t + 1 - 1)
    unfolding with_table
    with_value =
        w
        ∙ ap (min max_estimate) (rw (own, p.value) (sym (lower-parts (chosen.set + x) (t - 1) (running g chosen.set (t - 1) * max 1 (at g.rows t)) (omega (arith, d.some)) lower)))
        ∙ ap (with_table g (chosen.set + x) t) (sym (running-same g (chosen.set + x) chosen.set (t - 1) lower))
        ∙ sym (running-step g (chosen.set + x) t d.some ∙ rw (eq-eqb (holds (chosen.set + x) t) 1 taken) refl)

    pub valued-with : Valued g parts (t + 1) (chosen.set + x) v
    valued-with = record { good = p.good; all = p.all; value = with_value }

    -- the estimate of the chosen tables with table t
    pub with-estimate : v ≡ estimate g (chosen.set + x)
    unfolding estimate
    with-estimate = with_value ∙ sym (running-on g (chosen.set + x) (t + 1 - 1) (table_count g) (rw s (below-with t chosen.set d.some d.below)) (omega (arith, table.to-count)))

  pub valued-without : Valued g parts (t + 1) chosen.set e
  valued-without = record {
    good = p.good;
    all = p.all;
    value = p.value ∙ sym (running-step g chosen.set t d.some ∙ rw (ne_eqb (holds chosen.set t) 1 (λ h. omega (arith, holds-lt (t - 1) chosen.set t d.below h, d.some))) refl);
  }

pub valued-root : (g : Graph) (parts : List ℕ) → GoodGraph g → Parts g (edge_count g) parts → Valued g parts 1 0 1
unfolding running
valued-root g parts good a = record { good = good; all = a; value = refl }

-- A plan's joins: the row of a set, the root that it tells, and the parts of that root.
use Rattle.std.specs.Prelude.{◌≡◌, refl, ℕ, ◌+◌, ◌-◌, ◌^◌, ◌≤◌, ◌<◌, length, get_or}
use Rattle.std.proofs.Common.{sym, ap, ◌∙◌, subst, arith, lit≤}
use mathlib.Core.List.{List, Memᴰ, [], ◌++◌}
use Rattle.std.proofs.Math.Nat.{pow-le-pow_right}
use Rattle.rules.specs.declared.Step.{Step}
use Rattle.rules.specs.declared.Step.TheVariants.{Scan, Join}
use Rattle.rules.specs.declared.JoinStep.{JoinStep}
use Rattle.rules.specs.Sets.{size, Lowest}
use Rattle.rules.specs.Query.{Query, table_count}
use Rattle.rules.specs.Estimate.{estimate}
use Rattle.rules.specs.Rows.{memo}
use Rattle.rules.specs.Answers.{Row}
use Rattle.rules.specs.Trees.{Tree, scan, join, tables_of, step_of, cost_of, Picked}
use Rattle.rules.specs.Writing.{join_line, join_lines}
use Rattle.rules.specs.laws.Sets.{size-pow, size-sum, size-pos, holds-single-only}
use Rattle.rules.proofs.laws.Bellman.{tables_of-pos, least-unique, pick-unique}
use Rattle.rules.proofs.laws.Picked.{picked-parts, picked-in, picked-below, picked-least}
use Rattle.digits.specs.declared.Line.{Line}
use Rattle.digits.specs.Put.{Put}
use Rattle.writer.specs.declared.joins.Memo.{Memo}
use Rattle.writer.specs.Plans.{Rooted, Kept, ToPut}
use Rattle.digits.specs.PutLaws.{put-none, put_then, put_as, Room, room_of, room-first, room-then}

-- ---- what a row says of the root
pub root-scan : (t : Tree) (S x m low : ℕ) → x ≡ 0 → Lowest S low → Rooted t S x m → Scan low ≡ step_of t
unfolding Rooted step_of
root-scan (scan u) S x m low e l r = ap Scan (sym (holds-single-only u low r.0 (rw r.1 l.stands)))
root-scan (join a b k) S x m low e l r = absurd (omega (arith, tables_of-pos a, r.0))

pub root-join : (t : Tree) (S x m : ℕ) → (x ≡ 0 → ⊥) → Rooted t S x m → Join (record { outer = x; inner = S - x; method = m }) ≡ step_of t
unfolding Rooted step_of
root-join (scan u) S x m z r = absurd (z r.2)
root-join (join a b k) S x m z r =
    let e : tables_of b ≡ S - x = omega (arith, r.0, r.1) in
    sym (λ i. Join (record { outer = r.0 i; inner = e i; method = r.2 i }))

picked-rooted : (q : Query) (t : Tree) (c x m : ℕ) → Picked q t → Row q (tables_of t) c x m → Rooted t (tables_of t) x m
unfolding Rooted Picked tables_of
picked-rooted q (scan u) c x m p r = (p.from_one, refl, (r.one (omega (arith, size-pow (u - 1)))).0)
picked-rooted q (join a b k) c x m p r =
    let s = size-sum (tables_of a) (tables_of b) (picked-parts q a b k p) in
    let more : 2 ≤ size (tables_of a + tables_of b) = omega (arith, s, size-pos (tables_of a) (tables_of-pos a), size-pos (tables_of b) (tables_of-pos b)) in
    let u = pick-unique p.2 (r.more more) in
    (u.0, refl, u.1)

outer-le : (t : Tree) (S x m : ℕ) → Rooted t S x m → x ≤ S
unfolding Rooted
outer-le (scan u) S x m r = omega (arith, r.2)
outer-le (join a b k) S x m r = omega (arith, r.0, r.1)

-- ---- the parts of a picked join
pub record Parts (q : Query) (t : Tree) (x y m : ℕ) : Type 0 where
  pub a : Tree
  pub b : Tree
  pub whole : t ≡ join a b m
  pub outer-picked : Picked q a
  pub inner-picked : Picked q b
  pub outer-covers : tables_of a ≡ x
  pub inner-covers : tables_of b ≡ y

same-join : (i j : JoinStep) → Join i ≡ Join j → i ≡ j
same-join i j e = cc

not-both : (u : ℕ) (j : JoinStep) → Scan u ≡ Join j → ⊥
not-both u j e = let z : ◌≡◌ {A = ℕ} 0 1 = cc in omega arith

parts-of : (q : Query) (t : Tree) (j : JoinStep) → Picked q t → step_of t ≡ Join j → Parts q t j.outer j.inner j.method
unfolding step_of Picked
parts-of q (scan u) j p e = absurd (not-both u j e)
parts-of q (join a b m) j p e =
    let f : record { outer = tables_of a; inner = tables_of b; method = m } ≡ j = same-join (record { outer = tables_of a; inner = tables_of b; method = m }) j e in
    record {
      a = a;
      b = b;
      whole = ap (λ (k : JoinStep). join a b k.method) f;
      outer-picked = p.0;
      inner-picked = p.1;
      outer-covers = ap (λ (k : JoinStep). k.outer) f;
      inner-covers = ap (λ (k : JoinStep). k.inner) f;
    }

-- the parts make the set
parts-sum : {q : Query} {t : Tree} {x y m : ℕ} → Parts q t x y m → x + y ≡ tables_of t
unfolding tables_of
parts-sum p = rw (p.whole, ← p.outer-covers, ← p.inner-covers) refl

-- a scan has no lines
scan-lines : (q : Query) (t : Tree) (u : ℕ) → step_of t ≡ Scan u → [] ≡ join_lines q t
unfolding step_of join_lines
scan-lines q (scan v) u e = refl
scan-lines q (join a b m) u e = absurd (not-both u (record { outer = tables_of a; inner = tables_of b; method = m }) (sym e))

-- a join has those of its outer part, of its inner part, and its own
join-lines : {q : Query} {t : Tree} {x y m : ℕ} (p : Parts q t x y m) (n est cost : ℕ) → n ≡ table_count q.graph → est ≡ estimate q.graph (tables_of t) → cost ≡ cost_of q t
    → join_lines q p.a ++ (join_lines q p.b ++ join_line n x y m est cost) ≡ join_lines q t
unfolding join_lines tables_of
join-lines {q} {t} {x} {y} {m} p n est cost e f g =
    let f' : est ≡ estimate q.graph (tables_of p.a + tables_of p.b) = rw p.whole at f in
    let g' : cost ≡ cost_of q (join p.a p.b m) = rw p.whole at g in
    rw (p.whole, e, f', g', ← p.outer-covers, ← p.inner-covers) refl

-- ---- a memo's row
module _ {q : Query} {m : Memo} (k : Kept q m) where
  -- the set that is to be put has a row
  pub row-stands : {S : ℕ} {line : Line} → ToPut q S line → (j : ℕ) × (j < length m.sets.now) × (get_or m.sets.now j 0 ≡ S)
  row-stands {S} p = k.stands S (subst (λ (X : ℕ). Memᴰ X (memo q.graph)) p.covers (picked-in q p.tree p.picked))

  pub few-tables : m.tables ≤ 32
  few-tables = omega (arith, k.few)

  pub in-estimates : (row : ℕ) → row < length m.sets.now → row < length m.estimates.now
  in-estimates row l = omega (arith, k.lengths.0)

  pub in-costs : (row : ℕ) → row < length m.sets.now → row < length m.costs.now
  in-costs row l = omega (arith, k.lengths.1)

  pub in-outers : (row : ℕ) → row < length m.sets.now → row < length m.outers.now
  in-outers row l = omega (arith, k.lengths.2)

  pub in-methods : (row : ℕ) → row < length m.sets.now → row < length m.methods.now
  in-methods row l = omega (arith, k.lengths.3)

  module _ (row : ℕ) {S : ℕ} (l : row < length m.sets.now) (e : get_or m.sets.now row 0 ≡ S) where
    -- what it says of the tree of its set
    said : (t : Tree) → Picked q t → tables_of t ≡ S → (get_or m.estimates.now row 0 ≡ estimate q.graph (tables_of t)) × Row q (tables_of t) (get_or m.costs.now row 0) (get_or m.outers.now row 0) (get_or m.methods.now row 0)
    said t p f =
        let g : get_or m.sets.now row 0 ≡ tables_of t = e ∙ sym f in
        let h = k.holds row (subst (λ (X : ℕ). Memᴰ X (memo q.graph)) (sym g) (picked-in q t p)) l in
        subst (λ (X : ℕ). (get_or m.estimates.now row 0 ≡ estimate q.graph X) × Row q X (get_or m.costs.now row 0) (get_or m.outers.now row 0) (get_or m.methods.now row 0)) g h

    rooted : (t : Tree) → Picked q t → tables_of t ≡ S → Rooted t S (get_or m.outers.now row 0) (get_or m.methods.now row 0)
    rooted t p f = subst (λ (X : ℕ). Rooted t X (get_or m.outers.now row 0) (get_or m.methods.now row 0)) f (picked-rooted q t (get_or m.costs.now row 0) (get_or m.outers.now row 0) (get_or m.methods.now row 0) p (said t p f).1)

    -- what reading its step asks
    pub step_fits : {line : Line} → ToPut q S line → (0 < S) × (S < 2 ^ 32) × (get_or m.outers.now row 0 ≤ S)
    step_fits p =
        let b = picked-below q p.tree p.picked in
        let w : 2 ^ table_count q.graph ≤ 2 ^ 32 = pow-le-pow_right {n = 2} (lit≤ tt) {i = table_count q.graph} {j = 32} (omega (arith, k.tables, k.few)) in
        (omega (arith, tables_of-pos p.tree, p.covers), omega (arith, b, w, p.covers), outer-le p.tree S (get_or m.outers.now row 0) (get_or m.methods.now row 0) (rooted p.tree p.picked p.covers))

    module _ {step : Step} (s : (t : Tree) → Rooted t S (get_or m.outers.now row 0) (get_or m.methods.now row 0) → step ≡ step_of t) where
      -- ---- it says a scan
      pub scan-put : {u : ℕ} → step ≡ Scan u → (line : Line) (t : Tree) → Picked q t → tables_of t ≡ S → Put line line (join_lines q t)
      scan-put {u} g line t p f = put_as (scan-lines q t u (sym (s t (rooted t p f)) ∙ g)) (put-none line)

      -- ---- it says a join
      module _ {j : JoinStep} (g : step ≡ Join j) where
        parts : (t : Tree) → Picked q t → tables_of t ≡ S → Parts q t j.outer j.inner j.method
        parts t p f = parts-of q t j p (sym (s t (rooted t p f)) ∙ g)

        -- its own line
        abbrev own : List ℕ
        own = join_line m.tables j.outer j.inner j.method (get_or m.estimates.now row 0) (get_or m.costs.now row 0)

        lines : (t : Tree) (p : Picked q t) (f : tables_of t ≡ S) → join_lines q (parts t p f).a ++ (join_lines q (parts t p f).b ++ own) ≡ join_lines q t
        lines t p f =
            let r = said t p f in
            join-lines (parts t p f) m.tables (get_or m.estimates.now row 0) (get_or m.costs.now row 0) k.tables r.0 (least-unique r.1.least (picked-least q t p))

        -- both parts are smaller sets
        pub outer-less : {line : Line} (i : ℕ) → S ≡ i → ToPut q S line → j.outer < i
        outer-less i h p =
            let a = parts p.tree p.picked p.covers in
            omega (arith, parts-sum a, a.inner-covers, tables_of-pos a.b, p.covers)

        pub inner-less : {line : Line} (i : ℕ) → S ≡ i → ToPut q S line → j.inner < i
        inner-less i h p =
            let a = parts p.tree p.picked p.covers in
            omega (arith, parts-sum a, a.outer-covers, tables_of-pos a.a, p.covers)

        -- there is room for both, and for its own line
        pub outer-fits : {line : Line} → ToPut q S line → ToPut q j.outer line
        outer-fits {line} p =
            let a = parts p.tree p.picked p.covers in
            record { tree = a.a; picked = a.outer-picked; covers = a.outer-covers; room-left = room-first (join_lines q a.a) _ (room_of line (lines p.tree p.picked p.covers) p.room-left) }

        module _ {out mid : Line} (put₁ : (t : Tree) → Picked q t → tables_of t ≡ j.outer → Put out mid (join_lines q t)) where
          rest : (p : ToPut q S out) → Room mid (join_lines q (parts p.tree p.picked p.covers).b ++ own)
          rest p =
              let a = parts p.tree p.picked p.covers in
              room-then (join_lines q a.b ++ own) (put₁ a.a a.outer-picked a.outer-covers) (room_of _ (lines p.tree p.picked p.covers) p.room-left)

          pub inner-fits : ToPut q S out → ToPut q j.inner mid
          inner-fits p =
              let a = parts p.tree p.picked p.covers in
              record { tree = a.b; picked = a.inner-picked; covers = a.inner-covers; room-left = room-first (join_lines q a.b) own (rest p) }

          module _ {last : Line} (put₂ : (t : Tree) → Picked q t → tables_of t ≡ j.inner → Put mid last (join_lines q t)) where
            pub own-fits : ToPut q S out → last.at + length own ≤ length last.out.now
            own-fits p =
                let a = parts p.tree p.picked p.covers in
                (room-then own (put₂ a.b a.inner-picked a.inner-covers) (rest p)).left

            -- and then all is put
            pub join-put : {done : Line} → Put last done own → (t : Tree) → Picked q t → tables_of t ≡ S → Put out done (join_lines q t)
            join-put z t p f =
                let a = parts t p f in
                put_as (lines t p f) (put_then (put₁ a.a a.outer-picked a.outer-covers) (put_then (put₂ a.b a.inner-picked a.inner-covers) z))

-- Laws of neighbour sets: tables of two sets, a flood along neighbour sets, and what it tells.
use Rattle.std.specs.Prelude.{◌≡◌, refl, ◌⊎◌, Bool, true, false, not, List}
use Rattle.std.proofs.Common.{sym, ◌∙◌, arith, eqb-true}
use Rattle.std.proofs.Math.Logic.{inl, inr}
use Prim.Native.Nat.{ℕ, zero, suc, ◌+◌, ◌-◌, ◌^◌, ◌≤◌, ◌<◌, ◌/◌, ◌%◌}
use Rattle.std.proofs.Math.Decide.{dec_lt, ℕ_discrete}
use Rattle.std.proofs.Math.Arith.{bin_ind}
use Rattle.std.specs.Int.Bits.{bit_and, bit_or, and_step, or_step, and_zero_l}
use Rattle.std.proofs.lemmas.Nat.{and_shr, or_shr, and_le_r}
use Rattle.std.proofs.lemmas.Bool.{not-false}
use Rattle.rules.specs.Sets.{holds, Splits, single, Lowest, Disjoint, disjoint}
use Rattle.rules.specs.Query.{Graph, table_count, at, IsTable, Linked}
use Rattle.rules.specs.Connected.{Connected}
use Rattle.rules.specs.laws.Bools.{not-both}
use Rattle.rules.specs.laws.Sets.{bit, disjoint-from, holds-bit, holds-pos, holds-lt, holds-sum, holds-apart, holds-minus, holds-out, holds-some, holds-single, holds-single-only, splits-inner, splits-outer, union-of}
use Rattle.rules.specs.laws.Connected.{Within, within-left, within-right, connected-join, connected-single}
use Rattle.graph.specs.Walk.{Apart}
use Rattle.graph.specs.Near.{NextTo, Near, Flood, Reached, Told}
use Rattle.graph.specs.ApartLaws.{apart-tables, crossing}

-- ---- tables of two sets
module _ (a b : ℕ) where
  pub both_of : (t : ℕ) → holds (bit_and a b) t ≡ 1 → (holds a t ≡ 1) × (holds b t ≡ 1)
  unfolding holds
  both_of zero h = absurd (omega arith)
  both_of (suc i) h =
      let e : bit_and (a / 2 ^ i) (b / 2 ^ i) % 2 ≡ 1 = rw (and_shr a b i) at h in
      (omega (arith, and_step (a / 2 ^ i) (b / 2 ^ i)), omega (arith, and_step (a / 2 ^ i) (b / 2 ^ i)))

  pub both-in : (t : ℕ) → holds a t ≡ 1 → holds b t ≡ 1 → holds (bit_and a b) t ≡ 1
  unfolding holds
  both-in zero h k = absurd (omega arith)
  both-in (suc i) h k = rw (and_shr a b i) (omega (arith, and_step (a / 2 ^ i) (b / 2 ^ i)))

  pub either-of : (t : ℕ) → holds (bit_or a b) t ≡ 1 → (holds a t ≡ 1) ⊎ (holds b t ≡ 1)
  unfolding holds
  either-of zero h = absurd (omega arith)
  either-of (suc i) h = go (dec_lt 0 (a / 2 ^ i % 2)) (rw (or_shr a b i) at h)
    where
      go : Dec (0 < a / 2 ^ i % 2) → bit_or (a / 2 ^ i) (b / 2 ^ i) % 2 ≡ 1 → (a / 2 ^ i % 2 ≡ 1) ⊎ (b / 2 ^ i % 2 ≡ 1)
      go (yes l) e = inl (omega arith)
      go (no z) e = inr (omega (arith, or_step (a / 2 ^ i) (b / 2 ^ i)))

  pub either_left : (t : ℕ) → holds a t ≡ 1 → holds (bit_or a b) t ≡ 1
  unfolding holds
  either_left zero h = absurd (omega arith)
  either_left (suc i) h = rw (or_shr a b i) (omega (arith, or_step (a / 2 ^ i) (b / 2 ^ i)))

  pub either-right : (t : ℕ) → holds b t ≡ 1 → holds (bit_or a b) t ≡ 1
  unfolding holds
  either-right zero h = absurd (omega arith)
  either-right (suc i) h = rw (or_shr a b i) (omega (arith, or_step (a / 2 ^ i) (b / 2 ^ i)))

-- sets that overlap share a table
pub shared : (a b : ℕ) → (Disjoint a b → ⊥) → (u : ℕ) × (holds a u ≡ 1) × (holds b u ≡ 1)
shared a b n =
    let o = holds-some (bit_and a b) (omega arith) in
    (o.0, (both_of a b o.0 o.1).0, (both_of a b o.0 o.1).1)

pub overlap-none : (x y : ℕ) (r : Bool) → r ≡ not (disjoint x y) → r ≡ false → Disjoint x y
overlap-none x y r e h = eqb-true (bit_and x y) 0 (not-false (disjoint x y) (sym e ∙ h))

-- a set's part and the rest of it
part-bits : (X S : ℕ) → ((i : ℕ) → bit i X ≡ 1 → bit i S ≡ 1) → (X ≤ S) × Disjoint X (S - X)
unfolding bit
part-bits = bin_ind (λ X. (S : ℕ) → ((i : ℕ) → bit i X ≡ 1 → bit i S ≡ 1) → (X ≤ S) × Disjoint X (S - X)) (λ S h. (omega arith, and_zero_l (S - 0))) halves
  where
    halves : (X : ℕ) → ((S : ℕ) → ((i : ℕ) → bit i (X / 2) ≡ 1 → bit i S ≡ 1) → (X / 2 ≤ S) × Disjoint (X / 2) (S - X / 2)) → (S : ℕ) → ((i : ℕ) → bit i X ≡ 1 → bit i S ≡ 1) → (X ≤ S) × Disjoint X (S - X)
    halves X ih S h = go (ih (S / 2) (λ i. h (suc i))) (dec_lt 0 (X % 2))
      where
        go : (X / 2 ≤ S / 2) × Disjoint (X / 2) (S / 2 - X / 2) → Dec (0 < X % 2) → (X ≤ S) × Disjoint X (S - X)
        go o (yes l) =
            let b : S % 2 ≡ 1 = h 0 (omega arith) in
            let e : (S - X) / 2 ≡ S / 2 - X / 2 = omega (arith, o.0) in
            (omega (arith, o.0), disjoint-from X (S - X) (rw e o.1) (omega (arith, o.0)))
        go o (no z) =
            let e : (S - X) / 2 ≡ S / 2 - X / 2 = omega (arith, o.0) in
            (omega (arith, o.0), disjoint-from X (S - X) (rw e o.1) (omega (arith, o.0)))

part_of : (X S : ℕ) → Within X S → Splits S X (S - X)
unfolding Within
part_of X S w =
    let o = part-bits X S (λ i e. sym (holds-bit S i) ∙ w (suc i) (holds-bit X i ∙ e)) in
    record { apart = o.1; whole = omega (arith, o.0) }

module _ {S X Y : ℕ} (p : Splits S X Y) (u : ℕ) where
  pub in_left : holds X u ≡ 1 → holds S u ≡ 1
  unfolding Within
  in_left h = within-left p u h

  pub in_right : holds Y u ≡ 1 → holds S u ≡ 1
  unfolding Within
  in_right h = within-right p u h

-- ---- neighbour sets
module _ (g : Graph) (t : ℕ) where
  pub next-none : NextTo g t 0 0
  next-none = record { joined = λ u h. absurd (omega (arith, holds-pos 0 u h)); all = λ u i l j. absurd (omega arith) }

-- ---- the flood
-- some tables more, each of them linked to one that is there
join-all : (g : Graph) (n : ℕ) {S X Y : ℕ} (t : ℕ) → Y ≤ n → Splits S X Y → Connected g X → holds X t ≡ 1 → ((v : ℕ) → holds Y v ≡ 1 → IsTable g v × Linked g t v) → Connected g S
join-all g zero {S} {X} {Y} t l p c h a = let e : X ≡ S = omega (arith, p.whole) in rw e at c
join-all g (suc n) {S} {X} {Y} t l p c h a = go (dec_lt 0 Y) (λ Z R k q d i b. join-all g n {S = S} {X = Z} {Y = R} t k q d i b)
  where
    go : Dec (0 < Y) → ((Z R : ℕ) → R ≤ n → Splits S Z R → Connected g Z → holds Z t ≡ 1 → ((v : ℕ) → holds R v ≡ 1 → IsTable g v × Linked g t v) → Connected g S) → Connected g S
    go (no z) ih = let e : X ≡ S = omega (arith, p.whole) in rw e at c
    go (yes k) ih =
        let o = holds-some Y k in
        let v = o.0 in
        let out = holds-minus Y v o.1 in
        let one = splits-inner p out in
        let s = holds-single v (a v o.1).0.from_one in
        ih (X + single v) (Y - single v)
        (omega (arith, out.whole, holds-pos (single v) v s))
        (splits-outer p out)
        (connected-join c (connected-single g v (a v o.1).0) one (record { from = t; to = v; from_in = h; to_in = s; linked = (a v o.1).1 }))
        ((in_left one t h))
        (λ u i. a u ((in_right out u i)))

pub goal-fits : (inside goal : ℕ) → inside < 65536 → Within goal inside → goal < 65536
goal-fits inside goal h w = omega (arith, (part_of goal inside w).whole)

pub table_fits : (x t : ℕ) → x < 65536 → holds x t ≡ 1 → (1 ≤ t) × (t ≤ 16)
table_fits x t h i = holds-lt 16 x t (omega arith) i

pub flood-fits : {inside seen todo : ℕ} → Flood inside seen todo → (seen ≤ inside) × (todo ≤ inside)
flood-fits {inside} {seen} {todo} f = (omega (arith, f.splits.whole), omega (arith, (part_of todo seen f.known).whole, f.splits.whole))

module _ (inside goal a x : ℕ) (w : Within goal inside) (l : Lowest goal a) (e : x ≡ single a) where
  start-in : holds inside a ≡ 1
  unfolding Within
  start-in = w a l.stands

  pub flood-start : Flood inside x x
  unfolding Within
  flood-start = rw e (record { splits = holds-minus inside a start-in; known = λ u h. h })

  pub start-meets : (u : ℕ) × (holds goal u ≡ 1) × (holds x u ≡ 1)
  start-meets = (a, l.stands, rw e (holds-single a (holds-out inside a start-in).1))

  pub reached-start : (g : Graph) → inside < 2 ^ table_count g → Reached g inside x x
  reached-start g k =
      let r = holds-lt (table_count g) inside a k start-in in
      rw e (record { connected = connected-single g a (record { from_one = r.0; to-count = r.1 }); onward = λ u v h i j. h })

module _ {inside seen todo : ℕ} (t m : ℕ) (f : Flood inside seen todo) (h : holds todo t ≡ 1) where
  abbrev fresh : ℕ
  fresh = bit_and m (inside - seen)

  fresh-of : Splits (inside - seen) fresh (inside - seen - fresh)
  fresh-of = part_of fresh (inside - seen) (unfold Within in (λ u e. (both_of m (inside - seen) u e).1))

  grown : Splits (seen + fresh) seen fresh
  grown = splits-inner f.splits fresh-of

  less : Splits todo (single t) (todo - single t)
  less = holds-minus todo t h

  todo-seen : (u : ℕ) → holds todo u ≡ 1 → holds seen u ≡ 1
  todo-seen u e = unfold Within in (f.known u e)

  left-apart : Disjoint (todo - single t) fresh
  left-apart = apart-tables (todo - single t) fresh (λ u x y. omega (arith, todo-seen u ((in_right less u x)), y, holds-apart seen fresh u grown.apart))

  pub todo-some : single t ≤ todo
  todo-some = omega (arith, less.whole)

  pub fresh-fits : fresh ≤ inside
  fresh-fits = omega (arith, and_le_r m (inside - seen))

  pub still-meets : (goal : ℕ) → (u : ℕ) × (holds goal u ≡ 1) × (holds seen u ≡ 1) → (u : ℕ) × (holds goal u ≡ 1) × (holds (seen + fresh) u ≡ 1)
  still-meets goal m = (m.0, m.1, in_left grown m.0 m.2)

  rest-e : inside - seen - fresh ≡ inside - (seen + fresh)
  rest-e = omega arith

  pub flood-step : Flood inside (seen + fresh) (todo - single t + fresh)
  flood-step = record { splits = rw rest-e at (splits-outer f.splits fresh-of); known = unfold Within in (λ u e. go u (dec_lt 0 (holds fresh u)) e) }
    where
      go : (u : ℕ) → Dec (0 < holds fresh u) → holds (todo - single t + fresh) u ≡ 1 → holds (seen + fresh) u ≡ 1
      go u (yes z) e = omega (arith, union-of grown u, holds-apart seen fresh u grown.apart)
      go u (no z) e = omega (arith, union-of grown u, holds-apart seen fresh u grown.apart, todo-seen u ((in_right less u (omega (arith, holds-sum (todo - single t) fresh u left-apart)))))

  module _ (g : Graph) {near : List ℕ} (n : Near g near) (k : inside < 2 ^ table_count g) (e : m ≡ at near t) (r : Reached g inside seen todo) where
    table : (u : ℕ) → holds inside u ≡ 1 → IsTable g u
    table u i = let o = holds-lt (table_count g) inside u k i in record { from_one = o.0; to-count = o.1 }

    fresh-linked : (v : ℕ) → holds fresh v ≡ 1 → IsTable g v × Linked g t v
    fresh-linked v i =
        let o = both_of m (inside - seen) v i in
        (table v ((in_right f.splits v o.1)), n.linked t v (table t ((in_left f.splits t (todo-seen t h)))) (rw e at o.0))

    pub reached-step : Reached g inside (seen + fresh) (todo - single t + fresh)
    reached-step = record { connected = join-all g fresh t (omega arith) grown r.connected (todo-seen t h) fresh-linked; onward = λ u v a b c. go u v (dec_lt 0 (holds fresh u)) (ℕ_discrete u t) a b c }
      where
        go : (u v : ℕ) → Dec (0 < holds fresh u) → Dec (u ≡ t) → holds (seen + fresh) u ≡ 1 → holds (inside - (seen + fresh)) v ≡ 1 → Linked g u v → holds (todo - single t + fresh) u ≡ 1
        go u v (yes z) d a b c = omega (arith, holds-sum (todo - single t) fresh u left-apart, holds-apart (todo - single t) fresh u left-apart)
        go u v (no z) (yes d) a b c =
            let i = (in_right fresh-of v (rw (← rest-e) at b)) in
            let j = both-in m (inside - seen) v (rw e (n.all t v (rw d at c))) i in
            absurd (omega (arith, j, holds-apart fresh (inside - seen - fresh) v fresh-of.apart, rw (← rest-e) at b))
        go u v (no z) (no d) a b c =
            let i = r.onward u v (omega (arith, union-of grown u)) ((in_right fresh-of v (rw (← rest-e) at b))) c in
            omega (arith, holds-sum (todo - single t) fresh u left-apart, union-of less u, other (dec_lt 0 (holds (single t) u)))
          where
            other : Dec (0 < holds (single t) u) → holds (single t) u ≡ 0
            other (yes y) = absurd (d (sym (holds-single-only t u (holds-out todo t h).1 (omega (arith, union-of less u, holds-apart (single t) (todo - single t) u less.apart)))))
            other (no y) = omega arith

-- ---- what the flood tells
module _ (near : List ℕ) {inside goal seen todo : ℕ} (f : Flood inside seen todo) (r : (g : Graph) → Near g near → inside < 2 ^ table_count g → Reached g inside seen todo) where
  pub told-no : (u : ℕ) × (holds goal u ≡ 1) × (holds seen u ≡ 1) → todo ≡ 0 → (Disjoint goal (inside - seen) → ⊥) → Told near inside goal false
  told-no m e n = record { misses = λ z g s k. apart g s k; meets = λ z. absurd (not-both false z refl) }
    where
      apart : (g : Graph) → Near g near → inside < 2 ^ table_count g → Apart g goal inside
      apart g s k = record { none = λ S c w v. across S c w v }
        where
          across : (S : ℕ) → Connected g S → Within goal S → Within S inside → ⊥
          across S c w v =
              let o = shared goal (inside - seen) n in
              let b = crossing f.splits v m.2 (c.walks m.0 o.0 (unfold Within in (w m.0 m.1)) (unfold Within in (w o.0 o.1))) o.2 in
              omega (arith, holds-pos todo b.from ((r g s k).onward b.from b.to b.from_in b.to_in b.linked))

  pub told-yes : Disjoint goal (inside - seen) → Told near inside goal true
  told-yes d = record { misses = λ z. absurd (not-both true refl z); meets = λ z e g s k. rw (whole e) at (r g s k).connected }
    where
      whole : goal ≡ inside → seen ≡ inside
      whole e = go (dec_lt 0 (inside - seen))
        where
          go : Dec (0 < inside - seen) → seen ≡ inside
          go (yes l) =
              let o = holds-some (inside - seen) l in
              absurd (omega (arith, o.1, holds-apart inside (inside - seen) o.0 (rw e at d), (in_right f.splits o.0 o.1)))
          go (no z) = omega (arith, f.splits.whole)

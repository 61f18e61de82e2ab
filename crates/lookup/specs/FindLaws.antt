-- What one look tells of the place; the rows that a query has are found.
use Rattle.std.specs.Prelude.{◌≡◌, true, false, ℕ, zero, suc, ◌+◌, ◌-◌, ◌^◌, ◌≤◌, ◌<◌, length, get_or, take}
use Rattle.std.proofs.Common.{sym, ap, ◌∙◌, arith, ltb-true, ltb-false, pow_mono, get_or-take, get_or-drop}
use mathlib.Core.List.{List, [], ◌∷◌, map, Memᴰ}
use Rattle.std.proofs.Math.Decide.{dec_lt}
use Rattle.std.proofs.Math.Seq.{slice, length-slice}
use Rattle.rules.specs.Sets.{size, tables}
use Rattle.rules.specs.Query.{Graph, table_count}
use Rattle.rules.specs.Connected.{Connected}
use Rattle.rules.specs.Rows.{Ordered, Before, before, rows_of}
use Rattle.rules.specs.laws.Lists.{at_in, in-at}
use Rattle.rules.proofs.laws.Rows.{rows_all, rows-only, rows-ordered, below_all, yes-before}
use Rattle.sets.specs.Order.{key}
use Rattle.sets.specs.Laws.{before-key, before-width}
use Rattle.skips.specs.SizeRows.{SizeRows, InOrder, Stands}

-- ---- one look at the row m, where s is sought
module _ (sets : List ℕ) (from to s m : ℕ) (z : SizeRows sets from to (size s) 32) (o : InOrder sets from to) (lm : from ≤ m) (mt : m < to) (ls : s < 2 ^ 32) where
  look-sized : size (get_or sets m 0) ≡ size s
  look-sized = z.sized m lm mt

  look-below : get_or sets m 0 < 2 ^ 32
  look-below = z.below m lm mt

  -- of two rows, the later has the smaller key
  falls : (p q : ℕ) → from ≤ p → p < q → q < to → key 32 (get_or sets q 0) < key 32 (get_or sets p 0)
  falls p q a b c =
      ltb-true _ _ (
      sym (before-key 32 (get_or sets p 0) (get_or sets q 0) (z.below p a (omega arith)) (z.below q (omega arith) c) (z.sized p a (omega arith) ∙ sym (z.sized q (omega arith) c)))
      ∙ o.ascends p q a b c
      )

  -- s comes after the row: it stands behind it
  pub look-behind : before (tables 32 (get_or sets m 0)) (tables 32 s) ≡ true → (p : ℕ) → Stands sets from to s p → m + 1 ≤ p
  look-behind e p h = go (dec_lt m p) (dec_lt p m)
    where
      k : key 32 s < key 32 (get_or sets m 0)
      k = ltb-true _ _ (sym (before-key 32 (get_or sets m 0) s look-below ls look-sized) ∙ e)

      go : Dec (m < p) → Dec (p < m) → m + 1 ≤ p
      go (yes l) d = omega arith
      go (no g) (yes l) = absurd (omega (arith, k, ap (key 32) h.there, falls p m h.after l mt))
      go (no g) (no f) =
          let e : p ≡ m = omega arith in
          absurd (omega (arith, k, ap (key 32) h.there, ap (λ (q : ℕ). key 32 (get_or sets q 0)) e))

  -- it does not: it stands there or ahead of it
  pub look-ahead : before (tables 32 (get_or sets m 0)) (tables 32 s) ≡ false → (p : ℕ) → Stands sets from to s p → p ≤ m
  look-ahead e p h = go (dec_lt m p)
    where
      k : key 32 (get_or sets m 0) ≤ key 32 s
      k = ltb-false _ _ (sym (before-key 32 (get_or sets m 0) s look-below ls look-sized) ∙ e)

      go : Dec (m < p) → p ≤ m
      go (yes l) = absurd (omega (arith, k, ap (key 32) h.there, falls m p lm l h.ahead))
      go (no g) = omega arith

-- ---- the rows that laying out writes
ordered_at : (n : ℕ) (l : List ℕ) → Ordered (map (tables n) l) → (i j : ℕ) → i < j → j < length l → Before (tables n (get_or l i 0)) (tables n (get_or l j 0))
unfolding Ordered
ordered_at n [] o i j a b = absurd (omega arith)
ordered_at n (x ∷ l) o i zero a b = absurd (omega arith)
ordered_at n (x ∷ l) o zero (suc j) a b = o.0 (tables n (get_or l j 0)) (mathlib.Core.List.Memᴰ.map (tables n) (at_in 0 l j (omega arith)))
ordered_at n (x ∷ l) o (suc i) (suc j) a b = ordered_at n l o.1 i j (omega arith) (omega arith)

-- a row of a part of the list, and its place in the list
slice_at : (sets : List ℕ) (from to j : ℕ) → j < to - from → get_or (slice from to sets) j 0 ≡ get_or sets (from + j) 0
slice_at sets from to j h = get_or-drop from (take to sets) j 0 ∙ get_or-take to sets (from + j) 0 (omega arith)

module _ (g : Graph) (k : ℕ) (sets : List ℕ) (from to : ℕ) (ft : from ≤ to) (tl : to ≤ length sets) (e : slice from to sets ≡ rows_of g k) where
  row-there : (p : ℕ) → from ≤ p → p < to → get_or (rows_of g k) (p - from) 0 ≡ get_or sets p 0
  row-there p a b =
      let f : from + (p - from) ≡ p = omega arith in
      ap (λ (l : List ℕ). get_or l (p - from) 0) (sym e) ∙ slice_at sets from to (p - from) (omega arith) ∙ ap (λ (q : ℕ). get_or sets q 0) f

  row_count : length (rows_of g k) ≡ to - from
  row_count = ap length (sym e) ∙ length-slice from to sets tl

  row-in : (p : ℕ) → from ≤ p → p < to → Memᴰ (get_or sets p 0) (rows_of g k)
  row-in p a b = mathlib.Core.List.Memᴰ.cast (sym (row-there p a b)) (at_in 0 (rows_of g k) (p - from) (omega (arith, row_count)))

  -- they are the sets of that size
  pub rows-sized : (n : ℕ) → table_count g ≤ n → SizeRows sets from to k n
  rows-sized n h = record {
    forward = ft;
    inside = tl;
    sized = λ p a b. (rows-only g k _ (row-in p a b)).1;
    below = λ p a b. omega (arith, below_all g _ (rows-only g k _ (row-in p a b)).0, pow_mono {i = table_count g} {j = n} h);
  }

  -- in memo order
  pub rows-in-order : table_count g ≤ 32 → InOrder sets from to
  rows-in-order h = record {
    ascends = λ p q a b c.
        let lp : get_or sets p 0 < 2 ^ table_count g = below_all g _ (rows-only g k _ (row-in p a (omega arith))).0 in
        let lq : get_or sets q 0 < 2 ^ table_count g = below_all g _ (rows-only g k _ (row-in q (omega arith) c)).0 in
        let w = ordered_at (table_count g) (rows_of g k) (rows-ordered g k) (p - from) (q - from) (omega arith) (omega (arith, row_count)) in
        let v : Before (tables (table_count g) (get_or sets p 0)) (tables (table_count g) (get_or sets q 0)) = rw (row-there p a (omega arith), row-there q (omega arith) c) at w in
        sym (before-width (table_count g) 32 (get_or sets p 0) (get_or sets q 0) h lp lq) ∙ yes-before _ _ v;
  }

  -- every connected set of that size has its row
  pub rows-found : (S : ℕ) → Connected g S → size S ≡ k → (p : ℕ) × Stands sets from to S p
  rows-found S c z =
      let m : Memᴰ S (rows_of g k) = rw z at (rows_all g S c) in
      let r = in-at 0 (rows_of g k) S m in
      let l : r.0 < to - from = omega (arith, r.1, row_count) in
      (from + r.0, record { after = omega arith; ahead = omega arith; there = sym (slice_at sets from to r.0 l) ∙ ap (λ (x : List ℕ). get_or x r.0 0) e ∙ r.2 })

  -- what a search for it gives is its row
  pub rows-stand : (S r : ℕ) → Connected g S → size S ≡ k → ((p : ℕ) → Stands sets from to S p → r ≡ p) → Stands sets from to S r
  rows-stand S r c z h = let f = rows-found S c z in rw (h f.0 f.1) f.1

-- Laws that no proof cites any more, since the check finds their goals: they hold as before.
use Rattle.std.specs.Prelude.{◌≡◌, refl, true, false, List, ℕ, zero, suc, ◌+◌, ◌-◌, ◌*◌, ◌/◌, ◌≤◌, ◌<◌, Bool, length, get_or}
use Rattle.std.proofs.Common.{sym, ◌∙◌, ap₂, add-one, mul-suc, arith, Fits}
use Rattle.std.specs.Int.{w64}
use Rattle.rules.specs.Query.{Graph, table_count}
use Rattle.rules.specs.declared.Group.{Group}
use Rattle.rules.specs.Schedule.{inner_at}
use Rattle.rules.specs.Checked.{GoodGraph}
use Rattle.rules.specs.Rows.{rows_of}
use Rattle.shares.specs.declared.Share.{Share}
use Rattle.shares.specs.declared.Span.{Span}
use Rattle.shares.specs.Shares.{few, ShareOf}
use Rattle.shares.specs.Nowhere.{placed}
use Rattle.pairs.specs.Joinable.{is_joinable}
use Rattle.pairs.specs.Places.{Drives, Ground, start_of, first_row, end_row, ahead_of, Along, RowFrom, NextFrom, Countable, rows_of_size, count_at, count_to}
use Rattle.pairs.specs.PlaceLaws.{drives, start-memo, memo-few, first-le, ahead-met, met-few}
use Rattle.pairs.specs.SpanLaws.{Lies, span-lies, share-fits}
use Rattle.pairs.specs.LeafLaws.{Walked, walked-found, walked_all}
use Rattle.pairs.specs.FindLaws.{Clear, Sized, Rowed, row_span}
use Rattle.pairs.specs.FindLaws as find

-- ---- the search's rows
pub clear_none : (g : Graph) (group : Group) (h : Share) (x : ℕ) → Clear g group h x x
clear_none g group h x n a b = absurd (omega arith)

pub sized_of : (g : Graph) (sets cells starts cell_starts : List ℕ) → Ground g sets cells starts cell_starts → (group : Group) (d i x wide : ℕ) → RowFrom g group d i x → Drives g group d → wide ≡ inner_at group d
    → Sized g group d wide (get_or starts wide 0) (get_or starts (wide + 1) 0) (get_or starts d 0) (get_or starts (d + 1) 0) (get_or cell_starts wide 0)
sized_of g sets cells starts cell_starts z group d i x wide at driven e = rw e (record {
  wide_is = refl;
  driven = driven;
  base-is = z.starts-known (inner_at group d) (omega (arith, driven, at.from_one)) (omega (arith, driven));
  end_is = z.starts-known (inner_at group d + 1) (omega arith) (omega (arith, driven, at.from_one));
  from_is = z.starts-known d at.from_one (omega (arith, driven));
  to_is = z.starts-known (d + 1) (omega arith) (omega (arith, driven));
  cell-is = z.cells-known (inner_at group d) (omega (arith, driven, at.from_one)) (omega (arith, driven));
})

pub le-square : (n : ℕ) → n ≤ n * n
le-square zero = omega arith
le-square (suc n) = omega (arith, mul-suc (suc n) n)

-- one more driving size
pub count-more : (starts : List ℕ) (group : Group) (k : ℕ) → count_to starts group (k + 1) ≡ count_to starts group k + count_at starts group (k + 1)
unfolding count_to
count-more starts group k = rw (add-one k)

-- one more driving size, which is the inner size, or less
pub count_same : (starts : List ℕ) (group : Group) (k : ℕ) {n m wide : ℕ} → wide ≡ inner_at group (k + 1) → n ≡ count_to starts group k → k + 1 ≡ wide → m ≡ n + (rows_of_size starts (k + 1) * rows_of_size starts (k + 1) - rows_of_size starts (k + 1)) / 2 → m ≡ count_to starts group (k + 1)
count_same starts group k we e h i = i ∙ ap₂ (λ (a b : ℕ). a + b) e (find.count_same starts group we h refl) ∙ sym (count-more starts group k)

pub count_less : (starts : List ℕ) (group : Group) (k wide : ℕ) {n m : ℕ} → wide ≡ inner_at group (k + 1) → n ≡ count_to starts group k → (k + 1 ≡ wide → ⊥) → m ≡ n + rows_of_size starts (k + 1) * rows_of_size starts wide → m ≡ count_to starts group (k + 1)
count_less starts group k wide we e h i = i ∙ ap₂ (λ (a b : ℕ). a + b) e (find.count_less starts group we h refl) ∙ sym (count-more starts group k)

-- ---- numbers that fit
pub few-fit : {n : ℕ} → n ≤ few → Fits w64 n
few-fit h = omega arith

pub few-cell : {i : ℕ} → i < few → Fits w64 (i * 8)
few-cell h = omega arith

pub cell-fits : {i to : ℕ} → i < to → to ≤ few → Fits w64 (i * 8)
cell-fits h l = omega arith

pub row_fits : {i to : ℕ} → i < to → to ≤ few → Fits w64 (i + 1)
row_fits h l = omega arith

-- a place by the values that it was found with
pub place-fits : {n m j k f h : ℕ} → n ≡ m → j ≡ k → f ≡ h → m + (k - h) ≤ few + few → Fits w64 (n + (j - f))
place-fits a b c l = omega arith

pub row-few : {i j to : ℕ} → j ≡ i → i < to → to ≤ few → j ≤ few
row-few e h l = omega arith

pub part-few : (from : ℕ) {to : ℕ} → to ≤ few → to - from ≤ few
part-few from h = omega arith

-- ---- orders
pub le_same : {a b x y : ℕ} → a ≡ x → b ≡ y → x ≤ y → a ≤ b
le_same a b h = omega arith

pub le-more : (k : ℕ) {a n : ℕ} → a ≤ n → a ≤ n + k
le-more k h = omega arith

pub not-past : {d h : ℕ} → d ≤ h → h < d → ⊥
not-past a b = omega arith

-- what a loop has left to do
pub less-size : {d h : ℕ} → d ≤ h → h + 1 - (d + 1) < h + 1 - d
less-size l = omega arith

pub less-row : {i to : ℕ} → i < to → to - (i + 1) < to - i
less-row l = omega arith

pub less-inner : {j r end : ℕ} → j < r → j < end → end - r < end - j
less-inner l h = omega arith

-- ---- the inner size, as it is computed
pub falls : (group : Group) (d : ℕ) → group.falling ≡ true → group.base - d ≡ inner_at group d
unfolding inner_at
falls group d e = rw e refl

pub falls-fits : (group : Group) (d : ℕ) → 1 ≤ d → d ≤ inner_at group d → group.falling ≡ true → d ≤ group.base
falls-fits group d l u e = omega (arith, falls group d e)

pub stays : (group : Group) (d : ℕ) → group.falling ≡ false → group.base ≡ inner_at group d
unfolding inner_at
stays group d e = rw e refl

-- ---- a driving size d of a group, in the tables of starts, n long
pub drives-at : {g : Graph} {group : Group} {d i x : ℕ} → RowFrom g group d i x → d ≤ group.last → Drives g group d
drives-at at l = drives at.fit at.from_one l

pub inner-ready : {g : Graph} {group : Group} {d i x : ℕ} → RowFrom g group d i x → d ≤ group.last → (1 ≤ d) × (d ≤ inner_at group d)
inner-ready at l = (at.from_one, (drives-at at l).rising)

module _ {g : Graph} (good : GoodGraph g) {group : Group} {d i x : ℕ} (at : RowFrom g group d i x) (l : d ≤ group.last) where
  driven : Drives g group d
  driven = drives-at at l

  pub size_fits : Fits w64 (d * 8)
  size_fits = omega (arith, good.few-tables, driven)

  pub next-size-fits : Fits w64 (d + 1)
  next-size-fits = omega (arith, good.few-tables, driven)

  pub next-cell-fits : Fits w64 ((d + 1) * 8)
  next-cell-fits = omega (arith, good.few-tables, driven)

  module _ {wide : ℕ} (e : wide ≡ inner_at group d) where
    pub inner-fits : Fits w64 (wide * 8)
    inner-fits = omega (arith, good.few-tables, driven)

    pub end_fits : Fits w64 (wide + 1)
    end_fits = omega (arith, good.few-tables, driven)

    pub end-cell-fits : Fits w64 ((wide + 1) * 8)
    end-cell-fits = omega (arith, good.few-tables, driven)

    module _ {n : ℕ} (long : table_count g + 1 < n) where
      pub inner-in : wide < n
      inner-in = omega (arith, driven)

      pub end-in : wide + 1 < n
      end-in = omega (arith, at.from_one, driven)

      pub first-ready : {j : ℕ} → j ≤ few → (wide < n) × (j ≤ few)
      first-ready h = (inner-in, h)

  module _ {n : ℕ} (long : table_count g + 1 < n) where
    pub size_in : d < n
    size_in = omega (arith, driven)

    pub next-size-in : d + 1 < n
    next-size-in = omega (arith, driven)

-- ---- its driving rows
module _ {g : Graph} {group : Group} {d wide base end from to cell : ℕ} (size : Sized g group d wide base end from to cell) where
  pub rows-forward : {i x : ℕ} → RowFrom g group d i x → from ≤ to
  rows-forward at = omega (arith, size.from_is, size.to_is, at.row_from, at.row-to)

  pub row-behind : {i x : ℕ} → RowFrom g group d i x → from ≤ i
  row-behind at = omega (arith, size.from_is, at.row_from)

  pub rows-done : {i : ℕ} → to ≤ i → start_of g (d + 1) ≤ i
  rows-done h = omega (arith, size.to_is)

-- ---- the inner size of driving size k + 1, where candidates are counted
pub wide-known : {starts : List ℕ} {group : Group} (c : Countable starts group) {k e wide : ℕ} → k < e → e ≡ group.last → wide ≡ inner_at group (k + 1) → (1 ≤ wide) × (wide < c.sizes)
wide-known c {k} l e w = (omega (arith, c.rising (k + 1) (omega arith) (omega arith)), omega (arith, c.inside (k + 1) (omega arith) (omega arith)))

-- ---- a driving row, of which the walk has reached row j, found or not
module _ (g : Graph) (sets cells starts cell_starts : List ℕ) (z : Ground g sets cells starts cell_starts) (good : GoodGraph g) (group : Group) (h : Share) (sh : ShareOf g group h)
    (d i x wide base end cell first : ℕ) (own : Span) (r : Rowed g sets cells group h d i x wide base end cell first own) (j : ℕ) (w : Walked g sets (get_or sets i 0) own j) where
  -- the row is done
  module _ (l : own.end ≤ j) where
    along : Along g sets (get_or sets i 0) own j
    along = walked_all g sets (get_or sets i 0) own w l

    pub rowed-clear : Clear g group h x (x + (end - first))
    rowed-clear = find.rowed-clear g sets cells starts cell_starts z good group h sh d i x wide base end cell first own r j along l

    pub rowed-next : RowFrom g group d (i + 1) (x + (end - first))
    rowed-next = find.rowed-next g sets cells starts cell_starts z good group h sh d i x wide base end cell first own r j along l

    pub rowed-few : x + (end - first) ≤ few
    rowed-few = find.rowed-few g sets cells starts cell_starts z good group h sh d i x wide base end cell first own r j along l

  -- its row j has a number
  pub rowed-place : j < own.end → (first ≤ j) × (x + (j - first) ≤ few + few)
  rowed-place l =
      let at = r.at in
      let few-end : end_row g group d ≤ few = omega (arith, start-memo g (inner_at group d + 1) (omega (arith, r.driven, at.from_one)), memo-few g good) in
      let lies : Lies (first_row g group d i) (end_row g group d) (row_span g group h d i) = span-lies h (share-fits g group h sh good at.fit) (ahead_of g group d i) (length (rows_of g d)) (i - start_of g d) (first_row g group d i) (end_row g group d) (first-le g group d at.from_one r.driven i at.row_from r.more) few-end in
      let a : Lies (first_row g group d i) (end_row g group d) own = rw r.own_is lies in
      let c = (r.span-cells.rows j w.from l).early in
      (omega (arith, r.first-is, a.after, w.from), omega (arith, at.ahead, ahead-met g group d i at.from_one r.driven at.row_from at.row-to, met-few g good group at.fit))

  -- its row j is found
  pub rowed-found : (x₀ : ℕ) → x₀ ≤ x → Clear g group h x₀ x → j < own.end → {b : Bool} → b ≡ is_joinable g (get_or sets i 0) (get_or sets j 0) → b ≡ true
      → NextFrom g group h x₀ (placed (x + (j - first)) (record { size = d; row = i; inner = j }))
  rowed-found x₀ a c l e t = find.rowed-found g sets cells starts cell_starts z good group h sh d i x wide base end cell first own r j (walked-found g sets (get_or sets i 0) own w l e t) x₀ a c l

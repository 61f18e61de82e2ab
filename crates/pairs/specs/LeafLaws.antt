-- Laws of one inner row, in the form in which the code comes to them.
use Rattle.std.specs.Prelude.{◌≡◌, Bool, true, false, List, ℕ, zero, suc, ◌+◌, ◌-◌, ◌*◌, ◌/◌, ◌%◌, ◌^◌, ◌≤◌, ◌<◌, length, get_or}
use Rattle.std.proofs.Common.{sym, ◌∙◌, arith, ne_eqb}
use Rattle.std.proofs.Math.Nat.{mod_self, zero-mod}
use Rattle.std.proofs.Math.Decide.{dec_lt}
use Rattle.std.specs.Int.Bits.{bit_and, and_step}
use Rattle.std.proofs.lemmas.Nat.{and_shr, and_le_r}
use Rattle.rules.specs.Sets.{holds, Disjoint, rank, Lowest}
use Rattle.rules.specs.Query.{Graph}
use Rattle.rules.specs.laws.Sets.{holds-apart, holds-lt, lt-of-holds}
use Rattle.sets.specs.Laws.{lowest-unique, lowest-is, rank_lt}
use Rattle.shares.specs.declared.Span.{Span}
use Rattle.shares.specs.Shares.{few, in_span, Aligned}
use Rattle.pairs.specs.Joinable.{is_joinable}
use Rattle.pairs.specs.Places.{Hops, RowCells, Onward, Along}
use Rattle.pairs.specs.SpanLaws.{stride_on, stride-between, stride-gap, span-true, true-span}

-- ---- a hop over the rows that hold a table
-- a table of both sets is one of each
holds-both : (a b t : ℕ) → holds (bit_and a b) t ≡ 1 → (holds a t ≡ 1) × (holds b t ≡ 1)
unfolding holds
holds-both a b zero h = absurd (omega arith)
holds-both a b (suc i) h =
    let e : bit_and (a / 2 ^ i) (b / 2 ^ i) % 2 ≡ 1 = rw (and_shr a b i) at h in
    (omega (arith, and_step (a / 2 ^ i) (b / 2 ^ i)), omega (arith, and_step (a / 2 ^ i) (b / 2 ^ i)))

-- what two overlapping sets share is some tables, and the second has them all
pub overlap-held : (X Y : ℕ) → (bit_and X Y ≡ 0 → ⊥) → (0 < bit_and X Y) × ((t : ℕ) → holds (bit_and X Y) t ≡ 1 → holds Y t ≡ 1)
overlap-held X Y h = (omega arith, λ t e. (holds-both X Y t e).1)

module _ {sets cells : List ℕ} {base cell k j : ℕ} (z : RowCells sets cells base cell k j) where
  -- tables of the row alone make a set of tables 1 to 32
  pub held_below : {both : ℕ} → ((t : ℕ) → holds both t ≡ 1 → holds (get_or sets j 0) t ≡ 1) → both < 2 ^ 32
  held_below {both} h = lt-of-holds 32 both (λ t e. (holds-lt 32 (get_or sets j 0) t z.below (h t e)).1)

  module _ (t : ℕ) {r : ℕ} (h : holds (get_or sets j 0) t ≡ 1) (e : r ≡ rank (get_or sets j 0) t) where
    -- the cell of a table that the row holds is one of the row's
    pub cell-inside : cell + (j - base) * k + r < length cells
    cell-inside = omega (arith, z.room, z.sized, rank_lt (get_or sets j 0) t h)

    -- it says where to go on
    pub cell-hops : Hops sets j t (base + get_or cells (cell + (j - base) * k + r) 0 - 1)
    cell-hops = rw e (z.hops t h)

-- a set has one lowest table
pub for-lowest : {sets : List ℕ} {both j t r : ℕ} → Lowest both t → Hops sets j t r → (u : ℕ) → Lowest both u → Hops sets j u r
for-lowest a h u b = rw (lowest-unique b a) h

-- ---- a step from an inner row
-- to the next row of the stride
pub onward-next : (sets : List ℕ) (X j step : ℕ) → 1 ≤ step → j < few → Onward sets X j step (j + step)
onward-next sets X j step a b =
    let e : j + step - j ≡ step = omega arith in
    record { after = omega arith; near = omega arith; on = rw e (mod_self step); passed = λ p l u o d. stride-gap step j p l u o }

module _ (X : ℕ) {sets : List ℕ} {j to : ℕ} (below : get_or sets j 0 < 2 ^ 32) (some : bit_and X (get_or sets j 0) ≡ 0 → ⊥) (h : (t : ℕ) → Lowest (bit_and X (get_or sets j 0)) t → Hops sets j t to) where
  -- some table of both
  hop-table : (t : ℕ) × (holds (bit_and X (get_or sets j 0)) t ≡ 1) × Hops sets j t to
  hop-table =
      let l = lowest-is 32 (bit_and X (get_or sets j 0)) (overlap-held X (get_or sets j 0) some).0 (omega (arith, and_le_r X (get_or sets j 0))) in
      (_, l.stands, h _ l)

  -- a hop goes ahead
  pub hop-ahead : (j < to) × (to ≤ few)
  hop-ahead = (hop-table.2.after, hop-table.2.inside)

  -- over rows that overlap as this one does, then on to the stride
  pub onward-hop : {step r : ℕ} → Aligned j to step r → Onward sets X j step r
  onward-hop {step} {r} a =
      record { after = omega (arith, hop-ahead.0, a.reached); near = omega (arith, hop-ahead.1, a.near); on = a.on; passed = passed }
    where
      passed : (p : ℕ) → j < p → p < r → (p - j) % step ≡ 0 → Disjoint X (get_or sets p 0) → ⊥
      passed p l u o d = go (dec_lt p to)
        where
          go : Dec (p < to) → ⊥
          go (yes m) =
              let t = hop-table in
              omega (arith, (holds-both X (get_or sets j 0) t.0 t.1).0, t.2.held p (omega arith) m, holds-apart X (get_or sets p 0) t.0 d)
          go (no m) = stride-gap step p r u (omega (arith, a.near)) (stride-between step j p r (omega arith) (omega arith) o a.on)

-- ---- the search along a span
-- up to row j of the span's stride, no row of it may be joined with X
pub record Walked (g : Graph) (sets : List ℕ) (X : ℕ) (own : Span) (j : ℕ) : Type 0 where
  pub from : own.from ≤ j
  pub on : (j - own.from) % own.step ≡ 0
  pub clear : (p : ℕ) → in_span own p ≡ true → p < j → is_joinable g X (get_or sets p 0) ≡ false

module _ (g : Graph) (sets : List ℕ) (X : ℕ) (own : Span) where
  -- before the first row
  pub walked_none : Walked g sets X own own.from
  walked_none =
      let e : own.from - own.from ≡ 0 = omega arith in
      record { from = omega arith; on = rw e (zero-mod own.step); clear = λ p i l. absurd (omega (arith, (span-true own p i).0)) }

  module _ {j : ℕ} (w : Walked g sets X own j) where
    -- past a row that may not be joined, and those that a step from it passes
    pub walked_on : {b : Bool} {r : ℕ} → b ≡ is_joinable g X (get_or sets j 0) → b ≡ false → Onward sets X j own.step r → Walked g sets X own r
    walked_on {b} {r} e f o = record {
      from = omega (arith, w.from, o.after);
      on = stride_on own.step own.from j r w.from (omega (arith, o.after)) w.on o.on;
      clear = clear;
    }
      where
        clear : (p : ℕ) → in_span own p ≡ true → p < r → is_joinable g X (get_or sets p 0) ≡ false
        clear p i l = go (dec_lt p j) (dec_lt j p)
          where
            go : Dec (p < j) → Dec (j < p) → is_joinable g X (get_or sets p 0) ≡ false
            go (yes a) d = w.clear p i a
            go (no a) (yes u) =
                let s = stride-between own.step own.from j p w.from (omega arith) w.on (span-true own p i).2 in
                rw (ne_eqb (bit_and X (get_or sets p 0)) 0 (o.passed p u l s))
            go (no a) (no u) = let s : p ≡ j = omega arith in rw s (sym e ∙ f)

    -- the first row that may be joined
    pub walked-found : {b : Bool} → j < own.end → b ≡ is_joinable g X (get_or sets j 0) → b ≡ true → Along g sets X own j
    walked-found l e f = record { clear = w.clear; found = λ u. (true-span own j w.from l w.on, sym e ∙ f) }

    -- or none
    pub walked_all : own.end ≤ j → Along g sets X own j
    walked_all l = record { clear = w.clear; found = λ u. absurd (omega arith) }

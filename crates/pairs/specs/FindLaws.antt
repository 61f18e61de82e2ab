-- How the search goes through driving rows: what a row that is done, a size that is done and a pair that is found tell of the next pair.
use Rattle.std.specs.Prelude.{◌≡◌, refl, true, false, cond, List, ℕ, zero, suc, ◌+◌, ◌-◌, ◌*◌, ◌/◌, ◌≤◌, ◌<◌, eqb, length, get_or}
use Rattle.std.proofs.Common.{sym, ap, ◌∙◌, mul-suc, mul-le-mul, arith, eq-eqb, ne_eqb, length-take}
use Rattle.std.proofs.lemmas.Option.{same_Some, none-some}
use Rattle.std.proofs.Math.Decide.{dec_lt}
use Rattle.rules.specs.Query.{Graph}
use Rattle.rules.specs.declared.Group.{Group}
use Rattle.rules.specs.Schedule.{inner_at}
use Rattle.rules.specs.Checked.{GoodGraph}
use Rattle.rules.specs.Rows.{rows_of, memo}
use Rattle.shares.specs.declared.places.Place.{Place}
use Rattle.shares.specs.declared.places.Spot.{Spot}
use Rattle.shares.specs.declared.Share.{Share}
use Rattle.shares.specs.declared.Span.{Span}
use Rattle.shares.specs.Shares.{few, ShareFits, ShareOf, span_of, on_span, in_span}
use Rattle.pairs.specs.Joinable.{is_joinable}
use Rattle.pairs.specs.Places.{Fit, Drives, start_of, cell_of, first_of, first_row, end_row, ahead_of, own_at, rows_of_size, count_at, count_to, Ground, SpanCells, Along, RowFrom, At, Waits, NextFrom}
use Rattle.shares.specs.Nowhere.{placed, nowhere}
use Rattle.pairs.specs.PlaceLaws.{start-next, start-mono, start-memo, ahead-row, ahead-size, ahead-zero, ahead-end, first-from, first-le, memo-few, memo-inside, ahead-met, met-few}
use Rattle.pairs.specs.SpanLaws.{span-true, share-total, share-fits, Lies, span-lies, on-lies}
use Rattle.pairs.specs.GroundLaws.{ground-set, ground-cells, own-at, not_own, own_on, not_on}

-- the worker may join none of the candidates x to y
abbrev pub Clear : Graph → Group → Share → ℕ → ℕ → Type 0
Clear g group h x y = (n : ℕ) → x ≤ n → n < y → own_at g group h n ≡ false

pub clear-on : (g : Graph) (group : Group) (h : Share) (x y z : ℕ) → Clear g group h x y → Clear g group h y z → Clear g group h x z
clear-on g group h x y z p q n a b = go (dec_lt n y)
  where
    go : Dec (n < y) → own_at g group h n ≡ false
    go (yes l) = p n a l
    go (no f) = q n (omega arith) b

-- a worker at its own candidate x waits there
pub waits-there : {g : Graph} {group : Group} {h : Share} {x : ℕ} {s : Spot} → At g group x s → own_at g group h x ≡ true → Waits g group h (placed x s)
waits-there {g} {group} {h} {x} {s} a o = record { there = λ t e. (rw (same_Some s t e) at a, o); none = λ e. absurd (none-some s (sym e)) }

-- the worker's inner rows of driving row i of size d
abbrev pub row_span : Graph → Group → Share → ℕ → ℕ → Span
row_span g group h d i = span_of h (ahead_of g group d i) (length (rows_of g d)) (i - start_of g d) (first_row g group d i) (end_row g group d)

-- ---- the values that the search keeps
-- of a driving size d: where its rows and the inner rows begin and end, and the first skip cell of these
pub record Sized (g : Graph) (group : Group) (d wide base end from to cell : ℕ) : Type 0 where
  pub wide_is : wide ≡ inner_at group d
  pub driven : Drives g group d
  pub base-is : base ≡ start_of g (inner_at group d)
  pub end_is : end ≡ end_row g group d
  pub from_is : from ≡ start_of g d
  pub to_is : to ≡ start_of g (d + 1)
  pub cell-is : cell ≡ cell_of g (inner_at group d)

-- of one driving row of it: its first inner row, and the worker's rows
pub record Rowed (g : Graph) (sets cells : List ℕ) (group : Group) (h : Share) (d i x wide base end cell first : ℕ) (own : Span) : Type 0 where
  pub wide_is : wide ≡ inner_at group d
  pub at : RowFrom g group d i x
  pub driven : Drives g group d
  pub more : i < start_of g (d + 1)
  pub first-is : first ≡ first_row g group d i
  pub end_is : end ≡ end_row g group d
  pub first-end : first ≤ end
  pub own_is : own ≡ row_span g group h d i
  pub span-cells : SpanCells sets cells base cell wide own

module _ (g : Graph) (sets cells starts cell_starts : List ℕ) (z : Ground g sets cells starts cell_starts) where
  -- the first inner row, as the table of starts says
  pub first-known : (group : Group) (d i : ℕ) → 1 ≤ d → Drives g group d → first_of starts (inner_at group d) d i ≡ first_row g group d i
  first-known group d i a b = ap (λ (n : ℕ). cond (eqb d (inner_at group d)) (i + 1) n) (z.starts-known (inner_at group d) (omega arith) (omega arith))

  module _ (good : GoodGraph g) (group : Group) (h : Share) (sh : ShareOf g group h) where
    long : (n : ℕ) → n ≤ length (memo g) → n ≤ length sets
    long n l = omega (arith, length-take (length (memo g)) sets, ap length z.sets-laid)

    -- ---- driving row i of size d, of which x is the first candidate
    module _ (d i x : ℕ) (at : RowFrom g group d i x) (driven : Drives g group d) (more : i < start_of g (d + 1)) where
      few-end : end_row g group d ≤ few
      few-end = omega (arith, start-memo g (inner_at group d + 1) (omega (arith, driven, at.from_one)), memo-few g good)

      lies : Lies (first_row g group d i) (end_row g group d) (row_span g group h d i)
      lies = span-lies h (share-fits g group h sh good at.fit) (ahead_of g group d i) (length (rows_of g d)) (i - start_of g d) (first_row g group d i) (end_row g group d) (first-le g group d at.from_one driven i at.row_from more) few-end

      -- the worker's rows of it have their cells
      pub row-cells : SpanCells sets cells (start_of g (inner_at group d)) (cell_of g (inner_at group d)) (inner_at group d) (row_span g group h d i)
      row-cells = record {
        some-step = lies.some-step;
        few-step = lies.few-step;
        inside = omega (arith, lies.ends, long (end_row g group d) (start-memo g (inner_at group d + 1) (omega (arith, driven, at.from_one))));
        rows = λ p a b. ground-cells g sets cells starts cell_starts z good (inner_at group d) p (omega (arith, driven, at.from_one)) (omega (arith, lies.after, first-from g group d at.from_one driven i at.row_from)) (omega (arith, lies.ends));
      }

      -- it is done: none of the worker's rows may be joined
      module _ (none : (p : ℕ) → in_span (row_span g group h d i) p ≡ true → is_joinable g (get_or sets i 0) (get_or sets p 0) ≡ false) where
        pub row-clear : Clear g group h x (x + (end_row g group d - first_row g group d i))
        row-clear n a b =
            let f = first_row g group d i in
            let e : ahead_of g group d i + (f + (n - x) - f) ≡ n = omega (arith, at.ahead) in
            rw e at (not_own g sets cells starts cell_starts z group h sh d i (f + (n - x)) at.from_one driven at.row_from more (omega arith) (omega arith) (none (f + (n - x))))

        pub row_next : RowFrom g group d (i + 1) (x + (end_row g group d - first_row g group d i))
        row_next = record {
          fit = at.fit;
          from_one = at.from_one;
          to_last = at.to_last;
          row_from = omega (arith, at.row_from);
          row-to = omega arith;
          at-end = λ q. absurd (omega arith);
          ahead = omega (arith, at.ahead, ahead-row g group d i at.row_from);
        }

      -- its row j is found
      pub row-found : (x₀ j : ℕ) → x₀ ≤ x → Clear g group h x₀ x → in_span (row_span g group h d i) j ≡ true → is_joinable g (get_or sets i 0) (get_or sets j 0) ≡ true → ((p : ℕ) → in_span (row_span g group h d i) p ≡ true → p < j → is_joinable g (get_or sets i 0) (get_or sets p 0) ≡ false)
          → NextFrom g group h x₀ (placed (x + (j - first_row g group d i)) (record { size = d; row = i; inner = j }))
      row-found x₀ j a c t e before =
          let f = first_row g group d i in
          let k = span-true (row_span g group h d i) j t in
          let l : f ≤ j = omega (arith, lies.after, k.0) in
          let u : j < end_row g group d = omega (arith, lies.ends, k.1) in
          let o : own_at g group h (x + (j - f)) ≡ true = rw at.ahead (own-at g sets cells starts cell_starts z group h sh d i j at.from_one driven at.row_from more l u t e) in
          record {
            waits = waits-there (record { from_one = at.from_one; to_last = driven; row_from = at.row_from; row-to = more; inner-from = l; inner-to = u; number = ap (λ (y : ℕ). y + (j - f)) at.ahead }) o;
            ahead = omega arith;
            clear = clear-on g group h x₀ x (x + (j - f)) c (λ n p q.
                let r : ahead_of g group d i + (f + (n - x) - f) ≡ n = omega (arith, at.ahead) in
                rw r at (not_own g sets cells starts cell_starts z group h sh d i (f + (n - x)) at.from_one driven at.row_from more (omega arith) (omega arith) (λ y. before (f + (n - x)) y (omega arith))));
          }

    -- ---- the values of the code
    module _ (d i x wide base end from to cell : ℕ) (at : RowFrom g group d i x) (size : Sized g group d wide base end from to cell) (more : i < to) where
      row_more : i < start_of g (d + 1)
      row_more = omega (arith, size.to_is)

      pub few-all : (x ≤ few) × (end ≤ few) × (to ≤ few)
      few-all = (
        omega (arith, at.ahead, ahead-met g group d i at.from_one size.driven at.row_from at.row-to, met-few g good group at.fit),
        omega (arith, size.end_is, start-memo g (inner_at group d + 1) (omega (arith, size.driven, at.from_one)), memo-few g good),
        omega (arith, size.to_is, start-memo g (d + 1) (omega (arith, size.driven)), memo-few g good),
      )

      pub sets-inside : i < length sets
      sets-inside = (ground-set g sets cells starts cell_starts z i (memo-inside g d i at.from_one at.row_from row_more)).0

      module _ (first : ℕ) (f : first ≡ first_of starts wide d i) where
        first-row-is : first ≡ first_row g group d i
        first-row-is = f ∙ ap (λ (w : ℕ). first_of starts w d i) size.wide_is ∙ first-known group d i at.from_one size.driven

        pub first-le-end : first ≤ end
        first-le-end = omega (arith, first-row-is, size.end_is, first-le g group d at.from_one size.driven i at.row_from row_more)

        pub rowed-of : (own : Span) → own ≡ span_of h x (to - from) (i - from) first end → Rowed g sets cells group h d i x wide base end cell first own
        rowed-of own e =
            let n : to - from ≡ length (rows_of g d) = omega (arith, size.to_is, size.from_is, start-next g d at.from_one) in
            let m : own ≡ row_span g group h d i = e ∙ rw (n, size.from_is, first-row-is, size.end_is, at.ahead) in
            record {
              wide_is = size.wide_is;
              at = at;
              driven = size.driven;
              more = row_more;
              first-is = first-row-is;
              end_is = size.end_is;
              first-end = first-le-end;
              own_is = m;
              span-cells = rw (m, size.base-is, size.cell-is, size.wide_is) (row-cells d i x at size.driven row_more);
            }

    module _ (d i x wide base end cell first : ℕ) (own : Span) (r : Rowed g sets cells group h d i x wide base end cell first own) (j : ℕ) (w : Along g sets (get_or sets i 0) own j) where
      -- the row is done
      module _ (l : own.end ≤ j) where
        none : (p : ℕ) → in_span (row_span g group h d i) p ≡ true → is_joinable g (get_or sets i 0) (get_or sets p 0) ≡ false
        none p e =
            let f : in_span own p ≡ true = rw r.own_is e in
            w.clear p f (omega (arith, (span-true own p f).1))

        pub rowed-clear : Clear g group h x (x + (end - first))
        rowed-clear = rw (r.end_is, r.first-is) (row-clear d i x r.at r.driven r.more none)

        pub rowed-next : RowFrom g group d (i + 1) (x + (end - first))
        rowed-next = rw (r.end_is, r.first-is) (row_next d i x r.at r.driven r.more none)

        pub rowed-few : x + (end - first) ≤ few
        rowed-few =
            let n = rowed-next in
            omega (arith, n.ahead, ahead-met g group d (i + 1) n.from_one r.driven n.row_from n.row-to, met-few g good group n.fit)

      -- its row j has a number
      pub rowed-place : j < own.end → (first ≤ j) × (x + (j - first) ≤ few + few)
      rowed-place l =
          let at = r.at in
          let a : Lies (first_row g group d i) (end_row g group d) own = rw r.own_is (lies d i x at r.driven r.more) in
          let f = (span-true own j (w.found l).0).0 in
          let c = (r.span-cells.rows j f l).early in
          (omega (arith, r.first-is, a.after, f), omega (arith, at.ahead, ahead-met g group d i at.from_one r.driven at.row_from at.row-to, met-few g good group at.fit))

      -- its row j is found
      pub rowed-found : (x₀ : ℕ) → x₀ ≤ x → Clear g group h x₀ x → j < own.end
          → NextFrom g group h x₀ (placed (x + (j - first)) (record { size = d; row = i; inner = j }))
      rowed-found x₀ a c l =
          let f = w.found l in
          rw r.first-is (row-found d i x r.at r.driven r.more x₀ j a c (rw r.own_is at f.0) f.1 (λ p q. w.clear p (rw r.own_is q)))

    -- ---- a size of driving rows is done
    pub size-next : (d i x : ℕ) → RowFrom g group d i x → Drives g group d → start_of g (d + 1) ≤ i → RowFrom g group (d + 1) i x
    size-next d i x at driven l =
        let e : i ≡ start_of g (d + 1) = omega (arith, at.row-to) in
        record {
          fit = at.fit;
          from_one = omega arith;
          to_last = omega arith;
          row_from = l;
          row-to = omega (arith, start-mono g (d + 1) (d + 1 + 1) (omega arith));
          at-end = λ _. e;
          ahead = at.ahead ∙ ap (ahead_of g group d) e ∙ sym (ahead-size g group d at.from_one) ∙ ap (ahead_of g group (d + 1)) (sym e);
        }

    -- all are done
    pub none_left : (d i x x₀ : ℕ) → RowFrom g group d i x → group.last < d → x₀ ≤ x → Clear g group h x₀ x → NextFrom g group h x₀ (nowhere h.total)
    none_left d i x x₀ at l a c =
        let e : d ≡ group.last + 1 = omega (arith, at.to_last) in
        let total = share-total g group h sh in
        let n : x ≡ h.total = at.ahead ∙ ap (ahead_of g group d) (at.at-end l) ∙ ap (λ (y : ℕ). ahead_of g group y (start_of g y)) e ∙ ahead-end g group at.fit ∙ sym total in
        record {
          waits = record { there = λ s e. absurd (none-some s e); none = λ _. ap nowhere total };
          ahead = omega arith;
          clear = rw n at c;
        }

    -- ---- after a pair of the worker's, in its driving row
    module _ (x : ℕ) (p : Spot) (here : At g group x p) (is : own_at g group h x ≡ true) (known : Fit g group) where
      abbrev on : Span
      on = on_span h x p.inner (end_row g group p.size)

      on-inside : Lies (p.inner + 1) (end_row g group p.size) on
      on-inside = on-lies h (share-fits g group h sh good known) x p.inner (end_row g group p.size) here.inner-to (omega (arith, start-memo g (inner_at group p.size + 1) (omega (arith, here.from_one, here.to_last)), memo-few g good))

      pub on-cells : SpanCells sets cells (start_of g (inner_at group p.size)) (cell_of g (inner_at group p.size)) (inner_at group p.size) on
      on-cells = record {
        some-step = on-inside.some-step;
        few-step = on-inside.few-step;
        inside = omega (arith, on-inside.ends, long (end_row g group p.size) (start-memo g (inner_at group p.size + 1) (omega (arith, here.from_one, here.to_last))));
        rows = λ r a b. ground-cells g sets cells starts cell_starts z good (inner_at group p.size) r (omega (arith, here.to_last, here.from_one))
            (omega (arith, on-inside.after, here.inner-from, first-from g group p.size here.from_one here.to_last p.row here.row_from)) (omega (arith, on-inside.ends));
      }

      passed : (n : ℕ) → x + 1 ≤ n → n < x + (end_row g group p.size - p.inner)
          → (in_span on (p.inner + (n - x)) ≡ true → is_joinable g (get_or sets p.row 0) (get_or sets (p.inner + (n - x)) 0) ≡ false) → own_at g group h n ≡ false
      passed n a b out =
          let y = p.inner + (n - x) in
          let e : x + (y - p.inner) ≡ n = omega arith in
          rw e at (not_on g sets cells starts cell_starts z group h sh p.size p.row p.inner here.from_one here.to_last here.row_from here.row-to here.inner-from x y here.number is (omega arith) (omega arith) out)

      module _ (r : ℕ) (al : Along g sets (get_or sets p.row 0) on r) where
        -- found
        pub on-found : r < on.end → NextFrom g group h (x + 1) (placed (x + (r - p.inner)) (record { size = p.size; row = p.row; inner = r }))
        on-found l =
            let f = al.found l in
            let k = span-true on r f.0 in
            let j : p.inner < r = omega (arith, on-inside.after, k.0) in
            let u : r < end_row g group p.size = omega (arith, on-inside.ends) in
            record {
              waits = waits-there
                  (record {
                    from_one = here.from_one;
                    to_last = here.to_last;
                    row_from = here.row_from;
                    row-to = here.row-to;
                    inner-from = omega (arith, here.inner-from);
                    inner-to = u;
                    number = omega (arith, here.number, here.inner-from);
                  })
                  (own_on g sets cells starts cell_starts z group h sh p.size p.row p.inner here.from_one here.to_last here.row_from here.row-to here.inner-from x r here.number is j u f.0 f.1);
              ahead = omega arith;
              clear = λ n a b. passed n a (omega (arith, u)) (λ y. al.clear (p.inner + (n - x)) y (omega arith));
            }

        -- none: on to the next driving row
        pub on-clear : on.end ≤ r → Clear g group h (x + 1) (x + (end_row g group p.size - p.inner))
        on-clear l n a b = passed n a b (λ y. al.clear (p.inner + (n - x)) y (omega (arith, (span-true on (p.inner + (n - x)) y).1)))

      pub on-next : RowFrom g group p.size (p.row + 1) (x + (end_row g group p.size - p.inner))
      on-next = record {
        fit = known;
        from_one = here.from_one;
        to_last = omega (arith, here.to_last);
        row_from = omega (arith, here.row_from);
        row-to = omega (arith, here.row-to);
        at-end = λ q. absurd (omega (arith, here.to_last, here.from_one));
        ahead = omega (arith, here.number, here.inner-from, here.inner-to, ahead-row g group p.size p.row here.row_from);
      }

      -- the same, by the values that the search keeps
      module _ (wide : ℕ) (we : wide ≡ inner_at group p.size) (end : ℕ) (e : end ≡ get_or starts (wide + 1) 0) (own : Span) (o : own ≡ on_span h x p.inner end) where
        end_known : end ≡ end_row g group p.size
        end_known = e ∙ ap (λ (w : ℕ). get_or starts (w + 1) 0) we ∙ z.starts-known (inner_at group p.size + 1) (omega arith) (omega (arith, here.from_one, here.to_last))

        own-known : own ≡ on
        own-known = o ∙ ap (on_span h x p.inner) end_known

        pub next-cells : SpanCells sets cells (get_or starts wide 0) (get_or cell_starts wide 0) wide own
        next-cells =
            rw (own-known, we, z.starts-known (inner_at group p.size) (omega (arith, here.to_last, here.from_one)) (omega (arith, here.to_last, here.from_one)), z.cells-known (inner_at group p.size) (omega (arith, here.to_last, here.from_one)) (omega (arith, here.to_last, here.from_one))) on-cells

        module _ (r : ℕ) (al : Along g sets (get_or sets p.row 0) own r) where
          pub next-found : r < own.end → NextFrom g group h (x + 1) (placed (x + (r - p.inner)) (record { size = p.size; row = p.row; inner = r }))
          next-found l = on-found r (rw own-known at al) (rw own-known at l)

          pub next-clear : own.end ≤ r → Clear g group h (x + 1) (x + (end - p.inner))
          next-clear l = rw end_known (on-clear r (rw own-known at al) (rw own-known at l))

          pub next-after : r < own.end → (p.inner < r) × (r < end)
          next-after l =
              let i : Lies (p.inner + 1) (end_row g group p.size) own = rw own-known on-inside in
              (omega (arith, i.after, (span-true own r (al.found l).0).0), omega (arith, i.ends, end_known))

        pub next_row : RowFrom g group p.size (p.row + 1) (x + (end - p.inner))
        next_row = rw end_known on-next

        pub next_fits : (x + (end - p.inner) ≤ few) × (p.inner < end) × (end ≤ few) × (p.row < few)
        next_fits =
            let n = next_row in
            let m = memo-few g good in (
              omega (arith, n.ahead, ahead-met g group p.size (p.row + 1) n.from_one here.to_last n.row_from n.row-to, met-few g good group known),
              omega (arith, end_known, here.inner-to),
              omega (arith, end_known, m, start-memo g (inner_at group p.size + 1) (omega (arith, here.from_one, here.to_last))),
              omega (arith, m, memo-inside g p.size p.row here.from_one here.row_from here.row-to),
            )

-- from a later candidate on, where none of those between is the worker's
pub next-on : (g : Graph) (group : Group) (h : Share) (x y : ℕ) (p : Place) → x ≤ y → Clear g group h x y → NextFrom g group h y p → NextFrom g group h x p
next-on g group h x y p l c n = record { waits = n.waits; ahead = omega (arith, n.ahead); clear = clear-on g group h x y p.number c n.clear }

-- ---- how many candidates the sizes up to k + 1 have
pub count_none : (starts : List ℕ) (group : Group) → count_to starts group 0 ≡ 0
unfolding count_to
count_none starts group = refl

-- each two rows of one size, once
pub two-of : (n : ℕ) → (n * n - n) / 2 ≡ n * (n - 1) / 2
two-of zero = refl
two-of (suc n) = let e : suc n * suc n - suc n ≡ suc n * (suc n - 1) = (let f : suc n - 1 ≡ n = omega arith in rw f (omega (arith, mul-suc (suc n) n))) in ap (λ (k : ℕ). k / 2) e

-- products of rows stay small
pub times-fit : (a b : ℕ) → a ≤ 65536 → b ≤ 65536 → a * b ≤ 4294967296
times-fit a b x y = mul-le-mul {n₁ = a} {m₁ = b} {n₂ = 65536} {m₂ = 65536} x y

pub count_more : (starts : List ℕ) (group : Group) (d : ℕ) {n v : ℕ} → 1 ≤ d → n ≡ count_to starts group (d - 1) → v ≡ count_at starts group d → n + v ≡ count_to starts group (d + 1 - 1)
unfolding count_to
count_more starts group d h a b =
    let e : d + 1 - 1 ≡ suc (d - 1) = omega arith in
    let f : suc (d - 1) ≡ d = omega arith in
    rw (e, a, b) (ap (λ (k : ℕ). count_to starts group (d - 1) + count_at starts group k) (sym f))

-- one more driving size, which is the inner size, or less
pub count_same : (starts : List ℕ) (group : Group) {d v wide : ℕ} → wide ≡ inner_at group d → d ≡ wide → v ≡ (rows_of_size starts d * rows_of_size starts d - rows_of_size starts d) / 2 → v ≡ count_at starts group d
count_same starts group {d} we h i = i ∙ two-of (rows_of_size starts d) ∙ sym (rw (eq-eqb d (inner_at group d) (h ∙ we)))

pub count_less : (starts : List ℕ) (group : Group) {d v wide : ℕ} → wide ≡ inner_at group d → (d ≡ wide → ⊥) → v ≡ rows_of_size starts d * rows_of_size starts wide → v ≡ count_at starts group d
count_less starts group {d} we h i = i ∙ ap (λ (w : ℕ). rows_of_size starts d * rows_of_size starts w) we ∙ sym (rw (ne_eqb d (inner_at group d) (λ x. h (x ∙ sym we))))

-- ---- the first driving row of a size
pub first-row : (g : Graph) (group : Group) → Fit g group → RowFrom g group 1 (start_of g 1) 0
first-row g group fit = record { fit = fit; from_one = omega arith; to_last = omega arith; row_from = omega arith; row-to = start-mono g 1 2 (omega arith); at-end = λ q. refl; ahead = sym (ahead-zero g group fit) }

-- ---- the same where the search cites them, one law a need: the types at its places are long
module _ {g : Graph} {sets cells starts cell_starts : List ℕ} {group : Group} {h : Share} {d i x : ℕ} (good : GoodGraph g) (z : Ground g sets cells starts cell_starts) (sh : ShareOf g group h) where
  module _ {wide base end from to cell : ℕ} (at : RowFrom g group d i x) (size : Sized g group d wide base end from to cell) (more : i < to) where
    -- few candidates come before a driving row, and few rows before the ends of both sizes
    pub few_row : (x ≤ few) × (end ≤ few) × (to ≤ few)
    few_row = few-all g sets cells starts cell_starts z good group h sh d i x wide base end from to cell at size more

    -- where it ends and where its inner rows begin can be read
    pub first_ready : (wide < length starts) × (i ≤ few)
    first_ready = (omega (arith, size.wide_is, size.driven, at.from_one, z.starts-long), omega (arith, few_row.2))

    -- it is a row of the memo
    pub inside_row : i < length sets
    inside_row = sets-inside g sets cells starts cell_starts z good group h sh d i x wide base end from to cell at size more

    module _ {first : ℕ} (f : first ≡ first_of starts wide d i) where
      -- what its inner rows ask of the share
      pub share_row : ShareFits h × (x ≤ few) × (to - from ≤ few) × (first ≤ end) × (end ≤ few)
      share_row = (
        share-fits g group h sh good at.fit,
        few_row.0,
        omega (arith, few_row.2),
        first-le-end g sets cells starts cell_starts z good group h sh d i x wide base end from to cell at size more first f,
        few_row.1,
      )

      -- what the search keeps of it
      pub rowed : {own : Span} → own ≡ span_of h x (to - from) (i - from) first end → Rowed g sets cells group h d i x wide base end cell first own
      rowed {own} o = rowed-of g sets cells starts cell_starts z good group h sh d i x wide base end from to cell at size more first f own o

  -- the driving rows of a size are done
  pub size_done : {wide base end from to cell : ℕ} → RowFrom g group d i x → Sized g group d wide base end from to cell → to ≤ i → RowFrom g group (d + 1) to x
  size_done {to = to} at size l =
      let e : to ≡ i = omega (arith, size.to_is, at.row-to) in
      rw e (size-next g sets cells starts cell_starts z good group h sh d i x at size.driven (omega (arith, size.to_is)))

  module _ {wide base end cell first j : ℕ} {own : Span} (r : Rowed g sets cells group h d i x wide base end cell first own) (w : Along g sets (get_or sets i 0) own j) where
    -- the values of a pair that is found fit
    pub place_fits : j < own.end → (first ≤ j) × (x + (j - first) ≤ few + few)
    place_fits l = rowed-place g sets cells starts cell_starts z good group h sh d i x wide base end cell first own r j w l

    -- and of a row that is done
    pub done_fits : own.end ≤ j → x + (end - first) ≤ few
    done_fits l = rowed-few g sets cells starts cell_starts z good group h sh d i x wide base end cell first own r j w l

    module _ {x₀ : ℕ} (a : x₀ ≤ x) (c : Clear g group h x₀ x) where
      -- a row is done
      pub row_done : own.end ≤ j → (x₀ ≤ x + (end - first)) × RowFrom g group d (i + 1) (x + (end - first)) × Clear g group h x₀ (x + (end - first))
      row_done l = (omega arith, rowed-next g sets cells starts cell_starts z good group h sh d i x wide base end cell first own r j w l, clear-on g group h x₀ x (x + (end - first)) c (rowed-clear g sets cells starts cell_starts z good group h sh d i x wide base end cell first own r j w l))

      -- a pair is found
      pub pair_found : j < own.end → NextFrom g group h x₀ (placed (x + (j - first)) (record { size = d; row = i; inner = j }))
      pair_found l = rowed-found g sets cells starts cell_starts z good group h sh d i x wide base end cell first own r j w x₀ a c l

-- after a pair of the worker's, in its driving row
module _ {g : Graph} {sets cells starts cell_starts : List ℕ} {group : Group} {h : Share} {x : ℕ} {p : Spot} (good : GoodGraph g) (z : Ground g sets cells starts cell_starts) (sh : ShareOf g group h × Fit g group) (at : At g group x p × (own_at g group h x ≡ true)) {wide : ℕ} (we : wide ≡ inner_at group p.size) where
  abbrev end : ℕ
  end = get_or starts (wide + 1) 0

  fits : (x + (end - p.inner) ≤ few) × (p.inner < end) × (end ≤ few) × (p.row < few)
  fits = next_fits g sets cells starts cell_starts z good group h sh.0 x p at.0 at.1 sh.1 wide we end refl (on_span h x p.inner end) refl

  -- what its inner rows ask of the share
  pub share_on : ShareFits h × (x ≤ few) × (p.inner < end) × (end ≤ few)
  share_on = (share-fits g group h sh.0 good sh.1, omega (arith, fits.0, fits.1), fits.1, fits.2)

  -- the row is one of the memo
  pub row_on : (p.row < length sets) × (p.row < few) × (x + (end - p.inner) ≤ few)
  row_on = ((ground-set g sets cells starts cell_starts z p.row (memo-inside g p.size p.row at.0.from_one at.0.row_from at.0.row-to)).0, fits.3, fits.0)

  -- none of its rows may be joined: on to the next driving row
  pub from_next : RowFrom g group p.size (p.row + 1) (x + (end - p.inner))
  from_next = next_row g sets cells starts cell_starts z good group h sh.0 x p at.0 at.1 sh.1 wide we end refl (on_span h x p.inner end) refl

  module _ {own : Span} (o : own ≡ on_span h x p.inner end) where
    pub cells_on : SpanCells sets cells (get_or starts wide 0) (get_or cell_starts wide 0) wide own
    cells_on = next-cells g sets cells starts cell_starts z good group h sh.0 x p at.0 at.1 sh.1 wide we end refl own o

    module _ {r : ℕ} (al : Along g sets (get_or sets p.row 0) own r) where
      pub fits_on : r < own.end → (p.inner < r) × (x + (r - p.inner) ≤ few)
      fits_on l =
          let a = next-after g sets cells starts cell_starts z good group h sh.0 x p at.0 at.1 sh.1 wide we end refl own o r al l in
          (a.0, omega (arith, a.0, a.1, fits.0))

      pub found_on : r < own.end → NextFrom g group h (x + 1) (placed (x + (r - p.inner)) (record { size = p.size; row = p.row; inner = r }))
      found_on l = next-found g sets cells starts cell_starts z good group h sh.0 x p at.0 at.1 sh.1 wide we end refl own o r al l

      pub none_on : {q : Place} → own.end ≤ r → NextFrom g group h (x + (end - p.inner)) q → NextFrom g group h (x + 1) q
      none_on {q} l n =
          next-on g group h (x + 1) (x + (end - p.inner)) q (omega (arith, fits.1)) (next-clear g sets cells starts cell_starts z good group h sh.0 x p at.0 at.1 sh.1 wide we end refl own o r al l) n

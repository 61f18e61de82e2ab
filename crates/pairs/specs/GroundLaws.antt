-- Laws of the memo as laying out leaves it, of a worker's own candidates, and of what is left to a worker.
use Rattle.std.specs.Prelude.{◌≡◌, Bool, true, false, cond, ◌&&◌, List, [], ◌∷◌, eqb, get_or, take, drop, Some, None}
use Rattle.std.proofs.Math.Path.{refl, sym, ap}
use Rattle.std.proofs.Common.{◌∙◌, mul-le-mul_right, suc-mul, mul-suc, pow_mono, length-append, length-take, drop_of_length-le, get_or-take, drop-cons}
use mathlib.Core.List.Memᴰ
use Prim.Native.Nat.{ℕ, zero, suc, ◌+◌, ◌-◌, ◌*◌, ◌/◌, ◌≤◌, ◌<◌}
use Rattle.std.proofs.Math.Decide.{dec_lt, ℕ_discrete}
use Rattle.std.proofs.Math.Numerals.{add-one}
use native.Mathlib.Omega.{arith}
use Rattle.std.proofs.Math.ListN.{length}
use Rattle.std.proofs.Math.Seq.{drop-length}
use Rattle.rules.specs.Lists.{keep, in_row}
use Rattle.rules.specs.Sets.{holds, size, rank}
use Rattle.rules.specs.Query.{Graph, table_count}
use Rattle.rules.specs.declared.Group.{Group}
use Rattle.rules.specs.Schedule.{inner_at}
use Rattle.rules.specs.Checked.{GoodGraph}
use Rattle.rules.specs.Connected.{Connected}
use Rattle.rules.specs.Rows.{rows_of, memo}
use Rattle.rules.specs.Skips.{Skip, vectors, skips}
use Rattle.rules.specs.Candidates.{with_row, across, within, driven, candidates, candidates_of, joinable}
use Rattle.rules.specs.Shares.{Numbered, owns, met, queue}
use Rattle.rules.specs.laws.Bools.{and-true, and-true-l}
use Rattle.rules.specs.laws.Lists.{at_in}
use Rattle.rules.proofs.laws.Rows.{rows-only, below_all}
use Rattle.rules.proofs.laws.Skips.{vector-right}
use Rattle.rules.specs.laws.Candidates.{numbered-length}
use Rattle.rules.proofs.laws.Complete.{queue-mine}
use Rattle.rules.specs.laws.Standing.{mine}
use Rattle.sets.specs.Laws.{rank-at, rank_lt}
use Rattle.rows.specs.WalkLaws.{rows_fit}
use Rattle.skips.specs.VectorLaws.{vectors-cells}
use Rattle.shares.specs.declared.places.Place.{Place}
use Rattle.shares.specs.declared.places.Spot.{Spot}
use Rattle.shares.specs.declared.Share.{Share}
use Rattle.shares.specs.Shares.{ShareOf, crew_of, in_span, span_of, on_span}
use Rattle.pairs.specs.Joinable.{is_joinable}
use Rattle.pairs.specs.Places.{Fit, Drives, start_of, cell_of, first_row, end_row, ahead_of, candidate_at, no_candidate, met_numbered, own_at, queue_at, Ground, Hops, RowCells, At, Waits, NextFrom, rows_of_size, SizesFit, Countable, count_at, count_to}
use Rattle.pairs.specs.PlaceLaws.{drives, with-length, row_next, row_at, row_inside, start-next, start-memo, in_size, size-known, memo-inside, memo-row, first-from, met-inside, met_at, memo-few}
use Rattle.pairs.specs.SpanLaws.{span-owns, span-on}

-- ---- tests and lists
and-not : (a b : Bool) → (a ≡ true → b ≡ false) → (a && b) ≡ false
and-not true b n = n refl
and-not false b n = refl

-- what is kept stays so where nothing that is dropped passes
keep-past : {C : Type 0} (f : C → Bool) (c : C) (l : List C) (n x : ℕ) → ((y : ℕ) → x ≤ y → y < x + n → f (get_or l y c) ≡ false) → keep f (drop x l) ≡ keep f (drop (x + n) l)
unfolding keep
keep-past f c l zero x h = let e : x + 0 ≡ x = omega arith in rw e
keep-past f c l (suc n) x h = go (dec_lt x (length l)) (keep-past f c l n (suc x) (λ y a b. h y (omega arith) (omega arith)))
  where
    e : suc x + n ≡ x + suc n
    e = omega arith

    go : Dec (x < length l) → keep f (drop (suc x) l) ≡ keep f (drop (suc x + n) l) → keep f (drop x l) ≡ keep f (drop (x + suc n) l)
    go (yes u) ih = rw (drop-cons l x c u, h x (omega arith) (omega arith)) (rw e at ih)
    go (no g) ih = rw (drop_of_length-le l {i = x} (omega arith), drop_of_length-le l {i = x + suc n} (omega arith))

-- what stands at the front of a list
front-room : (v l : List ℕ) → take (length v) l ≡ v → length v ≤ length l
front-room v l e = omega (arith, length-take (length v) l, ap length e)

front_at : (v l : List ℕ) → take (length v) l ≡ v → (p : ℕ) → p < length v → get_or l p 0 ≡ get_or v p 0
front_at v l e p h = sym (get_or-take (length v) l p 0 h) ∙ ap (λ (x : List ℕ). get_or x p 0) e

-- ---- how many candidates the driving rows of one size have
times-less : (n : ℕ) → n * (n - 1) + n ≡ n * n
times-less zero = omega arith
times-less (suc n) = let e : suc n - 1 ≡ n = omega arith in rw e (sym (mul-suc (suc n) n))

within-length : (D i : ℕ) (xs : List ℕ) → length (within D i xs) + length (within D i xs) ≡ length xs * (length xs - 1)
unfolding within
within-length D i [] = omega arith
within-length D i (X ∷ xs) =
    let n = length xs in
    let e : suc n - 1 ≡ n = omega arith in
    rw e (omega (arith, suc-mul n n, times-less n, length-append (with_row D i X 0 xs) (within D (suc i) xs), with-length D i X 0 xs, within-length D (suc i) xs))

across-length : (D i : ℕ) (xs ys : List ℕ) → length (across D i xs ys) ≡ length xs * length ys
unfolding across
across-length D i [] ys = omega arith
across-length D i (X ∷ xs) ys = omega (arith, suc-mul (length xs) (length ys), length-append (with_row D i X 0 ys) (across D (suc i) xs ys), with-length D i X 0 ys, across-length D (suc i) xs ys)

module _ (g : Graph) (sets cells starts cell_starts : List ℕ) (z : Ground g sets cells starts cell_starts) where
  -- each row of the memo stands in the list of sets
  pub ground-set : (p : ℕ) → p < length (memo g) → (p < length sets) × (get_or sets p 0 ≡ get_or (memo g) p 0)
  ground-set p h = (omega (arith, front-room (memo g) sets z.sets-laid), front_at (memo g) sets z.sets-laid p h)

  -- row p of size k
  module _ (k p : ℕ) (from_one : 1 ≤ k) (from : start_of g k ≤ p) (to : p < start_of g (k + 1)) where
    set_is : get_or sets p 0 ≡ get_or (rows_of g k) (p - start_of g k) 0
    set_is = (ground-set p (memo-inside g k p from_one from to)).1 ∙ memo-row g k p from_one from to

    set-in : Connected g (get_or sets p 0) × (size (get_or sets p 0) ≡ k)
    set-in = rows-only g k (get_or sets p 0) (Memᴰ.cast set_is (at_in 0 (rows_of g k) (p - start_of g k) (in_size g k p from_one from to)))

    -- the skip cell of its table of rank r
    module _ (r : ℕ) (h : r < k) where
      cell_in : (p - start_of g k) * k + r < length (vectors g (1 + (k - 1)))
      cell_in =
          let e : 1 + (k - 1) ≡ k = omega arith in
          rw e (omega (arith, vectors-cells g k, suc-mul (p - start_of g k) k, mul-le-mul_right k (in_size g k p from_one from to)))

      cell-inside : cell_of g k + ((p - start_of g k) * k + r) < length (skips g)
      unfolding skips
      cell-inside = row_inside (vectors g) 1 (k - 1) (table_count g) ((p - start_of g k) * k + r) (omega (arith, size-known g k p from_one from to)) cell_in

      cell-is : get_or cells (cell_of g k + (p - start_of g k) * k + r) 0 ≡ get_or (vectors g k) ((p - start_of g k) * k + r) 0
      unfolding skips
      cell-is =
          let e : 1 + (k - 1) ≡ k = omega arith in
          let f : cell_of g k + (p - start_of g k) * k + r ≡ cell_of g k + ((p - start_of g k) * k + r) = omega arith in
          rw f (
          front_at (skips g) cells z.cells-laid (cell_of g k + ((p - start_of g k) * k + r)) cell-inside
          ∙ (rw e at (row_at (vectors g) 0 1 (k - 1) (table_count g) ((p - start_of g k) * k + r) (omega (arith, size-known g k p from_one from to)) cell_in))
          )

  module _ (good : GoodGraph g) (k p : ℕ) (from_one : 1 ≤ k) (from : start_of g k ≤ p) (to : p < start_of g (k + 1)) where
    -- the cell of a table of the row holds the least later row of the size that lacks it
    skip_at : (t : ℕ) → holds (get_or sets p 0) t ≡ 1 → Skip (rows_of g k) (p - start_of g k + 1) t (get_or cells (cell_of g k + (p - start_of g k) * k + rank (get_or sets p 0) t) 0)
    skip_at t h =
        let S = get_or sets p 0 in
        let i = set-in k p from_one from to in
        let l : rank S t < k = omega (arith, rank_lt S t h, i.1) in
        let v = vector-right g k (p - start_of g k) (rank S t) (in_size g k p from_one from to) l in
        rw (cell-is k p from_one from to (rank S t) l) (rw (← set_is k p from_one from to, rank-at (table_count g) S t (below_all g S i.0) h) at v)

    hops-at : (t : ℕ) → holds (get_or sets p 0) t ≡ 1 → Hops sets p t (start_of g k + get_or cells (cell_of g k + (p - start_of g k) * k + rank (get_or sets p 0) t) 0 - 1)
    hops-at t h = record {
      after = omega (arith, v.after);
      inside = omega (arith, v.inside, start-next g k from_one, start-memo g (k + 1) (omega (arith, size-known g k p from_one from to)), memo-few g good);
      held = λ x a b. go x a b (ℕ_discrete p x);
    }
      where
        v : Skip (rows_of g k) (p - start_of g k + 1) t (get_or cells (cell_of g k + (p - start_of g k) * k + rank (get_or sets p 0) t) 0)
        v = skip_at t h

        go : (x : ℕ) → p ≤ x → x < start_of g k + get_or cells (cell_of g k + (p - start_of g k) * k + rank (get_or sets p 0) t) 0 - 1 → Dec (p ≡ x) → holds (get_or sets x 0) t ≡ 1
        go x a b (yes e) = rw e at h
        go x a b (no n) =
            rw (set_is k x from_one (omega arith) (omega (arith, v.inside, start-next g k from_one)))
            (v.passed (suc (x - start_of g k)) (omega arith) (omega (arith, v.after)))

    -- each row of a size has its skip cells
    pub ground-cells : RowCells sets cells (start_of g k) (cell_of g k) k p
    ground-cells =
        let i = set-in k p from_one from to in
        let h = memo-inside g k p from_one from to in
        record {
          from = from;
          inside = (ground-set p h).0;
          early = omega (arith, h, memo-few g good);
          below = omega (arith, below_all g (get_or sets p 0) i.0, good.few-tables, pow_mono {i = table_count g} {j = 32} (omega (arith, good.few-tables)));
          sized = i.1;
          room = omega (arith, cell-inside k p from_one from to (k - 1) (omega arith), front-room (skips g) cells z.cells-laid);
          hops = hops-at;
        }

  -- a candidate is joinable exactly where the sets of its two rows are
  pub joinable-candidate : (group : Group) (d i j : ℕ) → i < length (memo g) → j < length (memo g) → joinable g (candidate_at g group d i j).candidate ≡ is_joinable g (get_or sets i 0) (get_or sets j 0)
  unfolding joinable
  joinable-candidate group d i j a b = rw ((ground-set i a).1, (ground-set j b).1)

  -- ---- a worker's own candidates, which it may join
  module _ (group : Group) (h : Share) (o : ShareOf g group h) (d i j : ℕ) (from_one : 1 ≤ d) (to_last : Drives g group d) (row_from : start_of g d ≤ i) (row-to : i < start_of g (d + 1)) (inner-from : first_row g group d i ≤ j) where
    driving-inside : i < length (memo g)
    driving-inside = memo-inside g d i from_one row_from row-to

    inner-inside : (p : ℕ) → j ≤ p → p < end_row g group d → p < length (memo g)
    inner-inside p a b = memo-inside g (inner_at group d) p (omega arith) (omega (arith, first-from g group d from_one to_last i row_from)) b

    number-own : (p : ℕ) → j ≤ p → p < end_row g group d → own_at g group h (ahead_of g group d i + (p - first_row g group d i))
        ≡ (owns h.scheme (length (met g group)) h.workers h.worker (candidate_at g group d i p) && is_joinable g (get_or sets i 0) (get_or sets p 0))
    unfolding mine
    number-own p a b =
        ap (mine g (crew_of h) group h.worker) (met_at g group d i p from_one to_last row_from row-to (omega arith) b)
        ∙ ap (λ (t : Bool). owns h.scheme (length (met g group)) h.workers h.worker (candidate_at g group d i p) && t) (joinable-candidate group d i p driving-inside (inner-inside p a b))

    module _ (inner-to : j < end_row g group d) where
      own_is : own_at g group h (ahead_of g group d i + (j - first_row g group d i))
          ≡ (in_span (span_of h (ahead_of g group d i) (length (rows_of g d)) (i - start_of g d) (first_row g group d i) (end_row g group d)) j && is_joinable g (get_or sets i 0) (get_or sets j 0))
      own_is = number-own j (omega arith) inner-to ∙ ap (λ (t : Bool). t && is_joinable g (get_or sets i 0) (get_or sets j 0)) (span-owns g group h o d i j inner-from inner-to)

      -- one of its span of the driving row whose sets are joinable is its own
      pub own-at : in_span (span_of h (ahead_of g group d i) (length (rows_of g d)) (i - start_of g d) (first_row g group d i) (end_row g group d)) j ≡ true → is_joinable g (get_or sets i 0) (get_or sets j 0) ≡ true
          → own_at g group h (ahead_of g group d i + (j - first_row g group d i)) ≡ true
      own-at a b = own_is ∙ and-true _ _ a b

      -- one that is not of its span, or whose sets are not joinable, is not
      pub not_own : (in_span (span_of h (ahead_of g group d i) (length (rows_of g d)) (i - start_of g d) (first_row g group d i) (end_row g group d)) j ≡ true → is_joinable g (get_or sets i 0) (get_or sets j 0) ≡ false)
          → own_at g group h (ahead_of g group d i + (j - first_row g group d i)) ≡ false
      not_own n = own_is ∙ and-not _ _ n

    -- after its own candidate x, whose inner row is j
    module _ (x p : ℕ) (number : x ≡ ahead_of g group d i + (j - first_row g group d i)) (own : own_at g group h x ≡ true) (later : j < p) (inner-to : p < end_row g group d) where
      on-is : own_at g group h (x + (p - j)) ≡ (in_span (on_span h x j (end_row g group d)) p && is_joinable g (get_or sets i 0) (get_or sets p 0))
      on-is =
          let f : x + (p - j) ≡ ahead_of g group d i + (p - first_row g group d i) = omega arith in
          let c = owns h.scheme (length (met g group)) h.workers h.worker (candidate_at g group d i j) in
          let t : c ≡ true = and-true-l c (is_joinable g (get_or sets i 0) (get_or sets j 0)) (sym (number-own j (omega arith) (omega arith)) ∙ ap (own_at g group h) (sym number) ∙ own) in
          rw (f, number) (number-own p (omega arith) inner-to ∙ ap (λ (k : Bool). k && is_joinable g (get_or sets i 0) (get_or sets p 0)) (span-on g group h o d i j inner-from p later inner-to t))

      -- one of what is left of its span whose sets are joinable is its own
      pub own_on : in_span (on_span h x j (end_row g group d)) p ≡ true → is_joinable g (get_or sets i 0) (get_or sets p 0) ≡ true → own_at g group h (x + (p - j)) ≡ true
      own_on a b = on-is ∙ and-true _ _ a b

      -- one that is not of it, or whose sets are not joinable, is not
      pub not_on : (in_span (on_span h x j (end_row g group d)) p ≡ true → is_joinable g (get_or sets i 0) (get_or sets p 0) ≡ false) → own_at g group h (x + (p - j)) ≡ false
      not_on n = on-is ∙ and-not _ _ n

  -- ---- counts of rows and candidates
  rows_in : (k : ℕ) → 1 ≤ k → k ≤ table_count g → rows_of_size starts k ≡ length (rows_of g k)
  rows_in k l u = omega (arith, z.starts-known k l (omega arith), z.starts-known (k + 1) (omega arith) (omega arith), start-next g k l)

  -- sizes begin one after another, and none has too many rows
  pub sizes-fit : GoodGraph g → (sizes : ℕ) → sizes ≤ table_count g → SizesFit starts sizes
  sizes-fit good sizes h = record {
    forward = λ k l u. omega (arith, z.starts-known k l (omega arith), z.starts-known (k + 1) (omega arith) (omega arith), start-next g k l);
    fits = λ k l u. omega (arith, rows_in k l (omega arith), rows_fit g k good.few-tables);
  }

  -- so the candidates of a group can be counted
  pub countable : GoodGraph g → (group : Group) → Fit g group → Countable starts group
  countable good group fit = record {
    sizes = table_count g;
    few-sizes = good.few-tables;
    long = omega (arith, z.starts-long);
    fits = sizes-fit good (table_count g) (omega arith);
    rising = fit.rising;
    inside = λ d l u. omega (arith, fit.known d l u);
    last = go (dec_lt 0 group.last);
  }
    where
      go : Dec (0 < group.last) → group.last < table_count g
      go (yes l) = omega (arith, fit.known group.last l (omega arith), fit.rising group.last l (omega arith))
      go (no n) = omega (arith, good.some-table)

  -- as many candidates as driving rows and inner rows make
  driven-count : (group : Group) (d : ℕ) → 1 ≤ d → Drives g group d → length (driven (rows_of g) group d) ≡ count_at starts group d
  unfolding driven
  driven-count group d l u = rw (rows_in d l (omega arith), rows_in (inner_at group d) (omega arith) (omega arith)) (go (eqb d (inner_at group d)))
    where
      D : ℕ
      D = length (rows_of g d)

      go : (b : Bool) → length (cond b (within D 0 (rows_of g d)) (across D 0 (rows_of g d) (rows_of g (inner_at group d)))) ≡ cond b (D * (D - 1) / 2) (D * length (rows_of g (inner_at group d)))
      go true = omega (arith, within-length D 0 (rows_of g d))
      go false = across-length D 0 (rows_of g d) (rows_of g (inner_at group d))

  count-sizes : (group : Group) (d : ℕ) → Fit g group → d ≤ group.last → count_to starts group d ≡ length (in_row (driven (rows_of g) group) 1 d)
  unfolding count_to in_row
  count-sizes group zero h u = refl
  count-sizes group (suc d) h u =
      let e : 1 + d ≡ suc d = omega arith in
      omega (arith, row_next (driven (rows_of g) group) 1 d, ap (λ (x : ℕ). length (driven (rows_of g) group x)) e, driven-count group (suc d) (omega arith) (drives h (omega arith) u), count-sizes group d h (omega arith))

  -- the rows of each size tell how many candidates a group has
  pub count-met : (group : Group) → Fit g group → count_to starts group group.last ≡ length (met g group)
  unfolding met candidates candidates_of
  count-met group h = count-sizes group group.last h (omega arith) ∙ sym (numbered-length 0 (candidates g group))

-- ---- what is left to a worker
-- the place of a candidate has its number
pub at-number : (g : Graph) (group : Group) (x : ℕ) (s : Spot) → At g group x s → (x < length (met g group)) × (met_numbered g group x ≡ candidate_at g group s.size s.row s.inner)
at-number g group x s a = rw a.number (
  met-inside g group s.size s.row s.inner a.from_one a.to_last a.row_from a.row-to a.inner-from a.inner-to,
  met_at g group s.size s.row s.inner a.from_one a.to_last a.row_from a.row-to a.inner-from a.inner-to,
)

module _ (g : Graph) (group : Group) (h : Share) where
  -- at first a worker has its whole queue
  pub queue-all : queue_at g group h 0 ≡ queue g (crew_of h) group h.worker
  queue-all = sym (ap (λ (f : ℕ → List Numbered). f h.worker) (queue-mine g (crew_of h) group))

  -- up to its next joinable pair nothing is its own
  pub next-queue : (x : ℕ) (p : Place) → NextFrom g group h x p → queue_at g group h x ≡ queue_at g group h p.number
  next-queue x p n =
      let e : x + (p.number - x) ≡ p.number = omega (arith, n.ahead) in
      rw e at (keep-past (mine g (crew_of h) group h.worker) no_candidate (met g group) (p.number - x) x (λ y a b. n.clear y a (omega (arith, n.ahead))))

  module _ (p : Place) (w : Waits g group h p) where
    -- where it waits at a pair, that pair is the next of its queue
    pub queue-here : (s : Spot) → p.pair ≡ Some s → queue_at g group h p.number ≡ met_numbered g group p.number ∷ queue_at g group h (p.number + 1)
    unfolding keep
    queue-here s e =
        let r = w.there s e in
        rw (drop-cons (met g group) p.number no_candidate (at-number g group p.number s r.0).0, r.1, add-one p.number) refl

    -- where it has none, nothing is left
    pub queue-none : p.pair ≡ None → queue_at g group h p.number ≡ []
    unfolding keep
    queue-none f = rw (w.none f, drop-length (met g group))

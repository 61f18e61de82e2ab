-- Laws of places: where the rows of a size stand in the memo, how many candidates come before a driving row, which candidate has a number.
use Rattle.std.specs.Prelude.{◌≡◌, ◌⊎◌, Bool, true, false, cond, List, [], ◌∷◌, ◌++◌, eqb, drop}
use Rattle.std.proofs.Math.Path.{refl, ap, ap₂}
use Rattle.std.proofs.Common.{sym, ◌∙◌, inl, inr, zero-add, length-append, length-drop, get_or-append-add, get_or-drop, drop-cons, eqb-true}
use Prim.Native.Nat.{ℕ, zero, suc, ◌+◌, ◌-◌, ◌*◌, ◌≤◌, ◌<◌}
use Rattle.std.proofs.Math.Decide.{dec_lt}
use native.Mathlib.Omega.{arith}
use Rattle.std.proofs.Math.ListN.{length, get_or, get_or-append}
use Rattle.std.proofs.Math.Seq.{drop-length}
use Rattle.rules.specs.Lists.{in_row}
use Rattle.rules.specs.Query.{Graph, table_count}
use Rattle.rules.specs.declared.Group.{Group}
use Rattle.rules.specs.declared.Shape.{Shape}
use Rattle.rules.specs.Schedule.{inner_at, Schedule, Asked, Scheduled}
use Rattle.rules.specs.Checked.{GoodGraph}
use Rattle.rules.specs.Rows.{rows_of, memo}
use Rattle.rules.specs.Candidates.{Candidate, with_row, across, within, driven, candidates_of, candidates}
use Rattle.rules.specs.Shares.{numbered, met}
use Rattle.rules.specs.laws.Bools.{true-or-false}
use Rattle.rules.specs.laws.Candidates.{numbered-length}
use Rattle.rows.specs.Sizes.{up_to}
use Rattle.rows.specs.WalkLaws.{length_more, rows_fit, rows-walk, walk-few}
use Rattle.shares.specs.Shares.{few}
use Rattle.pairs.specs.Places.{start_of, first_row, end_row, rows_ahead, sizes_ahead, ahead_of, candidate_at, no_candidate, Fit, Drives}

-- ---- lists in a row
-- one list more
pub row_next : {C : Type 0} (f : ℕ → List C) (k n : ℕ) → length (in_row f k (suc n)) ≡ length (in_row f k n) + length (f (k + n))
unfolding in_row
row_next f k zero =
    let e : k + 0 ≡ k = omega arith in
    omega (arith, length-append (f k) [], ap (λ (x : ℕ). length (f x)) e)
row_next f k (suc n) =
    let e : suc k + n ≡ k + suc n = omega arith in
    omega (arith, length-append (f k) (in_row f (suc k) (suc n)), length-append (f k) (in_row f (suc k) n), row_next f (suc k) n, ap (λ (x : ℕ). length (f x)) e)

-- fewer lists are not longer
pub row-mono : {C : Type 0} (f : ℕ → List C) (k m n : ℕ) → m ≤ n → length (in_row f k m) ≤ length (in_row f k n)
unfolding in_row
row-mono f k zero n h = omega arith
row-mono f k (suc m) zero h = absurd (omega arith)
row-mono f k (suc m) (suc n) h = omega (arith, length-append (f k) (in_row f (suc k) m), length-append (f k) (in_row f (suc k) n), row-mono f (suc k) m n (omega arith))

-- what stands in the list after the first m
pub row_at : {C : Type 0} (f : ℕ → List C) (c : C) (k m n p : ℕ) → m < n → p < length (f (k + m)) → get_or (in_row f k n) (length (in_row f k m) + p) c ≡ get_or (f (k + m)) p c
unfolding in_row
row_at f c k m zero p l h = absurd (omega arith)
row_at f c k zero (suc n) p l h =
    let e : k + 0 ≡ k = omega arith in
    let z : 0 + p ≡ p = omega arith in
    let h' : p < length (f k) = rw e at h in
    rw (e, z) (get_or-append (f k) (in_row f (suc k) n) c p h')
row_at f c k (suc m) (suc n) p l h =
    let e : suc k + m ≡ k + suc m = omega arith in
    let z : length (f k ++ in_row f (suc k) m) + p ≡ length (f k) + (length (in_row f (suc k) m) + p) = omega (arith, length-append (f k) (in_row f (suc k) m)) in
    rw z (get_or-append-add (f k) (in_row f (suc k) n) (length (in_row f (suc k) m) + p) c ∙ (rw e at (row_at f c (suc k) m n p (omega arith) (rw (← e) at h))))

-- its place is inside
pub row_inside : {C : Type 0} (f : ℕ → List C) (k m n p : ℕ) → m < n → p < length (f (k + m)) → length (in_row f k m) + p < length (in_row f k n)
row_inside f k m n p l h = omega (arith, row_next f k m, row-mono f k (suc m) n l)

-- ---- where rows stand
module _ (g : Graph) where
  -- a size's rows end where the next size's begin
  pub start-next : (k : ℕ) → 1 ≤ k → start_of g (k + 1) ≡ start_of g k + length (rows_of g k)
  start-next k l =
      let e : k + 1 - 1 ≡ k - 1 + 1 = omega arith in
      let f : k - 1 + 1 ≡ k = omega arith in
      ap (λ (x : ℕ). length (up_to g x)) e ∙ length_more g (k - 1) ∙ ap (λ (x : ℕ). start_of g k + length (rows_of g x)) f

  -- a larger size does not begin before a smaller one
  pub start-mono : (j k : ℕ) → j ≤ k → start_of g j ≤ start_of g k
  start-mono j k h = row-mono (rows_of g) 1 (j - 1) (k - 1) (omega arith)

  -- after the largest size the memo ends
  pub start-end : start_of g (table_count g + 1) ≡ length (memo g)
  unfolding memo
  start-end = let e : table_count g + 1 - 1 ≡ table_count g = omega arith in ap (λ (x : ℕ). length (up_to g x)) e

  -- each size begins inside the memo or at its end
  pub start-memo : (k : ℕ) → k ≤ table_count g + 1 → start_of g k ≤ length (memo g)
  start-memo k h = omega (arith, start-end, start-mono k (table_count g + 1) h)

  -- row p is one of size k
  module _ (k p : ℕ) (from_one : 1 ≤ k) (from : start_of g k ≤ p) (to : p < start_of g (k + 1)) where
    -- its place within the size, from 0, is below the size's count
    pub in_size : p - start_of g k < length (rows_of g k)
    in_size = omega (arith, start-next k from_one)

    -- only sizes up to N have rows
    pub size-known : k ≤ table_count g
    size-known = go (dec_lt (table_count g) k)
      where
        go : Dec (table_count g < k) → k ≤ table_count g
        go (yes l) = absurd (omega (arith, in_size, ap length (rows-walk g k ∙ walk-few g k 1 (table_count g) 0 l)))
        go (no n) = omega arith

    -- it is a row of the memo
    pub memo-inside : p < length (memo g)
    memo-inside = omega (arith, size-known, start-memo (k + 1) (omega (arith, size-known)))

    -- the memo holds the rows of each size
    pub memo-row : get_or (memo g) p 0 ≡ get_or (rows_of g k) (p - start_of g k) 0
    unfolding memo
    memo-row =
        let e : 1 + (k - 1) ≡ k = omega arith in
        let f : start_of g k + (p - start_of g k) ≡ p = omega arith in
        rw (f, e) at (row_at (rows_of g) 0 1 (k - 1) (table_count g) (p - start_of g k) (omega (arith, size-known)) (rw e in_size))

-- ---- the candidates of one driving row
-- as many as inner rows
pub with-length : (D i X j : ℕ) (ys : List ℕ) → length (with_row D i X j ys) ≡ length ys
unfolding with_row
with-length D i X j [] = refl
with-length D i X j (Y ∷ ys) = ap suc (with-length D i X (suc j) ys)

-- each with its inner row
with_at : (D i X j r : ℕ) (ys : List ℕ) → r < length ys → get_or (with_row D i X j ys) r no_candidate.candidate ≡ record { rows = D; row = i; count = j + r; driving = X; inner = get_or ys r 0 }
unfolding with_row
with_at D i X j r [] h = absurd (omega arith)
with_at D i X j zero (Y ∷ ys) h = let e : j + 0 ≡ j = omega arith in rw e
with_at D i X j (suc r) (Y ∷ ys) h = let e : j + suc r ≡ suc j + r = omega arith in rw e (with_at D i X (suc j) r ys (omega arith))

-- ---- the driving rows of a size, one after another
across-rows : (D i n : ℕ) (xs ys : List ℕ) → i + n ≡ length xs → across D i (drop i xs) ys ≡ in_row (λ (q : ℕ). with_row D q (get_or xs q 0) 0 ys) i n
unfolding across in_row
across-rows D i zero xs ys e = let f : i ≡ length xs = omega arith in rw (f, drop-length)
across-rows D i (suc n) xs ys e = rw (drop-cons xs i 0 (omega arith)) (ap (λ (l : List Candidate). with_row D i (get_or xs i 0) 0 ys ++ l) (across-rows D (suc i) n xs ys (omega arith)))

within-rows : (D i n : ℕ) (xs : List ℕ) → i + n ≡ length xs → within D i (drop i xs) ≡ in_row (λ (q : ℕ). with_row D q (get_or xs q 0) 0 (drop (suc q) xs)) i n
unfolding within in_row
within-rows D i zero xs e = let f : i ≡ length xs = omega arith in rw (f, drop-length)
within-rows D i (suc n) xs e = rw (drop-cons xs i 0 (omega arith)) (ap (λ (l : List Candidate). with_row D i (get_or xs i 0) 0 (drop (suc i) xs) ++ l) (within-rows D (suc i) n xs (omega arith)))

module _ (g : Graph) (group : Group) (d : ℕ) where
  -- the inner rows that driving row q, from 0, meets, and its candidates
  abbrev inner_rows : ℕ → List ℕ
  inner_rows q = cond (eqb d (inner_at group d)) (drop (suc q) (rows_of g d)) (rows_of g (inner_at group d))

  abbrev met_by : ℕ → List Candidate
  met_by q = with_row (length (rows_of g d)) q (get_or (rows_of g d) q 0) 0 (inner_rows q)

  driven-rows : driven (rows_of g) group d ≡ in_row met_by 0 (length (rows_of g d))
  unfolding driven
  driven-rows = go (eqb d (inner_at group d))
    where
      D : ℕ
      D = length (rows_of g d)

      go : (b : Bool) → cond b (within D 0 (rows_of g d)) (across D 0 (rows_of g d) (rows_of g (inner_at group d)))
          ≡ in_row (λ (q : ℕ). with_row D q (get_or (rows_of g d) q 0) 0 (cond b (drop (suc q) (rows_of g d)) (rows_of g (inner_at group d)))) 0 D
      go true = within-rows D 0 D (rows_of g d) (omega arith)
      go false = across-rows D 0 D (rows_of g d) (rows_of g (inner_at group d)) (omega arith)

  -- one driving row more
  pub ahead-row : (i : ℕ) → start_of g d ≤ i → ahead_of g group d (i + 1) ≡ ahead_of g group d i + (end_row g group d - first_row g group d i)
  unfolding rows_ahead
  ahead-row i h =
      let e : i + 1 - start_of g d ≡ suc (i - start_of g d) = omega arith in
      let f : start_of g d + (i - start_of g d) ≡ i = omega arith in
      rw (e, f) (omega arith)

  -- the next driving size begins where this one ends
  pub ahead-size : 1 ≤ d → ahead_of g group (d + 1) (start_of g (d + 1)) ≡ ahead_of g group d (start_of g (d + 1))
  unfolding rows_ahead sizes_ahead
  ahead-size l =
      let e : d + 1 - 1 ≡ suc (d - 1) = omega arith in
      let f : start_of g (d + 1) - start_of g (d + 1) ≡ 0 = omega arith in
      let h : start_of g (d + 1) - start_of g d ≡ length (rows_of g d) = omega (arith, start-next g d l) in
      let k : suc (d - 1) ≡ d = omega arith in
      omega (arith, ap (sizes_ahead g group) e, ap (rows_ahead g group (d + 1)) f, ap (rows_ahead g group d) h, ap (λ (x : ℕ). rows_ahead g group x (length (rows_of g x))) k)

  module _ (from_one : 1 ≤ d) (to_last : Drives g group d) where
    -- the inner rows of driving row q are those from its first on
    inner-length : (q : ℕ) → length (inner_rows q) ≡ end_row g group d - first_row g group d (start_of g d + q)
    inner-length q = go (true-or-false (eqb d (inner_at group d)))
      where
        go : (eqb d (inner_at group d) ≡ true) ⊎ (eqb d (inner_at group d) ≡ false) → length (inner_rows q) ≡ end_row g group d - first_row g group d (start_of g d + q)
        go (inl e) =
            let f : inner_at group d ≡ d = sym (eqb-true d (inner_at group d) e) in
            rw (e, f) (omega (arith, length-drop (suc q) (rows_of g d), start-next g d from_one))
        go (inr e) = rw e (omega (arith, start-next g (inner_at group d) (omega arith)))

    met-length : (q : ℕ) → length (met_by q) ≡ end_row g group d - first_row g group d (start_of g d + q)
    met-length q = with-length (length (rows_of g d)) q (get_or (rows_of g d) q 0) 0 (inner_rows q) ∙ inner-length q

    rows-ahead : (n : ℕ) → length (in_row met_by 0 n) ≡ rows_ahead g group d n
    unfolding rows_ahead in_row
    rows-ahead zero = refl
    rows-ahead (suc n) =
        let e : 0 + n ≡ n = omega arith in
        omega (arith, row_next met_by 0 n, ap (λ (q : ℕ). length (met_by q)) e, met-length n, rows-ahead n)

    -- a candidate of the driving size by its driving row and inner row, both from 0
    driven-at : (q r : ℕ) → q < length (rows_of g d) → r < length (inner_rows q)
        → get_or (driven (rows_of g) group d) (rows_ahead g group d q + r) no_candidate.candidate ≡ record { rows = length (rows_of g d); row = q; count = r; driving = get_or (rows_of g d) q 0; inner = get_or (inner_rows q) r 0 }
    driven-at q r a b =
        let D = length (rows_of g d) in
        let X = get_or (rows_of g d) q 0 in
        let h : r < length (met_by q) = omega (arith, with-length D q X 0 (inner_rows q)) in
        rw (driven-rows, ← rows-ahead q)
        ((rw zero-add at (row_at met_by no_candidate.candidate 0 q D r a (rw zero-add h))) ∙ (rw zero-add at (with_at D q X 0 r (inner_rows q) b)))

    driven-inside : (q r : ℕ) → q < length (rows_of g d) → r < length (inner_rows q) → rows_ahead g group d q + r < length (driven (rows_of g) group d)
    driven-inside q r a b =
        let D = length (rows_of g d) in
        let h : r < length (met_by q) = omega (arith, with-length D q (get_or (rows_of g d) q 0) 0 (inner_rows q)) in
        omega (arith, ap length driven-rows, rows-ahead q, row_inside met_by 0 q D r a (rw zero-add h))

    module _ (i : ℕ) (row_from : start_of g d ≤ i) where
      -- the first inner row of driving row i is not before the inner size's first row
      pub first-from : start_of g (inner_at group d) ≤ first_row g group d i
      first-from = go (true-or-false (eqb d (inner_at group d)))
        where
          go : (eqb d (inner_at group d) ≡ true) ⊎ (eqb d (inner_at group d) ≡ false) → start_of g (inner_at group d) ≤ first_row g group d i
          go (inl e) =
              let f : inner_at group d ≡ d = sym (eqb-true d (inner_at group d) e) in
              rw (e, f) (omega arith)
          go (inr e) = rw e (omega arith)

      module _ (row-to : i < start_of g (d + 1)) where
        -- nor after its end
        pub first-le : first_row g group d i ≤ end_row g group d
        first-le = go (true-or-false (eqb d (inner_at group d)))
          where
            go : (eqb d (inner_at group d) ≡ true) ⊎ (eqb d (inner_at group d) ≡ false) → first_row g group d i ≤ end_row g group d
            go (inl e) =
                let f : inner_at group d ≡ d = sym (eqb-true d (inner_at group d) e) in
                rw (e, f) (omega arith)
            go (inr e) = rw e (start-mono g (inner_at group d) (inner_at group d + 1) (omega arith))

        -- the set of inner row j
        inner-at : (j : ℕ) → first_row g group d i ≤ j → j < end_row g group d → get_or (inner_rows (i - start_of g d)) (j - first_row g group d i) 0 ≡ get_or (memo g) j 0
        inner-at j a b = go (true-or-false (eqb d (inner_at group d))) a b
          where
            go : (eqb d (inner_at group d) ≡ true) ⊎ (eqb d (inner_at group d) ≡ false) → first_row g group d i ≤ j → j < end_row g group d → get_or (inner_rows (i - start_of g d)) (j - first_row g group d i) 0 ≡ get_or (memo g) j 0
            go (inl e) a b =
                let f : inner_at group d ≡ d = sym (eqb-true d (inner_at group d) e) in
                let a' : i + 1 ≤ j = rw e at a in
                let b' : j < start_of g (d + 1) = rw f at b in
                let k : suc (i - start_of g d) + (j - (i + 1)) ≡ j - start_of g d = omega arith in
                rw e (get_or-drop (suc (i - start_of g d)) (rows_of g d) (j - (i + 1)) 0 ∙ ap (λ (x : ℕ). get_or (rows_of g d) x 0) k ∙ sym (memo-row g d j from_one (omega arith) b'))
            go (inr e) a b =
                let a' : start_of g (inner_at group d) ≤ j = rw e at a in
                rw e (sym (memo-row g (inner_at group d) j (omega arith) a' b))

-- a driving size of a group
-- the groups of a schedule are such
pub group-fits : {g : Graph} {shape : Shape} {n : ℕ} {groups : Schedule} → Scheduled shape (table_count g) n groups → (k : ℕ) → 1 ≤ k → k ≤ n → Fit g (groups k)
group-fits {g} {shape} {n} {groups} serves k l u = record { rising = λ d a b. (asked d a b).rising; known = λ d a b. (asked d a b).known }
  where
    asked : (d : ℕ) → 1 ≤ d → d ≤ (groups k).last → Asked shape (table_count g) d (inner_at (groups k) d)
    asked d a b = (serves.sound k d (inner_at (groups k) d) l u (record { from_one = a; to_last = b; inner = refl })).0

pub drives : {g : Graph} {group : Group} {d : ℕ} → Fit g group → 1 ≤ d → d ≤ group.last → Drives g group d
drives {d = d} f l u = record { fit = f; to_last = u; rising = f.rising d l u; inner-known = f.known d l u }

-- ---- all driving sizes
module _ (g : Graph) (group : Group) (fit : Fit g group) where
  sizes-ahead : (d : ℕ) → d ≤ group.last → length (in_row (driven (rows_of g) group) 1 d) ≡ sizes_ahead g group d
  unfolding sizes_ahead in_row
  sizes-ahead zero h = refl
  sizes-ahead (suc d) h =
      let e : 1 + d ≡ suc d = omega arith in
      omega (
        arith,
        row_next (driven (rows_of g) group) 1 d,
        ap (λ (x : ℕ). length (driven (rows_of g) group x)) e,
        ap length (driven-rows g group (suc d)),
        rows-ahead g group (suc d) (omega arith) (drives fit (omega arith) h) (length (rows_of g (suc d))),
        sizes-ahead d (omega arith),
      )

  met-count : length (met g group) ≡ sizes_ahead g group group.last
  unfolding met candidates candidates_of
  met-count = numbered-length 0 (candidates g group) ∙ sizes-ahead group.last (omega arith)

  -- before the first driving row no candidate is met
  pub ahead-zero : ahead_of g group 1 (start_of g 1) ≡ 0
  unfolding sizes_ahead rows_ahead in_row
  ahead-zero = refl

  -- after the last, all are
  pub ahead-end : ahead_of g group (group.last + 1) (start_of g (group.last + 1)) ≡ length (met g group)
  unfolding rows_ahead
  ahead-end =
      let e : group.last + 1 - 1 ≡ group.last = omega arith in
      let f : start_of g (group.last + 1) - start_of g (group.last + 1) ≡ 0 = omega arith in
      omega (arith, ap (sizes_ahead g group) e, ap (rows_ahead g group (group.last + 1)) f, met-count)

numbered-at : (n p : ℕ) (cs : List Candidate) → p < length cs → get_or (numbered n cs) p no_candidate ≡ record { number = n + p; candidate = get_or cs p no_candidate.candidate }
unfolding numbered
numbered-at n p [] h = absurd (omega arith)
numbered-at n zero (c ∷ cs) h = let e : n + 0 ≡ n = omega arith in rw e
numbered-at n (suc p) (c ∷ cs) h = let e : n + suc p ≡ suc n + p = omega arith in rw e (numbered-at (suc n) p cs (omega arith))

-- ---- the candidate of driving row i of size d and inner row j
module _ (g : Graph) (group : Group) (d i j : ℕ) (from_one : 1 ≤ d) (to_last : Drives g group d) (row_from : start_of g d ≤ i) (row-to : i < start_of g (d + 1)) (inner-from : first_row g group d i ≤ j) (inner-to : j < end_row g group d) where
  inner-known : j - first_row g group d i < length (inner_rows g group d (i - start_of g d))
  inner-known =
      let e : start_of g d + (i - start_of g d) ≡ i = omega arith in
      omega (arith, inner-length g group d from_one to_last (i - start_of g d), ap (first_row g group d) e)

  driven-known : rows_ahead g group d (i - start_of g d) + (j - first_row g group d i) < length (driven (rows_of g) group (1 + (d - 1)))
  driven-known =
      let e : 1 + (d - 1) ≡ d = omega arith in
      rw e (driven-inside g group d from_one to_last (i - start_of g d) (j - first_row g group d i) (in_size g d i from_one row_from row-to) inner-known)

  number_is : ahead_of g group d i + (j - first_row g group d i) ≡ length (in_row (driven (rows_of g) group) 1 (d - 1)) + (rows_ahead g group d (i - start_of g d) + (j - first_row g group d i))
  number_is = omega (arith, sizes-ahead g group to_last.fit (d - 1) (omega arith))

  candidates-inside : ahead_of g group d i + (j - first_row g group d i) < length (candidates g group)
  unfolding candidates candidates_of
  candidates-inside = rw number_is (row_inside (driven (rows_of g) group) 1 (d - 1) group.last (rows_ahead g group d (i - start_of g d) + (j - first_row g group d i)) (omega arith) driven-known)

  candidates-at : get_or (candidates g group) (ahead_of g group d i + (j - first_row g group d i)) no_candidate.candidate ≡ (candidate_at g group d i j).candidate
  unfolding candidates candidates_of
  candidates-at =
      let q = i - start_of g d in
      let r = j - first_row g group d i in
      let e : 1 + (d - 1) ≡ d = omega arith in
      ap (λ (n : ℕ). get_or (candidates g group) n no_candidate.candidate) number_is
      ∙ row_at (driven (rows_of g) group) no_candidate.candidate 1 (d - 1) group.last (rows_ahead g group d q + r) (omega arith) driven-known
      ∙ ap (λ (x : ℕ). get_or (driven (rows_of g) group x) (rows_ahead g group d q + r) no_candidate.candidate) e
      ∙ driven-at g group d from_one to_last q r (in_size g d i from_one row_from row-to) inner-known
      ∙ ap₂ (λ (X Y : ℕ). record { rows = length (rows_of g d); row = q; count = r; driving = X; inner = Y }) (sym (memo-row g d i from_one row_from row-to))
      (inner-at g group d from_one to_last i row_from row-to j inner-from inner-to)

  -- it is one of the group's candidates
  pub met-inside : ahead_of g group d i + (j - first_row g group d i) < length (met g group)
  unfolding met
  met-inside = omega (arith, numbered-length 0 (candidates g group), candidates-inside)

  -- the one that has its number
  pub met_at : get_or (met g group) (ahead_of g group d i + (j - first_row g group d i)) no_candidate ≡ candidate_at g group d i j
  unfolding met
  met_at =
      let n = ahead_of g group d i + (j - first_row g group d i) in
      numbered-at 0 n (candidates g group) candidates-inside ∙ ap₂ (λ (x : ℕ) (c : Candidate). record { number = x; candidate = c }) (zero-add n) candidates-at

-- ---- how many there are
-- no more candidates come before a driving row than the group has
pub ahead-met : (g : Graph) (group : Group) (d i : ℕ) → 1 ≤ d → Drives g group d → start_of g d ≤ i → i ≤ start_of g (d + 1) → ahead_of g group d i ≤ length (met g group)
unfolding sizes_ahead
ahead-met g group d i from_one to_last a b =
    let D = length (rows_of g d) in
    let e : suc (d - 1) ≡ d = omega arith in
    let f : i - start_of g d ≤ D = omega (arith, start-next g d from_one) in
    omega (
      arith,
      rows-ahead g group d from_one to_last (i - start_of g d),
      rows-ahead g group d from_one to_last D,
      row-mono (met_by g group d) 0 (i - start_of g d) D f,
      ap (λ (x : ℕ). rows_ahead g group x (length (rows_of g x))) e,
      ap (sizes_ahead g group) e,
      sizes-ahead g group to_last.fit d to_last.to_last,
      sizes-ahead g group to_last.fit group.last (omega arith),
      row-mono (driven (rows_of g) group) 1 d group.last to_last.to_last,
      met-count g group to_last.fit,
    )

module _ (g : Graph) (good : GoodGraph g) where
  rows_few : (k : ℕ) → length (up_to g k) ≤ k * 65536
  unfolding in_row
  rows_few zero = omega arith
  rows_few (suc k) =
      let e : k + 1 ≡ suc k = omega arith in
      omega (arith, length_more g k, ap (λ (x : ℕ). length (up_to g x)) e, rows_fit g (k + 1) good.few-tables, rows_few k)

  -- the memo has few rows
  pub memo-few : length (memo g) ≤ few
  unfolding memo
  memo-few = omega (arith, rows_few (table_count g), good.few-tables)

  driving-few : (group : Group) (d n : ℕ) → 1 ≤ d → Drives g group d → rows_ahead g group d n ≤ n * 65536
  unfolding rows_ahead
  driving-few group d zero l u = omega arith
  driving-few group d (suc n) l u =
      omega (arith, driving-few group d n l u, first-from g group d l u (start_of g d + n) (omega arith), start-next g (inner_at group d) (omega arith), rows_fit g (inner_at group d) good.few-tables)

  sizes-few : (group : Group) → Fit g group → (d : ℕ) → d ≤ group.last → sizes_ahead g group d ≤ d * 4294967296
  unfolding sizes_ahead
  sizes-few group fit zero h = omega arith
  sizes-few group fit (suc d) h = omega (arith, sizes-few group fit d (omega arith), driving-few group (suc d) (length (rows_of g (suc d))) (omega arith) (drives fit (omega arith) h), rows_fit g (suc d) good.few-tables)

  -- a group has few candidates
  pub met-few : (group : Group) → Fit g group → length (met g group) ≤ few
  met-few group fit = go (dec_lt 0 group.last)
    where
      go : Dec (0 < group.last) → length (met g group) ≤ few
      go (yes l) = omega (arith, met-count g group fit, sizes-few group fit group.last (omega arith), good.few-tables, fit.known group.last l (omega arith))
      go (no z) = omega (arith, met-count g group fit, sizes-few group fit group.last (omega arith))

-- Laws of shares: the inner rows that a worker walks of a driving row are those of its candidates, and a stride meets no other.
use Rattle.std.specs.Prelude.{◌≡◌, refl, ◌⊎◌, Bool, false, cond, ◌&&◌, ℕ, ◌+◌, ◌-◌, ◌*◌, ◌/◌, ◌%◌, ◌≤◌, ◌<◌, eqb, leb, ltb, length, get_or}
use Rattle.std.proofs.Common.{sym, ap, ◌∙◌, inl, inr, mod-eq_of_lt, div-mul-le_self, eqb-true, eq-eqb, ltb-true, ltb-false, leb-true, lt-ltb, le-leb}
use Rattle.std.proofs.Math.Bool.{true}
use Rattle.std.proofs.Math.Nat.{mod-le, mod-one, mod_self, mul-sub, mul-mod_left, mul-mod_right, div-add-mod, lt-div-mul-add, add-mul-mod_self_left}
use Rattle.std.proofs.Math.Decide.{dec_lt}
use native.Mathlib.Omega.{arith}
use Rattle.std.proofs.lemmas.Bool.{lt-leb}
use Rattle.rules.specs.declared.Scheme.{Scheme}
use Rattle.rules.specs.declared.Scheme.TheVariants.{CutCandidates, CutRows, DealRows, DealInner}
use Rattle.rules.specs.Query.{Graph}
use Rattle.rules.specs.declared.Group.{Group}
use Rattle.rules.specs.Checked.{GoodGraph}
use Rattle.rules.specs.Rows.{rows_of, memo}
use Rattle.rules.specs.Shares.{Numbered, cut, in_cut, owns, met}
use Rattle.rules.specs.laws.Bools.{true-or-false, and-true, and-true-l, and_true_r}
use Rattle.rules.specs.laws.Shares.{cut-mono, cut_all}
use Rattle.shares.specs.declared.Share.{Share}
use Rattle.shares.specs.declared.Span.{Span}
use Rattle.shares.specs.Shares.{few, ShareFits, ShareOf, spans, in_span, all_span, clipped, span_by, span_of, on_by, on_span, Aligned}
use Rattle.pairs.specs.Places.{Fit, start_of, first_row, end_row, ahead_of, candidate_at}
use Rattle.pairs.specs.PlaceLaws.{met-few}

-- ---- strides
-- two numbers with the same rest lie a stride apart
rest-same : (k a b : ℕ) → a ≤ b → a % k ≡ b % k → (b - a) % k ≡ 0
rest-same k a b h e =
    let f : b - a ≡ k * (b / k - a / k) = omega (arith, div-add-mod a k, div-add-mod b k, mul-sub k (b / k) (a / k)) in
    rw f (mul-mod_right k (b / k - a / k))

-- a stride apart, they have the same rest
rest_back : (k a b : ℕ) → a ≤ b → (b - a) % k ≡ 0 → b % k ≡ a % k
rest_back k a b h e =
    let f : b ≡ a + k * ((b - a) / k) = omega (arith, div-add-mod (b - a) k) in
    ap (λ (x : ℕ). x % k) f ∙ add-mul-mod_self_left a k ((b - a) / k)

-- on from a row of the stride, one stays on it
pub stride_on : (k f j r : ℕ) → f ≤ j → j ≤ r → (j - f) % k ≡ 0 → (r - j) % k ≡ 0 → (r - f) % k ≡ 0
stride_on k f j r a b x y =
    let e : r - f - (j - f) ≡ r - j = omega arith in
    rest_back k (j - f) (r - f) (omega arith) (rw e y) ∙ x

-- two rows of the stride lie a stride apart
pub stride-between : (k f j p : ℕ) → f ≤ j → j ≤ p → (j - f) % k ≡ 0 → (p - f) % k ≡ 0 → (p - j) % k ≡ 0
stride-between k f j p a b x y =
    let e : p - f - (j - f) ≡ p - j = omega arith in
    rw e at (rest-same k (j - f) (p - f) (omega arith) (x ∙ sym y))

-- no row of the stride lies between two neighbours
pub stride-gap : (k j p : ℕ) → j < p → p < j + k → (p - j) % k ≡ 0 → ⊥
stride-gap k j p a b e =
    let l : p - j < k = omega arith in
    omega (arith, mod-eq_of_lt l)

-- ---- the first row of the stride that is not before `to`
-- where all rows are on the stride, it is `to`
pub aligned-one : (j to step : ℕ) → step ≡ 1 → Aligned j to step to
aligned-one j to step e = rw e (record { reached = omega arith; near = omega arith; on = mod-one (to - j) })

-- where one step reaches `to`, it is one step on
pub aligned_next : (j to step : ℕ) → j < to → to ≤ j + step → Aligned j to step (j + step)
aligned_next j to step a b = let e : j + step - j ≡ step = omega arith in record { reached = b; near = omega arith; on = rw e (mod_self step) }

-- in general, the steps to it are a quotient rounded up
pub aligned-far : (j to step : ℕ) → j < to → 1 ≤ step → Aligned j to step (j + (to - j + step - 1) / step * step)
aligned-far j to step a b =
    let n = to - j + step - 1 in
    let e : j + n / step * step - j ≡ n / step * step = omega arith in
    record {
      reached = omega (arith, lt-div-mul-add {a = n} {b = step} b);
      near = omega (arith, div-mul-le_self n step);
      on = rw e (mul-mod_left (n / step) step);
    }

-- ---- the rows of a span
-- an inner row of a span is inside it and on its stride
pub span-true : (own : Span) (j : ℕ) → in_span own j ≡ true → (own.from ≤ j) × (j < own.end) × ((j - own.from) % own.step ≡ 0)
span-true own j e =
    let a = leb own.from j in
    let b = ltb j own.end in
    let c = eqb ((j - own.from) % own.step) 0 in
    let f : (b && c) ≡ true = and_true_r a (b && c) e in
    (leb-true own.from j (and-true-l a (b && c) e), ltb-true j own.end (and-true-l b c f), eqb-true ((j - own.from) % own.step) 0 (and_true_r b c f))

-- one that is inside it and on its stride is of the span
pub true-span : (own : Span) (j : ℕ) → own.from ≤ j → j < own.end → (j - own.from) % own.step ≡ 0 → in_span own j ≡ true
true-span own j a b c = rw (le-leb own.from j a, lt-ltb j own.end b, eq-eqb ((j - own.from) % own.step) 0 c)

-- tests that hold together are the same
both_ways : (a b : Bool) → (a ≡ true → b ≡ true) → (b ≡ true → a ≡ true) → a ≡ b
both_ways true b f k = sym (f refl)
both_ways false true f k = k refl
both_ways false false f k = refl

-- all inner rows of a driving row, or none
all-span : (b : Bool) (first end j : ℕ) → first ≤ j → j < end → b ≡ in_span (all_span b first end) j
all-span true first end j l u = sym (true-span (spans first end 1) j l u (mod-one (j - first)))
all-span false first end j l u = rw (lt-leb end j u)

-- where a span of all inner rows between two numbers ends
clip-end : (b x first end j : ℕ) → first ≤ j → j < end → (j < cond (ltb b (x + (end - first))) (first + (b - x)) end → x + (j - first) < b) × (x + (j - first) < b → j < cond (ltb b (x + (end - first))) (first + (b - x)) end)
clip-end b x first end j l u = go (true-or-false (ltb b (x + (end - first))))
  where
    go : (ltb b (x + (end - first)) ≡ true) ⊎ (ltb b (x + (end - first)) ≡ false)
        → (j < cond (ltb b (x + (end - first))) (first + (b - x)) end → x + (j - first) < b) × (x + (j - first) < b → j < cond (ltb b (x + (end - first))) (first + (b - x)) end)
    go (inl e) = rw e (λ h. omega arith, λ h. omega arith)
    go (inr e) = rw e (λ h. omega (arith, ltb-false b (x + (end - first)) e), λ h. u)

-- those whose numbers are from a up to, not including, b
clip-span : (a b x first end j : ℕ) → first ≤ j → j < end → (leb a (x + (j - first)) && ltb (x + (j - first)) b) ≡ in_span (clipped a b x first end) j
clip-span a b x first end j l u = both_ways (leb a n && ltb n b) (in_span own j) to back
  where
    n : ℕ
    n = x + (j - first)

    own : Span
    own = clipped a b x first end

    to : (leb a n && ltb n b) ≡ true → in_span own j ≡ true
    to e =
        true-span own j (omega (arith, leb-true a n (and-true-l (leb a n) (ltb n b) e))) ((clip-end b x first end j l u).1 (ltb-true n b (and_true_r (leb a n) (ltb n b) e)))
        (mod-one (j - own.from))

    back : in_span own j ≡ true → (leb a n && ltb n b) ≡ true
    back e =
        let r = span-true own j e in
        and-true (leb a n) (ltb n b) (le-leb a n (omega (arith, r.0))) (lt-ltb n b ((clip-end b x first end j l u).0 r.1))

-- every m-th inner row, from the worker's first on
deal-span : (m w first end j : ℕ) → w < m → first ≤ j → j < end → eqb ((j - first) % m) w ≡ in_span (spans (first + w) end m) j
deal-span m w first end j h l u = both_ways (eqb ((j - first) % m) w) (in_span (spans (first + w) end m) j) to back
  where
    own : w % m ≡ w
    own = mod-eq_of_lt h

    e : j - first - w ≡ j - (first + w)
    e = omega arith

    to : eqb ((j - first) % m) w ≡ true → in_span (spans (first + w) end m) j ≡ true
    to t =
        let r : (j - first) % m ≡ w = eqb-true ((j - first) % m) w t in
        let k : w ≤ j - first = omega (arith, mod-le (j - first) m) in
        true-span (spans (first + w) end m) j (omega arith) u (rw e at (rest-same m w (j - first) k (own ∙ sym r)))

    back : in_span (spans (first + w) end m) j ≡ true → eqb ((j - first) % m) w ≡ true
    back t =
        let r = span-true (spans (first + w) end m) j t in
        eq-eqb ((j - first) % m) w (rest_back m w (j - first) (omega (arith, r.0)) (rw e r.2) ∙ own)

-- after an own one, every m-th
next-span : (m w first end j p : ℕ) → 1 ≤ m → first ≤ j → j < p → p < end → (j - first) % m ≡ w → eqb ((p - first) % m) w ≡ in_span (spans (j + m) end m) p
next-span m w first end j p some l n u r = both_ways (eqb ((p - first) % m) w) (in_span (spans (j + m) end m) p) to back
  where
    e : p - first - (j - first) ≡ p - j
    e = omega arith

    to : eqb ((p - first) % m) w ≡ true → in_span (spans (j + m) end m) p ≡ true
    to t =
        let a : (p - j) % m ≡ 0 = rw e at (rest-same m (j - first) (p - first) (omega arith) (r ∙ sym (eqb-true ((p - first) % m) w t))) in
        let b : j + m ≤ p = go (dec_lt p (j + m)) a in
        let f : p - j - m ≡ p - (j + m) = omega arith in
        true-span (spans (j + m) end m) p b u (rw f at (rest-same m m (p - j) (omega arith) (mod_self m ∙ sym a)))
      where
        go : Dec (p < j + m) → (p - j) % m ≡ 0 → j + m ≤ p
        go (yes h) a = absurd (stride-gap m j p n h a)
        go (no h) a = omega arith

    back : in_span (spans (j + m) end m) p ≡ true → eqb ((p - first) % m) w ≡ true
    back t =
        let b = span-true (spans (j + m) end m) p t in
        let f : p - j - m ≡ p - (j + m) = omega arith in
        let a : (p - j) % m ≡ 0 = rest_back m m (p - j) (omega (arith, b.0)) (rw f b.2) ∙ mod_self m in
        eq-eqb ((p - first) % m) w (rest_back m (j - first) (p - first) (omega arith) (rw e a) ∙ r)

-- ---- a worker's inner rows are those of its candidates
abbrev numbered_as : ℕ → ℕ → ℕ → ℕ → ℕ → ℕ → Numbered
numbered_as n D i count X Y = record { number = n; candidate = record { rows = D; row = i; count = count; driving = X; inner = Y } }

module _ (h : Share) (T : ℕ) (worker : h.worker < h.workers) (from : h.from ≡ cut T h.workers h.worker) (to : h.to ≡ cut T h.workers (h.worker + 1)) (D i X : ℕ) where
  -- of driving row i of D, whose inner rows are first to end, the first with number x
  pub spans-own : (scheme : Scheme) (x first end j Y : ℕ) → first ≤ j → j < end
      → owns scheme T h.workers h.worker (numbered_as (x + (j - first)) D i (j - first) X Y) ≡ in_span (span_by scheme h x D i first end) j
  unfolding owns span_by in_cut
  spans-own CutCandidates x first end j Y l u = rw (from, to) (clip-span (cut T h.workers h.worker) (cut T h.workers (h.worker + 1)) x first end j l u)
  spans-own CutRows x first end j Y l u = all-span (in_cut D h.workers h.worker i) first end j l u
  spans-own DealRows x first end j Y l u = all-span (eqb (i % h.workers) h.worker) first end j l u
  spans-own DealInner x first end j Y l u = deal-span h.workers h.worker first end j worker l u

  -- after its own inner row j, which has number x
  pub spans_on : (scheme : Scheme) (x first end j p Y Z : ℕ) → first ≤ j → j < p → p < end
      → owns scheme T h.workers h.worker (numbered_as x D i (j - first) X Y) ≡ true
      → owns scheme T h.workers h.worker (numbered_as (x + (p - j)) D i (p - first) X Z) ≡ in_span (on_by scheme h x j end) p
  unfolding owns on_by in_cut
  spans_on CutCandidates x first end j p Y Z l n u o =
      let e : x + 1 + (p - (j + 1)) ≡ x + (p - j) = omega arith in
      rw (from, to, ← e) (clip-span (cut T h.workers h.worker) (cut T h.workers (h.worker + 1)) (x + 1) (j + 1) end p (omega arith) u)
  spans_on CutRows x first end j p Y Z l n u o = o ∙ all-span true (j + 1) end p (omega arith) u
  spans_on DealRows x first end j p Y Z l n u o = o ∙ all-span true (j + 1) end p (omega arith) u
  spans_on DealInner x first end j p Y Z l n u o = next-span h.workers h.worker first end j p (omega arith) l n u (eqb-true ((j - first) % h.workers) h.worker o)

module _ (g : Graph) (group : Group) (h : Share) (z : ShareOf g group h) where
  -- a worker's cut is one of all candidates of the group
  pub share-total : h.total ≡ length (met g group)
  share-total = ap (λ (x : Share). x.total) z.is

  share_from : h.from ≡ cut (length (met g group)) h.workers h.worker
  share_from = ap (λ (x : Share). x.from) z.is

  share-to : h.to ≡ cut (length (met g group)) h.workers (h.worker + 1)
  share-to = ap (λ (x : Share). x.to) z.is

  -- a worker's share is within what its arithmetic asks
  pub share-fits : GoodGraph g → Fit g group → ShareFits h
  share-fits good known =
      let T = length (met g group) in
      let m = h.workers in
      let all : cut T m m ≡ T = cut_all T m z.some-worker in
      let few-all : T ≤ few = met-few g good group known in
      record {
        some-worker = z.some-worker;
        few-workers = z.few-workers;
        worker = z.worker;
        total = omega (arith, share-total);
        from = omega (arith, share_from, cut-mono T m h.worker m z.some-worker (omega (arith, z.worker)));
        to = omega (arith, share-to, cut-mono T m (h.worker + 1) m z.some-worker (omega (arith, z.worker)));
      }

  module _ (d i j : ℕ) (inner-from : first_row g group d i ≤ j) where
    -- a worker has the candidate of driving row i and inner row j exactly where its span of the driving row has j
    pub span-owns : j < end_row g group d
        → owns h.scheme (length (met g group)) h.workers h.worker (candidate_at g group d i j) ≡ in_span (span_of h (ahead_of g group d i) (length (rows_of g d)) (i - start_of g d) (first_row g group d i) (end_row g group d)) j
    span-owns inner-to =
        spans-own h (length (met g group)) z.worker share_from share-to (length (rows_of g d)) (i - start_of g d) (get_or (memo g) i 0) h.scheme (ahead_of g group d i) (first_row g group d i) (end_row g group d) j (get_or (memo g) j 0) inner-from inner-to

    -- after its own inner row j, exactly where what is left of the span has it
    pub span-on : (p : ℕ) → j < p → p < end_row g group d → owns h.scheme (length (met g group)) h.workers h.worker (candidate_at g group d i j) ≡ true
        → owns h.scheme (length (met g group)) h.workers h.worker (candidate_at g group d i p) ≡ in_span (on_span h (ahead_of g group d i + (j - first_row g group d i)) j (end_row g group d)) p
    span-on p a b o =
        let x = ahead_of g group d i + (j - first_row g group d i) in
        let e : x + (p - j) ≡ ahead_of g group d i + (p - first_row g group d i) = omega arith in
        rw e at (spans_on h (length (met g group)) z.worker share_from share-to (length (rows_of g d)) (i - start_of g d) (get_or (memo g) i 0) h.scheme x (first_row g group d i) (end_row g group d) j p (get_or (memo g) j 0) (get_or (memo g) p 0) inner-from a b o)

-- ---- where spans lie
-- a span of inner rows from first to end
pub record Lies (first end : ℕ) (own : Span) : Type 0 where
  pub some-step : 1 ≤ own.step
  pub few-step : own.step ≤ few
  pub after : first ≤ own.from
  pub near : own.from ≤ few + few
  pub ends : own.end ≤ end

clip-lies : (a b x first end : ℕ) → a ≤ few → first ≤ end → end ≤ few → Lies first end (clipped a b x first end)
clip-lies a b x first end f l u = record { some-step = omega arith; few-step = omega arith; after = omega arith; near = omega arith; ends = go (true-or-false (ltb b (x + (end - first)))) }
  where
    go : (ltb b (x + (end - first)) ≡ true) ⊎ (ltb b (x + (end - first)) ≡ false) → cond (ltb b (x + (end - first))) (first + (b - x)) end ≤ end
    go (inl e) = rw e (omega (arith, ltb-true b (x + (end - first)) e))
    go (inr e) = rw e (omega arith)

all-lies : (b : Bool) (first end : ℕ) → first ≤ end → end ≤ few → Lies first end (all_span b first end)
all-lies true first end l u = record { some-step = omega arith; few-step = omega arith; after = omega arith; near = omega arith; ends = omega arith }
all-lies false first end l u = record { some-step = omega arith; few-step = omega arith; after = omega arith; near = omega arith; ends = omega arith }

module _ (h : Share) (z : ShareFits h) where
  by-lies : (scheme : Scheme) (x D i first end : ℕ) → first ≤ end → end ≤ few → Lies first end (span_by scheme h x D i first end)
  unfolding span_by
  by-lies CutCandidates x D i first end l u = clip-lies h.from h.to x first end z.from l u
  by-lies CutRows x D i first end l u = all-lies (in_cut D h.workers h.worker i) first end l u
  by-lies DealRows x D i first end l u = all-lies (eqb (i % h.workers) h.worker) first end l u
  by-lies DealInner x D i first end l u = record { some-step = z.some-worker; few-step = omega (arith, z.few-workers); after = omega arith; near = omega (arith, z.worker, z.few-workers); ends = omega arith }

  -- a worker's span of a driving row
  pub span-lies : (x D i first end : ℕ) → first ≤ end → end ≤ few → Lies first end (span_of h x D i first end)
  span-lies = by-lies h.scheme

  on-by-lies : (scheme : Scheme) (x j end : ℕ) → j < end → end ≤ few → Lies (j + 1) end (on_by scheme h x j end)
  unfolding on_by
  on-by-lies CutCandidates x j end l u = clip-lies h.from h.to (x + 1) (j + 1) end z.from (omega arith) u
  on-by-lies CutRows x j end l u = all-lies true (j + 1) end (omega arith) u
  on-by-lies DealRows x j end l u = all-lies true (j + 1) end (omega arith) u
  on-by-lies DealInner x j end l u = record { some-step = z.some-worker; few-step = omega (arith, z.few-workers); after = omega (arith, z.some-worker); near = omega (arith, z.few-workers); ends = omega arith }

  -- what is left of it after its own inner row j
  pub on-lies : (x j end : ℕ) → j < end → end ≤ few → Lies (j + 1) end (on_span h x j end)
  on-lies = on-by-lies h.scheme

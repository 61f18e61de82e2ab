-- The verdict is 0 exactly for the accepted inputs.
use Rattle.std.specs.Prelude.{◌≡◌, refl, ◌⊎◌, Bool, true, false, cond, ◌&&◌, ◌||◌, not, List, [], ◌∷◌, ◌++◌, eqb, leb, ltb, length, get_or}
use Rattle.std.proofs.Common.{ap, inl, inr, ⊎_elim}
use Prim.Native.Nat.{ℕ, zero, suc, ◌+◌, ◌-◌, ◌≤◌, ◌<◌}
use Rattle.std.proofs.Math.Decide.{ℕ_discrete}
use Rattle.std.proofs.Math.Numerals.{add-one}
use native.Mathlib.Omega.{arith}
use borrow.Author.Tests.{eqb-true, eqb-false, eq-eqb, ne_eqb, ltb-true, ltb-false, lt-ltb, le-ltb, leb-true, le-leb, not-false}
use Rattle.rules.specs.Verdict.{Verdict, none}
use Rattle.rules.specs.declared.Edge.{Edge}
use Rattle.rules.specs.declared.Scheme.{Scheme}
use Rattle.rules.specs.Limits.{max_tables, max_methods, max_workers, max_divisor, max_rows, max_scan, max_fixed, max_coefficient, in_range, tables_fit, methods_fit, table_fits, method_fits}
use Rattle.rules.specs.Kinds.{new_edge, edge_number, scheme_of, crew_with, new_crew}
use Rattle.rules.specs.Lists.{is_yes}
use Rattle.rules.specs.Sets.{full}
use Rattle.rules.specs.Query.{Graph, Query, table_count, edge_count, method_count, Joins}
use Rattle.rules.specs.Connected.{Connected}
use Rattle.rules.specs.Estimate.{joins_at}
use Rattle.rules.specs.Rows.{memo}
use Rattle.rules.specs.Skips.{skips}
use Rattle.rules.specs.Refusals.{Memory, Input, refuse, first_bad, first_of, all_are, all_same, memo_lengths, log_lengths, groups, bad_table, bad_method, joined_below, repeats, edge_or, bad_edge, is_refused, bad_turn, checks_of, checks, rooms, verdict}
use Rattle.rules.specs.Checked.{MethodGood, EdgeGood, GoodGraph, Sound, Columns, CrewGood, Accepted, Checked}
use Rattle.rules.specs.laws.Bools.{true-or-false, not-both, and-true, and-true-l, and_true_r, or_cases, or-true-l, or_true_r, yes_true, true-yes}
use Rattle.rules.specs.laws.Decide.{connected?}
use Rattle.std.specs.Prelude.{Err, None, Ok, Option, Some}
use Rattle.rules.specs.declared.EdgeFault.TheVariants.{Divisor, Itself, Outside}

-- ---- the shapes of a check
-- no verdict of the list is a refusal
unfoldable pub AllNone : List Verdict → Type 0
AllNone [] = Unit {0}
AllNone (v ∷ vs) = (v.number ≡ 0) × AllNone vs

none-all : (vs : List Verdict) → (first_of vs).number ≡ 0 → AllNone vs
unfolding first_of AllNone
none-all [] e = tt
none-all (v ∷ vs) e = go (none-all vs) (true-or-false (eqb v.number 0)) e
  where
    go : ((first_of vs).number ≡ 0 → AllNone vs) → (eqb v.number 0 ≡ true) ⊎ (eqb v.number 0 ≡ false) → (cond (eqb v.number 0) (first_of vs) v).number ≡ 0 → (v.number ≡ 0) × AllNone vs
    go ih (inl z) e = (eqb-true v.number 0 z, ih (rw z at e))
    go ih (inr z) e = absurd (eqb-false v.number 0 z (rw z at e))

all_none : (vs : List Verdict) → AllNone vs → first_of vs ≡ none
unfolding first_of AllNone
all_none [] h = refl
all_none (v ∷ vs) h = rw (eq-eqb v.number 0 h.0) (all_none vs h.1)

none-append : (xs ys : List Verdict) → AllNone (xs ++ ys) → AllNone xs × AllNone ys
unfolding AllNone
none-append [] ys h = (tt, h)
none-append (v ∷ xs) ys h = let r = none-append xs ys h.1 in ((h.0, r.0), r.1)

pub none-refuse : (n : ℕ) (b : Bool) → (refuse (suc n) b).number ≡ 0 → b ≡ false
unfolding refuse
none-refuse n true e = absurd (omega arith)
none-refuse n false e = refl

refuse-none : (n : ℕ) (b : Bool) → b ≡ false → (refuse n b).number ≡ 0
unfolding refuse
refuse-none n b e = rw e

pub none-bad : (f : ℕ → ℕ) (i n : ℕ) → (first_bad f i n).number ≡ 0 → (j : ℕ) → i ≤ j → j < i + n → f j ≡ 0
unfolding first_bad
none-bad f i zero e j l u = absurd (omega arith)
none-bad f i (suc n) e j l u = go (none-bad f (suc i) n) (true-or-false (eqb (f i) 0)) e
  where
    go : ((first_bad f (suc i) n).number ≡ 0 → (k : ℕ) → suc i ≤ k → k < suc i + n → f k ≡ 0) → (eqb (f i) 0 ≡ true) ⊎ (eqb (f i) 0 ≡ false)
        → (cond (eqb (f i) 0) (first_bad f (suc i) n) (record { number = f i; place = i })).number ≡ 0 → f j ≡ 0
    go ih (inl z) e = here (ℕ_discrete i j)
      where
        here : Dec (i ≡ j) → f j ≡ 0
        here (yes p) = rw (← p) (eqb-true (f i) 0 z)
        here (no g) = ih (rw z at e) j (omega arith) (omega arith)
    go ih (inr z) e = absurd (eqb-false (f i) 0 z (rw z at e))

bad-none : (f : ℕ → ℕ) (i n : ℕ) → ((j : ℕ) → i ≤ j → j < i + n → f j ≡ 0) → (first_bad f i n).number ≡ 0
unfolding first_bad
bad-none f i zero h = refl
bad-none f i (suc n) h = rw (eq-eqb (f i) 0 (h i (omega arith) (omega arith))) (bad-none f (suc i) n (λ j l u. h j (omega arith) (omega arith)))

-- ---- as a loop goes: record i is good, record i is bad, no record is left
module _ (f : ℕ → ℕ) (i n : ℕ) where
  pub bad-step : i < n → f i ≡ 0 → first_bad f (i + 1) (n - (i + 1)) ≡ first_bad f i (n - i)
  unfolding first_bad
  bad-step l e = let k : n - i ≡ suc (n - (i + 1)) = omega arith in rw (k, eq-eqb (f i) 0 e, add-one i)

  pub bad-here : i < n → (f i ≡ 0 → ⊥) → record { number = f i; place = i } ≡ first_bad f i (n - i)
  unfolding first_bad
  bad-here l e = let k : n - i ≡ suc (n - (i + 1)) = omega arith in rw (k, ne_eqb (f i) 0 e)

  pub bad-end : n ≤ i → none ≡ first_bad f i (n - i)
  unfolding first_bad
  bad-end l = let k : n - i ≡ 0 = omega arith in rw k

-- a test that must hold, as a number
test-none : (b : Bool) (n : ℕ) → cond b 0 (suc n) ≡ 0 → b ≡ true
test-none true n e = refl
test-none false n e = absurd (omega arith)

none-test : (b : Bool) (n : ℕ) → b ≡ true → cond b 0 n ≡ 0
none-test b n e = rw e

pub range : (low high n : ℕ) → in_range low high n ≡ true → (low ≤ n) × (n ≤ high)
range low high n e = (leb-true low n (and-true-l (leb low n) (leb n high) e), leb-true n high (and_true_r (leb low n) (leb n high) e))

of_range : (low high n : ℕ) → low ≤ n → n ≤ high → in_range low high n ≡ true
of_range low high n a b = and-true (leb low n) (leb n high) (le-leb low n a) (le-leb n high b)

-- ---- lengths, as facts
unfoldable pub AllAre : ℕ → List ℕ → Type 0
AllAre n [] = Unit {0}
AllAre n (k ∷ ks) = (k ≡ n) × AllAre n ks

unfoldable pub AllSame : List (List ℕ) → Type 0
AllSame [] = Unit {0}
AllSame ([] ∷ gs) = AllSame gs
AllSame ((n ∷ ks) ∷ gs) = AllAre n ks × AllSame gs

are-true : (n : ℕ) (ks : List ℕ) → all_are n ks ≡ true → AllAre n ks
unfolding all_are AllAre
are-true n [] e = tt
are-true n (k ∷ ks) e = (eqb-true k n (and-true-l (eqb k n) (all_are n ks) e), are-true n ks (and_true_r (eqb k n) (all_are n ks) e))

true-are : (n : ℕ) (ks : List ℕ) → AllAre n ks → all_are n ks ≡ true
unfolding all_are AllAre
true-are n [] h = refl
true-are n (k ∷ ks) h = and-true (eqb k n) (all_are n ks) (eq-eqb k n h.0) (true-are n ks h.1)

pub same_true : (gs : List (List ℕ)) → all_same gs ≡ true → AllSame gs
unfolding all_same AllSame
same_true [] e = tt
same_true ([] ∷ gs) e = same_true gs e
same_true ((n ∷ ks) ∷ gs) e = (are-true n ks (and-true-l (all_are n ks) (all_same gs) e), same_true gs (and_true_r (all_are n ks) (all_same gs) e))

true_same : (gs : List (List ℕ)) → AllSame gs → all_same gs ≡ true
unfolding all_same AllSame
true_same [] h = refl
true_same ([] ∷ gs) h = true_same gs h
true_same ((n ∷ ks) ∷ gs) h = and-true (all_are n ks) (all_same gs) (true-are n ks h.0) (true_same gs h.1)

-- the lists of a query's records have their lengths
pub record SameLengths (q : Query) : Type 0 where
  pub scans : length q.scans ≡ table_count q.graph
  pub right : length q.graph.right ≡ edge_count q.graph
  pub divisors : length q.graph.divisors ≡ edge_count q.graph
  pub outer : length q.per_outer ≡ method_count q
  pub inner : length q.per_inner ≡ method_count q
  pub result : length q.per_result ≡ method_count q

pub lengths-of : (q : Query) (memo_columns log_columns : List ℕ) → AllSame (groups q memo_columns log_columns) → SameLengths q
unfolding AllSame AllAre groups
lengths-of q memo_columns log_columns h =
    let e = h.1.0 in
    let m = h.1.1.0 in
    record { scans = h.0.0; right = e.0; divisors = e.1.0; outer = m.0; inner = m.1.0; result = m.1.1.0 }

columns_of : (q : Query) (lent : Memory) → AllSame (groups q (memo_lengths lent) (log_lengths lent)) → Columns lent
unfolding AllSame AllAre groups
columns_of q lent h =
    let c = h.1.1.1.0 in
    let l = h.1.1.1.1.0 in
    record { estimates = c.0; costs = c.1.0; outers = c.1.1.0; methods = c.1.1.1.0; driving = l.0; inner = l.1.0; log-costs = l.1.1.0 }

of-lengths : (q : Query) (lent : Memory) → SameLengths q → Columns lent → AllSame (groups q (memo_lengths lent) (log_lengths lent))
unfolding AllSame AllAre groups
of-lengths q lent s c = (
  (s.scans, tt),
  ((s.right, (s.divisors, tt)), ((s.outer, (s.inner, (s.result, tt))), ((c.estimates, (c.costs, (c.outers, (c.methods, tt)))), ((c.driving, (c.inner, (c.log-costs, tt))), tt)))),
)

-- ---- records
pub table-true : (q : Query) (i : ℕ) → bad_table q.graph.rows q.scans i ≡ 0 → (get_or q.graph.rows i 0 ≤ max_rows) × (get_or q.scans i 0 ≤ max_scan)
unfolding bad_table
table-true q i e =
    let r = get_or q.graph.rows i 0 in
    let s = get_or q.scans i 0 in
    let t = test-none (table_fits r s) 2 e in
    (leb-true r max_rows (and-true-l (leb r max_rows) (leb s max_scan) t), leb-true s max_scan (and_true_r (leb r max_rows) (leb s max_scan) t))

true-table : (q : Query) (i : ℕ) → get_or q.graph.rows i 0 ≤ max_rows → get_or q.scans i 0 ≤ max_scan → bad_table q.graph.rows q.scans i ≡ 0
unfolding bad_table
true-table q i a b =
    let r = get_or q.graph.rows i 0 in
    let s = get_or q.scans i 0 in
    none-test (table_fits r s) 3 (and-true (leb r max_rows) (leb s max_scan) (le-leb r max_rows a) (le-leb s max_scan b))

method-true : (q : Query) (i : ℕ) → bad_method q.fixed q.per_outer q.per_inner q.per_result i ≡ 0 → MethodGood q i
unfolding bad_method
method-true q i e =
    let f = get_or q.fixed i 0 in
    let a = leb (get_or q.per_outer i 0) max_coefficient in
    let b = leb (get_or q.per_inner i 0) max_coefficient in
    let c = leb (get_or q.per_result i 0) max_coefficient in
    let t = test-none (leb f max_fixed && (a && (b && c))) 4 e in
    let t₁ = and_true_r (leb f max_fixed) (a && (b && c)) t in
    let t₂ = and_true_r a (b && c) t₁ in
    record {
      fixed = leb-true f max_fixed (and-true-l (leb f max_fixed) (a && (b && c)) t);
      outer = leb-true (get_or q.per_outer i 0) max_coefficient (and-true-l a (b && c) t₁);
      inner = leb-true (get_or q.per_inner i 0) max_coefficient (and-true-l b c t₂);
      result = leb-true (get_or q.per_result i 0) max_coefficient (and_true_r b c t₂);
    }

true-method : (q : Query) (i : ℕ) → MethodGood q i → bad_method q.fixed q.per_outer q.per_inner q.per_result i ≡ 0
unfolding bad_method
true-method q i g =
    let f = get_or q.fixed i 0 in
    let a = get_or q.per_outer i 0 in
    let b = get_or q.per_inner i 0 in
    let c = get_or q.per_result i 0 in
    none-test (method_fits f a b c) 5 (rw (le-leb f max_fixed g.fixed, le-leb a max_coefficient g.outer, le-leb b max_coefficient g.inner, le-leb c max_coefficient g.result))

-- ---- edges
-- the test of an edge's two tables, and what it says
pub joins_true : (g : Graph) (a b i : ℕ) → joins_at g a b i ≡ true → Joins g i a b
unfolding joins_at
joins_true g a b i e = ⊎_elim
    (λ h. inl (eqb-true l a (and-true-l (eqb l a) (eqb r b) h), eqb-true r b (and_true_r (eqb l a) (eqb r b) h)))
    (λ h. inr (eqb-true l b (and-true-l (eqb l b) (eqb r a) h), eqb-true r a (and_true_r (eqb l b) (eqb r a) h)))
    (or_cases (eqb l a && eqb r b) (eqb l b && eqb r a) e)
  where
    l : ℕ
    l = get_or g.left i 0

    r : ℕ
    r = get_or g.right i 0

pub true-joins : (g : Graph) (a b i : ℕ) → Joins g i a b → joins_at g a b i ≡ true
unfolding joins_at
true-joins g a b i (inl h) =
    or-true-l (eqb (get_or g.left i 0) a && eqb (get_or g.right i 0) b) (eqb (get_or g.left i 0) b && eqb (get_or g.right i 0) a)
    (and-true (eqb (get_or g.left i 0) a) (eqb (get_or g.right i 0) b) (eq-eqb (get_or g.left i 0) a h.0) (eq-eqb (get_or g.right i 0) b h.1))
true-joins g a b i (inr h) =
    or_true_r (eqb (get_or g.left i 0) a && eqb (get_or g.right i 0) b) (eqb (get_or g.left i 0) b && eqb (get_or g.right i 0) a)
    (and-true (eqb (get_or g.left i 0) b) (eqb (get_or g.right i 0) a) (eq-eqb (get_or g.left i 0) b h.0) (eq-eqb (get_or g.right i 0) a h.1))

below_false : (g : Graph) (a b n : ℕ) → joined_below g a b n ≡ false → (j : ℕ) → j < n → Joins g j a b → ⊥
unfolding joined_below
below_false g a b zero e j l h = omega arith
below_false g a b (suc n) e j l h = go (true-or-false (joined_below g a b n)) (true-or-false (joins_at g a b n)) (below_false g a b n)
  where
    go : (joined_below g a b n ≡ true) ⊎ (joined_below g a b n ≡ false) → (joins_at g a b n ≡ true) ⊎ (joins_at g a b n ≡ false)
        → (joined_below g a b n ≡ false → (k : ℕ) → k < n → Joins g k a b → ⊥) → ⊥
    go (inl x) y ih = not-both (joined_below g a b n || joins_at g a b n) (or-true-l (joined_below g a b n) (joins_at g a b n) x) e
    go (inr x) (inl y) ih = not-both (joined_below g a b n || joins_at g a b n) (or_true_r (joined_below g a b n) (joins_at g a b n) y) e
    go (inr x) (inr y) ih = last (ℕ_discrete j n)
      where
        last : Dec (j ≡ n) → ⊥
        last (yes p) = not-both (joins_at g a b n) (true-joins g a b n (rw p at h)) y
        last (no z) = ih x j (omega arith) h

false_below : (g : Graph) (a b n : ℕ) → ((j : ℕ) → j < n → Joins g j a b → ⊥) → joined_below g a b n ≡ false
unfolding joined_below
false_below g a b zero h = refl
false_below g a b (suc n) h = ⊎_elim (λ e. absurd (h n (omega arith) (joins_true g a b n e))) (λ e. rw (false_below g a b n (λ j l. h j (omega arith)), e)) (true-or-false (joins_at g a b n))

edge-tests : (e : Edge) (a b c : Bool) → edge_number (cond (not a) (Err Outside) (cond b (Err Itself) (cond (not c) (Err Divisor) (Ok e)))) ≡ 0 → (a ≡ true) × (b ≡ false) × (c ≡ true)
edge-tests e false b c h = absurd (omega arith)
edge-tests e true true c h = absurd (omega arith)
edge-tests e true false false h = absurd (omega arith)
edge-tests e true false true h = (refl, refl, refl)

or-zero : (n : ℕ) (b : Bool) → edge_or n b ≡ 0 → (n ≡ 0) × (b ≡ false)
unfolding edge_or
or-zero zero true e = absurd (omega arith)
or-zero zero false e = (refl, refl)
or-zero (suc n) b e = absurd (omega arith)

pub edge-true : (g : Graph) (i : ℕ) → bad_edge g i ≡ 0 → EdgeGood g i
unfolding bad_edge repeats
edge-true g i e = record {
  left-some = (range 1 N l (and-true-l (in_range 1 N l) (in_range 1 N r) t.0)).0;
  left-known = (range 1 N l (and-true-l (in_range 1 N l) (in_range 1 N r) t.0)).1;
  right-some = (range 1 N r (and_true_r (in_range 1 N l) (in_range 1 N r) t.0)).0;
  right-known = (range 1 N r (and_true_r (in_range 1 N l) (in_range 1 N r) t.0)).1;
  different = eqb-false l r t.1;
  divisor-some = (range 1 max_divisor d t.2).0;
  divisor-fits = (range 1 max_divisor d t.2).1;
  new = below_false g l r i o.1;
}
  where
    N : ℕ
    N = table_count g

    l : ℕ
    l = get_or g.left i 0

    r : ℕ
    r = get_or g.right i 0

    d : ℕ
    d = get_or g.divisors i 0

    o : (edge_number (new_edge N l r d) ≡ 0) × (joined_below g l r i ≡ false)
    o = or-zero (edge_number (new_edge N l r d)) (joined_below g l r i) e

    t : ((in_range 1 N l && in_range 1 N r) ≡ true) × (eqb l r ≡ false) × (in_range 1 max_divisor d ≡ true)
    t = edge-tests (record { left = l; right = r; divisor = d }) (in_range 1 N l && in_range 1 N r) (eqb l r) (in_range 1 max_divisor d) o.0

true-edge : (g : Graph) (i : ℕ) → EdgeGood g i → bad_edge g i ≡ 0
unfolding bad_edge repeats edge_or
true-edge g i good =
    let N = table_count g in
    let l = get_or g.left i 0 in
    let r = get_or g.right i 0 in
    let d = get_or g.divisors i 0 in
    rw (
      of_range 1 N l good.left-some good.left-known,
      of_range 1 N r good.right-some good.right-known,
      ne_eqb l r good.different,
      of_range 1 max_divisor d good.divisor-some good.divisor-fits,
      false_below g l r i good.new,
    )

-- ---- workers, scheme and turns
known-scheme : (n : ℕ) (s : Option Scheme) → is_refused (crew_with n s) ≡ false → (k : Scheme) × (s ≡ Some k)
unfolding is_refused
known-scheme n (Some k) e = (k, refl)
known-scheme n None e = absurd (not-both true refl e)

crew-true : (workers scheme : ℕ) → is_refused (new_crew workers scheme) ≡ false → CrewGood workers scheme
unfolding is_refused
crew-true workers scheme e = go (true-or-false (in_range 1 max_workers workers)) e
  where
    go : (in_range 1 max_workers workers ≡ true) ⊎ (in_range 1 max_workers workers ≡ false) → is_refused (cond (in_range 1 max_workers workers) (crew_with workers (scheme_of scheme)) None) ≡ false → CrewGood workers scheme
    go (inl t) h =
        let k = known-scheme workers (scheme_of scheme) (rw t at h) in
        record { some-worker = (range 1 max_workers workers t).0; few-workers = (range 1 max_workers workers t).1; named = k.0; is-named = k.1 }
    go (inr t) h = absurd (not-both true refl (rw t at h))

-- its crew
pub crew-named : {workers scheme : ℕ} (g : CrewGood workers scheme) → new_crew workers scheme ≡ Some (record { workers = workers; scheme = g.named })
crew-named {workers} {scheme} g = rw (of_range 1 max_workers workers g.some-worker g.few-workers, g.is-named)

true-crew : (workers scheme : ℕ) → CrewGood workers scheme → is_refused (new_crew workers scheme) ≡ false
unfolding is_refused
true-crew workers scheme g = rw (of_range 1 max_workers workers g.some-worker g.few-workers, g.is-named)

-- ---- the verdict
turn-true : (workers : ℕ) (turns : List ℕ) (j : ℕ) → bad_turn workers turns j ≡ 0 → get_or turns j 0 < workers
unfolding bad_turn
turn-true workers turns j e = ltb-true (get_or turns j 0) workers (test-none (ltb (get_or turns j 0) workers) 11 e)

true-turn : (workers : ℕ) (turns : List ℕ) (j : ℕ) → get_or turns j 0 < workers → bad_turn workers turns j ≡ 0
unfolding bad_turn
true-turn workers turns j l = none-test (ltb (get_or turns j 0) workers) 12 (lt-ltb (get_or turns j 0) workers l)

-- where no refusal of 1 to 12 is given, the query is sound, whatever the lengths of the lent columns
module _ (q : Query) (workers scheme : ℕ) (turns memo_columns log_columns : List ℕ) (e : (first_of (checks_of q workers scheme turns memo_columns log_columns)).number ≡ 0) where
  passed : AllNone (checks_of q workers scheme turns memo_columns log_columns)
  passed = none-all (checks_of q workers scheme turns memo_columns log_columns) e

  pub same-groups : AllSame (groups q memo_columns log_columns)
  unfolding checks_of AllNone
  same-groups = same_true (groups q memo_columns log_columns) (not-false (all_same (groups q memo_columns log_columns)) (none-refuse 0 (not (all_same (groups q memo_columns log_columns))) passed.0))

  pub sound-of : Sound q
  unfolding checks_of AllNone
  sound-of = record {
    graph = record {
      right = lengths.right;
      divisors = lengths.divisors;
      some-table = some-tables.0;
      few-tables = some-tables.1;
      rows = λ j l. (tables j l).0;
      edges = λ j l. edge-true q.graph j (none-bad (bad_edge q.graph) 0 (edge_count q.graph) passed.1.1.1.1.1.0 j (omega arith) (omega arith));
    };
    scan-list = lengths.scans;
    scans = λ j l. (tables j l).1;
    outer-list = lengths.outer;
    inner-list = lengths.inner;
    result-list = lengths.result;
    some-method = some-methods.0;
    few-methods = some-methods.1;
    methods = λ j l. method-true q j (none-bad (bad_method q.fixed q.per_outer q.per_inner q.per_result) 0 (method_count q) passed.1.1.1.1.0 j (omega arith) (omega arith));
    connected = yes_true all? (not-false (is_yes all?) (none-refuse 9 (not (is_yes all?)) passed.1.1.1.1.1.1.0));
  }
    where
      all? : Dec (Connected q.graph (full (table_count q.graph)))
      all? = connected? q.graph (full (table_count q.graph))

      lengths : SameLengths q
      lengths = lengths-of q memo_columns log_columns same-groups

      tables : (j : ℕ) → j < table_count q.graph → (get_or q.graph.rows j 0 ≤ max_rows) × (get_or q.scans j 0 ≤ max_scan)
      tables j l = table-true q j (none-bad (bad_table q.graph.rows q.scans) 0 (table_count q.graph) passed.1.1.0 j (omega arith) (omega arith))

      some-tables : (1 ≤ table_count q.graph) × (table_count q.graph ≤ max_tables)
      some-tables = range 1 max_tables (table_count q.graph) (not-false (tables_fit (table_count q.graph)) (none-refuse 1 (not (tables_fit (table_count q.graph))) passed.1.0))

      some-methods : (1 ≤ method_count q) × (method_count q ≤ max_methods)
      some-methods = range 1 max_methods (method_count q) (not-false (methods_fit (method_count q)) (none-refuse 3 (not (methods_fit (method_count q))) passed.1.1.1.0))

  pub crew-of : CrewGood workers scheme
  unfolding checks_of AllNone
  crew-of = crew-true workers scheme (none-refuse 10 (is_refused (new_crew workers scheme)) passed.1.1.1.1.1.1.1.0)

  pub turns-of : (j : ℕ) → j < length turns → get_or turns j 0 < workers
  unfolding checks_of AllNone
  turns-of j l = turn-true workers turns j (none-bad (bad_turn workers turns) 0 (length turns) passed.1.1.1.1.1.1.1.1.0 j (omega arith) (omega arith))

-- and the input is checked
pub checked : (i : Input) → (first_of (checks i)).number ≡ 0 → Checked i
unfolding checks
checked i e =
    let memo_columns = memo_lengths i.lent in
    let log_columns = log_lengths i.lent in
    record {
      sound = sound-of i.query i.workers i.scheme i.turns memo_columns log_columns e;
      columns = columns_of i.query i.lent (same-groups i.query i.workers i.scheme i.turns memo_columns log_columns e);
      crew = crew-of i.query i.workers i.scheme i.turns memo_columns log_columns e;
      turns = turns-of i.query i.workers i.scheme i.turns memo_columns log_columns e;
    }

-- where no refusal is given, the input is accepted
pub accepted : (i : Input) → (verdict i).number ≡ 0 → Accepted i
unfolding verdict rooms AllNone
accepted i e = record {
  checked = checked i (ap (λ (v : Verdict). v.number) (all_none (checks i) parts.0));
  rows = ltb-false (length i.lent.sets) row_count (none-refuse 12 (ltb (length i.lent.sets) row_count) parts.1.0);
  cells = ltb-false (length i.lent.skips) cell_count (none-refuse 13 (ltb (length i.lent.skips) cell_count) parts.1.1.0);
}
  where
    row_count : ℕ
    row_count = length (memo i.query.graph)

    cell_count : ℕ
    cell_count = length (skips i.query.graph)

    parts : AllNone (checks i) × AllNone (rooms i)
    parts = none-append (checks i) (rooms i) (none-all (checks i ++ rooms i) e)

-- and the other way round: A PLAN IS GIVEN EXACTLY FOR THE ACCEPTED INPUTS
pub accepted-none : (i : Input) → Accepted i → verdict i ≡ none
unfolding verdict checks checks_of rooms AllNone
accepted-none i c = all_none (checks i ++ rooms i) (
  refuse-none 1 (not (all_same (groups q (memo_lengths i.lent) (log_lengths i.lent)))) (rw (true_same (groups q (memo_lengths i.lent) (log_lengths i.lent)) (of-lengths q i.lent lengths c.checked.columns))),
  (
    refuse-none 2 (not (tables_fit (table_count q.graph))) (rw (of_range 1 max_tables (table_count q.graph) g.some-table g.few-tables)),
    (
      bad-none (bad_table q.graph.rows q.scans) 0 (table_count q.graph) (λ j l u. true-table q j (g.rows j (omega arith)) (s.scans j (omega arith))),
      (
        refuse-none 4 (not (methods_fit (method_count q))) (rw (of_range 1 max_methods (method_count q) s.some-method s.few-methods)),
        (
          bad-none (bad_method q.fixed q.per_outer q.per_inner q.per_result) 0 (method_count q) (λ j l u. true-method q j (s.methods j (omega arith))),
          (
            bad-none (bad_edge q.graph) 0 (edge_count q.graph) (λ j l u. true-edge q.graph j (g.edges j (omega arith))),
            (
              refuse-none 10 (not (is_yes (connected? q.graph (full (table_count q.graph))))) (rw (true-yes (connected? q.graph (full (table_count q.graph))) s.connected)),
              (
                refuse-none 11 (is_refused (new_crew i.workers i.scheme)) (true-crew i.workers i.scheme c.checked.crew),
                (
                  bad-none (bad_turn i.workers i.turns) 0 (length i.turns) (λ j l u. true-turn i.workers i.turns j (c.checked.turns j (omega arith))),
                  (
                    refuse-none 13 (ltb (length i.lent.sets) (length (memo q.graph))) (le-ltb (length i.lent.sets) (length (memo q.graph)) c.rows),
                    (
                      refuse-none 14 (ltb (length i.lent.skips) (length (skips q.graph))) (le-ltb (length i.lent.skips) (length (skips q.graph)) c.cells),
                      tt,
                    ),
                  ),
                ),
              ),
            ),
          ),
        ),
      ),
    ),
  ),
)
  where
    q : Query
    q = i.query

    s : Sound q
    s = c.checked.sound

    g : GoodGraph q.graph
    g = s.graph

    lengths : SameLengths q
    lengths = record { scans = s.scan-list; right = g.right; divisors = g.divisors; outer = s.outer-list; inner = s.inner-list; result = s.result-list }

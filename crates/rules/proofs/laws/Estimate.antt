-- The estimate lies between 1 and its cap, and every cost of a valid tree is below 10^17.
use Rattle.std.specs.Prelude.{◌≡◌, refl, Bool, true, false, cond, List, ℕ, zero, suc, ◌+◌, ◌-◌, ◌*◌, ◌≤◌, ◌<◌, max, eqb, length, get_or}
use Rattle.std.proofs.Common.{le_refl, arith}
use Rattle.std.proofs.Math.Nat.{mul-le-mul}
use Rattle.std.proofs.Math.Decide.{dec_lt}
use Rattle.std.proofs.Math.ListN.{get_or-eq_default}
use Rattle.rules.specs.Limits.{max_tables, max_scan, max_fixed, max_coefficient, max_estimate, cost_bound}
use Rattle.rules.specs.Sets.{holds, size}
use Rattle.rules.specs.Query.{Graph, Query, table_count, edge_count, method_count, at}
use Rattle.rules.specs.Estimate.{joins_at, divided, by_edges, by_lower, with_table, running, estimate}
use Rattle.rules.specs.Trees.{Tree, scan, join, tables_of, Valid, price, cost_of, Least}
use Rattle.rules.specs.Checked.{Sound}
use Rattle.rules.specs.laws.Sets.{size-pow, size-sum}
use Rattle.rules.specs.laws.Connected.{connected-tree}
use Rattle.rules.proofs.laws.Rows.{size-count}

-- what holds of both holds of the one that a test picks
either : (P : ℕ → Type 0) (b : Bool) {x y : ℕ} → P x → P y → P (cond b x y)
either P true p q = p
either P false p q = q

edges-pos : (g : Graph) (u t n r : ℕ) → 1 ≤ r → 1 ≤ by_edges g u t n r
unfolding by_edges divided
edges-pos g u t zero r h = h
edges-pos g u t (suc n) r h = either (λ x. 1 ≤ x) (joins_at g u t n) (omega arith) (edges-pos g u t n r h)

lower-pos : (g : Graph) (S t k r : ℕ) → 1 ≤ r → 1 ≤ by_lower g S t k r
unfolding by_lower
lower-pos g S t zero r h = h
lower-pos g S t (suc k) r h = either (λ x. 1 ≤ x) (eqb (holds S (suc k)) 1) (edges-pos g (suc k) t (edge_count g) (by_lower g S t k r) (lower-pos g S t k r h)) (lower-pos g S t k r h)

table-pos : (g : Graph) (S t r : ℕ) → 1 ≤ r → 1 ≤ with_table g S t r
unfolding with_table
table-pos g S t r h =
    let z : 1 ≤ max 1 (at g.rows t) = omega arith in
    omega (arith, lower-pos g S t (t - 1) (r * max 1 (at g.rows t)) (mul-le-mul h z))

running-pos : (g : Graph) (S k : ℕ) → 1 ≤ running g S k
unfolding running
running-pos g S zero = le_refl 1
running-pos g S (suc k) = either (λ x. 1 ≤ x) (eqb (holds S (suc k)) 1) (table-pos g S (suc k) (running g S k) (running-pos g S k)) (running-pos g S k)

-- cut after each table
pub running-le : (g : Graph) (S k : ℕ) → running g S k ≤ max_estimate
unfolding running with_table
running-le g S zero = omega arith
running-le g S (suc k) = either (λ x. x ≤ max_estimate) (eqb (holds S (suc k)) 1) (omega arith) (running-le g S k)

-- an estimate is at least 1
pub estimate-pos : (g : Graph) (S : ℕ) → 1 ≤ estimate g S
unfolding estimate
estimate-pos g S = running-pos g S (table_count g)

-- and at most the cap
pub estimate_le : (g : Graph) (S : ℕ) → estimate g S ≤ max_estimate
unfolding estimate
estimate_le g S = running-le g S (table_count g)

-- scan costs, fixed costs and coefficients are within 01's limits; past the end a list reads 0
pub record Limited (q : Query) : Type 0 where
  pub scans : (i : ℕ) → get_or q.scans i 0 ≤ max_scan
  pub fixed : (i : ℕ) → get_or q.fixed i 0 ≤ max_fixed
  pub outer : (i : ℕ) → get_or q.per_outer i 0 ≤ max_coefficient
  pub inner : (i : ℕ) → get_or q.per_inner i 0 ≤ max_coefficient
  pub result : (i : ℕ) → get_or q.per_result i 0 ≤ max_coefficient

-- the most that a join adds to the costs of its parts
abbrev pub max_price : ℕ
max_price = max_fixed + 3 * (max_coefficient * max_estimate)

module _ (q : Query) (lim : Limited q) where
  pub price-le : (X Y m : ℕ) → price q X Y m ≤ max_price
  unfolding price
  price-le X Y m =
      omega
      (arith, lim.fixed (m - 1), mul-le-mul (lim.outer (m - 1)) (estimate_le q.graph X), mul-le-mul (lim.inner (m - 1)) (estimate_le q.graph Y), mul-le-mul (lim.result (m - 1)) (estimate_le q.graph (X + Y)))

  -- a tree of n tables has n scans and n - 1 joins
  pub cost-le : (t : Tree) → Valid q t → cost_of q t + max_price ≤ size (tables_of t) * (max_scan + max_price)
  unfolding cost_of tables_of Valid
  cost-le (scan t) v = omega (arith, lim.scans (t - 1), size-pow (t - 1))
  cost-le (join x y m) v = omega (arith, cost-le x v.0, cost-le y v.1, price-le (tables_of x) (tables_of y) m, size-sum (tables_of x) (tables_of y) v.2.apart)

  -- EVERY COST IS BELOW 10^17, for sets of up to as many tables as a query may have
  pub cost-lt : (t : Tree) → Valid q t → size (tables_of t) ≤ max_tables → cost_of q t < cost_bound
  cost-lt t v l = omega (arith, cost-le t v)

-- ---- of a query that passes the checks
-- a list whose elements are within a limit reads within it at every index
read-le : (l : List ℕ) (n limit i : ℕ) → length l ≡ n → ((j : ℕ) → j < n → get_or l j 0 ≤ limit) → get_or l i 0 ≤ limit
read-le l n limit i e h = go (dec_lt i n)
  where
    go : Dec (i < n) → get_or l i 0 ≤ limit
    go (yes a) = h i a
    go (no z) = let d : get_or l i 0 ≡ 0 = get_or-eq_default l 0 {n = i} (omega arith) in omega arith

pub sound-limited : (q : Query) → Sound q → Limited q
sound-limited q s = record {
  scans = λ i. read-le q.scans (table_count q.graph) max_scan i s.scan-list s.scans;
  fixed = λ i. read-le q.fixed (method_count q) max_fixed i refl (λ j l. (s.methods j l).fixed);
  outer = λ i. read-le q.per_outer (method_count q) max_coefficient i s.outer-list (λ j l. (s.methods j l).outer);
  inner = λ i. read-le q.per_inner (method_count q) max_coefficient i s.inner-list (λ j l. (s.methods j l).inner);
  result = λ i. read-le q.per_result (method_count q) max_coefficient i s.result-list (λ j l. (s.methods j l).result);
}

-- "Every cost is below 10^17."
pub tree-below : (q : Query) → Sound q → (t : Tree) → Valid q t → cost_of q t < cost_bound
tree-below q s t v = cost-lt q (sound-limited q s) t v (omega (arith, size-count q.graph (tables_of t) (connected-tree q t v), s.graph.few-tables))

pub least-below : (q : Query) → Sound q → (S c : ℕ) → Least q S c → c < cost_bound
least-below q s S c l = rw l.costs at (tree-below q s l.tree l.valid)

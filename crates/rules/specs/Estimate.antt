-- 01's "Estimate of a set".
use Rattle.std.specs.Prelude.{Bool, cond, ◌&&◌, ◌||◌, ℕ, zero, suc, ◌-◌, ◌*◌, ◌/◌, min, max, eqb, get_or}
use Rattle.rules.specs.Limits.{max_estimate}
use Rattle.rules.specs.Sets.{has}
use Rattle.rules.specs.Query.{Graph, table_count, edge_count, at}

-- edge i joins tables u and t, "whichever way round it is written"
unfoldable pub joins_at : Graph → ℕ → ℕ → ℕ → Bool
joins_at g u t i = (eqb (get_or g.left i 0) u && eqb (get_or g.right i 0) t) || (eqb (get_or g.left i 0) t && eqb (get_or g.right i 0) u)

-- "divide by the divisor, rounding down, and raise to 1 if 0"
unfoldable pub divided : ℕ → ℕ → ℕ
divided d r = max 1 (r / d)

-- r after the first n edges, of which those that join u and t divide
unfoldable pub by_edges : Graph → ℕ → ℕ → ℕ → ℕ → ℕ
by_edges g u t zero r = r
by_edges g u t (suc n) r = cond (joins_at g u t n) (divided (get_or g.divisors n 0) (by_edges g u t n r)) (by_edges g u t n r)

-- "for each lower table of the set that has an edge to it, ascending": r after the tables 1 to k of S
unfoldable pub by_lower : Graph → ℕ → ℕ → ℕ → ℕ → ℕ
by_lower g S t zero r = r
by_lower g S t (suc k) r = cond (has S (suc k)) (by_edges g (suc k) t (edge_count g) (by_lower g S t k r)) (by_lower g S t k r)

-- one table's part: "multiply by its rows (0 counts as 1)", the divisions, "Then cut to 1,000,000,000,000 if larger"
unfoldable pub with_table : Graph → ℕ → ℕ → ℕ → ℕ
with_table g S t r = min max_estimate (by_lower g S t (t - 1) (r * max 1 (at g.rows t)))

-- "Take its tables in ascending number. Start at 1.": the value after the tables 1 to k of S
unfoldable pub running : Graph → ℕ → ℕ → ℕ
running g S zero = 1
running g S (suc k) = cond (has S (suc k)) (with_table g S (suc k) (running g S k)) (running g S k)

-- "Estimate of a set"
unfoldable pub estimate : Graph → ℕ → ℕ
estimate g S = running g S (table_count g)

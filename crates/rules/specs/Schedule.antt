-- The order of work: groups of candidates, one group after another. What candidates, shares and turns are, and what is proved of them, holds for the groups of any schedule; 01's own is `by_size`.
use Rattle.std.specs.Prelude.{◌≡◌, true, cond, ℕ, zero, suc, ◌+◌, ◌-◌, ◌/◌, ◌≤◌, ◌<◌}
use Rattle.rules.specs.declared.Shape.{Shape}
use Rattle.rules.specs.declared.Shape.TheVariants.{Bushy, Single}
use Rattle.rules.specs.declared.Group.{Group}
use Rattle.rules.specs.Trees.{fits}

-- the inner size that a group joins to driving size d
unfoldable pub inner_at : Group → ℕ → ℕ
inner_at group d = cond group.falling (group.base - d) group.base

-- a group joins driving size d to inner size e
pub record Meets (group : Group) (d e : ℕ) : Type 0 where
  pub from_one : 1 ≤ d
  pub to_last : d ≤ group.last
  pub inner : e ≡ inner_at group d

-- groups by their number, from 1 on
abbrev pub Schedule : Type 0
Schedule = ℕ → Group

-- of driving sizes 1 to n all, or "pairs are those with driving size 1 only"
unfoldable pub drivings : Shape → ℕ → ℕ
drivings Bushy n = n
drivings Single zero = zero
drivings Single (suc n) = 1

-- 01's schedule, one group for each result size, group k for size S = k + 1: "the driving size runs from 1 to S/2 rounded down, the inner size is S less that". Driving size 1 has inner size k: where that fits the shape, both ways round do.
unfoldable pub by_size : Shape → Schedule
by_size shape k = record { last = drivings shape (suc k / 2); base = suc k; falling = true; both = fits shape k }

-- ---- what is asked of a schedule
-- plans of the shape over N tables are built of pairs of sizes d and e, the driving set being one that may be an inner part
pub record Asked (shape : Shape) (N d e : ℕ) : Type 0 where
  pub from_one : 1 ≤ d
  pub rising : d ≤ e
  pub known : d + e ≤ N
  pub shaped : fits shape d ≡ true

-- n groups serve the plans of the shape over N tables: each pair of sizes that is asked for stands in one group, and nothing else does
pub record Scheduled (shape : Shape) (N n : ℕ) (groups : Schedule) : Type 0 where
  -- the group of two sizes
  pub home : ℕ → ℕ → ℕ
  pub complete : (d e : ℕ) → Asked shape N d e → (1 ≤ home d e) × (home d e ≤ n) × Meets (groups (home d e)) d e
  pub sound : (k d e : ℕ) → 1 ≤ k → k ≤ n → Meets (groups k) d e → Asked shape N d e × (home d e ≡ k)
  -- group k reads sets of at most k tables ..
  pub reads : (d e : ℕ) → Asked shape N d e → e ≤ home d e
  -- .. and what builds a set of s tables stands in a group before s: so what group k reads is final
  pub builds : (d e : ℕ) → Asked shape N d e → home d e < d + e
  -- a group prices both ways round where its inner sets may be inner parts too
  pub ways : (k d e : ℕ) → 1 ≤ k → k ≤ n → Meets (groups k) d e → fits shape e ≡ (groups k).both

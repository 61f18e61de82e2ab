-- 01's order of work is a schedule for either shape.
use Rattle.std.specs.Prelude.{◌≡◌, refl, true}
use Rattle.std.proofs.Common.{ap, add-one, eqb-true, eq-eqb}
use Prim.Native.Nat.{ℕ, zero, suc, ◌+◌, ◌-◌, ◌/◌, ◌≤◌}
use native.Mathlib.Omega.{arith}
use Rattle.rules.specs.declared.Shape.{Shape}
use Rattle.rules.specs.declared.Shape.TheVariants.{Bushy, Single}
use Rattle.rules.specs.Trees.{fits}
use Rattle.rules.specs.Schedule.{inner_at, Meets, Schedule, drivings, by_size, Asked, Scheduled}

-- ---- driving sizes of a shape
drivings-of : (shape : Shape) (w d : ℕ) → 1 ≤ d → d ≤ drivings shape w → (d ≤ w) × (fits shape d ≡ true)
unfolding drivings fits
drivings-of Bushy w d l u = (u, refl)
drivings-of Single zero d l u = absurd (omega arith)
drivings-of Single (suc w) d l u = (omega arith, eq-eqb d 1 (omega arith))

drivings-in : (shape : Shape) (w d : ℕ) → 1 ≤ d → d ≤ w → fits shape d ≡ true → d ≤ drivings shape w
unfolding drivings fits
drivings-in Bushy w d l u f = u
drivings-in Single zero d l u f = absurd (omega arith)
drivings-in Single (suc w) d l u f = omega (arith, eqb-true d 1 f)

-- ---- by size
-- sizes d and e stand in the group of their sum
abbrev home_of : ℕ → ℕ → ℕ
home_of d e = d + e - 1

module _ (shape : Shape) (N : ℕ) where
  complete : (d e : ℕ) → Asked shape N d e → (1 ≤ home_of d e) × (home_of d e ≤ N - 1) × Meets (by_size shape (home_of d e)) d e
  unfolding by_size inner_at
  complete d e a = (omega arith, omega arith, record { from_one = a.from_one; to_last = drivings-in shape _ d a.from_one (omega arith) a.shaped; inner = omega arith })

  sound : (k d e : ℕ) → 1 ≤ k → k ≤ N - 1 → Meets (by_size shape k) d e → Asked shape N d e × (home_of d e ≡ k)
  unfolding by_size inner_at
  sound k d e l u m =
      let r = drivings-of shape (suc k / 2) d m.from_one m.to_last in
      let i : e ≡ suc k - d = m.inner in
      (record { from_one = m.from_one; rising = omega (arith, r.0); known = omega (arith, r.0); shaped = r.1 }, omega (arith, r.0))

  ways : (k d e : ℕ) → 1 ≤ k → k ≤ N - 1 → Meets (by_size shape k) d e → fits shape e ≡ (by_size shape k).both
  unfolding by_size inner_at fits
  ways k d e l u m = go shape m.to_last
    where
      i : e ≡ suc k - d
      i = m.inner

      go : (shape : Shape) → d ≤ drivings shape (suc k / 2) → fits shape e ≡ fits shape k
      go Bushy b = refl
      go Single b =
          let one = (drivings-of Single (suc k / 2) d m.from_one b).1 in
          let f : e ≡ k = omega (arith, eqb-true d 1 one) in
          ap (fits Single) f

-- 01's ORDER OF WORK IS A SCHEDULE, of as many groups as N less 1
pub by-size : (shape : Shape) (N : ℕ) → Scheduled shape N (N - 1) (by_size shape)
by-size shape N = record { home = home_of; complete = complete shape N; sound = sound shape N; reads = λ d e a. omega arith; builds = λ d e a. omega arith; ways = ways shape N }

-- its group k for bushy plans, as it is computed
pub by-size-is : (k : ℕ) → record { last = (k + 1) / 2; base = k + 1; falling = true; both = true } ≡ by_size Bushy k
unfolding by_size drivings fits
by-size-is k = rw (add-one k) refl

-- ---- what follows for the groups of any schedule
-- one table may be the inner part
one-fits : (shape : Shape) → fits shape 1 ≡ true
unfolding fits
one-fits Bushy = refl
one-fits Single = refl

module _ {shape : Shape} {N n : ℕ} {groups : Schedule} (serves : Scheduled shape N n groups) where
  -- group k joins driving size 1 to inner size k
  pub first-driving : (k : ℕ) → 1 ≤ k → suc k ≤ N → Meets (groups k) 1 k
  first-driving k l u =
      let a : Asked shape N 1 k = record { from_one = omega arith; rising = l; known = omega arith; shaped = one-fits shape } in
      let e : serves.home 1 k ≡ k = omega (arith, serves.reads 1 k a, serves.builds 1 k a) in
      rw e at (serves.complete 1 k a).2

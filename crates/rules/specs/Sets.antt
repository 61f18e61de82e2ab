-- Sets of tables as numbers: "A set's number is the sum of 2^(t-1) over its tables t."
use Rattle.std.specs.Prelude.{◌≡◌, Bool, cond, List, [], ◌∷◌, ℕ, zero, suc, ◌+◌, ◌-◌, ◌/◌, ◌%◌, ◌^◌, ◌≤◌, ◌<◌, eqb}
use Rattle.std.specs.Int.Bits.{bit_and}
use Rattle.std.specs.Int.Count.{ones}

-- table t, numbered from 1, stands in S: 1 or 0
unfoldable pub holds : ℕ → ℕ → ℕ
holds S zero = 0
holds S (suc i) = S / 2 ^ i % 2

-- the same as a test
abbrev pub has : ℕ → ℕ → Bool
has S t = eqb (holds S t) 1

-- no table stands in both; the union of such sets is their sum
abbrev pub Disjoint : ℕ → ℕ → Type 0
Disjoint X Y = bit_and X Y ≡ 0

-- the same as a test
abbrev pub disjoint : ℕ → ℕ → Bool
disjoint X Y = eqb (bit_and X Y) 0

-- S is X and Y together, and X and Y are disjoint
pub record Splits (S X Y : ℕ) : Type 0 where
  pub apart : Disjoint X Y
  pub whole : X + Y ≡ S

-- how many tables a set has
abbrev pub size : ℕ → ℕ
size = ones

-- the set of table t alone
abbrev pub single : ℕ → ℕ
single t = 2 ^ (t - 1)

-- the set of tables 1 to n
abbrev pub full : ℕ → ℕ
full n = 2 ^ n - 1

-- "the sum of 2^(t-1)" over a list of tables
unfoldable pub number : List ℕ → ℕ
number [] = 0
number (t ∷ ts) = single t + number ts

-- the tables of S, ascending, where n tables are looked at and S's lowest digit is table t
unfoldable pub tables_from : ℕ → ℕ → ℕ → List ℕ
tables_from t zero S = []
tables_from t (suc n) S = cond (eqb (S % 2) 1) (t ∷ tables_from (suc t) n (S / 2)) (tables_from (suc t) n (S / 2))

-- the "ascending sequence of table numbers" of a set of tables 1 to n
unfoldable pub tables : ℕ → ℕ → List ℕ
tables n S = tables_from 1 n S

-- the place of table t in the ascending sequence of S, from 0: how many tables of S are lower
abbrev pub rank : ℕ → ℕ → ℕ
rank S t = size (S % single t)

-- t is the lowest table of S
pub record Lowest (S t : ℕ) : Type 0 where
  pub stands : holds S t ≡ 1
  pub least : (u : ℕ) → holds S u ≡ 1 → t ≤ u

-- a sequence of tables that ascends, from t on, and ends below e
unfoldable pub Ascending : ℕ → ℕ → List ℕ → Type 0
Ascending t e [] = Unit {0}
Ascending t e (x ∷ s) = (t ≤ x) × (x < e) × Ascending (suc x) e s

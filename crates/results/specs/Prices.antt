-- What a choice and a row are in the code's values, and prices over plain numbers.
use Rattle.std.specs.Prelude.{◌≡◌, cond, List, ℕ, ◌+◌, ◌*◌, ◌≤◌, eqb, length, get_or}
use Rattle.rules.specs.Limits.{max_methods, max_fixed, max_coefficient, max_estimate}
use Rattle.rules.specs.Query.{at}
use Rattle.rules.specs.Offers as rules
use Rattle.results.specs.declared.price.Choice.{Choice}

-- the code's choice
abbrev pub choice_of : Choice → rules.Choice
choice_of k = record { cost = k.cost; outer = k.outer; method = k.method }

-- what a row holds
abbrev pub choice_at : List ℕ → List ℕ → List ℕ → ℕ → rules.Choice
choice_at costs outers methods r = record { cost = get_or costs r 0; outer = get_or outers r 0; method = get_or methods r 0 }

-- "fixed + a·est(X) + b·est(Y) + c·est(X and Y together)", by method m
abbrev pub price_by : List ℕ → List ℕ → List ℕ → List ℕ → ℕ → ℕ → ℕ → ℕ → ℕ
price_by fixed outer inner result ex ey er m = at fixed m + at outer m * ex + at inner m * ey + at result m * er

-- a price and a method's number in one number
abbrev pub packed : ℕ → ℕ → ℕ → ℕ → ℕ → ℕ → ℕ → ℕ → ℕ
packed fixed outer inner result ex ey er m = (fixed + outer * ex + inner * ey + result * er) * 8 + m

-- the same of the method at place k of these lists
abbrev pub packed_at : List ℕ → List ℕ → List ℕ → List ℕ → ℕ → ℕ → ℕ → ℕ → ℕ
packed_at fixed outer inner result ex ey er k = packed (get_or fixed k 0) (get_or outer k 0) (get_or inner k 0) (get_or result k 0) ex ey er (k + 1)

-- the methods of a query within their limits
pub record Methods (fixed outer inner result : List ℕ) : Type 0 where
  pub outer-list : length outer ≡ length fixed
  pub inner-list : length inner ≡ length fixed
  pub result-list : length result ≡ length fixed
  pub some : 1 ≤ length fixed
  pub few : length fixed ≤ max_methods
  pub fixed-fits : (i : ℕ) → get_or fixed i 0 ≤ max_fixed
  pub outer-fits : (i : ℕ) → get_or outer i 0 ≤ max_coefficient
  pub inner-fits : (i : ℕ) → get_or inner i 0 ≤ max_coefficient
  pub result_fits : (i : ℕ) → get_or result i 0 ≤ max_coefficient

-- estimates within their limit
pub record Estimates (ex ey er : ℕ) : Type 0 where
  pub first : ex ≤ max_estimate
  pub second : ey ≤ max_estimate
  pub result : er ≤ max_estimate

-- r is the least packed price of the first k methods
pub record CheapestOf (fixed outer inner result : List ℕ) (ex ey er k r : ℕ) : Type 0 where
  pub method : ℕ
  pub from_one : 1 ≤ method
  pub to-count : method ≤ k
  pub is : r ≡ price_by fixed outer inner result ex ey er method * 8 + method
  pub least : (m : ℕ) → 1 ≤ m → m ≤ k → r ≤ price_by fixed outer inner result ex ey er m * 8 + m

-- of all methods
abbrev pub Cheapest : List ℕ → List ℕ → List ℕ → List ℕ → ℕ → ℕ → ℕ → ℕ → Type 0
Cheapest fixed outer inner result ex ey er r = CheapestOf fixed outer inner result ex ey er (length fixed) r

-- what outer X costs by method m, the other set being the inner one: the two cost `base`, x has the estimate ex, the other one ey, their result er
abbrev pub join_by : List ℕ → List ℕ → List ℕ → List ℕ → ℕ → ℕ → ℕ → ℕ → ℕ → ℕ → ℕ → ℕ → ℕ
join_by fixed outer inner result x ex ey er base X Y m = base + cond (eqb X x) (price_by fixed outer inner result ex ey er m) (price_by fixed outer inner result ey ex er m)

-- What contracts of the search say of the memo while turns go on: the pairs handed so far, and each row the best of what they offer.
use Prim.Native.Nat.{ℕ, zero, suc, ◌+◌, ◌-◌, ◌≤◌, ◌<◌}
use Rattle.rules.specs.Answers.{Row}
use Rattle.rules.specs.Candidates.{joinable}
use Rattle.rules.specs.Connected.{Connected}
use Rattle.rules.specs.Lists.{is_yes}
use Rattle.rules.specs.Log.{sets_of}
use Rattle.rules.specs.Offers.{Pair, union, Choice, Offers}
use Rattle.rules.specs.Query.{Query, table_count, method_count, at, Graph}
use Rattle.rules.specs.Schedule.{Schedule}
use Rattle.rules.specs.Sets.{size, has}
use Rattle.rules.specs.Shares.{Numbered, met, owns}
use Rattle.rules.specs.Trees.{price, fits, Inner, Joinable}
use Rattle.rules.specs.declared.Crew.{Crew}
use Rattle.rules.specs.declared.Group.{Group}
use Rattle.rules.specs.laws.Bools.{find}
use Rattle.rules.specs.laws.Choice.{Best, best_of}
use Rattle.rules.specs.laws.Decide.{connected?, between?}
use Rattle.std.proofs.Math.Bool.{Bool}
use Rattle.std.specs.Int.Bits.{bit_and}
use Rattle.std.specs.Prelude.{◌≡◌, ◌⊎◌, true, cond, ◌&&◌, eqb, leb, length}
use mathlib.Core.List.{List, [], ◌∷◌, ◌++◌, Memᴰ}

-- ---- the row of each set, by recursion on its size
module _ (q : Query) (best : ℕ → ℕ) where
  unfoldable pub by_method : ℕ → ℕ → ℕ → List Choice
  by_method X Y zero = []
  by_method X Y (suc m) = record { cost = best X + best Y + price q X Y (suc m); outer = X; method = suc m } ∷ by_method X Y m

  unfoldable pub splits_at : ℕ → ℕ → Bool
  splits_at S X = is_yes (connected? q.graph X) && (is_yes (connected? q.graph (S - X)) && (fits q.shape (size (S - X)) && (eqb (bit_and X (S - X)) 0 && is_yes (between? q.graph X (S - X)))))

  unfoldable pub offers_below : ℕ → ℕ → List Choice
  offers_below S zero = []
  offers_below S (suc X) = cond (splits_at S X) (by_method X (S - X) (method_count q)) [] ++ offers_below S X

unfoldable pub pick_of : List Choice → Choice
pick_of [] = record { cost = 0; outer = 0; method = 0 }
pick_of (k ∷ ks) = best_of k ks

module _ (q : Query) where
  unfoldable pub scan_row : ℕ → Choice
  scan_row S = record { cost = at q.scans (find (has S) (table_count q.graph)); outer = 0; method = 0 }

  unfoldable pub row_of : ℕ → ℕ → Choice
  row_of zero S = scan_row S
  row_of (suc n) S = cond (leb (size S) 1) (scan_row S) (pick_of (offers_below q (λ X. (row_of n X).cost) S S))

-- the row of S
unfoldable pub row_at : Query → ℕ → Choice
row_at q S = row_of q (suc (table_count q.graph)) S

-- the least cost of S
unfoldable pub best_at : Query → ℕ → ℕ
unfolding row_at
best_at q S = (row_at q S).cost

-- ---- pairs that were handed
-- what makes a pair joinable
pub record JoinablePair (g : Graph) (p : Pair) : Type 0 where
  pub driving-conn : Connected g p.driving
  pub inner-conn : Connected g p.inner
  pub joinable : Joinable g p.driving p.inner

-- the pairs of a list
abbrev pub among : List Pair → Pair → Type 0
among h p = Memᴰ p h

-- the pairs P and one more
abbrev pub With : (Pair → Type 0) → Pair → Pair → Type 0
With P p p' = P p' ⊎ (p' ≡ p)

-- the pairs P are those of S, each one way round; where an inner part must fit the shape, those that have one which does
pub record Complete (q : Query) (P : Pair → Type 0) (S : ℕ) : Type 0 where
  pub sound : (p : Pair) → P p → union p ≡ S → JoinablePair q.graph p
  pub total : (p : Pair) → JoinablePair q.graph p → Inner q p.inner → union p ≡ S → P p ⊎ P (record { driving = p.inner; inner = p.driving })

module _ (q : Query) (best : ℕ → ℕ) where
  -- k was priced for S by one of the pairs P, those handed so far
  pub record Handed (P : Pair → Type 0) (S : ℕ) (k : Choice) : Type 0 where
    pub pair : Pair
    pub handed : P pair
    pub whole : union pair ≡ S
    pub prices : Offers q best pair k

-- ---- the candidates of a worker
module _ (g : Graph) (crew : Crew) (group : Group) where
  -- worker w has the candidate and may join it
  unfoldable pub mine : ℕ → Numbered → Bool
  mine w x = owns crew.scheme (length (met g group)) crew.workers w x && joinable g x.candidate

-- ---- the memo as turns leave it
-- a row that no pair was handed for
abbrev pub unset : Choice
unset = record { cost = 0; outer = 0; method = 0 }

-- the row of S is the best of what the pairs P offer, or unset where there are none
abbrev pub Stood : Query → (Pair → Type 0) → ℕ → Choice → Type 0
Stood q P S k = (((p : Pair) → P p → union p ≡ S → ⊥) × (k ≡ unset)) ⊎ Best (Handed q (best_at q) P S) k

abbrev pub FinalRow : Query → ℕ → Choice → Type 0
FinalRow q S k = Row q S k.cost k.outer k.method

-- once the pairs P were handed: sets of at most k tables are final, each other row is the best of P for its set, or unset
pub record Held (q : Query) (k : ℕ) (P : Pair → Type 0) (row : ℕ → Choice) : Type 0 where
  pub final : (S : ℕ) → Connected q.graph S → size S ≤ k → FinalRow q S (row S)
  pub rows : (S : ℕ) → Connected q.graph S → k < size S → Stood q P S (row S)

module _ (q : Query) (crew : Crew) (groups : Schedule) where
  -- a pair of a group before k
  pub record Before (k : ℕ) (p : Pair) : Type 0 where
    pub group : ℕ
    pub from_one : 1 ≤ group
    pub early : group < k
    pub one : Numbered
    pub stands : Memᴰ one (met q.graph (groups group))
    pub joins : joinable q.graph one.candidate ≡ true
    pub is : p ≡ sets_of one

  -- a pair of group k that stands before its worker's place
  pub record Passed (k : ℕ) (place : ℕ → ℕ) (p : Pair) : Type 0 where
    pub worker : ℕ
    pub known : worker < crew.workers
    pub one : Numbered
    pub stands : Memᴰ one (met q.graph (groups k))
    pub before : one.number < place worker
    pub own : mine q.graph crew (groups k) worker one ≡ true
    pub is : p ≡ sets_of one

  -- all pairs handed so far
  abbrev pub Sofar : ℕ → (ℕ → ℕ) → Pair → Type 0
  Sofar k place p = Before k p ⊎ Passed k place p

  -- before group k opens
  abbrev pub Between : ℕ → (ℕ → Choice) → Type 0
  Between k row = Held q k (Before k) row

  -- while it is open, with the workers at their places
  abbrev pub Standing : ℕ → (ℕ → ℕ) → (ℕ → Choice) → Type 0
  Standing k place row = Held q k (Sofar k place) row

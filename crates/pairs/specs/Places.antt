-- Places among the candidates of a group, said by rows of the memo, and what the search from a place on finds.
use Rattle.std.specs.Prelude.{◌≡◌, Bool, true, false, cond, List, ℕ, zero, suc, ◌+◌, ◌-◌, ◌*◌, ◌/◌, ◌%◌, ◌^◌, ◌≤◌, ◌<◌, eqb, length, get_or, take, drop, Some, None}
use Rattle.rules.specs.Limits.{max_tables}
use Rattle.rules.specs.Lists.{keep}
use Rattle.rules.specs.Sets.{holds, Disjoint, size, rank}
use Rattle.rules.specs.Query.{Graph, table_count}
use Rattle.rules.specs.declared.Group.{Group}
use Rattle.rules.specs.Schedule.{inner_at}
use Rattle.rules.specs.Rows.{rows_of, memo}
use Rattle.rules.specs.Skips.{skips}
use Rattle.rules.specs.Shares.{Numbered, met}
use Rattle.rules.specs.laws.Standing.{mine}
use Rattle.rows.specs.Sizes.{up_to}
use Rattle.starts.specs.Starts.{cells_to}
use Rattle.shares.specs.declared.places.Place.{Place}
use Rattle.shares.specs.declared.places.Spot.{Spot}
use Rattle.shares.specs.declared.Share.{Share}
use Rattle.shares.specs.declared.Span.{Span}
use Rattle.shares.specs.Nowhere.{nowhere}
use Rattle.shares.specs.Shares.{few, crew_of, in_span}
use Rattle.pairs.specs.Joinable.{is_joinable}

-- ---- where rows stand
-- the memo's first row of size k, and the first skip cell of size k
abbrev pub start_of : Graph → ℕ → ℕ
start_of g k = length (up_to g (k - 1))

abbrev pub cell_of : Graph → ℕ → ℕ
cell_of g k = length (cells_to g (k - 1))

-- "Where the two are equal the inner row comes after the driving row": the first inner row of driving row i of size d
abbrev pub first_of : List ℕ → ℕ → ℕ → ℕ → ℕ
first_of starts wide d i = cond (eqb d wide) (i + 1) (get_or starts wide 0)

abbrev pub first_row : Graph → Group → ℕ → ℕ → ℕ
first_row g group d i = cond (eqb d (inner_at group d)) (i + 1) (start_of g (inner_at group d))

-- where the inner rows end
abbrev pub end_row : Graph → Group → ℕ → ℕ
end_row g group d = start_of g (inner_at group d + 1)

-- how many candidates the first n driving rows of size d have
unfoldable pub rows_ahead : Graph → Group → ℕ → ℕ → ℕ
rows_ahead g group d zero = 0
rows_ahead g group d (suc n) = rows_ahead g group d n + (end_row g group d - first_row g group d (start_of g d + n))

-- how many the driving sizes 1 to d have
unfoldable pub sizes_ahead : Graph → Group → ℕ → ℕ
sizes_ahead g group zero = 0
sizes_ahead g group (suc d) = sizes_ahead g group d + rows_ahead g group (suc d) (length (rows_of g (suc d)))

-- how many are met before driving row i of size d
abbrev pub ahead_of : Graph → Group → ℕ → ℕ → ℕ
ahead_of g group d i = sizes_ahead g group (d - 1) + rows_ahead g group d (i - start_of g d)

-- the candidate of driving row i of size d and inner row j
abbrev pub candidate_at : Graph → Group → ℕ → ℕ → ℕ → Numbered
candidate_at g group d i j = record {
  number = ahead_of g group d i + (j - first_row g group d i);
  candidate = record { rows = length (rows_of g d); row = i - start_of g d; count = j - first_row g group d i; driving = get_or (memo g) i 0; inner = get_or (memo g) j 0 };
}

-- no candidate
abbrev pub no_candidate : Numbered
no_candidate = record { number = 0; candidate = record { rows = 0; row = 0; count = 0; driving = 0; inner = 0 } }

-- the candidate with number p
abbrev pub met_numbered : Graph → Group → ℕ → Numbered
met_numbered g group p = get_or (met g group) p no_candidate

-- the share's worker has candidate p and may join it
abbrev pub own_at : Graph → Group → Share → ℕ → Bool
own_at g group h p = mine g (crew_of h) group h.worker (met_numbered g group p)

-- what is left to a worker from candidate p on
abbrev pub queue_at : Graph → Group → Share → ℕ → List Numbered
queue_at g group h p = keep (mine g (crew_of h) group h.worker) (drop p (met g group))

-- ---- the memo as laying out leaves it, with where the rows and the cells of each size begin
pub record Ground (g : Graph) (sets cells starts cell_starts : List ℕ) : Type 0 where
  pub sets-laid : take (length (memo g)) sets ≡ memo g
  pub cells-laid : take (length (skips g)) cells ≡ skips g
  pub starts-known : (k : ℕ) → 1 ≤ k → k ≤ table_count g + 1 → get_or starts k 0 ≡ start_of g k
  pub starts-long : table_count g + 1 < length starts
  pub cells-known : (k : ℕ) → 1 ≤ k → k ≤ table_count g + 1 → get_or cell_starts k 0 ≡ cell_of g k
  pub cells-long : table_count g + 1 < length cell_starts

-- ---- one inner row and its skip cells
-- r is after row j, and the rows from j to r all hold table t
pub record Hops (sets : List ℕ) (j t r : ℕ) : Type 0 where
  pub after : j < r
  pub inside : r ≤ few
  pub held : (p : ℕ) → j ≤ p → p < r → holds (get_or sets p 0) t ≡ 1

-- row j of a size of k tables whose first row is base and whose first cell is cell: its cells hold where to go on
pub record RowCells (sets cells : List ℕ) (base cell k j : ℕ) : Type 0 where
  pub from : base ≤ j
  pub inside : j < length sets
  pub early : j < few
  pub below : get_or sets j 0 < 2 ^ 32
  pub sized : size (get_or sets j 0) ≡ k
  pub room : cell + (j - base) * k + k ≤ length cells
  pub hops : (t : ℕ) → holds (get_or sets j 0) t ≡ 1 → Hops sets j t (base + get_or cells (cell + (j - base) * k + rank (get_or sets j 0) t) 0 - 1)

-- a step from inner row j: r is on the stride, and what it passes on the stride overlaps X
pub record Onward (sets : List ℕ) (X j step r : ℕ) : Type 0 where
  pub after : j < r
  pub near : r ≤ few + step
  pub on : (r - j) % step ≡ 0
  pub passed : (p : ℕ) → j < p → p < r → (p - j) % step ≡ 0 → Disjoint X (get_or sets p 0) → ⊥

-- the rows of a span have their cells
pub record SpanCells (sets cells : List ℕ) (base cell k : ℕ) (own : Span) : Type 0 where
  pub some-step : 1 ≤ own.step
  pub few-step : own.step ≤ few
  pub inside : own.end ≤ length sets
  pub rows : (p : ℕ) → own.from ≤ p → p < own.end → RowCells sets cells base cell k p

-- r is the first row of the span that may be joined with X, or at its end
pub record Along (g : Graph) (sets : List ℕ) (X : ℕ) (own : Span) (r : ℕ) : Type 0 where
  pub clear : (p : ℕ) → in_span own p ≡ true → p < r → is_joinable g X (get_or sets p 0) ≡ false
  pub found : r < own.end → (in_span own r ≡ true) × (is_joinable g X (get_or sets r 0) ≡ true)

-- ---- groups
-- no driving size of the group is larger than its inner size, and their results have at most N tables
pub record Fit (g : Graph) (group : Group) : Type 0 where
  pub rising : (d : ℕ) → 1 ≤ d → d ≤ group.last → d ≤ inner_at group d
  pub known : (d : ℕ) → 1 ≤ d → d ≤ group.last → d + inner_at group d ≤ table_count g

-- d is a driving size of it
pub record Drives (g : Graph) (group : Group) (d : ℕ) : Type 0 where
  pub fit : Fit g group
  pub to_last : d ≤ group.last
  pub rising : d ≤ inner_at group d
  pub inner-known : d + inner_at group d ≤ table_count g

-- ---- places

-- driving row i of size d, or the end of that size's driving rows; x candidates come before it
pub record RowFrom (g : Graph) (group : Group) (d i x : ℕ) : Type 0 where
  pub fit : Fit g group
  pub from_one : 1 ≤ d
  pub to_last : d ≤ group.last + 1
  pub row_from : start_of g d ≤ i
  pub row-to : i ≤ start_of g (d + 1)
  pub at-end : group.last < d → i ≡ start_of g d
  pub ahead : x ≡ ahead_of g group d i

-- the candidate of the group with number x stands at s
pub record At (g : Graph) (group : Group) (x : ℕ) (s : Spot) : Type 0 where
  pub from_one : 1 ≤ s.size
  pub to_last : Drives g group s.size
  pub row_from : start_of g s.size ≤ s.row
  pub row-to : s.row < start_of g (s.size + 1)
  pub inner-from : first_row g group s.size s.row ≤ s.inner
  pub inner-to : s.inner < end_row g group s.size
  pub number : x ≡ ahead_of g group s.size s.row + (s.inner - first_row g group s.size s.row)

-- "each with its own place": at the worker's next joinable pair, or nowhere
pub record Waits (g : Graph) (group : Group) (h : Share) (p : Place) : Type 0 where
  pub there : (s : Spot) → p.pair ≡ Some s → At g group p.number s × (own_at g group h p.number ≡ true)
  pub none : p.pair ≡ None → p ≡ nowhere (length (met g group))

-- the worker's next joinable pair among the candidates numbered x and on, or none
pub record NextFrom (g : Graph) (group : Group) (h : Share) (x : ℕ) (p : Place) : Type 0 where
  pub waits : Waits g group h p
  pub ahead : x ≤ p.number
  pub clear : (y : ℕ) → x ≤ y → y < p.number → own_at g group h y ≡ false

-- ---- how many candidates there are
-- how many rows a size has
abbrev pub rows_of_size : List ℕ → ℕ → ℕ
rows_of_size starts k = get_or starts (k + 1) 0 - get_or starts k 0

-- sizes begin one after another, and none has too many rows
pub record SizesFit (starts : List ℕ) (sizes : ℕ) : Type 0 where
  pub forward : (k : ℕ) → 1 ≤ k → k < sizes → get_or starts k 0 ≤ get_or starts (k + 1) 0
  pub fits : (k : ℕ) → 1 ≤ k → k < sizes → rows_of_size starts k ≤ 65536

-- the sizes that a group reads are some n, and begin in the table of starts
pub record Countable (starts : List ℕ) (group : Group) : Type 0 where
  pub sizes : ℕ
  pub few-sizes : sizes ≤ max_tables
  pub long : sizes < length starts
  pub fits : SizesFit starts sizes
  pub rising : (d : ℕ) → 1 ≤ d → d ≤ group.last → d ≤ inner_at group d
  pub inside : (d : ℕ) → 1 ≤ d → d ≤ group.last → inner_at group d < sizes
  pub last : group.last < sizes

-- the candidates with driving size d
abbrev pub count_at : List ℕ → Group → ℕ → ℕ
count_at starts group d = cond (eqb d (inner_at group d)) (rows_of_size starts d * (rows_of_size starts d - 1) / 2) (rows_of_size starts d * rows_of_size starts (inner_at group d))

-- with the driving sizes 1 to d
unfoldable pub count_to : List ℕ → Group → ℕ → ℕ
count_to starts group zero = 0
count_to starts group (suc d) = count_to starts group d + count_at starts group (suc d)

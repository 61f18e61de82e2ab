-- What the constructors of the types answer, and the numbers that 01 gives their cases.
use Rattle.std.specs.Prelude.{cond, ◌&&◌, not, ℕ, zero, suc, eqb}
use Rattle.rules.specs.declared.Scheme.{Scheme}
use Rattle.rules.specs.declared.Scheme.TheVariants.{CutCandidates, CutRows, DealRows, DealInner}
use Rattle.rules.specs.Limits.{in_range, table_fits, method_fits, max_divisor, max_workers}
use Rattle.std.specs.Prelude.{◌≡◌, Err, MatchResult, None, Ok, Option, Result, Some}
use Rattle.rules.specs.declared.Crew.{Crew}
use Rattle.rules.specs.declared.Edge.{Edge}
use Rattle.rules.specs.declared.EdgeFault.{EdgeFault}
use Rattle.rules.specs.declared.Method.{Method}
use Rattle.rules.specs.declared.Table.{Table}
use Rattle.rules.specs.declared.UnknownScheme.{UnknownScheme}
use Rattle.rules.specs.declared.EdgeFault.TheVariants.{Divisor, Itself, Outside}

-- "Each has rows .. and a scan cost", refused over a limit
abbrev pub new_table : ℕ → ℕ → Option Table
new_table rows scan = cond (table_fits rows scan) (Some (record { rows = rows; scan = scan })) None

-- "two different tables and a divisor", of a query of `count` tables; refusals 6, 7 and 8 in their order
abbrev pub new_edge : ℕ → ℕ → ℕ → ℕ → Result Edge EdgeFault
new_edge count left right divisor =
    cond (not (in_range 1 count left && in_range 1 count right)) (Err Outside)
    (cond (eqb left right) (Err Itself) (cond (not (in_range 1 max_divisor divisor)) (Err Divisor) (Ok (record { left = left; right = right; divisor = divisor }))))

-- 01's number for what is wrong with an edge, 0 for nothing
abbrev pub edge_number : Result Edge EdgeFault → ℕ
edge_number (Ok e) = 0
edge_number (Err Outside) = 6
edge_number (Err Itself) = 7
edge_number (Err Divisor) = 8

-- "a fixed cost .. and three coefficients", refused over a limit
abbrev pub new_method : ℕ → ℕ → ℕ → ℕ → Option Method
new_method fixed outer inner result =
    cond (method_fits fixed outer inner result) (Some (record { fixed = fixed; outer = outer; inner = inner; result = result })) None

-- "Scheme 1 to 4"
abbrev pub scheme_number : Scheme → ℕ
scheme_number CutCandidates = 1
scheme_number CutRows = 2
scheme_number DealRows = 3
scheme_number DealInner = 4

-- the scheme that a number names
abbrev pub scheme_of : ℕ → Option Scheme
scheme_of zero = None
scheme_of (suc zero) = Some CutCandidates
scheme_of (suc (suc zero)) = Some CutRows
scheme_of (suc (suc (suc zero))) = Some DealRows
scheme_of (suc (suc (suc (suc zero)))) = Some DealInner
scheme_of (suc (suc (suc (suc (suc n))))) = None

-- what a number is read as: the scheme that it names, or an error with a number that names none
abbrev pub Names : ℕ → Result Scheme UnknownScheme → Type 0
Names n r = MatchResult r (λ scheme. scheme_of n ≡ Some scheme) (λ e. (e.0 ≡ n) × (scheme_of n ≡ None))

-- a crew of so many workers, where the scheme's number is known
abbrev pub crew_with : ℕ → Option Scheme → Option Crew
crew_with workers (Some scheme) = Some (record { workers = workers; scheme = scheme })
crew_with workers None = None

-- "Workers 1 to 8, numbered from 0. Scheme 1 to 4."
abbrev pub new_crew : ℕ → ℕ → Option Crew
new_crew workers scheme = cond (in_range 1 max_workers workers) (crew_with workers (scheme_of scheme)) None

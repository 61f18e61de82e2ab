-- Text out: the bytes of numbers, sets and lines of the answer.
use Rattle.std.specs.Prelude.{cond, List, [], ◌∷◌, ◌++◌, map, ℕ, zero, suc, ◌+◌, ◌/◌, ◌%◌, ltb}
use Rattle.rules.specs.Verdict.{Verdict}
use Rattle.rules.specs.Sets.{tables}
use Rattle.rules.specs.Query.{Query, table_count}
use Rattle.rules.specs.Estimate.{estimate}
use Rattle.rules.specs.Trees.{Tree, scan, join, tables_of, cost_of}
use Rattle.rules.specs.Lines.{newline, zero_digit}

-- the byte between two fields of an answer's line: "one blank, not a tab"
abbrev pub blank : ℕ
blank = 32

-- the byte between two tables of a set
abbrev pub comma : ℕ
comma = 44

-- at most k + 1 digits of n
unfoldable pub digits_by : ℕ → ℕ → List ℕ
digits_by zero n = (zero_digit + n % 10) ∷ []
digits_by (suc k) n = cond (ltb n 10) ((zero_digit + n) ∷ []) (digits_by k (n / 10) ++ (zero_digit + n % 10) ∷ [])

-- n in decimal: no number has more digits than its value and one
unfoldable pub digits_of : ℕ → List ℕ
digits_of n = digits_by n n

-- each part behind a byte
unfoldable pub follow : ℕ → List (List ℕ) → List ℕ
follow by [] = []
follow by (p ∷ ps) = by ∷ p ++ follow by ps

-- the parts with a byte between each two
unfoldable pub joined : ℕ → List (List ℕ) → List ℕ
joined by [] = []
joined by (p ∷ ps) = p ++ follow by ps

-- "sets as ascending numbers with commas", of a query of n tables
unfoldable pub set_text : ℕ → ℕ → List ℕ
set_text n S = joined comma (map digits_of (tables n S))

-- "Answer lines part their fields by one blank, not a tab, and end in LF.": a letter, and its fields
unfoldable pub answer_line : ℕ → List (List ℕ) → List ℕ
answer_line letter parts = letter ∷ follow blank parts ++ newline ∷ []

-- "P: best cost, pairs."
unfoldable pub plan_line : ℕ → ℕ → List ℕ
plan_line best pairs = answer_line 80 (digits_of best ∷ digits_of pairs ∷ [])

-- "J: outer tables, inner tables, method, estimate, cost"
unfoldable pub join_line : ℕ → ℕ → ℕ → ℕ → ℕ → ℕ → List ℕ
join_line n outer inner method est cost = answer_line 74 (set_text n outer ∷ set_text n inner ∷ digits_of method ∷ digits_of est ∷ digits_of cost ∷ [])

-- "A refusal is one line: `X`, number, place, with single blanks."
unfoldable pub refusal_line : Verdict → List ℕ
refusal_line v = answer_line 88 (digits_of v.number ∷ digits_of v.place ∷ [])

-- "For each join its outer part's joins, then its inner part's, then its own."
unfoldable pub join_lines : Query → Tree → List ℕ
join_lines q (scan t) = []
join_lines q (join x y m) =
    join_lines q x ++ (join_lines q y ++ join_line (table_count q.graph) (tables_of x) (tables_of y) m (estimate q.graph (tables_of x + tables_of y)) (cost_of q (join x y m)))

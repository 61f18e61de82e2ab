-- The limits of 01's "Query and numbers", each named once, and the tests that read them.
use Rattle.std.specs.Prelude.{Bool, ◌&&◌, ℕ, leb}

-- "N tables, 1 to 16"
abbrev pub max_tables : ℕ
max_tables = 16

-- "rows (0 to 1,000,000)"
abbrev pub max_rows : ℕ
max_rows = 1000000

-- "a scan cost (0 to 1,000,000,000)"
abbrev pub max_scan : ℕ
max_scan = 1000000000

-- "a divisor, 1 to 1,000,000"
abbrev pub max_divisor : ℕ
max_divisor = 1000000

-- "Methods, 1 to 4"
abbrev pub max_methods : ℕ
max_methods = 4

-- "a fixed cost (0 to 1,000,000,000)"
abbrev pub max_fixed : ℕ
max_fixed = 1000000000

-- "three coefficients (0 to 1,000)"
abbrev pub max_coefficient : ℕ
max_coefficient = 1000

-- "Workers 1 to 8"
abbrev pub max_workers : ℕ
max_workers = 8

-- "Then cut to 1,000,000,000,000 if larger."
abbrev pub max_estimate : ℕ
max_estimate = 1000000000000

-- "Every cost is below 10^17."
abbrev pub cost_bound : ℕ
cost_bound = 100000000000000000

-- text: "At most 16,384 bytes"
abbrev pub max_bytes : ℕ
max_bytes = 16384

-- text: "1 to 10 digits"
abbrev pub max_digits : ℕ
max_digits = 10

-- text: a number is "at most 1,000,000,000"
abbrev pub max_number : ℕ
max_number = 1000000000

-- text: a "121st E" is refused
abbrev pub max_edge_lines : ℕ
max_edge_lines = 120

-- text: "plans in 1,023 rows .. of its own"
abbrev pub text_rows : ℕ
text_rows = 1023

-- text: "and 5,120 cells of its own"
abbrev pub text_cells : ℕ
text_cells = 5120

-- text: "a 4,096-byte buffer, which every answer fits"
abbrev pub answer_room : ℕ
answer_room = 4096

-- low to high, both included
abbrev pub in_range : ℕ → ℕ → ℕ → Bool
in_range low high n = leb low n && leb n high

-- a query may have this many tables
abbrev pub tables_fit : ℕ → Bool
tables_fit count = in_range 1 max_tables count

-- a query may have this many methods
abbrev pub methods_fit : ℕ → Bool
methods_fit count = in_range 1 max_methods count

-- rows and scan cost of a table are within their limits
abbrev pub table_fits : ℕ → ℕ → Bool
table_fits rows scan = leb rows max_rows && leb scan max_scan

-- fixed cost and coefficients of a method are within their limits
abbrev pub method_fits : ℕ → ℕ → ℕ → ℕ → Bool
method_fits fixed outer inner result = leb fixed max_fixed && (leb outer max_coefficient && (leb inner max_coefficient && leb result max_coefficient))

-- Bytes of a text as lines, fields and numbers: 01's "Text in, text out".
use Rattle.std.specs.Prelude.{Bool, true, cond, ◌&&◌, not, List, [], ◌∷◌, ℕ, ◌+◌, ◌*◌, ◌-◌, eqb, ltb, leb, length, get_or}
use Rattle.rules.specs.Limits.{in_range, max_digits, max_number}
use Rattle.std.specs.Prelude.{None, Option, Some}

-- the byte that parts the fields of a line
abbrev pub tab : ℕ
tab = 9

-- LF, the byte that ends a line
abbrev pub newline : ℕ
newline = 10

-- the byte of digit 0; the others follow it
abbrev pub zero_digit : ℕ
zero_digit = 48

-- a byte before the first of the parts
abbrev pub onto : ℕ → List (List ℕ) → List (List ℕ)
onto b [] = (b ∷ []) ∷ []
onto b (p ∷ ps) = (b ∷ p) ∷ ps

-- the bytes cut at each byte `by`, which falls away
unfoldable pub cut_at : ℕ → List ℕ → List (List ℕ)
cut_at by [] = [] ∷ []
cut_at by (b ∷ bs) = cond (eqb b by) ([] ∷ cut_at by bs) (onto b (cut_at by bs))

-- all but the last
unfoldable pub but_last : List (List ℕ) → List (List ℕ)
but_last [] = []
but_last (p ∷ []) = []
but_last (p ∷ p' ∷ ps) = p ∷ but_last (p' ∷ ps)

-- "each line ended by LF": nothing stands after the last LF
abbrev pub lines : List ℕ → List (List ℕ)
lines text = but_last (cut_at newline text)

-- "fields parted by one tab"
abbrev pub fields : List ℕ → List (List ℕ)
fields line = cut_at tab line

-- field k of a line, from 0: "the part of the line it occupies"; past the last, nothing
abbrev pub field : List ℕ → ℕ → List ℕ
field line k = get_or (fields line) k []

-- a digit's byte
abbrev pub is_digit : ℕ → Bool
is_digit b = in_range zero_digit (zero_digit + 9) b

-- every byte is a digit
unfoldable pub all_digits : List ℕ → Bool
all_digits [] = true
all_digits (b ∷ bs) = is_digit b && all_digits bs

-- the number whose digits are those of v and then the bytes
unfoldable pub value_from : ℕ → List ℕ → ℕ
value_from v [] = v
value_from v (b ∷ bs) = value_from (v * 10 + (b - zero_digit)) bs

-- what the digits are worth
abbrev pub value_of : List ℕ → ℕ
value_of s = value_from 0 s

-- a leading zero, and it is not 0
abbrev pub zero_led : List ℕ → Bool
zero_led s = ltb 1 (length s) && eqb (get_or s 0 0) zero_digit

-- "A number is 1 to 10 digits, no leading zero unless it is 0, at most 1,000,000,000."
unfoldable pub is_number : List ℕ → Bool
is_number s = in_range 1 max_digits (length s) && (not (zero_led s) && (all_digits s && leb (value_of s) max_number))

-- what a field holds as a number
abbrev pub number_of : List ℕ → Option ℕ
number_of s = cond (is_number s) (Some (value_of s)) None

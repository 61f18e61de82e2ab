-- How long the lines of an answer are: "a 4,096-byte buffer, which every answer fits".
use Rattle.std.specs.Prelude.{◌≡◌, refl, Bool, true, false, cond, List, [], ◌∷◌, ◌++◌, map, ℕ, zero, suc, ◌+◌, ◌-◌, ◌*◌, ◌/◌, ◌%◌, ◌^◌, ◌≤◌, ◌<◌, eqb, ltb, length}
use Rattle.std.proofs.Common.{ap, pow-suc, arith, length-append, lt-ltb, le-ltb}
use Rattle.std.proofs.Math.Decide.{dec_lt}
use Rattle.rules.specs.Verdict.{Verdict}
use Rattle.rules.specs.Limits.{max_tables, cost_bound}
use Rattle.rules.specs.Sets.{size, tables_from, tables}
use Rattle.rules.specs.Query.{Query, table_count}
use Rattle.rules.specs.Estimate.{estimate}
use Rattle.rules.specs.Trees.{Tree, scan, join, tables_of, Valid, cost_of}
use Rattle.rules.specs.Checked.{Sound}
use Rattle.rules.specs.Lines.{zero_digit}
use Rattle.rules.specs.Writing.{comma, blank, digits_by, digits_of, follow, joined, set_text, answer_line, plan_line, join_line, refusal_line, join_lines}
use Rattle.rules.specs.laws.Sets.{size-sum, size-pow}
use Rattle.rules.proofs.laws.Estimate.{estimate_le, tree-below}

-- ---- numbers
-- a number below 10 ^ (k + 1) has at most k + 1 digits
by-room : (j k n : ℕ) → n < 10 ^ suc k → length (digits_by j n) ≤ suc k
unfolding digits_by
by-room zero k n l = omega arith
by-room (suc j) k n l = go k (dec_lt n 10) l (λ k. by-room j k (n / 10))
  where
    go : (k : ℕ) → Dec (n < 10) → n < 10 ^ suc k → ((k : ℕ) → n / 10 < 10 ^ suc k → length (digits_by j (n / 10)) ≤ suc k) → length (cond (ltb n 10) ((zero_digit + n) ∷ []) (digits_by j (n / 10) ++ (zero_digit + n % 10) ∷ [])) ≤ suc k
    go k (yes h) l ih = rw (lt-ltb n 10 h) (omega arith)
    go zero (no z) l ih = absurd (z l)
    go (suc k) (no z) l ih =
        let h : 10 ≤ n = omega arith in
        let less : n / 10 < 10 ^ suc k = omega (arith, pow-suc 10 (suc k)) in
        rw (le-ltb n 10 h, length-append) (omega (arith, ih k less))

pub digits-room : (k n : ℕ) → n < 10 ^ suc k → length (digits_of n) ≤ suc k
unfolding digits_of
digits-room k n l = by-room n k n l

-- ---- sets
-- tables below 100 have two digits at most, and a comma
tables-room : (t n S : ℕ) → t + n ≤ 100 → length (follow comma (map digits_of (tables_from t n S))) ≤ 3 * n
unfolding tables_from follow
tables-room t zero S l = omega arith
tables-room t (suc n) S l = go (eqb (S % 2) 1) (tables-room (suc t) n (S / 2) (omega arith))
  where
    go : (b : Bool) → length (follow comma (map digits_of (tables_from (suc t) n (S / 2)))) ≤ 3 * n
        → length (follow comma (map digits_of (cond b (t ∷ tables_from (suc t) n (S / 2)) (tables_from (suc t) n (S / 2))))) ≤ 3 * suc n
    go true ih = rw length-append (omega (arith, digits-room 1 t (omega arith)))
    go false ih = omega arith

joined-room : (by : ℕ) (ps : List (List ℕ)) → length (joined by ps) ≤ length (follow by ps)
unfolding joined follow
joined-room by [] = omega arith
joined-room by (p ∷ ps) = omega arith

pub set_room : (n S : ℕ) → n ≤ max_tables → length (set_text n S) ≤ 3 * n
unfolding set_text tables
set_room n S l = omega (arith, joined-room comma (map digits_of (tables_from 1 n S)), tables-room 1 n S (omega arith))

-- ---- lines
-- the most bytes of a J line: a letter, two sets, three numbers below 10^17, and LF
abbrev pub join_room : ℕ
join_room = 154

follow-length : (by : ℕ) (p : List ℕ) (ps : List (List ℕ)) → length (follow by (p ∷ ps)) ≡ suc (length p + length (follow by ps))
unfolding follow
follow-length by p ps = ap suc (length-append p (follow by ps))

follow-none : (by : ℕ) → length (follow by []) ≡ 0
unfolding follow
follow-none by = refl

line-length : (letter : ℕ) (ps : List (List ℕ)) → length (answer_line letter ps) ≡ length (follow blank ps) + 2
unfolding answer_line
line-length letter ps = rw length-append (omega arith)

two-length : (letter : ℕ) (p r : List ℕ) → length (answer_line letter (p ∷ r ∷ [])) ≡ length p + length r + 4
two-length letter p r = omega (arith, line-length letter (p ∷ r ∷ []), follow-length blank p (r ∷ []), follow-length blank r [], follow-none blank)

five-length : (letter : ℕ) (p r s t u : List ℕ) → length (answer_line letter (p ∷ r ∷ s ∷ t ∷ u ∷ [])) ≡ length p + length r + length s + length t + length u + 7
five-length letter p r s t u =
    omega
    (arith, line-length letter (p ∷ r ∷ s ∷ t ∷ u ∷ []), follow-length blank p (r ∷ s ∷ t ∷ u ∷ []), follow-length blank r (s ∷ t ∷ u ∷ []), follow-length blank s (t ∷ u ∷ []), follow-length blank t (u ∷ []), follow-length blank u [], follow-none blank)

pub join-room : (n x y m e c : ℕ) → n ≤ max_tables → m < cost_bound → e < cost_bound → c < cost_bound → length (join_line n x y m e c) ≤ join_room
unfolding join_line
join-room n x y m e c k l₁ l₂ l₃ =
    omega (arith, five-length 74 (set_text n x) (set_text n y) (digits_of m) (digits_of e) (digits_of c), set_room n x k, set_room n y k, digits-room 16 m l₁, digits-room 16 e l₂, digits-room 16 c l₃)

-- the most bytes of a P line or of an X line, whose numbers are below 10^20
abbrev pub line_room : ℕ
line_room = 44

pub plan-room : (best pairs : ℕ) → best < 10 ^ 20 → pairs < 10 ^ 20 → length (plan_line best pairs) ≤ line_room
unfolding plan_line
plan-room best pairs l₁ l₂ = omega (arith, two-length 80 (digits_of best) (digits_of pairs), digits-room 19 best l₁, digits-room 19 pairs l₂)

pub refusal-room : (v : Verdict) → v.number < 10 ^ 20 → v.place < 10 ^ 20 → length (refusal_line v) ≤ line_room
unfolding refusal_line
refusal-room v l₁ l₂ = omega (arith, two-length 88 (digits_of v.number) (digits_of v.place), digits-room 19 v.number l₁, digits-room 19 v.place l₂)

-- a tree of n tables has n - 1 joins
pub joins-room : (q : Query) → Sound q → (t : Tree) → Valid q t → length (join_lines q t) + join_room ≤ join_room * size (tables_of t)
unfolding join_lines tables_of Valid
joins-room q z (scan t) v = omega (arith, size-pow (t - 1))
joins-room q z (join x y m) v =
    let n = table_count q.graph in
    let e = estimate q.graph (tables_of x + tables_of y) in
    let c = cost_of q (join x y m) in
    let l = join_line n (tables_of x) (tables_of y) m e c in
    omega (
      arith,
      length-append (join_lines q x) (join_lines q y ++ l),
      length-append (join_lines q y) l,
      joins-room q z x v.0,
      joins-room q z y v.1,
      size-sum (tables_of x) (tables_of y) v.2.apart,
      join-room n (tables_of x) (tables_of y) m e c z.graph.few-tables (omega (arith, v.3.to-count, z.few-methods)) (omega (arith, estimate_le q.graph (tables_of x + tables_of y))) (tree-below q z (join x y m) v),
    )

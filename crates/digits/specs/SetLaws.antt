-- The text of a set grows by its tables, from table 1 on.
use Rattle.std.specs.Prelude.{◌≡◌, refl, Bool, true, false, cond, List, [], ◌∷◌, ◌++◌, map, ℕ, zero, suc, ◌+◌, ◌-◌, ◌/◌, ◌%◌, ◌≤◌, ◌<◌, eqb, ltb, length}
use Rattle.std.proofs.Common.{sym, ap, ◌∙◌, append-nil, append_assoc, not-suc-le-zero, add-zero, add-suc, one-add, arith, length-append, lt-ltb, le-ltb}
use Rattle.std.proofs.lemmas.List.{map-append}
use Rattle.rules.specs.Sets.{has, tables_from, tables}
use Rattle.rules.specs.Writing.{comma, digits_of, follow, joined, set_text}
use Rattle.rules.specs.laws.Sets.{bit, holds-bit}
use Rattle.digits.specs.declared.Line.{Line}
use Rattle.digits.specs.Put.{Put}
use Rattle.digits.specs.SetText.{table_text}
use Rattle.digits.specs.PutLaws.{put-none, put_then, put_as, room-then, room_of}
use Rattle.digits.specs.DigitLaws.{digits-some}

-- ---- one table more
abbrev only : Bool → ℕ → List ℕ
only b t = cond b (t ∷ []) []

-- the last of n + 1 tables is digit n
from_last : (t n S : ℕ) → tables_from t (suc n) S ≡ tables_from t n S ++ only (eqb (bit n S) 1) (t + n)
unfolding tables_from bit
from_last t zero S = rw add-zero
from_last t (suc n) S =
    let e : suc t + n ≡ t + suc n = omega arith in
    go (eqb (S % 2) 1) _ _ _ (rw e at (from_last (suc t) n (S / 2)))
  where
    go : (b : Bool) (r s u : List ℕ) → r ≡ s ++ u → cond b (t ∷ r) r ≡ cond b (t ∷ s) s ++ u
    go true r s u e = ap (λ (l : List ℕ). t ∷ l) e
    go false r s u e = e

tables-last : (n S : ℕ) → tables (suc n) S ≡ tables n S ++ only (has S (suc n)) (suc n)
unfolding tables
tables-last n S = rw (holds-bit S n) (rw (one-add n) at (from_last 1 n S))

-- ---- its text
follow-append : (by : ℕ) (ps rs : List (List ℕ)) → follow by (ps ++ rs) ≡ follow by ps ++ follow by rs
unfolding follow
follow-append by [] rs = refl
follow-append by (p ∷ ps) rs = rw (follow-append by ps rs, ← append_assoc p) refl

-- a table behind others, and alone
joined-last : (by : ℕ) (p r : List ℕ) (ps : List (List ℕ)) → joined by ((p ∷ ps) ++ (r ∷ [])) ≡ joined by (p ∷ ps) ++ (by ∷ r)
unfolding joined follow
joined-last by p r ps = rw (follow-append by ps (r ∷ []), append-nil r, append_assoc p) refl

joined-one : (by : ℕ) (r : List ℕ) → joined by (r ∷ []) ≡ r
unfolding joined follow
joined-one by r = append-nil r

abbrev text_of : List ℕ → List ℕ
text_of ts = joined comma (map digits_of ts)

-- a text is empty where there is no table
text-some : (x : ℕ) (ts : List ℕ) → 0 < length (text_of (x ∷ ts))
unfolding joined
text-some x ts = rw length-append (omega (arith, digits-some x))

-- one table more, or none
text-more : (ts : List ℕ) (t : ℕ) → text_of (ts ++ (t ∷ [])) ≡ text_of ts ++ cond (ltb 0 (length (text_of ts))) (comma ∷ digits_of t) (digits_of t)
unfolding joined
text-more [] t = joined-one comma (digits_of t)
text-more (x ∷ ts) t =
    ap (joined comma) (map-append digits_of (x ∷ ts) (t ∷ [])) ∙ joined-last comma (digits_of x) (digits_of t) (map digits_of ts) ∙ rw (lt-ltb 0 (length (text_of (x ∷ ts))) (text-some x ts)) refl

text-step : (b : Bool) (ts : List ℕ) (t : ℕ) → text_of (ts ++ only b t) ≡ text_of ts ++ cond b (cond (ltb 0 (length (text_of ts))) (comma ∷ digits_of t) (digits_of t)) []
text-step true ts t = text-more ts t
text-step false ts t = ap text_of (append-nil ts) ∙ sym (append-nil (text_of ts))

set-suc : (n S : ℕ) → set_text (suc n) S ≡ set_text n S ++ table_text S (suc n) (ltb 0 (length (set_text n S)))
unfolding set_text table_text
set-suc n S = ap text_of (tables-last n S) ∙ text-step (has S (suc n)) (tables n S) (suc n)

-- ---- as the loop has it: tables 1 to t - 1 are put, and t is next
some-behind : (at end : ℕ) (xs : List ℕ) → end ≡ at + length xs → ltb at end ≡ ltb 0 (length xs)
some-behind at end [] e = le-ltb at end (omega arith)
some-behind at end (x ∷ xs) e = lt-ltb at end (omega arith) ∙ sym (lt-ltb 0 (suc (length xs)) (omega arith))

set-grows : (k d S : ℕ) → length (set_text k S) ≤ length (set_text (k + d) S)
set-grows k zero S = rw add-zero (omega arith)
set-grows k (suc d) S =
    rw (add-suc, set-suc (k + d) S, length-append) (omega (arith, set-grows k d S))

set-le : (k n S : ℕ) → k ≤ n → length (set_text k S) ≤ length (set_text n S)
set-le k n S l = let e : k + (n - k) ≡ n = omega arith in rw e at (set-grows k (n - k) S)

set_next : (at end k S : ℕ) → end ≡ at + length (set_text k S) → set_text k S ++ table_text S (suc k) (ltb at end) ≡ set_text (suc k) S
set_next at end k S e = rw (some-behind at end (set_text k S) e) (sym (set-suc k S))

pub set-start : (a : Line) (S : ℕ) → Put a a (set_text 0 S)
unfolding set_text tables tables_from joined
set-start a S = put-none a

pub set-step : {a b c : Line} (S t : ℕ) → 1 ≤ t → Put a b (set_text (t - 1) S) → Put b c (table_text S t (ltb a.at b.at)) → Put a c (set_text (t + 1 - 1) S)
set-step S zero l p s = absurd (not-suc-le-zero l)
set-step {a} {b} S (suc k) l p s =
    let e : suc k - 1 ≡ k = omega arith in
    let p' : Put a b (set_text k S) = rw e at p in
    let f : suc k + 1 - 1 ≡ suc k = omega arith in
    rw f (put_as (set_next a.at b.at k S p'.end) (put_then p' s))

pub table-room : {a b : Line} (n S t : ℕ) → 1 ≤ t → t ≤ n → Put a b (set_text (t - 1) S) → a.at + length (set_text n S) ≤ length a.out.now → b.at + length (table_text S t (ltb a.at b.at)) ≤ length b.out.now
table-room n S zero l k p r = absurd (not-suc-le-zero l)
table-room {a} {b} n S (suc i) l k p r =
    let e : suc i - 1 ≡ i = omega arith in
    let p' : Put a b (set_text i S) = rw e at p in
    let x = set_next a.at b.at i S p'.end in
    (room-then (table_text S (suc i) (ltb a.at b.at)) p' (room_of _ x (omega (arith, set-le (suc i) n S k)))).left

-- the loop's last turn
pub set-done : {a b : Line} (n S t : ℕ) → t ≤ n + 1 → n < t → Put a b (set_text (t - 1) S) → Put a b (set_text n S)
set-done n S t l k p = let e : t - 1 ≡ n = omega arith in rw e at p

-- ---- what one table adds
pub table_none : (S t : ℕ) (b : Bool) → has S t ≡ false → [] ≡ table_text S t b
unfolding table_text
table_none S t b e = rw e

pub table-first : (S t at end : ℕ) → has S t ≡ true → end ≤ at → digits_of t ≡ table_text S t (ltb at end)
unfolding table_text
table-first S t at end e l = rw (e, le-ltb at end l)

pub table-after : (S t at end : ℕ) → has S t ≡ true → at < end → (comma ∷ []) ++ digits_of t ≡ table_text S t (ltb at end)
unfolding table_text
table-after S t at end e l = rw (e, lt-ltb at end l)

-- Laws that no proof cites any more, since the check finds their goals: they hold as before.
use Rattle.std.specs.Prelude.{◌≡◌, refl, ◌⊎◌, Bool, true, false, cond, not, ◌&&◌, List, [], ◌∷◌, ℕ, zero, suc, ◌≤◌, ◌<◌, ◌+◌, ◌*◌, ◌-◌, ◌^◌, eqb, ltb, leb, length, take, drop, get_or, None, Option, Some, Result, Ok, Err}
use Rattle.std.proofs.Common.{sym, ◌∙◌, ap, inl, inr, zero-add, add-one, sub-one, pow-suc, arith, lit≤, length-drop, drop_of_length-le, drop-cons, eq-eqb, ne_eqb}
use Rattle.std.proofs.Math.Nat.{pow-le-pow_right}
use borrow.Author.Tests.{lt-ltb, le-ltb, le-leb, lt-leb}
use Rattle.rules.specs.declared.forms.Kind.{Kind}
use Rattle.rules.specs.declared.forms.Kind.TheVariants.{Table, Method, Edge, Crew}
use Rattle.rules.specs.declared.forms.Form.{Form}
use Rattle.rules.specs.declared.refusal.Reason.{Reason}
use Rattle.rules.specs.declared.refusal.Reason.TheVariants.{LineFields, LineNumber, LineOrder, LineExcess}
use Rattle.rules.specs.Verdict.{number_of as refusal_of}
use Rattle.rules.specs.Limits.{max_tables, max_methods, max_edge_lines, max_digits, max_number}
use Rattle.rules.specs.Lines.{tab, zero_digit, is_digit, all_digits, value_from, value_of, zero_led, is_number, number_of, onto, cut_at, fields, field}
use Rattle.rules.specs.Reading.{known, letter_of, form_of, stage, all_numbers, number_fields, values, misplaced, excess, line_form, line_number_as}
use Rattle.rules.specs.laws.Bools.{true-or-false}
use Rattle.fields.specs.declared.kinds.Progress.{Progress}
use Rattle.fields.specs.declared.kinds.Record.{Record}
use Rattle.fields.specs.Spans.{span}
use Rattle.fields.specs.SpanLaws.{rest-is}
use Rattle.fields.specs.CutLaws.{cut-next, cut-some}
use Rattle.fields.specs.NumberLaws.{digits_from}
use Rattle.fields.specs.ValueLaws.{Taken}
use Rattle.fields.specs.ValueLaws as read
use Rattle.fields.specs.KindLaws as kinds
use Rattle.fields.specs.Recorded.{number_as, Recorded, JudgedAs, Judged}

-- ---- a scan for the first byte of a kind
-- a scan stands at i, and has not met the byte
abbrev pub Passed : ℕ → List ℕ → ℕ → Type 0
Passed by s i = span by s ≡ i + span by (drop i s)

pub passed-0 : (by : ℕ) (s : List ℕ) → Passed by s 0
passed-0 by s = sym (zero-add (span by s))

module _ (by : ℕ) (s : List ℕ) (i : ℕ) where
  opened-span : i < length s → span by (drop i s) ≡ cond (eqb (get_or s i 0) by) zero (suc (span by (drop (i + 1) s)))
  unfolding span
  opened-span l = rw (drop-cons s i 0 l, add-one)

  pub passed-suc : i < length s → Passed by s i → (get_or s i 0 ≡ by → ⊥) → Passed by s (i + 1)
  passed-suc l p ne = let e : span by (drop i s) ≡ suc (span by (drop (i + 1) s)) = opened-span l ∙ rw (ne_eqb _ by ne) in omega arith

  pub passed-found : i < length s → Passed by s i → get_or s i 0 ≡ by → i ≡ span by s
  passed-found l p f = let e : span by (drop i s) ≡ 0 = opened-span l ∙ rw (eq-eqb _ by f) in omega arith

  pub passed-end : length s ≤ i → Passed by s i → i ≡ span by s
  unfolding span
  passed-end l p = let e : span by (drop i s) ≡ 0 = rw (drop_of_length-le s {i = i} l) in omega arith

pub rest-length : (s : List ℕ) (a : ℕ) → length (take (length s - a) (drop a s)) ≡ length s - a
rest-length s a = ap length (rest-is s a) ∙ length-drop a s

-- ---- parts
-- no byte of the kind stands in s
pub cut-last : (by : ℕ) (s : List ℕ) → length s ≤ span by s → cut_at by s ≡ s ∷ []
unfolding cut_at span
cut-last by [] l = refl
cut-last by (b ∷ bs) l = go (cut-last by bs) (true-or-false (eqb b by))
  where
    go : (length bs ≤ span by bs → cut_at by bs ≡ bs ∷ []) → (eqb b by ≡ true) ⊎ (eqb b by ≡ false) → cond (eqb b by) ([] ∷ cut_at by bs) (onto b (cut_at by bs)) ≡ (b ∷ bs) ∷ []
    go ih (inl e) = let h : suc (length bs) ≤ 0 = rw e at l in absurd (omega arith)
    go ih (inr e) = let h : suc (length bs) ≤ suc (span by bs) = rw e at l in rw (e, ih (omega arith)) refl

-- there is always a first part
pub cut-first : (by : ℕ) (s : List ℕ) → get_or (cut_at by s) 0 [] ≡ take (span by s) s
unfolding cut_at span
cut-first by [] = refl
cut-first by (b ∷ bs) = go (cut-first by bs) (cut_at by bs) refl (true-or-false (eqb b by))
  where
    go : get_or (cut_at by bs) 0 [] ≡ take (span by bs) bs → (ps : List (List ℕ)) → cut_at by bs ≡ ps → (eqb b by ≡ true) ⊎ (eqb b by ≡ false)
        → get_or (cond (eqb b by) ([] ∷ cut_at by bs) (onto b (cut_at by bs))) 0 [] ≡ take (cond (eqb b by) zero (suc (span by bs))) (b ∷ bs)
    go ih ps p (inl e) = rw e refl
    go ih [] p (inr e) = rw (e, p) (ap (λ (l : List ℕ). b ∷ l) (sym (ap (λ (x : List (List ℕ)). get_or x 0 []) p) ∙ ih))
    go ih (q ∷ ps) p (inr e) = rw (e, p) (ap (λ (l : List ℕ). b ∷ l) (sym (ap (λ (x : List (List ℕ)). get_or x 0 []) p) ∙ ih))

onto-length : (b : ℕ) (p : List (List ℕ)) → 0 < length p → length (onto b p) ≡ length p
onto-length b [] l = absurd (omega arith)
onto-length b (q ∷ ps) l = refl

-- ---- fields, as `field_of` finds them
field-after : (s : List ℕ) (k e : ℕ) → 0 < k → e ≡ span tab s → e < length s → field s k ≡ field (drop (e + 1) s) (k - 1)
field-after s zero e l q h = absurd (omega arith)
field-after s (suc k) e l q h = rw (q, add-one, sub-one, cut-next tab s (rw (← q) h)) refl

-- the next field is field k - 1 of what stands after the tab
pub field_next : (s : List ℕ) (k e : ℕ) → 0 < k → e ≡ span tab s → e < length s → field s k ≡ field (take (length s - (e + 1)) (drop (e + 1) s)) (k - 1)
field_next s k e l q h = field-after s k e l q h ∙ ap (λ (u : List ℕ). field u (k - 1)) (sym (rest-is s (e + 1)))

-- past the last tab there is none
pub field-none : (s : List ℕ) (k e : ℕ) → 0 < k → e ≡ span tab s → length s ≤ e → take (length s - e) (drop e s) ≡ field s k
field-none s zero e l q h = absurd (omega arith)
field-none s (suc k) e l q h = rest-is s e ∙ drop_of_length-le s h ∙ sym (ap (λ (p : List (List ℕ)). get_or p (suc k) []) (cut-last tab s (rw (← q) h)))

pub field-zero : (s : List ℕ) (k e : ℕ) → k ≤ 0 → e ≡ span tab s → take e s ≡ field s k
field-zero s zero e l q = ap (λ (n : ℕ). take n s) q ∙ sym (cut-first tab s)
field-zero s (suc k) e l q = absurd (omega arith)

-- ---- how many fields, as `count_fields` counts them: those met so far, of which the last goes on
abbrev pub Counted : List ℕ → ℕ → ℕ → Type 0
Counted s i count = length (fields s) + 1 ≡ count + length (fields (drop i s))

pub counted-0 : (s : List ℕ) → Counted s 0 1
counted-0 s = omega arith

module _ (s : List ℕ) (i count : ℕ) where
  opened-field : i < length s → fields (drop i s) ≡ cond (eqb (get_or s i 0) tab) ([] ∷ fields (drop (i + 1) s)) (onto (get_or s i 0) (fields (drop (i + 1) s)))
  unfolding cut_at
  opened-field l = rw (drop-cons s i 0 l, add-one)

  pub counted-tab : i < length s → Counted s i count → get_or s i 0 ≡ tab → Counted s (i + 1) (count + 1)
  counted-tab l h t =
      let e : length (fields (drop i s)) ≡ suc (length (fields (drop (i + 1) s))) = ap length (opened-field l) ∙ rw (eq-eqb _ tab t) in
      omega arith

  pub counted-other : i < length s → Counted s i count → (get_or s i 0 ≡ tab → ⊥) → Counted s (i + 1) count
  counted-other l h t =
      let e : length (fields (drop i s)) ≡ length (fields (drop (i + 1) s)) = ap length (opened-field l) ∙ rw (ne_eqb _ tab t) (onto-length (get_or s i 0) (fields (drop (i + 1) s)) (cut-some tab (drop (i + 1) s))) in
      omega arith

  -- the test may have gone either way
  pub counted_next : (count' : ℕ) → i < length s → count ≤ i + 1 → Counted s i count → (((get_or s i 0 ≡ tab) × (count' ≡ count + 1)) ⊎ ((get_or s i 0 ≡ tab → ⊥) × (count' ≡ count)))
      → (count' ≤ i + 1 + 1) × Counted s (i + 1) count'
  counted_next count' l b h (inl w) = (omega (arith, w.1), rw w.1 (counted-tab l h w.0))
  counted_next count' l b h (inr w) = (omega (arith, w.1), rw w.1 (counted-other l h w.0))

  pub counted-end : length s ≤ i → Counted s i count → count ≡ length (fields s)
  unfolding cut_at
  counted-end l h = let e : length (fields (drop i s)) ≡ 1 = rw (drop_of_length-le s {i = i} l) in omega arith

-- ---- digits
module _ (s : List ℕ) (v i : ℕ) (l : i < length s) where
  abbrev b : ℕ
  b = get_or s i 0

  opened-digit : digits_from v (drop i s) ≡ cond (is_digit b && all_digits (drop (i + 1) s)) (Some (value_from (v * 10 + (b - zero_digit)) (drop (i + 1) s))) None
  unfolding all_digits value_from
  opened-digit = rw (drop-cons s i 0 l, add-one)

  pub digits_low : b < zero_digit → digits_from v (drop i s) ≡ None
  digits_low h = opened-digit ∙ rw (lt-leb zero_digit b h)

  pub digits-high : zero_digit + 9 < b → digits_from v (drop i s) ≡ None
  digits-high h = opened-digit ∙ rw (le-leb zero_digit b (omega arith), lt-leb b (zero_digit + 9) h)

  pub digits-next : zero_digit ≤ b → b ≤ zero_digit + 9 → digits_from v (drop i s) ≡ digits_from (v * 10 + (b - zero_digit)) (drop (i + 1) s)
  digits-next h k = opened-digit ∙ rw (le-leb zero_digit b h, le-leb b (zero_digit + 9) k)

-- a value of i digits is below 10 ^ i
pub power-next : (v i b : ℕ) → v < 10 ^ i → b ≤ zero_digit + 9 → v * 10 + (b - zero_digit) < 10 ^ (i + 1)
power-next v i b h k = rw (add-one, pow-suc) (omega arith)

-- a value of i digits and one digit more is no overflow
pub power-room : (v i n : ℕ) → i < n → n ≤ max_digits → v < 10 ^ i → v < 1000000000
power-room v i n l m h = omega (arith, pow-le-pow_right {n = 10} (lit≤ tt) {i = i} {j = 9} (omega arith))

-- ---- a leading zero
pub led-long : (s : List ℕ) → 1 < length s → eqb (get_or s 0 0) zero_digit ≡ zero_led s
led-long s l = rw (lt-ltb 1 (length s) l)

pub led-short : (s : List ℕ) → length s ≤ 1 → false ≡ zero_led s
led-short s l = rw (le-ltb 1 (length s) l)

-- ---- a number
pub number-empty : (s : List ℕ) → length s ≡ 0 → None ≡ number_of s
unfolding is_number
number-empty s h = rw (lt-leb 1 (length s) (omega arith))

pub number-long : (s : List ℕ) → (length s ≡ 0 → ⊥) → max_digits < length s → None ≡ number_of s
unfolding is_number
number-long s some l = rw (le-leb 1 (length s) (omega arith), lt-leb (length s) max_digits l)

module _ (s : List ℕ) (some : length s ≡ 0 → ⊥) (l : length s ≤ max_digits) where
  pub number-led : zero_led s ≡ true → None ≡ number_of s
  unfolding is_number
  number-led z = rw (le-leb 1 (length s) (omega arith), le-leb (length s) max_digits l, z)

  -- what is left to ask is its digits
  plain : zero_led s ≡ false → number_of s ≡ cond (all_digits s && leb (value_of s) max_number) (Some (value_of s)) None
  unfolding is_number
  plain z = rw (le-leb 1 (length s) (omega arith), le-leb (length s) max_digits l, z)

  module _ (z : zero_led s ≡ false) (d : Option ℕ) (p : d ≡ digits_from 0 s) where
    pub number-bad : d ≡ None → None ≡ number_of s
    number-bad e = go (true-or-false (all_digits s))
      where
        go : (all_digits s ≡ true) ⊎ (all_digits s ≡ false) → None ≡ number_of s
        go (inl a) = let f : None ≡ Some (value_of s) = sym e ∙ p ∙ rw a in let w : ◌≡◌ {A = ℕ} 0 1 = cc in absurd (omega arith)
        go (inr a) = sym (plain z ∙ rw a)

    value-is : (v : ℕ) → d ≡ Some v → (all_digits s ≡ true) × (v ≡ value_of s)
    value-is v e = go (true-or-false (all_digits s))
      where
        go : (all_digits s ≡ true) ⊎ (all_digits s ≡ false) → (all_digits s ≡ true) × (v ≡ value_of s)
        go (inl a) = let f : Some v ≡ Some (value_of s) = sym e ∙ p ∙ rw a in (a, cc)
        go (inr a) = let f : Some v ≡ None = sym e ∙ p ∙ rw a in let w : ◌≡◌ {A = ℕ} 0 1 = cc in absurd (omega arith)

    pub number-good : (v : ℕ) → d ≡ Some v → v ≤ max_number → Some v ≡ number_of s
    number-good v e m = let r = value-is v e in let f : leb (value_of s) max_number ≡ true = rw (← r.1) (le-leb v max_number m) in sym (plain z ∙ rw (r.0, f) (ap Some (sym r.1)))

    pub number-over : (v : ℕ) → d ≡ Some v → max_number < v → None ≡ number_of s
    number-over v e m = let r = value-is v e in let f : leb (value_of s) max_number ≡ false = rw (← r.1) (lt-leb v max_number m) in sym (plain z ∙ rw (r.0, f))

-- ---- letters
pub letter-table : (b : ℕ) → b ≡ 84 → known Table 3 ≡ letter_of b
unfolding letter_of
letter-table b e = rw e

pub letter-method : (b : ℕ) → b ≡ 77 → known Method 4 ≡ letter_of b
unfolding letter_of
letter-method b e = rw e

pub letter-edge : (b : ℕ) → b ≡ 69 → known Edge 3 ≡ letter_of b
unfolding letter_of
letter-edge b e = rw e

pub letter-crew : (b : ℕ) → b ≡ 87 → known Crew 2 ≡ letter_of b
unfolding letter_of
letter-crew b e = rw e

pub letter-none : (b : ℕ) → (b ≡ 84 → ⊥) → (b ≡ 77 → ⊥) → (b ≡ 69 → ⊥) → (b ≡ 87 → ⊥) → None ≡ letter_of b
unfolding letter_of
letter-none b t m e w = rw (ne_eqb b 84 t, ne_eqb b 77 m, ne_eqb b 69 e, ne_eqb b 87 w)

-- ---- the first field
pub form-other : (s : List ℕ) → (length s ≡ 1 → ⊥) → None ≡ form_of s
form-other [] n = refl
form-other (b ∷ []) n = absurd (n refl)
form-other (b ∷ c ∷ s) n = refl

pub form-letter : (s : List ℕ) → length s ≡ 1 → letter_of (get_or s 0 0) ≡ form_of s
form-letter [] e = absurd (omega arith)
form-letter (b ∷ []) e = refl
form-letter (b ∷ c ∷ s) e = absurd (omega arith)

-- ---- 23
module _ (kind : Kind) (latest tables first at : ℕ) (s : at ≡ stage kind) where
  pub next-table : kind ≡ Table → first ≡ tables + 1 → ltb at latest ≡ misplaced kind latest tables first
  unfolding misplaced
  next-table k e = let f : first ≡ suc tables = omega arith in rw (s, k, eq-eqb first (suc tables) f)

  pub other-table : kind ≡ Table → (first ≡ tables + 1 → ⊥) → true ≡ misplaced kind latest tables first
  unfolding misplaced
  other-table k n = let f : (first ≡ suc tables → ⊥) = λ e. n (e ∙ sym (add-one tables)) in rw (k, ne_eqb first (suc tables) f)

  pub method-place : kind ≡ Method → ltb at latest ≡ misplaced kind latest tables first
  unfolding misplaced
  method-place k = rw (s, k)

  pub edge-place : kind ≡ Edge → ltb at latest ≡ misplaced kind latest tables first
  unfolding misplaced
  edge-place k = rw (s, k)

  pub crew-place : kind ≡ Crew → leb at latest ≡ misplaced kind latest tables first
  unfolding misplaced
  crew-place k = rw (s, k)

-- ---- 25
module _ (kind : Kind) (tables methods edges : ℕ) where
  pub table-excess : kind ≡ Table → leb max_tables tables ≡ excess kind tables methods edges
  unfolding excess
  table-excess k = rw k

  pub method-excess : kind ≡ Method → leb max_methods methods ≡ excess kind tables methods edges
  unfolding excess
  method-excess k = rw k

  pub edge-excess : kind ≡ Edge → leb max_edge_lines edges ≡ excess kind tables methods edges
  unfolding excess
  edge-excess k = rw k

  pub crew-excess : kind ≡ Crew → false ≡ excess kind tables methods edges
  unfolding excess
  crew-excess k = rw k

-- ---- the first that applies of 21, 22, 23 and 25
pub line-unknown : (l : Option Form) (latest tables methods edges : ℕ) (line : List ℕ) → l ≡ None → 21 ≡ line_number_as l latest tables methods edges line
unfolding line_number_as
line-unknown l latest tables methods edges line e = rw e

module _ (f : Form) (latest tables methods edges : ℕ) (line : List ℕ) where
  abbrev told : ℕ
  told = line_number_as (Some f) latest tables methods edges line

  pub wrong-count : (length (fields line) ≡ f.numbers + 1 → ⊥) → 21 ≡ told
  unfolding line_number_as
  wrong-count n = rw (ne_eqb (length (fields line)) (suc f.numbers) (λ e. n (e ∙ sym (add-one f.numbers))))

  module _ (c : length (fields line) ≡ f.numbers + 1) where
    counted-suc : length (fields line) ≡ suc f.numbers
    counted-suc = c ∙ add-one f.numbers

    pub bad-number : all_numbers (number_fields line) ≡ false → 22 ≡ told
    unfolding line_number_as
    bad-number a = rw (eq-eqb (length (fields line)) (suc f.numbers) counted-suc, a)

    module _ (a : all_numbers (number_fields line) ≡ true) where
      pub out-of-place : misplaced f.kind latest tables (get_or (values line) 0 0) ≡ true → 23 ≡ told
      unfolding line_number_as
      out-of-place m = rw (eq-eqb (length (fields line)) (suc f.numbers) counted-suc, a, m)

      module _ (m : misplaced f.kind latest tables (get_or (values line) 0 0) ≡ false) where
        pub one_more : excess f.kind tables methods edges ≡ true → 25 ≡ told
        unfolding line_number_as
        one_more x = rw (eq-eqb (length (fields line)) (suc f.numbers) counted-suc, a, m, x)

        pub good-line : excess f.kind tables methods edges ≡ false → 0 ≡ told
        unfolding line_number_as
        good-line x = rw (eq-eqb (length (fields line)) (suc f.numbers) counted-suc, a, m, x)

  -- a good line is none too many
  pub good-within : told ≡ 0 → excess f.kind tables methods edges ≡ false
  unfolding line_number_as
  good-within e = go (not (eqb (length (fields line)) (suc f.numbers))) (not (all_numbers (number_fields line))) (misplaced f.kind latest tables (get_or (values line) 0 0)) (excess f.kind tables methods edges) e
    where
      go : (a b c d : Bool) → ◌≡◌ {A = ℕ} (cond a 21 (cond b 22 (cond c 23 (cond d 25 0)))) 0 → d ≡ false
      go true b c d e = absurd (omega arith)
      go false true c d e = absurd (omega arith)
      go false false true d e = absurd (omega arith)
      go false false false true e = absurd (omega arith)
      go false false false false e = refl

-- ---- a refused line, by its reason
refused : (l : Option Form) (p : Progress) (line : List ℕ) (r : Result Record Reason) (reason : Reason) (n : ℕ) → r ≡ Err reason → refusal_of reason ≡ n → n ≡ number_as l p line → JudgedAs l p line r
refused l p line r reason n e m t = rw e (m ∙ t, tt)

-- ---- a line with a known letter
module _ (f : Form) (p : Progress) (line : List ℕ) (count : ℕ) (c : count ≡ length (fields line)) where
  pub judged-count : (r : Result Record Reason) → (count ≡ f.numbers + 1 → ⊥) → r ≡ Err LineFields → JudgedAs (Some f) p line r
  judged-count r n e = refused (Some f) p line r LineFields 21 e refl (wrong-count f p.latest p.tables p.methods p.edges line (λ h. n (c ∙ h)))

  -- the count that `read_values` asks for
  pub enough : count ≡ f.numbers + 1 → length (fields line) ≡ suc f.numbers
  enough h = omega arith

  module _ (h : count ≡ f.numbers + 1) where
    counted : length (fields line) ≡ f.numbers + 1
    counted = sym c ∙ h

    pub judged-bad : (r : Result Record Reason) → all_numbers (number_fields line) ≡ false → r ≡ Err LineNumber → JudgedAs (Some f) p line r
    judged-bad r n e = refused (Some f) p line r LineNumber 22 e refl (bad-number f p.latest p.tables p.methods p.edges line counted n)

    module _ (cells : List ℕ) (numeric : all_numbers (number_fields line) ≡ true) (same : (k : ℕ) → get_or cells k 0 ≡ get_or (values line) k 0) (m : Bool) (o : m ≡ misplaced f.kind p.latest p.tables (get_or cells 0 0)) where
      placed : m ≡ misplaced f.kind p.latest p.tables (get_or (values line) 0 0)
      placed = o ∙ ap (misplaced f.kind p.latest p.tables) (same 0)

      pub judged-misplaced : (r : Result Record Reason) → m ≡ true → r ≡ Err LineOrder → JudgedAs (Some f) p line r
      judged-misplaced r t e = refused (Some f) p line r LineOrder 23 e refl (out-of-place f p.latest p.tables p.methods p.edges line counted numeric (sym placed ∙ t))

      module _ (t : m ≡ false) (x : Bool) (q : x ≡ excess f.kind p.tables p.methods p.edges) where
        pub judged-excess : (r : Result Record Reason) → x ≡ true → r ≡ Err LineExcess → JudgedAs (Some f) p line r
        judged-excess r u e = refused (Some f) p line r LineExcess 25 e refl (one_more f p.latest p.tables p.methods p.edges line counted numeric (sym placed ∙ t) (sym q ∙ u))

        pub judged-good : x ≡ false → JudgedAs (Some f) p line (Ok (record { kind = f.kind; cells = cells }))
        judged-good u = (good-line f p.latest p.tables p.methods p.edges line counted numeric (sym placed ∙ t) (sym q ∙ u), record { numbers = f.numbers; form = refl; cells_are = same })

-- ---- any line
module _ (p : Progress) (line first : List ℕ) (l : Option Form) (r : Result Record Reason) (e : first ≡ field line 0) (q : l ≡ form_of first) where
  letter : line_form line ≡ l
  letter = sym (q ∙ ap form_of e)

  pub judged-unknown : l ≡ None → r ≡ Err LineFields → Judged p line r
  judged-unknown u b = refused (line_form line) p line r LineFields 21 b refl (line-unknown (line_form line) p.latest p.tables p.methods p.edges line (letter ∙ u))

  pub judged-known : (f : Form) → l ≡ Some f → JudgedAs (Some f) p line r → Judged p line r
  judged-known f k j = rw (letter ∙ k) j

-- a good line is none too many
pub good-fits : {line cells : List ℕ} {kind : Kind} (p : Progress) (number : ℕ) → number ≡ number_as (line_form line) p line → number ≡ 0 → Recorded (line_form line) line (record { kind = kind; cells = cells }) → excess kind p.tables p.methods p.edges ≡ false
good-fits p number e z r = kinds.good-fits p (sym z ∙ e) r

-- ---- numbers read into cells
module _ {line cells : List ℕ} {k : ℕ} (t : Taken line k cells) (count : ℕ) (h : length (fields line) ≡ suc count) where
  pub taken-bad : (r : Option ℕ) → k < count → r ≡ number_of (field line (k + 1)) → r ≡ None → false ≡ all_numbers (number_fields line)
  taken-bad r l e b = sym (read.taken-bad t count h r l e b)

  pub taken-all : count ≤ k → true ≡ all_numbers (number_fields line)
  taken-all l = sym (read.taken-all t count h l)

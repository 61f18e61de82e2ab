-- The numbers of a line read into cells one by one.
use Rattle.std.specs.Prelude.{◌≡◌, refl, ◌⊎◌, true, false, ◌&&◌, ℕ, zero, suc, ◌≤◌, ◌<◌, ◌+◌, length, drop, get_or, set, replicate}
use Rattle.std.proofs.Math.Path.{sym}
use Rattle.std.proofs.Common.{◌∙◌, ap, inl, inr, add-one, arith, length-drop, length-set, drop_of_length-le, drop-cons, get_or-drop, get_or-set_same, get_or-set_other}
use mathlib.Core.List.{List, [], ◌∷◌, map}
use Rattle.std.proofs.Math.Decide.{dec_lt, ℕ_discrete}
use Rattle.std.proofs.Math.ListN.{get_or-map, get_or-eq_default}
use Rattle.rules.specs.Lines.{fields, field, value_from, value_of, is_number, number_of}
use Rattle.rules.specs.Reading.{all_numbers, number_fields, values}
use Rattle.rules.specs.laws.Bools.{true-or-false}
use Rattle.std.specs.Prelude.{None, Option, Some}

-- ---- a field as a number
module _ (s : List ℕ) (r : Option ℕ) (e : r ≡ number_of s) where
  pub bad-field : r ≡ None → is_number s ≡ false
  bad-field b = go (true-or-false (is_number s))
    where
      go : (is_number s ≡ true) ⊎ (is_number s ≡ false) → is_number s ≡ false
      go (inl t) = let f : None ≡ Some (value_of s) = sym b ∙ e ∙ rw t in let z : ◌≡◌ {A = ℕ} 0 1 = cc in absurd (omega arith)
      go (inr f) = f

  pub good-field : (v : ℕ) → r ≡ Some v → (is_number s ≡ true) × (v ≡ value_of s)
  good-field v b = go (true-or-false (is_number s))
    where
      go : (is_number s ≡ true) ⊎ (is_number s ≡ false) → (is_number s ≡ true) × (v ≡ value_of s)
      go (inl t) = let f : Some v ≡ Some (value_of s) = sym b ∙ e ∙ rw t in (t, cc)
      go (inr n) = let f : Some v ≡ None = sym b ∙ e ∙ rw n in let z : ◌≡◌ {A = ℕ} 0 1 = cc in absurd (omega arith)

-- ---- the numbers of a line
number_at : (line : List ℕ) (k : ℕ) → get_or (number_fields line) k [] ≡ field line (k + 1)
number_at line k = let e : 1 + k ≡ k + 1 = omega arith in get_or-drop 1 (fields line) k [] ∙ ap (field line) e

value-at : (line : List ℕ) (k : ℕ) → get_or (values line) k 0 ≡ value_of (field line (k + 1))
unfolding value_from
value-at line k = get_or-map value_of (number_fields line) k [] ∙ ap value_of (number_at line k)

length-map : (l : List (List ℕ)) → length (map value_of l) ≡ length l
length-map [] = refl
length-map (x ∷ l) = ap suc (length-map l)

how-many : (line : List ℕ) (count : ℕ) → length (fields line) ≡ suc count → length (number_fields line) ≡ count
how-many line count h = omega (arith, length-drop 1 (fields line))

-- k numbers are good, and stand in the cells
pub record Taken (line : List ℕ) (k : ℕ) (cells : List ℕ) : Type 0 where
  pub room : length cells ≡ 4
  pub numeric : all_numbers (number_fields line) ≡ all_numbers (drop k (number_fields line))
  pub are : (j : ℕ) → j < k → get_or cells j 0 ≡ get_or (values line) j 0
  pub blank : (j : ℕ) → k ≤ j → get_or cells j 0 ≡ 0

zeros : (n j : ℕ) → ◌≡◌ {A = ℕ} (get_or (replicate n 0) j 0) 0
zeros zero j = refl
zeros (suc n) zero = refl
zeros (suc n) (suc j) = zeros n j

pub taken-0 : (line : List ℕ) → Taken line 0 (replicate 4 0)
taken-0 line = record { room = refl; numeric = refl; are = λ j l. absurd (omega arith); blank = λ j l. zeros 4 j }

module _ {line cells : List ℕ} {k : ℕ} (t : Taken line k cells) (count : ℕ) (h : length (fields line) ≡ suc count) where
  opened : k < count → all_numbers (drop k (number_fields line)) ≡ (is_number (field line (k + 1)) && all_numbers (drop (k + 1) (number_fields line)))
  unfolding all_numbers
  opened l = rw (drop-cons (number_fields line) k [] (rw (how-many line count h) l), number_at line k, add-one)

  pub taken-bad : (r : Option ℕ) → k < count → r ≡ number_of (field line (k + 1)) → r ≡ None → all_numbers (number_fields line) ≡ false
  taken-bad r l e b = t.numeric ∙ opened l ∙ rw (bad-field (field line (k + 1)) r e b)

  pub taken_next : (r : Option ℕ) (v : ℕ) → count ≤ 4 → k < count → r ≡ number_of (field line (k + 1)) → r ≡ Some v → Taken line (k + 1) (set cells k v)
  taken_next r v c l e b =
      let g = good-field (field line (k + 1)) r e v b in
      record {
        room = length-set cells k v ∙ t.room;
        numeric = t.numeric ∙ opened l ∙ rw g.0;
        are = λ j m. are-next j m g.1 (ℕ_discrete j k);
        blank = λ j m. get_or-set_other cells k j v 0 (λ q. omega arith) ∙ t.blank j (omega arith);
      }
    where
      are-next : (j : ℕ) → j < k + 1 → v ≡ value_of (field line (k + 1)) → Dec (j ≡ k) → get_or (set cells k v) j 0 ≡ get_or (values line) j 0
      are-next j m w (yes q) = rw q (get_or-set_same cells k v 0 (omega (arith, t.room)) ∙ w ∙ sym (value-at line k))
      are-next j m w (no q) = get_or-set_other cells k j v 0 q ∙ t.are j (omega arith)

  module _ (l : count ≤ k) where
    pub taken-all : all_numbers (number_fields line) ≡ true
    unfolding all_numbers
    taken-all = t.numeric ∙ rw (drop_of_length-le (number_fields line) {i = k} (omega (arith, how-many line count h)))

    pub taken-values : k ≤ count → (j : ℕ) → get_or cells j 0 ≡ get_or (values line) j 0
    taken-values m j = go (dec_lt j k)
      where
        go : Dec (j < k) → get_or cells j 0 ≡ get_or (values line) j 0
        go (yes a) = t.are j a
        go (no a) = t.blank j (omega arith) ∙ sym (get_or-eq_default (values line) 0 {n = j} (omega (arith, length-map (number_fields line), how-many line count h)))

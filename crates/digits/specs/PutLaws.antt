-- Bytes put one run after another: what is put, and the room that is left.
use Rattle.std.specs.Prelude.{◌≡◌, refl, List, [], ◌∷◌, ◌++◌, ℕ, suc, ◌+◌, ◌≤◌, length}
use Rattle.std.proofs.Common.{sym, ap, ◌∙◌, add-zero, add-suc, suc-add, arith, length-append}
use Rattle.std.proofs.lemmas.List.Edits.{sets}
use Rattle.std.proofs.Math.Seq.{length-sets}
use Rattle.digits.specs.declared.Line.{Line}
use Rattle.digits.specs.Put.{Put}

-- ---- what is put
pub put-none : (a : Line) → Put a a []
put-none a = record { end = omega arith; written = refl; same = refl }

sets-append : (xs ys l : List ℕ) (i : ℕ) → sets (sets l i xs) (i + length xs) ys ≡ sets l i (xs ++ ys)
sets-append [] ys l i = ap (λ (k : ℕ). sets l k ys) (add-zero i)
sets-append (x ∷ xs) ys l i =
    ap (λ (k : ℕ). sets (sets l i (x ∷ xs)) k ys) (add-suc i (length xs) ∙ sym (suc-add i (length xs))) ∙ sets-append xs ys _ (suc i)

pub put_then : {a b c : Line} {xs ys : List ℕ} → Put a b xs → Put b c ys → Put a c (xs ++ ys)
put_then {a} {b} {c} {xs} {ys} p s = record {
  end = omega (arith, length-append xs ys, p.end, s.end);
  written = s.written ∙ rw (p.written, p.end) (sets-append xs ys a.out.now a.at);
  same = s.same ∙ p.same;
}

-- the same bytes under another name
pub put_as : {a b : Line} {xs ys : List ℕ} → xs ≡ ys → Put a b xs → Put a b ys
put_as e p = rw e at p

-- ---- room
pub put-length : {a b : Line} {xs : List ℕ} → Put a b xs → length b.out.now ≡ length a.out.now
put-length {a} {b} {xs} p = ap length p.written ∙ length-sets a.out.now a.at xs

-- room for some bytes
pub record Room (a : Line) (bytes : List ℕ) : Type 0 where
  pub left : a.at + length bytes ≤ length a.out.now

-- room under another name
pub room_of : (a : Line) {xs ys : List ℕ} → xs ≡ ys → a.at + length ys ≤ length a.out.now → Room a xs
room_of a e l = record { left = rw e l }

-- room for two runs is room for the first
pub room-first : {a : Line} (xs ys : List ℕ) → Room a (xs ++ ys) → a.at + length xs ≤ length a.out.now
room-first xs ys l = omega (arith, length-append xs ys, l.left)

-- and, once the first is put, for the second
pub room-then : {a b : Line} {xs : List ℕ} (ys : List ℕ) → Put a b xs → Room a (xs ++ ys) → Room b ys
room-then {a} {b} {xs} ys p l = record { left = omega (arith, length-append xs ys, put-length p, p.end, l.left) }

-- The first byte of a kind, and the part of a slice from a place on.
use Rattle.std.specs.Prelude.{◌≡◌, refl, cond, not, List, ℕ, suc, ◌+◌, ◌≤◌, ◌<◌, ◌-◌, eqb, ltb, length, take, drop, Option, Some, None}
use Rattle.std.specs.List.{position, position_or_len}
use Rattle.std.specs.Option.{unwrap_or}
use Rattle.std.proofs.Common.{ap, arith, length-drop, take_all, lt-ltb, le-ltb}
use Rattle.std.proofs.Math.Decide.{dec_lt}
use Rattle.std.proofs.lemmas.List.Sums.{prefix_len-le-length}
use Rattle.std.proofs.lemmas.List.Recursion.{is_position_or_len}
use Rattle.fields.specs.Spans.{span}

-- it stands where `position` finds it
pub span-place : (by : ℕ) (s : List ℕ) → span by s ≡ position_or_len (λ b. eqb b by) s
unfolding span
span-place by s = is_position_or_len (span by) (λ b. eqb b by) refl (λ x xs. let e : suc (span by xs) ≡ 1 + span by xs = omega arith in ap (cond (eqb x by) 0) e) s

pub span-found : (by : ℕ) (s : List ℕ) (r : Option ℕ) → r ≡ position (λ b. eqb b by) s → (unwrap_or r (length s) ≡ span by s) × (unwrap_or r (length s) ≤ length s)
span-found by s r e = rw (e, span-place by s) (go (position_or_len (λ b. eqb b by) s) (prefix_len-le-length (λ b. not (eqb b by)) s) (dec_lt (position_or_len (λ b. eqb b by) s) (length s)))
  where
    go : (at : ℕ) → at ≤ length s → Dec (at < length s) → (unwrap_or (cond (ltb at (length s)) (Some at) None) (length s) ≡ at) × (unwrap_or (cond (ltb at (length s)) (Some at) None) (length s) ≤ length s)
    go at m (yes l) = rw (lt-ltb at (length s) l) (refl, m)
    go at m (no n) = rw (le-ltb at (length s) (omega arith)) (omega arith, omega arith)

-- the part `&s[a..]`, as the borrow checker writes it
pub rest-is : (s : List ℕ) (a : ℕ) → take (length s - a) (drop a s) ≡ drop a s
rest-is s a = take_all (length s - a) (drop a s) (rw length-drop (omega arith))

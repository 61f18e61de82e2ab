-- A list copied to the start of another, cell by cell.
use Rattle.std.specs.Prelude.{◌≡◌, refl, List, ℕ, suc, ◌+◌, ◌≤◌, ◌<◌, length, get_or, set}
use Rattle.std.proofs.Common.{sym, ap, ◌∙◌, zero-add, arith}
use Rattle.std.proofs.Math.Seq.{paste, paste-zero, paste-suc, take-length}
use Rattle.rules.specs.Lists.{over}

-- the first n cells are copied
abbrev pub copied : List ℕ → ℕ → List ℕ → List ℕ
copied from n to = paste to 0 from n

pub copied_none : (from to : List ℕ) → to ≡ copied from 0 to
copied_none from to = paste-zero to 0 from

pub copied_more : (from to : List ℕ) (n : ℕ) {now : List ℕ} → n < length from → length from ≤ length to → now ≡ copied from n to → set now n (get_or from n 0) ≡ copied from (n + 1) to
copied_more from to n {now} h l e =
    let z : 0 + n ≡ n = zero-add n in
    let s : set (copied from n to) (0 + n) (get_or from n 0) ≡ copied from (suc n) to = paste-suc to 0 from n 0 (omega arith) h in
    let m : suc n ≡ n + 1 = omega arith in
    ap (λ (x : List ℕ). set x n (get_or from n 0)) e ∙ ap (λ (k : ℕ). set (copied from n to) k (get_or from n 0)) (sym z) ∙ s ∙ ap (λ (k : ℕ). copied from k to) m

pub copied_all : (from to : List ℕ) → copied from (length from) to ≡ over from to
copied_all from to = rw (take-length from, zero-add (length from)) refl

-- Parts between bytes of a kind are what `split` gives: the first ends at the first such byte, and the others stand after it.
use Rattle.std.specs.Prelude.{◌≡◌, refl, List, [], ◌∷◌, ℕ, suc, ◌<◌, ◌+◌, eqb, take, drop, length, get_or, Option, Some, None, slice_get}
use Rattle.std.specs.List.{slice_split, onto_first, count_by}
use Rattle.std.specs.Option.{unwrap_or, option_map}
use denote.Ref.{Bor}
use Rattle.std.proofs.Common.{sym, ◌∙◌, ap, add-one, arith}
use Rattle.std.proofs.lemmas.List.Splits.{length-slice_split, slice_split_first}
use Rattle.std.proofs.lemmas.Option.{unwrap_or-slice_get}
use Rattle.rules.specs.Lines.{tab, onto, cut_at, fields, field}
use Rattle.fields.specs.Spans.{span}
use Rattle.fields.specs.SpanLaws.{span-place}

onto-first : (b : ℕ) (ps : List (List ℕ)) → onto b ps ≡ onto_first b ps
onto-first b [] = refl
onto-first b (p ∷ ps) = refl

pub cut-split : (by : ℕ) (s : List ℕ) → cut_at by s ≡ slice_split (λ b. eqb b by) s
unfolding cut_at
cut-split by [] = refl
cut-split by (b ∷ bs) = rw (cut-split by bs, onto-first b (slice_split (λ b. eqb b by) bs)) refl

-- a byte of the kind stands in s
pub cut-next : (by : ℕ) (s : List ℕ) → span by s < length s → cut_at by s ≡ take (span by s) s ∷ cut_at by (drop (suc (span by s)) s)
cut-next by s l =
    let e = span-place by s in
    cut-split by s ∙ slice_split_first (λ b. eqb b by) s 0 (rw (← e) l) ∙ rw (← e, add-one, cut-split by (drop (suc (span by s)) s)) refl

-- there is always a first part
pub cut-some : (by : ℕ) (s : List ℕ) → 0 < length (cut_at by s)
cut-some by s = rw (cut-split by s, length-slice_split) (omega arith)

-- ---- fields
-- the k-th part, or the end of the line past the last
pub field-found : (s : List ℕ) (k : ℕ) (r : Option (Bor (List ℕ))) (end : Bor (List ℕ)) → option_map (λ x. x.now) r ≡ slice_get (slice_split (λ b. eqb b tab) s) k → end.now ≡ [] → (unwrap_or r end).now ≡ field s k
field-found s k r end e z = go r e ∙ unwrap_or-slice_get (slice_split (λ b. eqb b tab) s) k [] ∙ ap (λ (ps : List (List ℕ)). get_or ps k []) (sym (cut-split tab s))
  where
    go : (r : Option (Bor (List ℕ))) → option_map (λ x. x.now) r ≡ slice_get (slice_split (λ b. eqb b tab) s) k → (unwrap_or r end).now ≡ unwrap_or (slice_get (slice_split (λ b. eqb b tab) s) k) []
    go None e = z ∙ ap (λ o. unwrap_or o []) e
    go (Some x) e = ap (λ o. unwrap_or o []) e

pub fields-counted : (s : List ℕ) → count_by (λ b. eqb b tab) s + 1 ≡ length (fields s)
fields-counted s = sym (ap length (cut-split tab s) ∙ length-slice_split (λ b. eqb b tab) s)

-- Where a number stands in a list.
use Rattle.std.specs.Prelude.{◌≡◌, refl, ◌⊎◌, true, false, cond, List, [], ◌∷◌, ℕ, zero, suc, ◌<◌, eqb, length, get_or}
use Rattle.std.proofs.Common.{sym, ap, ◌∙◌, inl, inr, arith, eqb-true, eq-eqb}
use Rattle.rules.specs.laws.Bools.{true-or-false}
use Rattle.rules.specs.laws.Lists.{Once}
use Rattle.pairs.specs.UniqueLaws.{once-at}

-- its first place, or the list's length
unfoldable pub index_of : List ℕ → ℕ → ℕ
index_of [] S = 0
index_of (x ∷ l) S = cond (eqb x S) 0 (suc (index_of l S))

-- it stands there, or nowhere
pub index-cases : (l : List ℕ) (S : ℕ) → ((index_of l S < length l) × (get_or l (index_of l S) 0 ≡ S)) ⊎ (index_of l S ≡ length l)
unfolding index_of
index-cases [] S = inr refl
index-cases (x ∷ l) S = go (index-cases l S) (true-or-false (eqb x S))
  where
    go : ((index_of l S < length l) × (get_or l (index_of l S) 0 ≡ S)) ⊎ (index_of l S ≡ length l) → (eqb x S ≡ true) ⊎ (eqb x S ≡ false)
        → ((index_of (x ∷ l) S < length (x ∷ l)) × (get_or (x ∷ l) (index_of (x ∷ l) S) 0 ≡ S)) ⊎ (index_of (x ∷ l) S ≡ length (x ∷ l))
    go ih (inl e) = inl (rw e (omega arith, eqb-true x S e))
    go (inl h) (inr e) = inl (rw e (omega (arith, h.0), h.1))
    go (inr h) (inr e) = inr (rw e (ap suc h))

-- the place of what stands at r, where each stands once
pub index_at : (l : List ℕ) → Once l → (r S : ℕ) → r < length l → get_or l r 0 ≡ S → index_of l S ≡ r
unfolding index_of
index_at l o r S u e = go (index-cases l S)
  where
    go : ((index_of l S < length l) × (get_or l (index_of l S) 0 ≡ S)) ⊎ (index_of l S ≡ length l) → index_of l S ≡ r
    go (inl h) = once-at l o (index_of l S) r h.0 u (h.1 ∙ sym e)
    go (inr h) = absurd (none l r S u e h)
      where
        none : (l : List ℕ) (r S : ℕ) → r < length l → get_or l r 0 ≡ S → index_of l S ≡ length l → ⊥
        none [] r S u e h = omega arith
        none (x ∷ l) zero S u e h = let z : 0 ≡ suc (length l) = rw (eq-eqb x S e) at h in omega arith
        none (x ∷ l) (suc r) S u e h = more (true-or-false (eqb x S)) (none l r S (omega arith) e)
          where
            more : (eqb x S ≡ true) ⊎ (eqb x S ≡ false) → (index_of l S ≡ length l → ⊥) → ⊥
            more (inl f) ih = let z : 0 ≡ suc (length l) = rw f at h in omega arith
            more (inr f) ih = let z : suc (index_of l S) ≡ suc (length l) = rw f at h in ih (omega arith)

-- Laws that no proof cites any more, since the check finds their goals: they hold as before.
use Rattle.std.specs.Prelude.{◌≡◌, refl, Bool, true, false, not, ◌&&◌, List, [], ◌∷◌, ℕ, eqb}
use Rattle.std.proofs.Common.{sym, ◌∙◌, eq-eqb, ne_eqb}
use Rattle.std.proofs.lemmas.Bool.{not-true, not-false}
use Rattle.rules.specs.Query.{Query}
use Rattle.rules.specs.Refusals.{all_are, all_same, groups}
use Rattle.refusals.specs.Checks.{query_groups}
use Rattle.refusals.specs.CheckLaws as checks

-- ---- lengths, one after the other
module _ (n k : ℕ) (ks : List ℕ) where
  pub are-not : (k ≡ n → ⊥) → false ≡ all_are n (k ∷ ks)
  unfolding all_are
  are-not h = rw (ne_eqb k n h)

  pub are-on : k ≡ n → all_are n ks ≡ all_are n (k ∷ ks)
  unfolding all_are
  are-on h = rw (eq-eqb k n h)

and-end : (b : Bool) → b ≡ (b && true)
and-end true = refl
and-end false = refl

pub are-last : (n k : ℕ) → eqb k n ≡ all_are n (k ∷ [])
unfolding all_are
are-last n k = and-end (eqb k n)

-- ---- a group, where the code has asked whether it fits
module _ (n : ℕ) (ks : List ℕ) (gs : List (List ℕ)) (fit : Bool) (is-fit : fit ≡ all_are n ks) where
  pub same_not : not fit ≡ true → false ≡ all_same ((n ∷ ks) ∷ gs)
  unfolding all_same
  same_not h = rw (← is-fit, not-true fit h)

  pub same-on : not fit ≡ false → all_same gs ≡ all_same ((n ∷ ks) ∷ gs)
  unfolding all_same
  same-on h = rw (← is-fit, not-false fit h)

pub same-last : (n : ℕ) (ks : List ℕ) (fit : Bool) → fit ≡ all_are n ks → fit ≡ all_same ((n ∷ ks) ∷ [])
unfolding all_same
same-last n ks fit e = e ∙ and-end (all_are n ks)

module _ (q : Query) (memo log : List ℕ) (fit : Bool) (is-fit : fit ≡ all_same (query_groups q)) where
  pub parts-not : not fit ≡ true → false ≡ all_same (groups q memo log)
  parts-not h = sym (not-true fit h) ∙ checks.parts-not q memo log fit is-fit (not-true fit h)

  pub parts-on : not fit ≡ false → (lent : Bool) → lent ≡ all_same (memo ∷ log ∷ []) → lent ≡ all_same (groups q memo log)
  parts-on h lent e = checks.parts-on q memo log fit is-fit (not-false fit h) lent e

-- ---- a group of two
module _ (n k : ℕ) (gs : List (List ℕ)) where
  pub first-not : (k ≡ n → ⊥) → false ≡ all_same ((n ∷ k ∷ []) ∷ gs)
  unfolding all_same all_are
  first-not h = rw (ne_eqb k n h)

  pub first_on : k ≡ n → all_same gs ≡ all_same ((n ∷ k ∷ []) ∷ gs)
  unfolding all_same all_are
  first_on h = rw (eq-eqb k n h)

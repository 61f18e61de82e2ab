-- A set has one row, a candidate one place, and from a number on a worker one next place.
use Rattle.std.specs.Prelude.{◌≡◌, refl, List, [], ◌∷◌, ℕ, zero, suc, ◌+◌, ◌≤◌, ◌<◌, length, get_or, Option, Some, None}
use Rattle.std.proofs.Common.{sym, ap, ◌∙◌, le_antisymm, arith}
use Rattle.rules.specs.Query.{Graph}
use Rattle.rules.specs.declared.Group.{Group}
use Rattle.rules.specs.Schedule.{inner_at}
use Rattle.rules.specs.Rows.{memo}
use Rattle.rules.specs.laws.Bools.{not-both}
use Rattle.rules.specs.laws.Lists.{Once, at_in}
use Rattle.rules.proofs.laws.Rows.{memo-once}
use Rattle.shares.specs.declared.places.Place.{Place}
use Rattle.shares.specs.declared.places.Spot.{Spot}
use Rattle.shares.specs.declared.Share.{Share}
use Rattle.pairs.specs.Places.{start_of, candidate_at, met_numbered, own_at, At, NextFrom}
use Rattle.pairs.specs.PlaceLaws.{start-mono, first-from, memo-inside}
use Rattle.pairs.specs.GroundLaws.{at-number}

-- ---- rows
-- a list that holds each number once has it in one cell
pub once-at : (l : List ℕ) → Once l → (i j : ℕ) → i < length l → j < length l → get_or l i 0 ≡ get_or l j 0 → i ≡ j
unfolding Once
once-at [] o i j a b e = absurd (omega arith)
once-at (x ∷ l) o zero zero a b e = refl
once-at (x ∷ l) o zero (suc j) a b e = absurd (o.0 (rw e (at_in 0 l j (omega arith))))
once-at (x ∷ l) o (suc i) zero a b e = absurd (o.0 (rw (sym e) (at_in 0 l i (omega arith))))
once-at (x ∷ l) o (suc i) (suc j) a b e = ap suc (once-at l o.1 i j (omega arith) (omega arith) e)

-- a row has one size
size-one : (g : Graph) {j k r : ℕ} → start_of g j ≤ r → r < start_of g (j + 1) → start_of g k ≤ r → r < start_of g (k + 1) → j ≡ k
size-one g {j} {k} a b c d =
    let m : j < k → ⊥ = λ l. omega (arith, start-mono g (j + 1) k (omega arith)) in
    let n : k < j → ⊥ = λ l. omega (arith, start-mono g (k + 1) j (omega arith)) in
    omega arith

-- a set has one row
pub row_one : (g : Graph) (j k : ℕ) {r r' : ℕ} → start_of g j ≤ r → r < start_of g (j + 1) → start_of g k ≤ r' → r' < start_of g (k + 1) → get_or (memo g) r 0 ≡ get_or (memo g) r' 0 → r ≡ r'
row_one g j k {r} {r'} a b c d = once-at (memo g) (memo-once g) r r' (inside j r a b) (inside k r' c d)
  where
    inside : (k p : ℕ) → start_of g k ≤ p → p < start_of g (k + 1) → p < length (memo g)
    inside zero p a b = absurd (omega arith)
    inside (suc k) p a b = memo-inside g (suc k) p (omega arith) a b

-- ---- places
-- a candidate has one place
pub at-unique : {g : Graph} {group : Group} {x x' : ℕ} {p p' : Spot} → At g group x p → At g group x' p' → x ≡ x' → p ≡ p'
at-unique {g} {group} {x} {x'} {p} {p'} a a' f = λ t. record { size = size t; row = row t; inner = inner t }
  where
    same : candidate_at g group p.size p.row p.inner ≡ candidate_at g group p'.size p'.row p'.inner
    same = sym (at-number g group x p a).1 ∙ ap (met_numbered g group) f ∙ (at-number g group x' p' a').1

    row : p.row ≡ p'.row
    row = row_one g p.size p'.size a.row_from a.row-to a'.row_from a'.row-to (λ t. (same t).candidate.driving)

    size : p.size ≡ p'.size
    size = size-one g a.row_from a.row-to (rw row a'.row_from) (rw row a'.row-to)

    inner-from : (x : ℕ) (p : Spot) → At g group x p → start_of g (inner_at group p.size) ≤ p.inner
    inner-from x p a = omega (arith, a.inner-from, first-from g group p.size a.from_one a.to_last p.row a.row_from)

    inner : p.inner ≡ p'.inner
    inner = row_one g (inner_at group p.size) (inner_at group p'.size) (inner-from x p a) a.inner-to (inner-from x' p' a') a'.inner-to (λ t. (same t).candidate.inner)

module _ {g : Graph} {group : Group} {h : Share} {x : ℕ} {p p' : Place} (n : NextFrom g group h x p) (n' : NextFrom g group h x p') where
  module _ (s : Spot) (e : p.pair ≡ Some s) where
    -- where one is at a pair, the other is not after it
    not_after : p'.number ≤ p.number
    not_after =
        let m : p.number < p'.number → ⊥ = λ l. not-both (own_at g group h p.number) (n.waits.there s e).1 (n'.clear p.number n.ahead l) in
        omega arith

    -- so it is at a pair too
    not-ended : p'.pair ≡ None → ⊥
    not-ended f = omega (arith, not_after, (at-number g group p.number s (n.waits.there s e).0).0, ap (λ (y : Place). y.number) (n'.waits.none f))

-- a worker has one next place
pub next-unique : {g : Graph} {group : Group} {h : Share} {x : ℕ} {p p' : Place} → NextFrom g group h x p → NextFrom g group h x p' → p ≡ p'
next-unique {p = p} {p' = p'} n n' = go p.pair p'.pair refl refl
  where
    go : (a b : Option Spot) → p.pair ≡ a → p'.pair ≡ b → p ≡ p'
    go (Some s) (Some s') e f =
        let k : p.number ≡ p'.number = le_antisymm (not_after n' n s' f) (not_after n n' s e) in
        let q : s ≡ s' = at-unique (n.waits.there s e).0 (n'.waits.there s' f).0 k in
        let r : p.pair ≡ p'.pair = e ∙ ap Some q ∙ sym f in
        λ t. record { number = k t; pair = r t }
    go (Some s) None e f = absurd (not-ended n n' s e f)
    go None (Some s') e f = absurd (not-ended n' n s' f e)
    go None None e f = n.waits.none e ∙ sym (n'.waits.none f)

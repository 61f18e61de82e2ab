-- Any two answers that the contracts of places, turns, opening, lowest workers and prices allow are equal.
use Rattle.std.specs.Prelude.{◌≡◌, refl, List, Option, Some, None, ℕ, ◌+◌, ◌≤◌, ◌<◌, set, unwrap_or, IfSome}
use Rattle.std.proofs.Common.{sym, ap, ◌∙◌, ⊎_elim, le_antisymm, arith}
use Rattle.std.proofs.lemmas.Option.{same_Some}
use Rattle.rules.specs.declared.Group.{Group}
use Rattle.rules.specs.Query.{Graph}
use Rattle.rules.specs.laws.Bools.{true-or-false, not-both}
use Rattle.rules.specs.Offers as rules
use Rattle.rules.specs.laws.Choice.{Best, best-unique}
use Rattle.results.specs.declared.price.Choice.{Choice}
use Rattle.shares.specs.declared.places.Spot.{Spot}
use Rattle.shares.specs.Nowhere.{left}
use Rattle.rules.specs.Offers.{union}
use Rattle.crew.specs.declared.Worker.{Worker}
use Rattle.crew.specs.declared.Handed as code
use Rattle.rules.specs.laws.Choice.{kept}
use Rattle.results.specs.Prices.{choice_of}
use Rattle.turns.specs.Standing.{Columns, choice_in, stored, pair_at, handed_pair, Handing, StepTaken, TurnTaken}
use Rattle.crew.specs.Workers.{worker_at}
use Rattle.pairs.specs.UniqueLaws.{row_one, next-unique}
use Rattle.crew.specs.Whose.{LowestLeft, Lowest}

-- ---- turns
module _ {g : Graph} {fixed outer inner result : List ℕ} {group : Group} {old new new' : Columns} {pair pair' : Option code.Handed} where
  -- a pair is handed in one way
  handing-unique : {v v' v'' : Worker} → Handing g fixed outer inner result group v v' old new pair → Handing g fixed outer inner result group v v'' old new' pair' → (v' ≡ v'') × (new ≡ new') × (pair ≡ pair')
  handing-unique {v} h h' =
      let s = same_Some _ _ (sym h.at ∙ h'.at) in
      let r = row_one g _ _ h.row_from h.row-to h'.row_from h'.row-to (h.row-set ∙ ap (λ (p : Spot). union (pair_at g p)) s ∙ sym h'.row-set) in
      let o = best-unique h.best (rw s h'.best) in
      let p = next-unique h.next h'.next in (
        h.worker ∙ (λ t. record { share = v.share; place = p t; last = r t; handed = v.handed + 1 }) ∙ sym h'.worker,
        h.changed ∙ (λ t. stored old (r t) (kept (choice_in old (r t)) (o t))) ∙ sym h'.changed,
        h.answer ∙ (λ t. Some (handed_pair (pair_at g (s t)) (kept (choice_in old (r t)) (o t)).cost)) ∙ sym h'.answer,
      )

  -- a step has one outcome
  pub step-unique : {v v' v'' : Worker} → StepTaken g fixed outer inner result group v v' old new pair → StepTaken g fixed outer inner result group v v'' old new' pair' → (v' ≡ v'') × (new ≡ new') × (pair ≡ pair')
  step-unique {v} z z' =
      ⊎_elim (λ e. handing-unique (z.some e) (z'.some e))
      (λ e. let a = z.none e in let b = z'.none e in (a.0 ∙ sym b.0, a.1 ∙ sym b.1, a.2 ∙ sym b.2))
      (true-or-false (left v.place))

  -- a turn too
  pub turn-unique : {w : ℕ} {workers workers' workers'' : List Worker} → TurnTaken g fixed outer inner result group w workers workers' old new pair → TurnTaken g fixed outer inner result group w workers workers'' old new' pair'
      → (workers' ≡ workers'') × (new ≡ new') × (pair ≡ pair')
  turn-unique {w} {workers} z z' = let r = step-unique z.step z'.step in (z.others ∙ ap (set workers w) r.0 ∙ sym z'.others, r.1, r.2)

-- ---- workers
-- no lower worker has a pair left
lowest-le : {workers : List Worker} {m r r' : ℕ} → LowestLeft workers m r → LowestLeft workers m r' → r ≤ r'
lowest-le {workers} {r = r} {r' = r'} z z' =
    let n : r' < r → ⊥ = λ l. not-both (left (worker_at workers r').place) (z'.left (omega (arith, z.inside))) (z.lower r' l) in
    omega arith

-- one worker is the lowest with a pair left
pub lowest-unique : {workers : List Worker} {m r r' : ℕ} → LowestLeft workers m r → LowestLeft workers m r' → r ≡ r'
lowest-unique z z' = le_antisymm (lowest-le z z') (lowest-le z' z)

-- so what `lowest` answers is one: that worker, or that there is none
pub whose-unique : {workers : List Worker} {m : ℕ} {r r' : Option ℕ} → Lowest workers m r → Lowest workers m r' → r ≡ r'
whose-unique {m = m} {r = r} {r' = r'} z z' = go r r' z.inside z'.inside (lowest-unique z.is z'.is)
  where
    go : (r r' : Option ℕ) → IfSome r (λ w. w < m) → IfSome r' (λ w. w < m) → unwrap_or r m ≡ unwrap_or r' m → r ≡ r'
    go (Some w) (Some w') l l' e = ap Some e
    go (Some w) None l l' e = absurd (omega arith)
    go None (Some w') l l' e = absurd (omega arith)
    go None None l l' e = refl

-- ---- prices
-- one choice is the best, whatever is offered
pub price-unique : {P : rules.Choice → Type 0} {a b : Choice} → Best P (choice_of a) → Best P (choice_of b) → a ≡ b
price-unique x y = let e = best-unique x y in λ t. record { cost = (e t).cost; outer = (e t).outer; method = (e t).method }

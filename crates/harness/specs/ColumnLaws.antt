-- Room or no room, that the promise fixes the outcome, and the numbers of an answer one by one.
use Rattle.std.specs.Prelude.{◌≡◌, refl, List, [], ◌∷◌, ℕ, ◌≤◌, ◌<◌, length, get_or, Result}
use Rattle.std.proofs.Common.{sym, ap, ◌∙◌, arith}
use Rattle.std.proofs.Math.Decide.{dec_lt, ℕ_discrete}
use Rattle.rules.specs.Lists.{over}
use Rattle.rules.specs.Verdict.{Verdict}
use Rattle.rules.specs.declared.refusal.Refusal.{Refusal}
use Rattle.rules.specs.Refusals.{Memory, Input, first_of, checks}
use Rattle.rules.specs.Answers.{Outcome}
use Rattle.rules.proofs.laws.Answers.{planned-unique}
use Rattle.memo.specs.declared.layout.Laid.{Laid}
use Rattle.memo.specs.Layout.{Lent, lent_of, refusal_of, LaidOut}
use Rattle.memo.specs.LayoutLaws.{laid-unique}
use Rattle.harness.specs.Columns.{numbers, Shown, Untouched, Handed, Laying}

module _ {i : Input} {before after : List ℕ} {left : Memory} {r : ℕ} where
  pub handed-shown : 14 ≤ length before → Shown i before left after r → Handed i before left after r
  handed-shown h s = record { enough = λ _. s; short = λ l. absurd (omega (arith, h, l)) }

  pub handed-short : length before < 14 → Untouched i before left after r → Handed i before left after r
  handed-short h s = record { enough = λ l. absurd (omega (arith, h, l)); short = λ _. s }

-- any two outcomes that the promise allows are equal
pub handed-unique : {i : Input} {before after after' : List ℕ} {left left' : Memory} {r r' : ℕ} → Handed i before left after r → Handed i before left' after' r' → (r ≡ r') × (left ≡ left') × (after ≡ after')
handed-unique {i} {before} {after} {after'} {left} {left'} {r} {r'} p p' = go (dec_lt (length before) 14)
  where
    shown : Outcome → List ℕ
    shown o = over (numbers o.answer) before

    go : Dec (length before < 14) → (r ≡ r') × (left ≡ left') × (after ≡ after')
    go (yes l) = let u = p.short l in let u' = p'.short l in (u.result ∙ sym u'.result, u.lent ∙ sym u'.lent, u.answer ∙ sym u'.answer)
    go (no n) =
        let u = p.enough (omega arith) in
        let u' = p'.enough (omega arith) in
        let e = planned-unique u.planned u'.planned in
        (u.result ∙ sym u'.result, ap (λ (o : Outcome). o.left) e, u.shown ∙ ap shown e ∙ sym u'.shown)

-- eight numbers one by one
pub eight : (l : List ℕ) → length l ≡ 8 → get_or l 0 0 ∷ get_or l 1 0 ∷ get_or l 2 0 ∷ get_or l 3 0 ∷ get_or l 4 0 ∷ get_or l 5 0 ∷ get_or l 6 0 ∷ get_or l 7 0 ∷ [] ≡ l
eight (a ∷ b ∷ c ∷ d ∷ e ∷ f ∷ g ∷ h ∷ []) l = refl
eight (a ∷ b ∷ c ∷ d ∷ e ∷ f ∷ g ∷ h ∷ i ∷ r) l = absurd (omega arith)
eight [] l = absurd (omega arith)
eight (a ∷ []) l = absurd (omega arith)
eight (a ∷ b ∷ []) l = absurd (omega arith)
eight (a ∷ b ∷ c ∷ []) l = absurd (omega arith)
eight (a ∷ b ∷ c ∷ d ∷ []) l = absurd (omega arith)
eight (a ∷ b ∷ c ∷ d ∷ e ∷ []) l = absurd (omega arith)
eight (a ∷ b ∷ c ∷ d ∷ e ∷ f ∷ []) l = absurd (omega arith)
eight (a ∷ b ∷ c ∷ d ∷ e ∷ f ∷ g ∷ []) l = absurd (omega arith)

-- laying out: a check refuses, or it is done
module _ (i : Input) {v : Verdict} (e : v ≡ first_of (checks i)) where
  same : v.number ≡ (first_of (checks i)).number
  same = ap (λ (x : Verdict). x.number) e

  pub lay-refused : (v.number ≡ 0 → ⊥) → Laying i (lent_of i.lent) v.number
  lay-refused n = record { refused = λ _. (same, refl); laid = λ z. absurd (n (same ∙ z)) }

  pub lay-laid : {new : Lent} {l : Result Laid Refusal} → v.number ≡ 0 → LaidOut i.query.graph (lent_of i.lent) new l → Laying i new (refusal_of l)
  lay-laid {l = l} z d = record { refused = λ n. absurd (n (sym same ∙ z)); laid = λ _. (l, d, refl) }

-- any two outcomes of laying out that the promise allows are equal
pub laying-unique : {i : Input} {new new' : Lent} {r r' : ℕ} → Laying i new r → Laying i new' r' → (r ≡ r') × (new ≡ new')
laying-unique {i} {new} {new'} {r} {r'} p p' = go (ℕ_discrete (first_of (checks i)).number 0)
  where
    go : Dec ((first_of (checks i)).number ≡ 0) → (r ≡ r') × (new ≡ new')
    go (no n) = ((p.refused n).0 ∙ sym (p'.refused n).0, (p.refused n).1 ∙ sym (p'.refused n).1)
    go (yes e) =
        let a = p.laid e in
        let b = p'.laid e in
        let u = laid-unique i.query.graph (lent_of i.lent) a.1 b.1 in
        (a.2 ∙ ap refusal_of u.0 ∙ sym b.2, u.1)

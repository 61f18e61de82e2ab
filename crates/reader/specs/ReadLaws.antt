-- Lines in a row, by scans, and what each leaves to be read.
use Rattle.std.specs.Prelude.{◌≡◌, refl, Bool, true, false, cond, ◌||◌, not, List, [], ◌∷◌, ℕ, zero, suc, ◌≤◌, ◌<◌, ◌+◌, ◌-◌, eqb, ltb, take, drop, get_or}
use Rattle.std.proofs.Common.{sym, ◌∙◌, ap, add-one, arith, length-drop, drop_of_length-le, get_or-drop, eq-eqb, ltb-false, eqb-true}
use Rattle.std.proofs.Math.Decide.{dec_lt}
use Rattle.std.proofs.Math.ListN.{length}
use Rattle.std.proofs.lemmas.Bool.{not-false}
use Rattle.rules.specs.Limits.{max_bytes}
use Rattle.rules.specs.Lines.{newline, cut_at, but_last, lines}
use Rattle.rules.specs.Reading.{unfit}
use Rattle.fields.specs.Spans.{span}
use Rattle.fields.specs.SpanLaws.{rest-is}
use Rattle.fields.specs.CutLaws.{cut-next, cut-some}

-- ---- 24
-- its last byte ends a line, or it is empty
abbrev pub Ended : List ℕ → Type 0
Ended s = get_or s (length s - 1) newline ≡ newline

pub record Fit (s : List ℕ) : Type 0 where
  pub short : length s ≤ max_bytes
  pub ended : Ended s

or-false : (a b : Bool) → (a || b) ≡ false → (a ≡ false) × (b ≡ false)
or-false true b e = (e, let z : ◌≡◌ {A = ℕ} 0 1 = cc in absurd (omega arith))
or-false false b e = (refl, e)

pub fit_is : (s : List ℕ) → unfit s ≡ false → Fit s
unfolding unfit
fit_is s e =
    let r = or-false (ltb max_bytes (length s)) (not (eqb (get_or s (length s - 1) newline) newline)) e in
    record { short = ltb-false max_bytes (length s) r.0; ended = eqb-true (get_or s (length s - 1) newline) newline (not-false (eqb (get_or s (length s - 1) newline) newline) r.1) }

-- ---- the next line
-- a byte of the kind that stands in s is found
pub found : (by : ℕ) (s : List ℕ) (i d : ℕ) → i < length s → get_or s i d ≡ by → span by s ≤ i
unfolding span
found by [] i d l e = absurd (omega arith)
found by (b ∷ bs) zero d l e = rw (eq-eqb b by e) (omega arith)
found by (b ∷ bs) (suc i) d l e = go (found by bs i d (omega arith) e) (eqb b by)
  where
    go : span by bs ≤ i → (t : Bool) → cond t zero (suc (span by bs)) ≤ suc i
    go ih true = omega arith
    go ih false = omega arith

-- each line of a text is ended
pub line-ends : (s : List ℕ) → 0 < length s → Ended s → span newline s < length s
line-ends s l e = omega (arith, found newline s (length s - 1) newline (omega arith) e)

but-last-next : (p : List ℕ) (ps : List (List ℕ)) → 0 < length ps → but_last (p ∷ ps) ≡ p ∷ but_last ps
unfolding but_last
but-last-next p [] l = absurd (omega arith)
but-last-next p (q ∷ ps) l = refl

pub lines_none : (s : List ℕ) → length s ≤ 0 → lines s ≡ []
unfolding but_last cut_at
lines_none [] l = refl
lines_none (b ∷ bs) l = absurd (omega arith)

module _ (s : List ℕ) (e : ℕ) (q : e ≡ span newline s) (l : e < length s) where
  -- what stands after the line, as the borrow checker writes it
  abbrev after : List ℕ
  after = take (length s - (e + 1)) (drop (e + 1) s)

  after_is : after ≡ drop (suc e) s
  after_is = rest-is s (e + 1) ∙ ap (λ (n : ℕ). drop n s) (add-one e)

  pub lines_next : lines s ≡ take e s ∷ lines after
  lines_next =
      let c : cut_at newline s ≡ take e s ∷ cut_at newline (drop (suc e) s) = subst' q (cut-next newline s (rw (← q) l)) in
      ap but_last c ∙ but-last-next (take e s) (cut_at newline (drop (suc e) s)) (cut-some newline (drop (suc e) s)) ∙ ap (λ (r : List ℕ). take e s ∷ lines r) (sym after_is)
    where
      subst' : e ≡ span newline s → cut_at newline s ≡ take (span newline s) s ∷ cut_at newline (drop (suc (span newline s)) s) → cut_at newline s ≡ take e s ∷ cut_at newline (drop (suc e) s)
      subst' q h = rw q h

  pub after-length : length after ≡ length s - (e + 1)
  after-length = ap length (rest-is s (e + 1)) ∙ length-drop (e + 1) s

  pub after-ended : Ended s → Ended after
  after-ended h = go (dec_lt (suc e) (length s))
    where
      go : Dec (suc e < length s) → Ended after
      go (yes m) =
          let i : suc e + (length (drop (suc e) s) - 1) ≡ length s - 1 = omega (arith, length-drop (suc e) s) in
          rw after_is (get_or-drop (suc e) s (length (drop (suc e) s) - 1) newline ∙ ap (λ (n : ℕ). get_or s n newline) i ∙ h)
      go (no m) = rw (after_is, drop_of_length-le s {i = suc e} (omega arith)) refl

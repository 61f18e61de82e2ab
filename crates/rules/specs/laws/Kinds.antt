-- What the constructors answer, test by test; scheme numbers, there and back.
use Rattle.std.specs.Prelude.{◌≡◌, refl, Bool, true, false, cond, ℕ, zero, suc, ◌≤◌, ◌<◌}
use Rattle.std.proofs.Common.{sym, ap, arith, eq-eqb, ne_eqb, le-leb}
use Rattle.rules.specs.declared.Crew.{Crew}
use Rattle.rules.specs.declared.Scheme.{Scheme}
use Rattle.rules.specs.declared.Scheme.TheVariants.{CutCandidates, CutRows, DealRows, DealInner}
use Rattle.std.proofs.lemmas.Bool.{lt-leb}
use Rattle.rules.specs.Limits.{in_range, max_rows, max_scan, max_divisor, max_fixed, max_coefficient, max_workers}
use Rattle.rules.specs.Kinds.{scheme_of, scheme_number, new_table, new_edge, new_method, crew_with, new_crew}
use Rattle.std.specs.Prelude.{Err, None, Ok, Option, Some}
use Rattle.rules.specs.declared.EdgeFault.TheVariants.{Divisor, Itself, Outside}

pub scheme-number : (s : Scheme) → scheme_of (scheme_number s) ≡ Some s
scheme-number CutCandidates = refl
scheme-number CutRows = refl
scheme-number DealRows = refl
scheme-number DealInner = refl

pub scheme-unknown : (n : ℕ) → (n ≡ 1 → ⊥) → (n ≡ 2 → ⊥) → (n ≡ 3 → ⊥) → (n ≡ 4 → ⊥) → scheme_of n ≡ None
scheme-unknown zero a b c d = refl
scheme-unknown (suc zero) a b c d = absurd (a refl)
scheme-unknown (suc (suc zero)) a b c d = absurd (b refl)
scheme-unknown (suc (suc (suc zero))) a b c d = absurd (c refl)
scheme-unknown (suc (suc (suc (suc zero)))) a b c d = absurd (d refl)
scheme-unknown (suc (suc (suc (suc (suc n))))) a b c d = refl

module _ (count left right divisor : ℕ) where
  pub left-outside : in_range 1 count left ≡ false → (Err Outside) ≡ new_edge count left right divisor
  left-outside l = rw l

  pub right-outside : in_range 1 count left ≡ true → in_range 1 count right ≡ false → (Err Outside) ≡ new_edge count left right divisor
  right-outside l r = rw (l, r)

  pub edge-itself : in_range 1 count left ≡ true → in_range 1 count right ≡ true → left ≡ right → (Err Itself) ≡ new_edge count left right divisor
  edge-itself l r e = rw (l, r, eq-eqb left right e)

  pub bad-divisor : in_range 1 count left ≡ true → in_range 1 count right ≡ true → (left ≡ right → ⊥) → in_range 1 max_divisor divisor ≡ false → (Err Divisor) ≡ new_edge count left right divisor
  bad-divisor l r e d = rw (l, r, ne_eqb left right e, d)

  pub good-edge : in_range 1 count left ≡ true → in_range 1 count right ≡ true → (left ≡ right → ⊥) → in_range 1 max_divisor divisor ≡ true
      → Ok (record { left = left; right = right; divisor = divisor }) ≡ new_edge count left right divisor
  good-edge l r e d = rw (l, r, ne_eqb left right e, d)

module _ (workers scheme : ℕ) where
  pub bad-workers : in_range 1 max_workers workers ≡ false → None ≡ new_crew workers scheme
  bad-workers w = rw w

  pub good-crew : (s : Scheme) → in_range 1 max_workers workers ≡ true → scheme_of scheme ≡ Some s → Some (record { workers = workers; scheme = s }) ≡ new_crew workers scheme
  good-crew s w e = rw (w, e)

  -- a crew has the workers that were asked for
  pub crew-workers : {c : Crew} → new_crew workers scheme ≡ Some c → c.workers ≡ workers
  crew-workers {c} = go (in_range 1 max_workers workers) (scheme_of scheme)
    where
      go : (b : Bool) (s : Option Scheme) → cond b (crew_with workers s) None ≡ Some c → c.workers ≡ workers
      go true (Some s) e = let f : record { workers = workers; scheme = s } ≡ c = cc in ap (λ (x : Crew). x.workers) (sym f)
      go true None e = let z : ◌≡◌ {A = ℕ} 0 1 = cc in absurd (omega arith)
      go false s e = let z : ◌≡◌ {A = ℕ} 0 1 = cc in absurd (omega arith)

  pub bad-scheme : in_range 1 max_workers workers ≡ true → scheme_of scheme ≡ None → None ≡ new_crew workers scheme
  bad-scheme w e = rw (w, e)

module _ (rows scan : ℕ) where
  pub good-table : rows ≤ max_rows → scan ≤ max_scan → Some (record { rows = rows; scan = scan }) ≡ new_table rows scan
  good-table r s = rw (le-leb rows max_rows r, le-leb scan max_scan s)

  pub dear-scan : rows ≤ max_rows → max_scan < scan → None ≡ new_table rows scan
  dear-scan r s = rw (le-leb rows max_rows r, lt-leb scan max_scan s)

  pub many-rows : max_rows < rows → None ≡ new_table rows scan
  many-rows r = rw (lt-leb rows max_rows r)

module _ (fixed outer inner result : ℕ) where
  pub good-method : fixed ≤ max_fixed → outer ≤ max_coefficient → inner ≤ max_coefficient → result ≤ max_coefficient
      → Some (record { fixed = fixed; outer = outer; inner = inner; result = result }) ≡ new_method fixed outer inner result
  good-method f o i r = rw (le-leb fixed max_fixed f, le-leb outer max_coefficient o, le-leb inner max_coefficient i, le-leb result max_coefficient r)

  pub dear-fixed : max_fixed < fixed → None ≡ new_method fixed outer inner result
  dear-fixed f = rw (lt-leb fixed max_fixed f)

  pub dear-outer : fixed ≤ max_fixed → max_coefficient < outer → None ≡ new_method fixed outer inner result
  dear-outer f o = rw (le-leb fixed max_fixed f, lt-leb outer max_coefficient o)

  pub dear-inner : fixed ≤ max_fixed → outer ≤ max_coefficient → max_coefficient < inner → None ≡ new_method fixed outer inner result
  dear-inner f o i = rw (le-leb fixed max_fixed f, le-leb outer max_coefficient o, lt-leb inner max_coefficient i)

  pub dear-result : fixed ≤ max_fixed → outer ≤ max_coefficient → inner ≤ max_coefficient → max_coefficient < result → None ≡ new_method fixed outer inner result
  dear-result f o i r = rw (le-leb fixed max_fixed f, le-leb outer max_coefficient o, le-leb inner max_coefficient i, lt-leb result max_coefficient r)

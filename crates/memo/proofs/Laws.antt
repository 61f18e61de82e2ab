-- Laws that no proof cites any more, since the check finds their goals: they hold as before.
use Rattle.std.specs.Prelude.{◌≡◌, refl, List, ℕ, ◌+◌, ◌≤◌, ◌<◌, length, set, take, replicate, Result, Ok, Err}
use Rattle.std.proofs.Common.{◌∙◌, arith}
use Rattle.std.proofs.Math.Path.{ap}
use Rattle.std.proofs.lemmas.List.{length-replicate, replicate-append-replicate}
use Rattle.rules.specs.Limits.{max_tables}
use Rattle.rules.specs.Query.{Graph, table_count}
use Rattle.rules.specs.Rows.{rows_of, memo}
use Rattle.rules.specs.Skips.{skips}
use Rattle.rules.specs.declared.refusal.Refusal.{Refusal}
use Rattle.rows.specs.Sizes.{up_to}
use Rattle.skips.specs.Vectors.{written}
use Rattle.starts.specs.Starts.{cells_to}
use Rattle.starts.specs.CountLaws.{written-push}
use Rattle.memo.specs.declared.layout.Laid.{Laid}
use Rattle.memo.specs.Layout.{Lent, Room, laid, counts, few_cells, LaidOut}
use Rattle.memo.specs.LayoutLaws.{NextSize}

-- ---- the skip cells of the next size
pub next-size : (g : Graph) (k from count at : ℕ) (s : List ℕ) → table_count g ≤ max_tables → k < table_count g → take (length (memo g)) s ≡ memo g → from ≡ length (up_to g k) → count ≡ length (rows_of g (k + 1)) → at ≡ length (cells_to g k) → NextSize g k from count at s
next-size g k from count at s a b c d e f = record { few = a; more = b; all-rows = c; begins = d; many = e; cells-begin = f }

-- ---- columns
pub zeros-laid : (g : Graph) (old : List ℕ) {l : List ℕ} {n : ℕ} → n ≡ length (memo g) → l ≡ written old 0 (replicate n 0) → l ≡ written old 0 (replicate (length (memo g)) 0)
zeros-laid g old e w = w ∙ ap (λ (k : ℕ). written old 0 (replicate k 0)) e

-- one as long as another that has room
pub has_room : {n m a b : ℕ} → n ≡ m → m ≤ a → b ≡ a → n ≤ b
has_room e h f = omega arith

-- one of zeros: one more
pub zeros-more : (d : List ℕ) (i : ℕ) {l : List ℕ} → l ≡ written d 0 (replicate i 0) → set l i 0 ≡ written d 0 (replicate (i + 1) 0)
zeros-more d i e =
    let z : ℕ = 0 in
    rw e (written-push d 0 i (replicate i 0) 0 (omega (arith, length-replicate i z)) ∙ ap (written d 0) (replicate-append-replicate i 1 0))

-- ---- the three cases
pub counted : (g : Graph) (n m : ℕ) {r : Result Laid Refusal} → n ≡ length (memo g) → m ≡ length (skips g) → r ≡ Ok (record { rows = n; cells = m }) → r ≡ Ok (counts g)
counted g n m e f q = rw (e, f) at q

module _ (g : Graph) (old : Lent) where
  pub too-few-cells : {r : Result Laid Refusal} {n m : ℕ} → n ≡ length (memo g) → n ≤ length old.sets → m ≡ length (skips g) → length old.skips < m → r ≡ Err few_cells → LaidOut g old old r
  too-few-cells e h f k q = record { refused13 = λ a. absurd (omega arith); refused14 = λ a b. (q, refl); given = λ a. absurd (omega (arith, a.cells)) }

  pub room_for : {n m : ℕ} → n ≡ length (memo g) → n ≤ length old.sets → m ≡ length (skips g) → m ≤ length old.skips → Room g old
  room_for e h f k = record { rows = omega arith; cells = omega arith }

  pub enough : {new : Lent} {r : Result Laid Refusal} → Room g old → r ≡ Ok (counts g) → new ≡ laid g old → LaidOut g old new r
  enough h q w = record { refused13 = λ a. absurd (omega arith); refused14 = λ a b. absurd (omega arith); given = λ a. (q, w) }

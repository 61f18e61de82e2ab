-- Laws of one share, in the form in which the code comes to them.
use Rattle.std.specs.Prelude.{◌≡◌, ℕ, ◌+◌, ◌≤◌, ◌<◌, leb, ltb}
use borrow.Author.Tests.{le-leb, lt-leb}
use Rattle.rules.specs.declared.Scheme.TheVariants.{DealInner}
use Rattle.rules.specs.Shares.{cut, in_cut}
use Rattle.shares.specs.declared.Share.{Share}
use Rattle.shares.specs.declared.Span.{Span}
use Rattle.shares.specs.Shares.{spans, on_by, on_span}

module _ (T m w i : ℕ) {a : ℕ} (e : a ≡ cut T m w) where
  -- from its beginning on, a row is in the cut if it is before the end
  pub in-cut-yes : {b : ℕ} → b ≡ cut T m (w + 1) → a ≤ i → ltb i b ≡ in_cut T m w i
  unfolding in_cut
  in-cut-yes f l = rw (← e, f, le-leb a i l)

  -- before its beginning, it is not
  pub in-cut-no : i < a → leb a i ≡ in_cut T m w i
  unfolding in_cut
  in-cut-no l = rw (← e, lt-leb a i l)

-- what is left of a worker's span after an own inner row, where inner rows are dealt
pub on-dealt-inner : (h : Share) (x j end : ℕ) {r : Span} → h.scheme ≡ DealInner → r ≡ spans (j + h.workers) end h.workers → r ≡ on_span h x j end
unfolding on_by
on-dealt-inner h x j end e f = rw e f

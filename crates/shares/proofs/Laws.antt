-- Laws that no proof cites any more, since the check finds their goals: they hold as before.
use Rattle.std.specs.Prelude.{◌≡◌, refl, Bool, false, ℕ, ◌+◌, ◌-◌, ◌*◌, ◌/◌, ◌%◌, ◌≤◌, ◌<◌, eqb}
use borrow.Author.Tests.{lt-ltb, le-ltb, lt-leb}
use Rattle.rules.specs.declared.Scheme.TheVariants.{CutCandidates, CutRows, DealRows, DealInner}
use Rattle.rules.specs.Shares.{cut, in_cut}
use Rattle.shares.specs.declared.Share.{Share}
use Rattle.shares.specs.declared.Span.{Span}
use Rattle.shares.specs.Shares.{spans, all_span, clipped, span_by, span_of, on_by, on_span}

-- a cut's end, as it is computed
pub cut-is : (T m w : ℕ) → w * T / m ≡ cut T m w
unfolding cut
cut-is T m w = refl

module _ (a b x first end : ℕ) {begin : ℕ} (e : begin ≡ first + (a - x)) where
  -- a clipped span that ends before the driving row does
  pub clip-short : {stop : ℕ} → b < x + (end - first) → stop ≡ first + (b - x) → spans begin stop 1 ≡ clipped a b x first end
  clip-short l f = rw (e, f, lt-ltb b (x + (end - first)) l)

  -- one that goes on to its end
  pub clip-long : x + (end - first) ≤ b → spans begin end 1 ≡ clipped a b x first end
  clip-long l = rw (e, le-ltb b (x + (end - first)) l)

-- a worker's span of a driving row, by each scheme
module _ (h : Share) (x D i first end : ℕ) {r : Span} where
  pub by-candidates : h.scheme ≡ CutCandidates → r ≡ clipped h.from h.to x first end → r ≡ span_of h x D i first end
  unfolding span_by
  by-candidates e f = rw e f

  pub by_rows : {b : Bool} → h.scheme ≡ CutRows → b ≡ in_cut D h.workers h.worker i → r ≡ all_span b first end → r ≡ span_of h x D i first end
  unfolding span_by
  by_rows e c f = rw (e, ← c) f

  pub by-dealt-rows : h.scheme ≡ DealRows → r ≡ all_span (eqb (i % h.workers) h.worker) first end → r ≡ span_of h x D i first end
  unfolding span_by
  by-dealt-rows e f = rw e f

  pub by-dealt-inner : h.scheme ≡ DealInner → r ≡ spans (first + h.worker) end h.workers → r ≡ span_of h x D i first end
  unfolding span_by
  by-dealt-inner e f = rw e f

-- what is left of it after an own inner row
module _ (h : Share) (x j end : ℕ) {r : Span} where
  pub on-candidates : h.scheme ≡ CutCandidates → r ≡ clipped h.from h.to (x + 1) (j + 1) end → r ≡ on_span h x j end
  unfolding on_by
  on-candidates e f = rw e f

  pub on-rows : h.scheme ≡ CutRows → r ≡ spans (j + 1) end 1 → r ≡ on_span h x j end
  unfolding on_by
  on-rows e f = rw e f

  pub on-dealt-rows : h.scheme ≡ DealRows → r ≡ spans (j + 1) end 1 → r ≡ on_span h x j end
  unfolding on_by
  on-dealt-rows e f = rw e f

-- before a cut's beginning, a row is not in it
module _ (T m w i : ℕ) {a : ℕ} (e : a ≡ cut T m w) where
  pub in-cut-no : i < a → false ≡ in_cut T m w i
  unfolding in_cut
  in-cut-no l = rw (← e, lt-leb a i l)

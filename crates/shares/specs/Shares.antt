-- A worker's share of a group as it walks it: for each driving row, the inner rows that it has.
use Rattle.std.specs.Prelude.{◌≡◌, Bool, cond, ◌&&◌, ℕ, ◌+◌, ◌-◌, ◌^◌, ◌%◌, ◌≤◌, ◌<◌, eqb, leb, ltb, length}
use Rattle.rules.specs.Limits.{max_workers}
use Rattle.rules.specs.declared.Crew.{Crew}
use Rattle.rules.specs.declared.Scheme.{Scheme}
use Rattle.rules.specs.declared.Scheme.TheVariants.{CutCandidates, CutRows, DealRows, DealInner}
use Rattle.rules.specs.declared.Group.{Group}
use Rattle.rules.specs.Query.{Graph}
use Rattle.rules.specs.Shares.{cut, in_cut, met}
use Rattle.shares.specs.declared.Share.{Share}
use Rattle.shares.specs.declared.Span.{Span}

-- no group has more candidates, and no memo more rows
abbrev pub few : ℕ
few = 2 ^ 40

-- worker w's share of T candidates
abbrev pub share_of : Crew → ℕ → ℕ → Share
share_of crew w T = record { scheme = crew.scheme; workers = crew.workers; worker = w; total = T; from = cut T crew.workers w; to = cut T crew.workers (w + 1) }

-- the crew that a share is of
abbrev pub crew_of : Share → Crew
crew_of h = record { workers = h.workers; scheme = h.scheme }

-- what the arithmetic of shares asks
pub record ShareFits (h : Share) : Type 0 where
  pub some-worker : 1 ≤ h.workers
  pub few-workers : h.workers ≤ max_workers
  pub worker : h.worker < h.workers
  pub total : h.total ≤ few
  pub from : h.from ≤ few
  pub to : h.to ≤ few

-- h is a worker's share of the group
pub record ShareOf (g : Graph) (group : Group) (h : Share) : Type 0 where
  pub some-worker : 1 ≤ h.workers
  pub few-workers : h.workers ≤ max_workers
  pub worker : h.worker < h.workers
  pub is : h ≡ share_of (crew_of h) h.worker (length (met g group))

-- every step-th inner row from `from` on, below `end`
abbrev pub spans : ℕ → ℕ → ℕ → Span
spans from end step = record { from = from; end = end; step = step }

-- the inner row j is one of them
abbrev pub in_span : Span → ℕ → Bool
in_span p j = leb p.from j && (ltb j p.end && eqb ((j - p.from) % p.step) 0)

-- all inner rows from first to end, or none
abbrev pub all_span : Bool → ℕ → ℕ → Span
all_span b first end = cond b (spans first end 1) (spans end end 1)

-- those numbered from a up to, not including, b, where the first has number x
abbrev pub clipped : ℕ → ℕ → ℕ → ℕ → ℕ → Span
clipped a b x first end = spans (first + (a - x)) (cond (ltb b (x + (end - first))) (first + (b - x)) end) 1

-- what a worker has of driving row i of D, whose inner rows are first to end, the first with number x
unfoldable pub span_by : Scheme → Share → ℕ → ℕ → ℕ → ℕ → ℕ → Span
span_by CutCandidates h x D i first end = clipped h.from h.to x first end
span_by CutRows h x D i first end = all_span (in_cut D h.workers h.worker i) first end
span_by DealRows h x D i first end = all_span (eqb (i % h.workers) h.worker) first end
span_by DealInner h x D i first end = spans (first + h.worker) end h.workers

abbrev pub span_of : Share → ℕ → ℕ → ℕ → ℕ → ℕ → Span
span_of h x D i first end = span_by h.scheme h x D i first end

-- what it has of its driving row after its own candidate x, whose inner row is j
unfoldable pub on_by : Scheme → Share → ℕ → ℕ → ℕ → Span
on_by CutCandidates h x j end = clipped h.from h.to (x + 1) (j + 1) end
on_by CutRows h x j end = spans (j + 1) end 1
on_by DealRows h x j end = spans (j + 1) end 1
on_by DealInner h x j end = spans (j + h.workers) end h.workers

abbrev pub on_span : Share → ℕ → ℕ → ℕ → Span
on_span h x j end = on_by h.scheme h x j end

-- r is the first of j, j + step, .. that is not before `to`
pub record Aligned (j to step r : ℕ) : Type 0 where
  pub reached : to ≤ r
  pub near : r < to + step
  pub on : (r - j) % step ≡ 0

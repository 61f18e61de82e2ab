-- "Shares among m workers, over candidates before any test".
use Rattle.std.specs.Prelude.{Bool, ◌&&◌, List, [], ◌∷◌, ℕ, suc, ◌+◌, ◌*◌, ◌/◌, ◌%◌, eqb, leb, ltb, length}
use Rattle.rules.specs.declared.Crew.{Crew}
use Rattle.rules.specs.declared.Group.{Group}
use Rattle.rules.specs.declared.Scheme.{Scheme}
use Rattle.rules.specs.declared.Scheme.TheVariants.{CutCandidates, CutRows, DealRows, DealInner}
use Rattle.rules.specs.Lists.{keep}
use Rattle.rules.specs.Query.{Graph}
use Rattle.rules.specs.Candidates.{Candidate, candidates, joinable}

-- a candidate with its number: "All T candidates of size S numbered from 0"
pub record Numbered : Type 0 where
  pub number : ℕ
  pub candidate : Candidate

-- the candidates of the list, the first of them numbered n
unfoldable pub numbered : ℕ → List Candidate → List Numbered
numbered n [] = []
numbered n (c ∷ cs) = record { number = n; candidate = c } ∷ numbered (suc n) cs

-- "wT/m .. rounded down"
unfoldable pub cut : ℕ → ℕ → ℕ → ℕ
cut T m w = w * T / m

-- "worker w has those from wT/m up to, not including, (w+1)T/m"
unfoldable pub in_cut : ℕ → ℕ → ℕ → ℕ → Bool
in_cut T m w i = leb (cut T m w) i && ltb i (cut T m (w + 1))

-- worker w of m has the candidate, of T in all
unfoldable pub owns : Scheme → ℕ → ℕ → ℕ → Numbered → Bool
owns CutCandidates T m w x = in_cut T m w x.number
owns CutRows T m w x = in_cut x.candidate.rows m w x.candidate.row
owns DealRows T m w x = eqb (x.candidate.row % m) w
owns DealInner T m w x = eqb (x.candidate.count % m) w

-- the candidates of a group, numbered
unfoldable pub met : Graph → Group → List Numbered
met g group = numbered 0 (candidates g group)

-- worker w's share of a group, "before any test"
unfoldable pub share : Graph → Crew → Group → ℕ → List Numbered
share g crew group w = keep (owns crew.scheme (length (met g group)) crew.workers w) (met g group)

-- the joinable pairs of worker w's share, in the order in which it is to have them
unfoldable pub queue : Graph → Crew → Group → ℕ → List Numbered
queue g crew group w = keep (λ (x : Numbered). joinable g x.candidate) (share g crew group w)

-- "These versions are to be shown shut out": six wrong planners, each refuted on C1's query.
use Rattle.std.specs.Prelude.{◌≡◌, List, [], ◌∷◌, ℕ, ◌<◌, get_or, replicate}
use Rattle.std.proofs.Common.{ap, arith}
use Rattle.rules.specs.Refusals.{Memory, Input}
use Rattle.rules.specs.Answers.{Outcome, Planned}
use Rattle.rules.proofs.Cases.{example, lend, mark, alone, pair}
use Rattle.rules.proofs.laws.Outcome.{outcome, computed}
use Rattle.rules.proofs.laws.Answers.{planned-outcome}

-- C1's input
abbrev pub first : Input
first = alone example (lend 7 11 0)

-- the same with a dearer scan of table 2
abbrev pub second : Input
second = alone (record {
  graph = example.graph;
  scans = 100 ∷ 11 ∷ 1000 ∷ [];
  fixed = example.fixed;
  per_outer = example.per_outer;
  per_inner = example.per_inner;
  per_result = example.per_result;
  shape = example.shape;
}) (lend 7 11 0)

-- C5's crew with no room in the log
abbrev pub unlogged : Input
unlogged = record { query = example; workers = 2; scheme = 3; turns = 1 ∷ 1 ∷ []; lent = lend 7 11 0 }

-- what is promised of a number of the outcome is what computes
promised : {i : Input} (f : Outcome → ℕ) (o : Outcome) → Planned i o → f o ≡ f (outcome i)
promised f o p = ap f (planned-outcome p)

-- what no allowed outcome does
pub record ShutOut : Type 0 where
  -- "one refusing everything"
  pub refuses-all : (o : Outcome) → Planned first o → 0 < o.answer.refusal → ⊥
  -- "one giving one plan for all"
  pub one-plan : (o : Outcome) → Planned first o → Planned second o → ⊥
  -- "one writing nothing"
  pub writes_nothing : (o : Outcome) → Planned first o → o.left ≡ first.lent → ⊥
  -- "one doing all the work under worker 0", by the log's workers, and by the counts where the log has no room
  pub worker-zero : (o : Outcome) → Planned pair o → o.left.log_workers ≡ 0 ∷ 0 ∷ 0 ∷ 0 ∷ mark ∷ [] → ⊥
  pub worker-zero-unlogged : (o : Outcome) → Planned unlogged o → o.answer.counts ≡ 4 ∷ replicate 7 0 → ⊥
  -- "or in the first size, logging the rest for show", by standing costs of another order
  pub other-order : (o : Outcome) → Planned pair o → o.left.log_costs ≡ 335 ∷ 2135 ∷ 3485 ∷ 3485 ∷ mark ∷ [] → ⊥
  -- "one inventing its pair or row counts"
  pub pair-count : (o : Outcome) → Planned first o → o.answer.pairs ≡ 4
  pub row_count : (o : Outcome) → Planned first o → o.answer.rows ≡ 6

-- all of them are shut out
pub shut_out : ShutOut
unfolding computed
shut_out = record {
  refuses-all = λ o p l. omega (arith, promised (λ (x : Outcome). x.answer.refusal) o p);
  one-plan = λ o p r. omega (arith, promised (λ (x : Outcome). x.answer.best) o p, promised (λ (x : Outcome). x.answer.best) o r);
  writes_nothing = λ o p e. omega (arith, promised (λ (x : Outcome). get_or x.left.sets 0 0) o p, ap (λ (m : Memory). get_or m.sets 0 0) e);
  worker-zero = λ o p e. omega (arith, promised (λ (x : Outcome). get_or x.left.log_workers 0 0) o p, ap (λ (l : List ℕ). get_or l 0 0) e);
  worker-zero-unlogged = λ o p e. omega (arith, promised (λ (x : Outcome). get_or x.answer.counts 0 0) o p, ap (λ (l : List ℕ). get_or l 0 0) e);
  other-order = λ o p e. omega (arith, promised (λ (x : Outcome). get_or x.left.log_costs 0 0) o p, ap (λ (l : List ℕ). get_or l 0 0) e);
  pair-count = λ o p. promised (λ (x : Outcome). x.answer.pairs) o p;
  row_count = λ o p. promised (λ (x : Outcome). x.answer.rows) o p;
}

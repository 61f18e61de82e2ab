use mathlib.Core.Path.{ap, sym, ◌∙◌}
use mathlib.Core.List.{List, [], ◌∷◌}
use Prim.Native.Nat.{ℕ}
use native.Mathlib.Omega.{arith}
use lib.ListN.{replicate}
use Rattle.rules.specs.Query.{Query}
use Rattle.rules.specs.Verdict.{Verdict}
use Rattle.query.specs.Lists.{query_of}
use Rattle.memo.specs.Layout.{Lent, lent}
use Rattle.rounds.specs.RoundLaws.{sound, scans-fit, grounded, estimated, started_of}
use Rattle.rounds.proofs.run.Goals as goal

-- document 01's query
abbrev q : Query
q = query_of (100 ∷ 10 ∷ 1000 ∷ []) (100 ∷ 10 ∷ 1000 ∷ []) (1 ∷ 2 ∷ []) (2 ∷ 3 ∷ []) (10 ∷ 100 ∷ []) (5 ∷ 50 ∷ []) (1 ∷ 1 ∷ []) (2 ∷ 1 ∷ []) (1 ∷ 1 ∷ [])

-- what is lent
abbrev zeros : ℕ → List ℕ
zeros n = replicate n 0

abbrev old : Lent
old = lent (zeros 6) (zeros 6) (zeros 6) (zeros 6) (zeros 6) (zeros 10)

pub lay_scans-requires : goal.lay_scans-requires
lay_scans-requires g c =
    let passed = ap (λ (v : Verdict). v.number) (sym c.in-Ok.ensures.verdict) in
    scans-fit q c.args.workers c.from.result _ (zeros 4) old passed c.lay_out.ensures.laid (sym c.is_err.ensures.value ∙ c.if-is_err.false)

pub invariant_of-footing : goal.invariant_of-footing
invariant_of-footing g c =
    let passed = ap (λ (v : Verdict). v.number) (sym c.in-Ok.ensures.verdict) in
    record {
      good = (sound q c.args.workers c.from.result _ (zeros 4) old passed).graph;
      laid = grounded q c.args.workers c.from.result _ (zeros 4) old passed c.lay_out.ensures.laid (sym c.is_err.ensures.value ∙ c.if-is_err.false) (zeros 18) (zeros 18) (omega arith) (omega arith) c.lay_starts.ensures.firsts c.lay_starts.ensures.cells;
    }

pub run_sizes-requires-clause-estimated : goal.run_sizes-requires-clause-estimated
run_sizes-requires-clause-estimated g c =
    let passed = ap (λ (v : Verdict). v.number) (sym c.in-Ok.ensures.verdict) in
    estimated q c.args.workers c.from.result _ (zeros 4) old passed c.lay_out.ensures.laid (sym c.is_err.ensures.value ∙ c.if-is_err.false)

pub run_sizes-requires-clause-started : goal.run_sizes-requires-clause-started
run_sizes-requires-clause-started g c =
    let passed = ap (λ (v : Verdict). v.number) (sym c.in-Ok.ensures.verdict) in
    started_of q c.args.workers c.from.result _ (zeros 4) old passed c.lay_out.ensures.laid (sym c.is_err.ensures.value ∙ c.if-is_err.false) c.in-Ok.crew c.in-Ok.ensures.crew c.lay_scans.ensures

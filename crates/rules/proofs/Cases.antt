-- "Cases to prove, one table": C1 to C12, computed by `outcome`, which `Planned` allows (laws.Outcome, outcome-planned), and nothing else (laws.Answers, planned-unique).
use Rattle.std.specs.Prelude.{◌≡◌, refl, List, [], ◌∷◌, map, ℕ, ◌*◌, length, replicate, take, drop}
use Rattle.std.proofs.Common.{inr, inl, arith}
use Rattle.rules.specs.declared.Scheme.TheVariants.{CutCandidates}
use Rattle.rules.specs.declared.Shape.TheVariants.{Bushy, Single}
use Rattle.rules.specs.Query.{Query}
use Rattle.rules.specs.Estimate.{estimate}
use Rattle.rules.specs.Trees.{Least, Pick}
use Rattle.rules.specs.Offers.{Choice}
use Rattle.rules.specs.Rows.{Before}
use Rattle.rules.specs.Skips.{vectors}
use Rattle.rules.specs.Shares.{share}
use Rattle.rules.specs.Verdict.{Verdict}
use Rattle.rules.specs.Refusals.{Memory, Input, verdict}
use Rattle.rules.specs.Answers.{Row, schedule_of}
use Rattle.rules.specs.laws.Standing.{offers_below, best_at}
use Rattle.rules.proofs.laws.Outcome.{outcome, computed, outcome-planned}

-- "Input": three tables, two methods, edges 1-2 and 2-3
abbrev pub example : Query
example = record {
  graph = record { rows = 100 ∷ 10 ∷ 1000 ∷ []; left = 1 ∷ 2 ∷ []; right = 2 ∷ 3 ∷ []; divisors = 10 ∷ 100 ∷ [] };
  scans = 100 ∷ 10 ∷ 1000 ∷ [];
  fixed = 5 ∷ 50 ∷ [];
  per_outer = 1 ∷ 1 ∷ [];
  per_inner = 2 ∷ 1 ∷ [];
  per_result = 1 ∷ 1 ∷ [];
  shape = Bushy;
}

-- 000's figure 4: "eight tables, edges 1-2, 1-3, 1-4, 2-5, 2-6, 4-7, 4-8"
abbrev pub figure4 : Query
figure4 = record {
  graph = record { rows = replicate 8 1; left = 1 ∷ 1 ∷ 1 ∷ 2 ∷ 2 ∷ 4 ∷ 4 ∷ []; right = 2 ∷ 3 ∷ 4 ∷ 5 ∷ 6 ∷ 7 ∷ 8 ∷ []; divisors = replicate 7 1 };
  scans = replicate 8 1;
  fixed = 1 ∷ [];
  per_outer = 1 ∷ [];
  per_inner = 1 ∷ [];
  per_result = 1 ∷ [];
  shape = Bushy;
}

-- a query of tables with these rows, each scanned for 5, without an edge
abbrev pub loose : List ℕ → Query
loose rows = record {
  graph = record { rows = rows; left = []; right = []; divisors = [] };
  scans = map (λ (r : ℕ). 5) rows;
  fixed = 1 ∷ [];
  per_outer = 1 ∷ [];
  per_inner = 1 ∷ [];
  per_result = 1 ∷ [];
  shape = Bushy;
}

-- the query with the second shape of 02, R-2
abbrev pub singly : Query → Query
singly q = record { graph = q.graph; scans = q.scans; fixed = q.fixed; per_outer = q.per_outer; per_inner = q.per_inner; per_result = q.per_result; shape = Single }

-- what stands in lent memory before, so that what is spare can be seen
abbrev pub mark : ℕ
mark = 77

-- so many memo rows, skip cells and log entries
abbrev pub lend : ℕ → ℕ → ℕ → Memory
lend rows cells log = record {
  sets = replicate rows mark;
  estimates = replicate rows mark;
  costs = replicate rows mark;
  outers = replicate rows mark;
  methods = replicate rows mark;
  skips = replicate cells mark;
  log_workers = replicate log mark;
  log_driving = replicate log mark;
  log_inner = replicate log mark;
  log_costs = replicate log mark;
}

-- one worker, scheme 1, no turns
abbrev pub alone : Query → Memory → Input
alone q lent = record { query = q; workers = 1; scheme = 1; turns = []; lent = lent }

-- C5's crew: "two workers, scheme 3, turns 1,1"
abbrev pub pair : Input
pair = record { query = example; workers = 2; scheme = 3; turns = 1 ∷ 1 ∷ []; lent = lend 7 11 5 }

-- a verdict at place 0
abbrev pub refused : ℕ → Verdict
refused number = record { number = number; place = 0 }

-- "Cases to prove, one table"
pub record Cases : Type 0 where
  -- "C1 the query above, whole memo", with one row and one cell to spare
  pub C1 : outcome (alone example (lend 7 11 0)) ≡ record {
    answer = record { refusal = 0; place = 0; best = 3485; rows = 6; cells = 10; pairs = 4; counts = 4 ∷ replicate 7 0 };
    left = record {
      sets = 1 ∷ 2 ∷ 4 ∷ 3 ∷ 6 ∷ 7 ∷ mark ∷ [];
      estimates = 100 ∷ 10 ∷ 1000 ∷ 100 ∷ 100 ∷ 1000 ∷ mark ∷ [];
      costs = 100 ∷ 10 ∷ 1000 ∷ 335 ∷ 2135 ∷ 3485 ∷ mark ∷ [];
      outers = 0 ∷ 0 ∷ 0 ∷ 1 ∷ 4 ∷ 1 ∷ mark ∷ [];
      methods = 0 ∷ 0 ∷ 0 ∷ 1 ∷ 1 ∷ 2 ∷ mark ∷ [];
      skips = 2 ∷ 3 ∷ 4 ∷ 2 ∷ 3 ∷ 3 ∷ 3 ∷ 2 ∷ 2 ∷ 2 ∷ mark ∷ [];
      log_workers = [];
      log_driving = [];
      log_inner = [];
      log_costs = [];
    };
  }
  -- "C2 the full set ties at 3485, by method 2, from outers {1}, {1,2}, {3} and {2,3}; outer {1} wins": outer set, method and cost of all its joins of best parts
  pub C2 : map (λ (k : Choice). k.outer ∷ k.method ∷ k.cost ∷ []) (offers_below example (best_at example) 7 7)
      ≡ (6 ∷ 2 ∷ 3485 ∷ []) ∷ (6 ∷ 1 ∷ 3540 ∷ []) ∷ (4 ∷ 2 ∷ 3485 ∷ []) ∷ (4 ∷ 1 ∷ 3540 ∷ []) ∷ (3 ∷ 2 ∷ 3485 ∷ []) ∷ (3 ∷ 1 ∷ 4440 ∷ []) ∷ (1 ∷ 2 ∷ 3485 ∷ []) ∷ (1 ∷ 1 ∷ 3540 ∷ []) ∷ []
  -- "C3 its size-2 skip vectors: 2 3 and 3 3"
  pub C3 : vectors example.graph 2 ≡ 2 ∷ 3 ∷ 3 ∷ 3 ∷ []
  -- "C4 for 000's figure 4 .., size 3: row 1 is 8 5 2, row 5 is 8 6 8"
  pub C4-row1 : take 3 (vectors figure4.graph 3) ≡ 8 ∷ 5 ∷ 2 ∷ []
  pub C4-row5 : take 3 (drop (4 * 3) (vectors figure4.graph 3)) ≡ 8 ∷ 6 ∷ 8 ∷ []
  -- "C5 two workers, scheme 3, turns 1,1: log (1,{2},{3},2135), (0,{1},{2},335), (0,{1},{2,3},3485), (0,{3},{1,2},3485)", with one entry to spare
  pub C5-workers : (outcome pair).left.log_workers ≡ 1 ∷ 0 ∷ 0 ∷ 0 ∷ mark ∷ []
  pub C5-driving : (outcome pair).left.log_driving ≡ 2 ∷ 1 ∷ 1 ∷ 4 ∷ mark ∷ []
  pub C5-inner : (outcome pair).left.log_inner ≡ 4 ∷ 2 ∷ 6 ∷ 3 ∷ mark ∷ []
  pub C5-costs : (outcome pair).left.log_costs ≡ 2135 ∷ 335 ∷ 3485 ∷ 3485 ∷ mark ∷ []
  -- "C6 scheme 1 there, size 2: worker 0 has one candidate, worker 1 two"
  pub C6-first : length (share example.graph (record { workers = 2; scheme = CutCandidates }) (schedule_of pair 1) 0) ≡ 1
  pub C6-second : length (share example.graph (record { workers = 2; scheme = CutCandidates }) (schedule_of pair 1) 1) ≡ 2
  -- "C7 N = 1: scan cost, no pairs"
  pub C7 : (outcome (alone (loose (9 ∷ [])) (lend 1 1 0))).answer ≡ record { refusal = 0; place = 0; best = 5; rows = 1; cells = 1; pairs = 0; counts = replicate 8 0 }
  -- "C8 N = 0: refusal 2"
  pub C8 : verdict (alone (loose []) (lend 0 0 0)) ≡ refused 2
  -- "C9 two tables, no edge: 10"
  pub C9 : verdict (alone (loose (9 ∷ 9 ∷ [])) (lend 3 4 0)) ≡ refused 10
  -- "C10 six rows lent to the query above pass, five give 13"
  pub C10-six : verdict (alone example (lend 6 10 0)) ≡ refused 0
  pub C10-five : verdict (alone example (lend 5 10 0)) ≡ refused 13
  -- "C11 rows 0 estimates 1"
  pub C11 : estimate (loose (0 ∷ [])).graph 1 ≡ 1
  -- "C12 ten cells pass, nine give 14"
  pub C12-ten : verdict (alone example (lend 6 10 0)) ≡ refused 0
  pub C12-nine : verdict (alone example (lend 6 9 0)) ≡ refused 14
  -- 02, R-2: "For the query of 01 the joins become outer {1}, inner {2}, method 1, cost 335, then outer {1,2}, inner {3}, method 2, cost 3485."
  pub R2-costs : (outcome (alone (singly example) (lend 6 10 0))).left.costs ≡ 100 ∷ 10 ∷ 1000 ∷ 335 ∷ 2135 ∷ 3485 ∷ []
  pub R2-outers : (outcome (alone (singly example) (lend 6 10 0))).left.outers ≡ 0 ∷ 0 ∷ 0 ∷ 1 ∷ 4 ∷ 3 ∷ []
  pub R2-methods : (outcome (alone (singly example) (lend 6 10 0))).left.methods ≡ 0 ∷ 0 ∷ 0 ∷ 1 ∷ 1 ∷ 2 ∷ []
  pub R2-pairs : (outcome (alone (singly example) (lend 6 10 0))).answer.pairs ≡ 4
  -- "{1,2} stands before {1,10}"
  pub numbers-not-text : Before (1 ∷ 2 ∷ []) (1 ∷ 10 ∷ [])

-- all of them hold
pub cases : Cases
unfolding computed Before
cases = record {
  C1 = refl;
  C2 = refl;
  C3 = refl;
  C4-row1 = refl;
  C4-row5 = refl;
  C5-workers = refl;
  C5-driving = refl;
  C5-inner = refl;
  C5-costs = refl;
  C6-first = refl;
  C6-second = refl;
  C7 = refl;
  C8 = refl;
  C9 = refl;
  C10-six = refl;
  C10-five = refl;
  C11 = refl;
  C12-ten = refl;
  C12-nine = refl;
  R2-costs = refl;
  R2-outers = refl;
  R2-methods = refl;
  R2-pairs = refl;
  numbers-not-text = inr (refl, inl (omega arith));
}

-- C2 over all trees: no tree of the full set costs less than 3485, and outer {1} with method 2 is the pick
pub case-2 : Least example 7 3485 × Pick example 7 1 2
unfolding computed
case-2 = let r : Row example 7 3485 1 2 = ((outcome-planned (alone example (lend 7 11 0))).given refl).memory.rows 5 (omega arith) in (r.least, r.more (omega arith))

-- R-2's plan over all trees of the shape: no tree costs less than 3485, and outer {1,2} with method 2 is the pick
pub case-R2 : Least (singly example) 7 3485 × Pick (singly example) 7 3 2
unfolding computed
case-R2 = let r : Row (singly example) 7 3485 3 2 = ((outcome-planned (alone (singly example) (lend 7 11 0))).given refl).memory.rows 5 (omega arith) in (r.least, r.more (omega arith))

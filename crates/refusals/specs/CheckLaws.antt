-- What the proofs of `check` cite: the checks as loops and as lists, and what a passed check says.
use Rattle.std.specs.Prelude.{◌≡◌, ◌⊎◌, Bool, false, cond, ◌&&◌, ◌||◌, not, List, [], ◌∷◌, ◌++◌, eqb, length, get_or, drop}
use Rattle.std.proofs.Math.Path.{refl, sym}
use Rattle.std.proofs.Common.{ap, ◌∙◌, inl, inr, ⊎_elim, add-one, arith, pow_pos}
use Rattle.std.proofs.Math.Bool.{true}
use Prim.Native.Nat.{ℕ, zero, suc, ◌+◌, ◌-◌, ◌*◌, ◌%◌, ◌^◌, ◌≤◌, ◌<◌}
use Rattle.std.proofs.Math.Decide.{ℕ_discrete}
use borrow.Author.Tests.{eqb-true, eqb-false, eq-eqb, ne_eqb, lt-ltb, le-ltb, not-true, not-false}
use Rattle.rules.specs.Limits.{max_tables, tables_fit, table_fits, method_fits}
use Rattle.rules.specs.Kinds.{new_table, new_method, new_edge, edge_number, new_crew}
use Rattle.rules.specs.Query.{Graph, Query, table_count, edge_count, method_count}
use Rattle.rules.specs.Lists.{is_yes}
use Rattle.rules.specs.Sets.{full}
use Rattle.rules.specs.Estimate.{joins_at}
use Rattle.rules.specs.Checked.{GoodGraph}
use Rattle.rules.specs.Refusals.{first_bad, first_of, all_are, all_same, groups, refuse, bad_table, bad_method, joined_below, repeats, edge_or, bad_edge, is_refused, bad_turn, checks_of}
use Rattle.rules.specs.laws.Bools.{true-or-false, not-both, or-true-l, or_true_r}
use Rattle.sets.specs.Laws.{shifted_one}
use Rattle.query.specs.Lists.{same_pair}
use Rattle.refusals.specs.Checks.{query_groups, table_number, method_number, table_checks, method_checks, graph_checks, crew_checks, TablesGood}
use Rattle.rules.specs.laws.Refusals.{lengths-of, same_true, none-refuse, none-bad, range, table-true, edge-true, bad-step, bad-here, bad-end, SameLengths}
use Rattle.rules.specs.laws.Decide.{connected?}
use Rattle.rules.specs.Verdict.{Verdict, none, number_of}
use Rattle.rules.specs.declared.refusal.Reason.{Reason}
use Rattle.rules.specs.declared.refusal.Reason.TheVariants.{ListLengths, TableCount, TableOver, MethodCount, MethodOver, EdgeOutside, EdgeItself, EdgeDivisor, EdgeRepeated, Unconnected, CrewRange, TurnWorker, MemoRows, SkipCells, LineFields, LineNumber, LineOrder, TextEnd, LineExcess}
use Rattle.rules.specs.declared.Table.{Table}
use Rattle.rules.specs.declared.Method.{Method}
use Rattle.rules.specs.declared.Crew.{Crew}
use Rattle.std.specs.Prelude.{◌==◌, Err, None, Option, Result, Some}
use Rattle.std.specs.List.{list_all}
use Rattle.rules.specs.declared.Edge.{Edge}
use Rattle.rules.specs.declared.EdgeFault.{EdgeFault}
use Rattle.rules.specs.declared.EdgeFault.TheVariants.{Outside, Itself, Divisor}

-- ---- a loop over records 0 to n - 1, of which those before i are good
module _ (f : ℕ → ℕ) (n : ℕ) where
  -- the first bad record is the first from i on
  abbrev pub Rest : ℕ → Type 0
  Rest i = first_bad f i (n - i) ≡ first_bad f 0 n

  pub rest_all : Rest 0
  rest_all = let e : n - 0 ≡ n = omega arith in rw e

  module _ (i : ℕ) (rest : Rest i) where
    pub rest-on : (m : ℕ) → i < n → m ≡ f i → m ≡ 0 → Rest (i + 1)
    rest-on m l e z = bad-step f i n l (sym e ∙ z) ∙ rest

    pub rest-here : (m : ℕ) → i < n → m ≡ f i → (m ≡ 0 → ⊥) → record { number = m; place = i } ≡ first_bad f 0 n
    rest-here m l e z = rw e (bad-here f i n l (λ h. z (e ∙ h)) ∙ rest)

    pub rest-none : n ≤ i → none ≡ first_bad f 0 n
    rest-none l = bad-end f i n l ∙ rest

-- every reason has a number
pub some-number : (reason : Reason) → number_of reason ≡ 0 → ⊥
some-number ListLengths e = absurd (omega arith)
some-number TableCount e = absurd (omega arith)
some-number TableOver e = absurd (omega arith)
some-number MethodCount e = absurd (omega arith)
some-number MethodOver e = absurd (omega arith)
some-number EdgeOutside e = absurd (omega arith)
some-number EdgeItself e = absurd (omega arith)
some-number EdgeDivisor e = absurd (omega arith)
some-number EdgeRepeated e = absurd (omega arith)
some-number Unconnected e = absurd (omega arith)
some-number CrewRange e = absurd (omega arith)
some-number TurnWorker e = absurd (omega arith)
some-number MemoRows e = absurd (omega arith)
some-number SkipCells e = absurd (omega arith)
some-number LineFields e = absurd (omega arith)
some-number LineNumber e = absurd (omega arith)
some-number LineOrder e = absurd (omega arith)
some-number TextEnd e = absurd (omega arith)
some-number LineExcess e = absurd (omega arith)

-- ---- one record
table-cases : (t : Table) (b : Bool) → table_number (cond b (Some t) None) ≡ cond b 0 3
table-cases t true = refl
table-cases t false = refl

pub table-number : (rows scans : List ℕ) (i : ℕ) → table_number (new_table (get_or rows i 0) (get_or scans i 0)) ≡ bad_table rows scans i
unfolding bad_table
table-number rows scans i =
    table-cases (record { rows = get_or rows i 0; scan = get_or scans i 0 }) (table_fits (get_or rows i 0) (get_or scans i 0))

method-cases : (m : Method) (b : Bool) → method_number (cond b (Some m) None) ≡ cond b 0 5
method-cases m true = refl
method-cases m false = refl

pub method-number : (fixed outer inner result : List ℕ) (i : ℕ)
    → method_number (new_method (get_or fixed i 0) (get_or outer i 0) (get_or inner i 0) (get_or result i 0)) ≡ bad_method fixed outer inner result i
unfolding bad_method
method-number fixed outer inner result i =
    method-cases (record { fixed = get_or fixed i 0; outer = get_or outer i 0; inner = get_or inner i 0; result = get_or result i 0 })
    (method_fits (get_or fixed i 0) (get_or outer i 0) (get_or inner i 0) (get_or result i 0))

module _ (workers : ℕ) (turns : List ℕ) (i : ℕ) where
  pub good_turn : get_or turns i 0 < workers → 0 ≡ bad_turn workers turns i
  unfolding bad_turn
  good_turn l = rw (lt-ltb (get_or turns i 0) workers l)

  pub bad-turn : workers ≤ get_or turns i 0 → 12 ≡ bad_turn workers turns i
  unfolding bad_turn
  bad-turn l = rw (le-ltb (get_or turns i 0) workers l)

-- ---- earlier edges
pub pair-joins : (g : Graph) (a b j : ℕ) → same_pair (get_or g.left j 0) (get_or g.right j 0) a b ≡ joins_at g a b j
unfolding joins_at
pair-joins g a b j = refl

module _ (g : Graph) (a b : ℕ) where
  pub joined-none : joined_below g a b 0 ≡ false
  unfolding joined_below
  joined-none = refl

  pub joined-on : (j : ℕ) → joined_below g a b j ≡ false → joins_at g a b j ≡ false → joined_below g a b (j + 1) ≡ false
  unfolding joined_below
  joined-on j e h = rw (add-one j, e, h)

  joined-some : (j n : ℕ) → j < n → joins_at g a b j ≡ true → joined_below g a b n ≡ true
  unfolding joined_below
  joined-some j zero l h = absurd (omega arith)
  joined-some j (suc n) l h = go (ℕ_discrete j n) (joined-some j n)
    where
      go : Dec (j ≡ n) → (j < n → joins_at g a b j ≡ true → joined_below g a b n ≡ true) → (joined_below g a b n || joins_at g a b n) ≡ true
      go (yes p) ih = or_true_r (joined_below g a b n) (joins_at g a b n) (rw p at h)
      go (no d) ih = or-true-l (joined_below g a b n) (joins_at g a b n) (ih (omega arith) h)

module _ (g : Graph) (i : ℕ) where
  -- edge i repeats an earlier one, as the loop over those finds it
  pub repeats-here : (j : ℕ) → j < i → same_pair (get_or g.left j 0) (get_or g.right j 0) (get_or g.left i 0) (get_or g.right i 0) ≡ true
      → true ≡ repeats g i
  unfolding repeats
  repeats-here j l h =
      sym (joined-some g (get_or g.left i 0) (get_or g.right i 0) j i l (sym (pair-joins g (get_or g.left i 0) (get_or g.right i 0) j) ∙ h))

  pub repeats-none : (j : ℕ) → joined_below g (get_or g.left i 0) (get_or g.right i 0) j ≡ false → j ≡ i → false ≡ repeats g i
  unfolding repeats
  repeats-none j h e = sym (rw e at h)

  -- the edge by itself, and then whether it repeats one
  module _ (made : Result Edge EdgeFault) (is_made : made ≡ new_edge (table_count g) (get_or g.left i 0) (get_or g.right i 0) (get_or g.divisors i 0)) where
    pub edge-bad : (n : ℕ) → edge_number made ≡ suc n → suc n ≡ bad_edge g i
    unfolding bad_edge edge_or
    edge-bad n e = rw (← is_made, e)

    pub edge-fault : (f : EdgeFault) → made ≡ Err f → edge_number (Err f) ≡ bad_edge g i
    edge-fault Outside e = edge-bad 5 (ap edge_number e)
    edge-fault Itself e = edge-bad 6 (ap edge_number e)
    edge-fault Divisor e = edge-bad 7 (ap edge_number e)

    pub edge-good : (b : Bool) → edge_number made ≡ 0 → b ≡ repeats g i → cond b 9 0 ≡ bad_edge g i
    unfolding bad_edge edge_or
    edge-good b e h = rw (← is_made, e, h)

-- ---- lengths
and-end : (b : Bool) → b ≡ (b && true)
and-end true = refl
and-end false = refl

-- as one test of each
are-each : (n : ℕ) (ks : List ℕ) → list_all (λ k. k == n) ks ≡ all_are n ks
unfolding all_are
are-each n [] = refl
are-each n (k ∷ ks) = rw (are-each n ks) refl

are-first : (l : ℕ) (ls : List ℕ) → all_are l (l ∷ ls) ≡ all_are l ls
unfolding all_are
are-first l ls = rw (eq-eqb l l refl) refl

-- a group, where the code has compared each length with the first
module _ (ns : List ℕ) (gs : List (List ℕ)) {fit : Bool} (is-fit : fit ≡ list_all (λ k. k == get_or ns 0 0) ns) where
  pub same_not : fit ≡ false → fit ≡ all_same (ns ∷ gs)
  unfolding all_same all_are
  same_not h = go ns is-fit
    where
      go : (ls : List ℕ) → fit ≡ list_all (λ k. k == get_or ls 0 0) ls → fit ≡ all_same (ls ∷ gs)
      go [] e = absurd (not-both true refl (sym e ∙ h))
      go (l ∷ ls) e = let k : fit ≡ all_are l ls = e ∙ are-each l (l ∷ ls) ∙ are-first l ls in rw (← k, h) refl

  pub same-on : fit ≡ true → {others : Bool} → others ≡ all_same gs → others ≡ all_same (ns ∷ gs)
  unfolding all_same all_are
  same-on h {others} f = go ns is-fit
    where
      go : (ls : List ℕ) → fit ≡ list_all (λ k. k == get_or ls 0 0) ls → others ≡ all_same (ls ∷ gs)
      go [] e = f
      go (l ∷ ls) e = let k : fit ≡ all_are l ls = e ∙ are-each l (l ∷ ls) ∙ are-first l ls in rw (← k, h) f

-- the last group
pub same-last : (ns : List ℕ) {fit : Bool} → fit ≡ list_all (λ k. k == get_or ns 0 0) ns → fit ≡ all_same (ns ∷ [])
unfolding all_same
same-last ns {fit} e = ⊎_elim (λ h. same-on ns [] e h h) (λ h. same_not ns [] e h) (true-or-false fit)

-- refusal 1: the query's lists and the lent columns
same_parts : (q : Query) (memo log : List ℕ) → (all_same (query_groups q) && all_same (memo ∷ log ∷ [])) ≡ all_same (groups q memo log)
unfolding groups all_same
same_parts q memo log = and_parts (all_are (table_count q.graph) (length q.scans ∷ []))
    (all_are (edge_count q.graph) (length q.graph.right ∷ length q.graph.divisors ∷ []))
    (all_are (method_count q) (length q.per_outer ∷ length q.per_inner ∷ length q.per_result ∷ []))
    (all_same (memo ∷ log ∷ []))
  where
    and_parts : (a b d e : Bool) → ((a && (b && (d && true))) && e) ≡ (a && (b && (d && e)))
    and_parts false b d e = refl
    and_parts true false d e = refl
    and_parts true true false e = refl
    and_parts true true true e = refl

module _ (q : Query) (memo log : List ℕ) (fit : Bool) (is-fit : fit ≡ all_same (query_groups q)) where
  pub parts-not : fit ≡ false → fit ≡ all_same (groups q memo log)
  parts-not h = h ∙ rw (← is-fit, h) at (same_parts q memo log)

  pub parts-on : fit ≡ true → (lent : Bool) → lent ≡ all_same (memo ∷ log ∷ []) → lent ≡ all_same (groups q memo log)
  parts-on h lent e = e ∙ rw (← is-fit, h) at (same_parts q memo log)

-- ---- one check after another
-- a verdict without a number has no place: it may stand last
abbrev Clean : Verdict → Type 0
Clean v = v.number ≡ 0 → v ≡ none

clean-last : (v : Verdict) → Clean v → v ≡ first_of (v ∷ [])
unfolding first_of
clean-last v h = ⊎_elim (λ e. rw e (h (eqb-true v.number 0 e))) (λ e. rw e) (true-or-false (eqb v.number 0))

bad-clean : (f : ℕ → ℕ) (i n : ℕ) → Clean (first_bad f i n)
unfolding first_bad
bad-clean f i zero e = refl
bad-clean f i (suc n) e = go (bad-clean f (suc i) n) (true-or-false (eqb (f i) 0)) e
  where
    go : Clean (first_bad f (suc i) n) → (eqb (f i) 0 ≡ true) ⊎ (eqb (f i) 0 ≡ false) → Clean (cond (eqb (f i) 0) (first_bad f (suc i) n) (record { number = f i; place = i }))
    go ih (inl z) h = rw z (ih (rw z at h))
    go ih (inr z) h = absurd (eqb-false (f i) 0 z (rw z at h))

bad_last : (f : ℕ → ℕ) (i n : ℕ) → first_bad f i n ≡ first_of (first_bad f i n ∷ [])
bad_last f i n = clean-last (first_bad f i n) (bad-clean f i n)

module _ (n : ℕ) (b : Bool) (vs : List Verdict) (fit : Bool) (is-fit : fit ≡ b) where
  refused-here : not fit ≡ true → record { number = suc n; place = 0 } ≡ first_of (refuse (suc n) (not b) ∷ vs)
  unfolding first_of refuse
  refused-here h = rw (← is-fit, not-true fit h, ne_eqb (suc n) 0 (λ e. omega arith))

  refused-on : not fit ≡ false → first_of vs ≡ first_of (refuse (suc n) (not b) ∷ vs)
  unfolding first_of refuse
  refused-on h = rw (← is-fit, not-false fit h)

-- a count that must fit, and then each record
module _ (n : ℕ) (b : Bool) (f : ℕ → ℕ) (k : ℕ) (fit : Bool) (is-fit : fit ≡ b) where
  pub count-refused : not fit ≡ true → record { number = suc n; place = 0 } ≡ first_of (refuse (suc n) (not b) ∷ first_bad f 0 k ∷ [])
  count-refused h = refused-here n b (first_bad f 0 k ∷ []) fit is-fit h

  pub count_fits : not fit ≡ false → (v : Verdict) → v ≡ first_bad f 0 k → v ≡ first_of (refuse (suc n) (not b) ∷ first_bad f 0 k ∷ [])
  count_fits h v e = e ∙ bad_last f 0 k ∙ refused-on n b (first_bad f 0 k ∷ []) fit is-fit h

-- ---- workers and scheme
refused-false : (made : Option Crew) (c : Crew) → made ≡ Some c → is_refused made ≡ false
unfolding is_refused
refused-false made c e = rw e

refused-true : (made : Option Crew) → made ≡ None → is_refused made ≡ true
unfolding is_refused
refused-true made e = rw e

module _ (workers scheme : ℕ) (turns : List ℕ) (made : Option Crew) (is_made : made ≡ new_crew workers scheme) where
  pub crew-good : (c : Crew) → made ≡ Some c → (v : Verdict) → v ≡ first_bad (bad_turn workers turns) 0 (length turns) → v ≡ first_of (crew_checks workers scheme turns)
  unfolding first_of refuse
  crew-good c e v h = h ∙ bad_last (bad_turn workers turns) 0 (length turns) ∙ rw (← is_made, refused-false made c e)

  pub crew-refused : made ≡ None → record { number = 11; place = 0 } ≡ first_of (crew_checks workers scheme turns)
  unfolding first_of refuse
  crew-refused e = rw (← is_made, refused-true made e)

-- ---- the parts of the list of checks
none_first : (v : Verdict) (vs : List Verdict) → (first_of (v ∷ vs)).number ≡ 0 → (v.number ≡ 0) × ((first_of vs).number ≡ 0)
unfolding first_of
none_first v vs e = go (true-or-false (eqb v.number 0)) e
  where
    go : (eqb v.number 0 ≡ true) ⊎ (eqb v.number 0 ≡ false) → (cond (eqb v.number 0) (first_of vs) v).number ≡ 0 → (v.number ≡ 0) × ((first_of vs).number ≡ 0)
    go (inl z) h = (eqb-true v.number 0 z, rw z at h)
    go (inr z) h = absurd (eqb-false v.number 0 z (rw z at h))

first-append : (vs ws : List Verdict) → first_of (vs ++ ws) ≡ cond (eqb (first_of vs).number 0) (first_of ws) (first_of vs)
unfolding first_of
first-append [] ws = refl
first-append (v ∷ vs) ws = ⊎_elim (λ z. rw z (first-append vs ws)) (λ z. rw z (rw z)) (true-or-false (eqb v.number 0))

module _ (vs ws : List Verdict) (v : Verdict) (is-first : v ≡ first_of vs) where
  part-here : (v.number ≡ 0 → ⊥) → v ≡ first_of (vs ++ ws)
  part-here z = rw (first-append vs ws, ← is-first, ne_eqb v.number 0 z)

  part-on : v.number ≡ 0 → first_of ws ≡ first_of (vs ++ ws)
  part-on z = rw (first-append vs ws, ← is-first, eq-eqb v.number 0 z)

-- ---- the set of all tables, as the code shifts it
module _ (n : ℕ) (few : n ≤ max_tables) where
  pub full-some : 1 ≤ 1 * 2 ^ n % 2 ^ 64
  full-some = rw (shifted_one n (omega arith)) (omega (arith, pow_pos n))

  pub full_is : 1 * 2 ^ n % 2 ^ 64 - 1 ≡ full n
  full_is = rw (shifted_one n (omega arith))

-- ---- edges, and then whether the graph is connected
module _ (g : Graph) (edges : Verdict) (is-edges : edges ≡ first_bad (bad_edge g) 0 (edge_count g)) where
  pub graph-edges : (edges.number ≡ 0 → ⊥) → edges ≡ first_of (graph_checks g)
  unfolding first_of
  graph-edges z = rw (← is-edges, ne_eqb edges.number 0 z)

  module _ (z : edges.number ≡ 0) (s : ℕ) (is-s : s ≡ full (table_count g)) (b : Bool) (is_b : b ≡ is_yes (connected? g s)) where
    pub graph-apart : b ≡ false → record { number = 10; place = 0 } ≡ first_of (graph_checks g)
    unfolding first_of refuse
    graph-apart h = rw (← is-edges, eq-eqb edges.number 0 z, ← is-s, ← is_b, h)

    pub graph-whole : b ≡ true → none ≡ first_of (graph_checks g)
    unfolding first_of refuse
    graph-whole h = rw (← is-edges, eq-eqb edges.number 0 z, ← is-s, ← is_b, h)

  pub good-graph : TablesGood g → edges.number ≡ 0 → GoodGraph g
  good-graph t z = record {
    right = t.right;
    divisors = t.divisors;
    some-table = t.some-table;
    few-tables = t.few-tables;
    rows = t.rows;
    edges = λ i l. edge-true g i (none-bad (bad_edge g) 0 (edge_count g) (rw is-edges at z) i (omega arith) (omega arith));
  }

-- ---- all of them: what the code knows where it returns
pub same-query : (q : Query) (memo log : List ℕ) (fit : Bool) → fit ≡ all_same (groups q memo log) → not fit ≡ false → SameLengths q
same-query q memo log fit e h = lengths-of q memo log (same_true (groups q memo log) (sym e ∙ not-false fit h))

module _ (q : Query) (same : SameLengths q) (tables : Verdict) (is-tables : tables ≡ first_of (table_checks q.graph.rows q.scans)) where
  pub tables-good : tables.number ≡ 0 → TablesGood q.graph
  tables-good z = record {
    right = same.right;
    divisors = same.divisors;
    some-table = count.0;
    few-tables = count.1;
    rows = λ i l. (table-true q i (none-bad (bad_table q.graph.rows q.scans) 0 n bad i (omega arith) (omega arith))).0;
  }
    where
      n : ℕ
      n = table_count q.graph

      both : ((refuse 2 (not (tables_fit n))).number ≡ 0) × ((first_of (first_bad (bad_table q.graph.rows q.scans) 0 n ∷ [])).number ≡ 0)
      both = none_first (refuse 2 (not (tables_fit n))) (first_bad (bad_table q.graph.rows q.scans) 0 n ∷ []) (rw is-tables at z)

      bad : (first_bad (bad_table q.graph.rows q.scans) 0 n).number ≡ 0
      bad = (none_first (first_bad (bad_table q.graph.rows q.scans) 0 n) [] both.1).0

      count : (1 ≤ n) × (n ≤ max_tables)
      count = range 1 max_tables n (not-false (tables_fit n) (none-refuse 1 (not (tables_fit n)) both.0))

module _ (q : Query) (workers scheme : ℕ) (turns memo log : List ℕ) (fit : Bool) (is-fit : fit ≡ all_same (groups q memo log)) where
  -- what is left after the checks of tables
  abbrev after-tables : List Verdict
  after-tables = method_checks q.fixed q.per_outer q.per_inner q.per_result ++ (graph_checks q.graph ++ crew_checks workers scheme turns)

  -- and after those of methods
  abbrev after-methods : List Verdict
  after-methods = graph_checks q.graph ++ crew_checks workers scheme turns

  -- refusals 1 to 12
  abbrev All : Verdict
  All = first_of (checks_of q workers scheme turns memo log)

  pub check-lengths : not fit ≡ true → record { number = 1; place = 0 } ≡ All
  unfolding checks_of
  check-lengths h = refused-here 0 (all_same (groups q memo log)) (table_checks q.graph.rows q.scans ++ after-tables) fit is-fit h

  module _ (same : not fit ≡ false) (tables : Verdict) (is-tables : tables ≡ first_of (table_checks q.graph.rows q.scans)) where
    from-tables : first_of (table_checks q.graph.rows q.scans ++ after-tables) ≡ All
    unfolding checks_of
    from-tables = refused-on 0 (all_same (groups q memo log)) (table_checks q.graph.rows q.scans ++ after-tables) fit is-fit same

    pub check-tables : (tables.number ≡ 0 → ⊥) → tables ≡ All
    check-tables z = part-here (table_checks q.graph.rows q.scans) after-tables tables is-tables z ∙ from-tables

    module _ (z₁ : tables.number ≡ 0) (methods : Verdict) (is-methods : methods ≡ first_of (method_checks q.fixed q.per_outer q.per_inner q.per_result)) where
      from-methods : first_of after-tables ≡ All
      from-methods = part-on (table_checks q.graph.rows q.scans) after-tables tables is-tables z₁ ∙ from-tables

      pub check-methods : (methods.number ≡ 0 → ⊥) → methods ≡ All
      check-methods z = part-here (method_checks q.fixed q.per_outer q.per_inner q.per_result) after-methods methods is-methods z ∙ from-methods

      module _ (z₂ : methods.number ≡ 0) (graph : Verdict) (is-graph : graph ≡ first_of (graph_checks q.graph)) where
        from-graph : first_of after-methods ≡ All
        from-graph = part-on (method_checks q.fixed q.per_outer q.per_inner q.per_result) after-methods methods is-methods z₂ ∙ from-methods

        pub check-graph : (graph.number ≡ 0 → ⊥) → graph ≡ All
        check-graph z = part-here (graph_checks q.graph) (crew_checks workers scheme turns) graph is-graph z ∙ from-graph

        pub check-crew : (crew : Verdict) → crew ≡ first_of (crew_checks workers scheme turns) → graph.number ≡ 0 → crew ≡ All
        check-crew crew is-crew z = is-crew ∙ part-on (graph_checks q.graph) (crew_checks workers scheme turns) graph is-graph z ∙ from-graph

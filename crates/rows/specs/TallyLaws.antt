-- Laws of the tally's start and end.
use Rattle.std.specs.Prelude.{◌≡◌, refl, false, cond, List, [], ℕ, ◌+◌, ◌-◌, ◌*◌, zero, suc, ◌≤◌, ◌<◌, ltb, length, get_or, replicate, sum, take, drop}
use Rattle.std.proofs.Common.{sym, ap, ◌∙◌, arith, add-one, length-drop, lt-ltb, le-ltb}
use Rattle.std.proofs.Math.Decide.{dec_lt}
use Rattle.std.proofs.lemmas.List.{length-replicate, get_or-replicate}
use Rattle.std.proofs.Math.ListN.{get_or-eq_default}
use Rattle.std.proofs.lemmas.Grind.{get_or_after_one}
use Rattle.std.proofs.lemmas.List.Sums.{sum_by_more}
use Rattle.rules.specs.Limits.{max_tables}
use Rattle.rules.specs.Query.{Graph, table_count}
use Rattle.rules.specs.Checked.{GoodGraph}
use Rattle.rules.specs.laws.Sets.{holds-pos}
use Rattle.rules.specs.laws.Decide.{connected?}
use Rattle.graph.specs.Walk.{walk}
use Rattle.graph.specs.Near.{Near}
use Rattle.graph.specs.declared.chosen.Chosen.{Chosen}
use Rattle.graph.specs.Node.{Node}
use Rattle.query.specs.ConnectedLaws.{no-yes}
use Rattle.rows.specs.Tally.{found, Tallied, Counting, Tally}
use Rattle.rules.specs.Rows.{rows_of}
use Rattle.rows.specs.Sizes.{up_to}
use Rattle.rows.specs.WalkLaws.{walk-fits, up_to-none, length_more, rows_fit}
use Rattle.rows.specs.FoundLaws.{found_first}

-- ---- the tally's start and end
found-fits : (g : Graph) (n s z t chosen : ℕ) → n ≤ max_tables → 1 ≤ t → length (found g s z t (n + 1 - t) chosen) ≤ 65536
unfolding found
found-fits g n s z t chosen few l = go (dec_lt z s)
  where
    go : Dec (z < s) → length (cond (ltb z s) (walk g (s - z) t (n + 1 - t) chosen) []) ≤ 65536
    go (yes h) = rw (lt-ltb z s h) (walk-fits g n (s - z) t chosen few l)
    go (no h) = rw (le-ltb z s (omega arith)) (omega arith)

-- no table chosen
abbrev pub nothing : Chosen
nothing = record { set = 0; size = 0; around = 0; joined = false }

pub root : (g : Graph) (near : List ℕ) → GoodGraph g → Near g near → Node g near (table_count g) 1 nothing
root g near good n = record {
  near-sets = n;
  count = refl;
  few = good.few-tables;
  some = omega arith;
  last = omega arith;
  below = omega arith;
  touched = λ u h. absurd (omega (arith, holds-pos 0 u h));
  touches = λ u v h k. absurd (omega (arith, holds-pos 0 v h));
  told = sym (no-yes (connected? g 0) (λ c. omega (arith, c.some)));
}

-- the tally's cells before the walk
pub zero-cells : (n m k : ℕ) → k ≤ m → get_or {A = ℕ} (replicate n 0) k 0 ≡ 0
zero-cells n m k l = go (dec_lt k n)
  where
    none : ℕ
    none = 0

    go : Dec (k < n) → get_or (replicate n none) k none ≡ none
    go (yes h) = get_or-replicate n k none none h
    go (no h) = get_or-eq_default (replicate n none) none (omega (arith, length-replicate n none))

pub counting-root : (g : Graph) (near counts : List ℕ) → GoodGraph g → Near g near → table_count g < length counts → ((k : ℕ) → k ≤ table_count g → get_or counts k 0 ≡ 0) → Counting near (table_count g) 1 nothing counts
counting-root g near counts good n l h = record {
  g = g;
  node = root g near good n;
  smaller = omega arith;
  long = l;
  room = λ s k. omega (arith, h s k, found-fits g (table_count g) s 0 1 0 good.few-tables (omega arith));
}

pub tallied-root : (g : Graph) (counts : List ℕ) {new : List ℕ} → table_count g < length new → ((k : ℕ) → k ≤ table_count g → get_or counts k 0 ≡ 0) → Tallied g (table_count g) 1 0 0 counts new → Tally g new
tallied-root g counts l h t = record { long = l; sizes = λ k i. omega (arith, t.sizes (k + 1) (omega arith), h (k + 1) (omega arith), ap length (found_first g k)) }

-- ---- the tally's sum
pub sum-up_to : {g : Graph} {counts : List ℕ} → Tally g counts → table_count g ≤ max_tables → (k : ℕ) → k ≤ table_count g → (sum (take k (drop 1 counts)) ≡ length (up_to g k)) × (length (up_to g k) ≤ k * 65536)
sum-up_to {g} {counts} t few zero l = (sym (ap length (up_to-none g)), omega (arith, ap length (up_to-none g)))
sum-up_to {g} {counts} t few (suc k) l =
    let before = sum-up_to t few k (omega arith) in
    let inside : k < length (drop 1 counts) = omega (arith, t.long, length-drop 1 counts) in
    let here : get_or (drop 1 counts) k 0 ≡ length (rows_of g (k + 1)) = get_or_after_one counts k 0 ∙ ap (λ (i : ℕ). get_or counts i 0) (omega arith) ∙ t.sizes k (omega arith) in
    rw (← add-one k) (omega (arith, before.0, sum_by_more (λ (x : ℕ). x) (drop 1 counts) k 0 inside, here, length_more g k), omega (arith, before.1, length_more g k, rows_fit g (k + 1) few))

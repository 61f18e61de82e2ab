-- Laws of what a node of the walk finds, and of one step of the tally.
use Rattle.std.specs.Prelude.{◌≡◌, Bool, true, false, ◌⊎◌, ℕ, ◌+◌, ◌-◌, ◌≤◌, ◌<◌, ltb, eqb, length, get_or, set}
use Rattle.std.proofs.Math.Path.{refl, ap}
use Rattle.std.proofs.Common.{sym, ◌∙◌, inl, inr, length-append, length-set, get_or-set_same, get_or-set_other}
use Rattle.std.proofs.Math.Bool.{cond}
use mathlib.Core.List.{List, [], ◌∷◌, ◌++◌}
use Rattle.std.proofs.Math.Decide.{dec_lt, ℕ_discrete}
use native.Mathlib.Omega.{arith}
use borrow.Author.Tests.{eq-eqb, ne_eqb, lt-ltb, le-ltb}
use mir.Val.{bool_byte}
use Rattle.rules.specs.Lists.{is_yes}
use Rattle.rules.specs.Sets.{single}
use Rattle.rules.specs.Query.{Graph, table_count, at}
use Rattle.rules.specs.Rows.{rows_of}
use Rattle.rules.specs.laws.Bools.{true-or-false}
use Rattle.rules.specs.laws.Decide.{connected?}
use Rattle.graph.specs.Walk.{walk}
use Rattle.graph.specs.declared.chosen.Chosen.{Chosen}
use Rattle.graph.specs.Node.{taking, Node}
use Rattle.graph.specs.NodeLaws.{node-with, node-without}
use Rattle.rows.specs.Tally.{found, here, Tallied, Counting}
use Rattle.rows.specs.WalkLaws.{walk-few, walk-hit, walk-miss, walk_step, rows_start}

-- ---- what a node finds
pub found_none : (g : Graph) (z t m chosen : ℕ) → ((k : ℕ) → 0 < k → walk g k t m chosen ≡ []) → (s : ℕ) → found g s z t m chosen ≡ []
unfolding found
found_none g z t m chosen h s = go (dec_lt z s)
  where
    go : Dec (z < s) → cond (ltb z s) (walk g (s - z) t m chosen) [] ≡ []
    go (yes l) = rw (lt-ltb z s l) (h (s - z) (omega arith))
    go (no l) = rw (le-ltb z s (omega arith)) refl

pub found-last : (g : Graph) (n z t chosen : ℕ) → n < t → (s : ℕ) → found g s z t (n + 1 - t) chosen ≡ []
found-last g n z t chosen l = found_none g z t (n + 1 - t) chosen (λ k p. walk-few g k t (n + 1 - t) chosen (omega arith))

pub found_first : (g : Graph) (k : ℕ) → found g (k + 1) 0 1 (table_count g + 1 - 1) 0 ≡ rows_of g (k + 1)
unfolding found
found_first g k =
    let e : k + 1 - 0 ≡ k + 1 = omega arith in
    rw (lt-ltb 0 (k + 1) (omega arith), e) (rows_start g (k + 1))

module _ (g : Graph) (n t chosen x z : ℕ) (row : Bool) (l : t ≤ n) (e : x ≡ single t) (r : row ≡ is_yes (connected? g (chosen + x))) where
  first-row : (k : ℕ) → k ≡ 0 → walk g k (t + 1) (n + 1 - (t + 1)) (chosen + x) ≡ cond row ((chosen + x) ∷ []) []
  first-row k i = go (true-or-false row)
    where
      go : (row ≡ true) ⊎ (row ≡ false) → walk g k (t + 1) (n + 1 - (t + 1)) (chosen + x) ≡ cond row ((chosen + x) ∷ []) []
      go (inl b) = rw b (walk-hit g (t + 1) (n + 1 - (t + 1)) (chosen + x) k i (sym r ∙ b))
      go (inr b) = rw b (walk-miss g (t + 1) (n + 1 - (t + 1)) (chosen + x) k i (sym r ∙ b))

  -- the row that table t makes, what is found with it, what is found without
  pub found-step : (s : ℕ) → found g s z t (n + 1 - t) chosen ≡ here row (chosen + x) z s ++ (found g s (z + 1) (t + 1) (n + 1 - (t + 1)) (chosen + x) ++ found g s z (t + 1) (n + 1 - (t + 1)) chosen)
  unfolding found here
  found-step s = go (dec_lt z s) (ℕ_discrete s (z + 1))
    where
      go : Dec (z < s) → Dec (s ≡ z + 1)
          → cond (ltb z s) (walk g (s - z) t (n + 1 - t) chosen) [] ≡ cond (eqb s (z + 1)) (cond row ((chosen + x) ∷ []) []) [] ++ (cond (ltb (z + 1) s) (walk g (s - (z + 1)) (t + 1) (n + 1 - (t + 1)) (chosen + x)) [] ++ cond (ltb z s) (walk g (s - z) (t + 1) (n + 1 - (t + 1)) chosen) [])
      go (no a) b = rw (le-ltb z s (omega arith), ne_eqb s (z + 1) (λ i. omega arith), le-ltb (z + 1) s (omega arith)) refl
      go (yes a) (yes b) =
          rw (lt-ltb z s a, eq-eqb s (z + 1) b, le-ltb (z + 1) s (omega arith))
          (walk_step g n (s - z) t chosen x (omega arith) l e ∙ ap (λ (m : List ℕ). m ++ walk g (s - z) (t + 1) (n + 1 - (t + 1)) chosen) (first-row (s - z - 1) (omega arith)))
      go (yes a) (no b) =
          let i : s - z - 1 ≡ s - (z + 1) = omega arith in
          rw (lt-ltb z s a, ne_eqb s (z + 1) b, lt-ltb (z + 1) s (omega arith))
          (walk_step g n (s - z) t chosen x (omega arith) l e ∙ ap (λ (k : ℕ). walk g k (t + 1) (n + 1 - (t + 1)) (chosen + x) ++ walk g (s - z) (t + 1) (n + 1 - (t + 1)) chosen) i)

  pub found-length : (s : ℕ) → length (found g s z t (n + 1 - t) chosen) ≡ length (here row (chosen + x) z s) + (length (found g s (z + 1) (t + 1) (n + 1 - (t + 1)) (chosen + x)) + length (found g s z (t + 1) (n + 1 - (t + 1)) chosen))
  found-length s =
      ap length (found-step s)
      ∙ length-append (here row (chosen + x) z s) (found g s (z + 1) (t + 1) (n + 1 - (t + 1)) (chosen + x) ++ found g s z (t + 1) (n + 1 - (t + 1)) chosen)
      ∙ ap (λ (k : ℕ). length (here row (chosen + x) z s) + k) (length-append (found g s (z + 1) (t + 1) (n + 1 - (t + 1)) (chosen + x)) (found g s z (t + 1) (n + 1 - (t + 1)) chosen))

-- ---- counting
-- one more where there is a row
pub one-more : (row : Bool) (n : ℕ) {b : ℕ} → b ≡ bool_byte row → n + b ≡ cond row (n + 1) n
one-more true n e = omega arith
one-more false n e = omega arith

-- the count of one size goes up where there is a row
pub count-here : (row : Bool) (with z : ℕ) (l : List ℕ) {v : ℕ} → z + 1 < length l → v ≡ cond row (get_or l (z + 1) 0 + 1) (get_or l (z + 1) 0) → (s : ℕ) → get_or (set l (z + 1) v) s 0 ≡ get_or l s 0 + length (here row with z s)
unfolding here
count-here row with z l {v} b e s = go (ℕ_discrete s (z + 1)) (true-or-false row)
  where
    go : Dec (s ≡ z + 1) → (row ≡ true) ⊎ (row ≡ false) → get_or (set l (z + 1) v) s 0 ≡ get_or l s 0 + length (cond (eqb s (z + 1)) (cond row (with ∷ []) []) [])
    go (yes i) (inl r) = rw (i, eq-eqb (z + 1) (z + 1) refl, r) (get_or-set_same l (z + 1) v 0 b ∙ (rw r at e))
    go (yes i) (inr r) = rw (i, eq-eqb (z + 1) (z + 1) refl, r) (get_or-set_same l (z + 1) v 0 b ∙ (rw r at e) ∙ omega arith)
    go (no i) r = rw (ne_eqb s (z + 1) i) (get_or-set_other l (z + 1) s v 0 i ∙ omega arith)

module _ {g : Graph} {n t chosen z : ℕ} where
  pub tallied-none : (old : List ℕ) → ((s : ℕ) → found g s z t (n + 1 - t) chosen ≡ []) → Tallied g n t chosen z old old
  tallied-none old h = record { sizes = λ s l. rw (h s) (omega arith) }

  pub tallied-step : (x : ℕ) (row : Bool) (old : List ℕ) {v : ℕ} {mid new : List ℕ} → t ≤ n → x ≡ single t → row ≡ is_yes (connected? g (chosen + x)) → z + 1 < length old → v ≡ cond row (get_or old (z + 1) 0 + 1) (get_or old (z + 1) 0)
      → Tallied g n (t + 1) (chosen + x) (z + 1) (set old (z + 1) v) mid → Tallied g n (t + 1) chosen z mid new → Tallied g n t chosen z old new
  tallied-step x row old {v} l e r b w first second = record {
    sizes = λ s k. omega (arith, first.sizes s k, second.sizes s k, count-here row (chosen + x) z old b w s, found-length g n t chosen x z row l e r s);
  }

module _ {near : List ℕ} {n t : ℕ} {chosen : Chosen} {counts : List ℕ} (c : Counting near n t chosen counts) (x : ℕ) (row : Bool) (l : t ≤ n) (e : x ≡ single t)
    (r : (g : Graph) → Node g near n t chosen → row ≡ is_yes (connected? g (chosen.set + x))) {v : ℕ} (w : v ≡ cond row (get_or counts (chosen.size + 1) 0 + 1) (get_or counts (chosen.size + 1) 0)) where
  inside-counts : chosen.size + 1 < length counts
  inside-counts = omega (arith, c.smaller, c.long)

  pub counting-with : Counting near n (t + 1) (taking chosen x (at near t) row) (set counts (chosen.size + 1) v)
  counting-with = record {
    g = c.g;
    node = node-with c.node x l e row (r c.g c.node);
    smaller = omega (arith, c.smaller);
    long = omega (arith, c.long, length-set counts (chosen.size + 1) v);
    room = λ s k. omega (arith, c.room s k, count-here row (chosen.set + x) chosen.size counts inside-counts w s, found-length c.g n t chosen.set x chosen.size row l e (r c.g c.node) s);
  }

  pub counting-without : {mid : List ℕ} → length mid ≡ length (set counts (chosen.size + 1) v) → ((g : Graph) → Node g near n (t + 1) (taking chosen x (at near t) row) → Tallied g n (t + 1) (chosen.set + x) (chosen.size + 1) (set counts (chosen.size + 1) v) mid) → Counting near n (t + 1) chosen mid
  counting-without {mid} i h = record {
    g = c.g;
    node = node-without c.node l;
    smaller = omega (arith, c.smaller);
    long = omega (arith, c.long, length-set counts (chosen.size + 1) v);
    room = λ s k. omega (arith, c.room s k, count-here row (chosen.set + x) chosen.size counts inside-counts w s, found-length c.g n t chosen.set x chosen.size row l e (r c.g c.node) s, (h c.g (node-with c.node x l e row (r c.g c.node))).sizes s k);
  }

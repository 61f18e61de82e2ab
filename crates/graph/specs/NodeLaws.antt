-- Laws of a node of the walk: its questions, and the nodes after it.
use Rattle.std.specs.Prelude.{◌≡◌, refl, Bool, true, false, not, List, [], ◌⊎◌, ℕ, ◌+◌, ◌-◌, ◌^◌, ◌≤◌, ◌<◌}
use Rattle.std.proofs.Common.{sym, ◌∙◌, inl, inr, arith, pow_mono}
use Rattle.std.proofs.Math.Decide.{dec_lt}
use Rattle.std.specs.Int.Bits.{bit_or}
use Rattle.std.proofs.lemmas.Bool.{not-true}
use Rattle.rules.specs.Lists.{is_yes}
use Rattle.rules.specs.Sets.{holds, Splits, single, Disjoint}
use Rattle.rules.specs.Query.{Graph, table_count, at, IsTable, Linked, Between}
use Rattle.rules.specs.Connected.{Connected}
use Rattle.rules.specs.laws.Bools.{true-or-false, yes_true, true-yes}
use Rattle.rules.specs.laws.Sets.{holds-pos, holds-lt, holds-sum, holds-apart, holds-single, holds-single-only}
use Rattle.rules.specs.laws.Connected.{within_same, connected-join, connected-single, connected-between}
use Rattle.rules.specs.laws.Decide.{connected?}
use Rattle.query.specs.ConnectedLaws.{no-yes}
use Rattle.graph.specs.Walk.{walk, onward}
use Rattle.graph.specs.Near.{Told}
use Rattle.graph.specs.Node.{taking, Node, Grows, Stuck}
use Rattle.graph.specs.declared.chosen.Chosen.{Chosen}
use Rattle.graph.specs.ApartLaws.{apart-tables, onward-holds, walk-without, walk-apart, below-with, below-without}
use Rattle.graph.specs.NearLaws.{in_left, in_right, shared, either-of, either_left, either-right}

-- ---- a node's sets
module _ {g : Graph} {near : List ℕ} {n t : ℕ} {chosen : Chosen} (d : Node g near n t chosen) where
  -- the tables from t on are x - y
  pub later-fits : chosen.set + onward n t < 2 ^ table_count g
  later-fits = rw (sym d.count) (omega (arith, d.below, pow_mono {i = t - 1} {j = n} (omega (arith, d.last))))

  module _ (x : ℕ) (l : t ≤ n) (e : x ≡ single t) where
    taken : Splits (chosen.set + x) chosen.set x
    taken = record { apart = apart-tables chosen.set x (λ u a b. omega (arith, holds-lt (t - 1) chosen.set u d.below a, holds-single-only t u d.some (rw e at b), d.some)); whole = refl }

    table-t : IsTable g t
    table-t = record { from_one = d.some; to-count = omega (arith, d.count) }

    with-below : chosen.set + x < 2 ^ (t + 1 - 1)
    with-below = rw e (below-with t chosen.set d.some d.below)

    with-fits-in : chosen.set + x < 2 ^ table_count g
    with-fits-in = rw (sym d.count) (omega (arith, with-below, pow_mono {i = t + 1 - 1} {j = n} (omega arith)))

    in-x : holds x t ≡ 1
    in-x = rw e (holds-single t d.some)

    -- where the chosen tables are none
    pub first-grows : chosen.set ≡ 0 → true ≡ is_yes (connected? g (chosen.set + x))
    first-grows z =
        let s : chosen.set + x ≡ single t = omega (arith, e) in
        sym (true-yes (connected? g (chosen.set + x)) (rw s (connected-single g t table-t)))

    -- where no edge leads to table t
    pub never-grows : (chosen.set ≡ 0 → ⊥) → Disjoint chosen.around x → false ≡ is_yes (connected? g (chosen.set + x))
    never-grows z a = sym (no-yes (connected? g (chosen.set + x)) (λ c. alone (connected-between c taken (omega arith) (holds-pos x t in-x))))
      where
        alone : Between g chosen.set x → ⊥
        alone b = omega (arith, d.touches b.to b.from b.from_in b.linked, b.to_in, holds-apart chosen.around x b.to a)

    -- where one does, and the chosen tables are connected
    pub linked-grows : (Disjoint chosen.around x → ⊥) → chosen.joined ≡ true → true ≡ is_yes (connected? g (chosen.set + x))
    linked-grows a j =
        let o = shared chosen.around x a in
        let v = d.touched o.0 o.1 in
        sym (true-yes (connected? g (chosen.set + x)) (connected-join (yes_true (connected? g chosen.set) (sym d.told ∙ j)) (rw (sym e) at (connected-single g t table-t)) taken (record { from = v.0; to = o.0; from_in = v.1; to_in = o.2; linked = v.2 })))

    -- where a flood has been asked
    pub asked-grows : (r : Bool) → Told near (chosen.set + x) (chosen.set + x) r → r ≡ is_yes (connected? g (chosen.set + x))
    asked-grows r h = go (true-or-false r)
      where
        go : (r ≡ true) ⊎ (r ≡ false) → r ≡ is_yes (connected? g (chosen.set + x))
        go (inl e) = e ∙ sym (true-yes (connected? g (chosen.set + x)) (h.meets e refl g d.near-sets with-fits-in))
        go (inr e) = e ∙ sym (no-yes (connected? g (chosen.set + x)) (λ c. (h.misses e g d.near-sets with-fits-in).none (chosen.set + x) c (within_same (chosen.set + x)) (within_same (chosen.set + x))))

    -- the next node, with table t, which may be a row
    pub node-with : (row : Bool) → row ≡ is_yes (connected? g (chosen.set + x)) → Node g near n (t + 1) (taking chosen x (at near t) row)
    node-with row r = record {
      near-sets = d.near-sets;
      count = d.count;
      few = d.few;
      some = omega arith;
      last = omega arith;
      below = with-below;
      touched = λ u h. touched-from u (either-of chosen.around (at near t) u h);
      touches = λ u v h k. touches-from u v h k (dec_lt 0 (holds x v));
      told = r;
    }
      where
        touched-from : (u : ℕ) → (holds chosen.around u ≡ 1) ⊎ (holds (at near t) u ≡ 1) → (v : ℕ) × (holds (chosen.set + x) v ≡ 1) × Linked g v u
        touched-from u (inl h) = let o = d.touched u h in (o.0, (in_left taken o.0 o.1), o.2)
        touched-from u (inr h) = (t, (in_right taken t in-x), d.near-sets.linked t u table-t h)

        touches-from : (u v : ℕ) → holds (chosen.set + x) v ≡ 1 → Linked g v u → Dec (0 < holds x v) → holds (bit_or chosen.around (at near t)) u ≡ 1
        touches-from u v h k (yes z) =
            let i : holds x v ≡ 1 = omega (arith, holds-sum chosen.set x v taken.apart, holds-apart chosen.set x v taken.apart) in
            let s : t ≡ v = holds-single-only t v d.some (rw e at i) in
            either-right chosen.around (at near t) u (d.near-sets.all t u (rw (sym s) at k))
        touches-from u v h k (no z) = either_left chosen.around (at near t) u (d.touches u v (omega (arith, holds-sum chosen.set x v taken.apart)) k)

  -- and without it
  pub node-without : t ≤ n → Node g near n (t + 1) chosen
  node-without l =
      record { near-sets = d.near-sets; count = d.count; few = d.few; some = omega arith; last = omega arith; below = below-without t chosen.set d.some d.below; touched = d.touched; touches = d.touches; told = d.told }

  module _ (rest : ℕ) (e : rest ≡ onward n t) where
    -- no edge leads on
    pub closed_none : (chosen.set ≡ 0 → ⊥) → Disjoint chosen.around rest → (k : ℕ) → 0 < k → walk g k t (n + 1 - t) chosen.set ≡ []
    closed_none p a = walk-without g n t chosen.set d.some d.last d.below lonely
      where
        lonely : (X : ℕ) → 0 < X → ((u : ℕ) → holds X u ≡ 1 → (t ≤ u) × (u ≤ n)) → Connected g (chosen.set + X) → ⊥
        lonely X q r c =
            let b = connected-between c (record { apart = apart-tables chosen.set X (λ u x y. omega (arith, holds-lt (t - 1) chosen.set u d.below x, (r u y).0)); whole = refl }) (omega arith) q in
            omega (arith, d.touches b.to b.from b.from_in b.linked, onward-holds n t b.to d.some (r b.to b.to_in).0 (r b.to b.to_in).1, holds-apart chosen.around (onward n t) b.to (rw e at a))

    -- the chosen tables cannot be joined any more
    pub apart_none : (r : Bool) → Told near (chosen.set + rest) chosen.set r → r ≡ false → (k : ℕ) → 0 < k → walk g k t (n + 1 - t) chosen.set ≡ []
    apart_none r h f k p = walk-apart g n t chosen.set d.some d.last d.below (rw e at (h.misses f g d.near-sets (rw e later-fits))) k

-- ---- the questions' answers
module _ (near : List ℕ) (chosen : Chosen) (x : ℕ) where
  pub grows-first : chosen.set ≡ 0 → Grows near chosen x true
  grows-first z = record { told = λ g n t d l e. first-grows d x l e z }

  pub grows-never : (chosen.set ≡ 0 → ⊥) → Disjoint chosen.around x → Grows near chosen x false
  grows-never z a = record { told = λ g n t d l e. never-grows d x l e z a }

  pub grows-linked : (Disjoint chosen.around x → ⊥) → chosen.joined ≡ true → Grows near chosen x true
  grows-linked a j = record { told = λ g n t d l e. linked-grows d x l e a j }

  pub grows-asked : (r : Bool) → Told near (chosen.set + x) (chosen.set + x) r → Grows near chosen x r
  grows-asked r h = record { told = λ g n t d l e. asked-grows d x l e r h }

  pub stuck-closed : (chosen.set ≡ 0 → ⊥) → Disjoint chosen.around x → Stuck near chosen x true
  stuck-closed z a = record { none = λ i g n t d e. closed_none d x e z a }

  pub stuck-asked : (r : Bool) → Told near (chosen.set + x) chosen.set r → Stuck near chosen x (not r)
  stuck-asked r h = record { none = λ i g n t d e. apart_none d x e r h (not-true r i) }

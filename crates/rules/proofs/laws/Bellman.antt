-- Bellman's principle: the best choice over the splits of S, priced with best parts, is the least cost of S and the pick of 01's tie rule.
use Rattle.std.specs.Prelude.{◌≡◌, ℕ, ◌+◌, ◌-◌, ◌≤◌, ◌<◌}
use Rattle.std.proofs.Math.Path.{refl, ap}
use Rattle.std.proofs.Common.{sym, ◌∙◌, le_antisymm, arith, pow_pos}
use Rattle.rules.specs.Offers.{Choice}
use Rattle.rules.specs.laws.Choice.{Best}
use Rattle.rules.specs.Sets.{size}
use Rattle.rules.specs.laws.Sets.{size-sum, size-pow, size-pos, holds-pos}
use Rattle.rules.specs.Query.{Graph, Query, IsMethod, Between}
use Rattle.rules.specs.Connected.{Connected}
use Rattle.rules.specs.Trees.{Tree, scan, join, tables_of, Joinable, Valid, price, cost_of, Inner, Least, Reaches, Pick}
use Rattle.rules.specs.laws.Connected.{connected-tree}

module _ (q : Query) (best : ℕ → ℕ) where
  -- outer part k.outer joined with an inner part, of cost k.cost by the table `best`
  pub record Offer (S : ℕ) (k : Choice) : Type 0 where
    pub other : ℕ
    pub outer-conn : Connected q.graph k.outer
    pub inner-conn : Connected q.graph other
    pub joinable : Joinable q.graph k.outer other
    pub shaped : Inner q other
    pub whole : k.outer + other ≡ S
    pub method : IsMethod q k.method
    pub costs : k.cost ≡ best k.outer + best other + price q k.outer other k.method

-- a tree has a table
pub tables_of-pos : (t : Tree) → 0 < tables_of t
unfolding tables_of
tables_of-pos (scan t) = pow_pos (t - 1)
tables_of-pos (join x y m) = omega (arith, tables_of-pos x, tables_of-pos y)

between_left : (g : Graph) (X Y : ℕ) → Between g X Y → 0 < X
between_left g X Y h = holds-pos X h.from h.from_in

between-right : (g : Graph) (X Y : ℕ) → Between g X Y → 0 < Y
between-right g X Y h = holds-pos Y h.to h.to_in

-- the least cost of a set is one number
pub least-unique : {q : Query} {S c c' : ℕ} → Least q S c → Least q S c' → c ≡ c'
least-unique {q} {S} {c} {c'} l l' = le_antisymm (rw l'.costs at (l.least l'.tree l'.valid l'.covers)) (rw l.costs at (l'.least l.tree l.valid l.covers))

-- the pick of a set is one join
pub pick-unique : {q : Query} {S x m x' m' : ℕ} → Pick q S x m → Pick q S x' m' → (x ≡ x') × (m ≡ m')
pick-unique {q} {S} {x} {m} {x'} {m'} p p' = (outer, le_antisymm (p.method-first x' m' p'.among outer) (p'.method-first x m p.among (sym outer)))
  where
    outer : x ≡ x'
    outer = le_antisymm (p.outer-first x' m' p'.among) (p'.outer-first x m p.among)

module _ (q : Query) (best : ℕ → ℕ) (S : ℕ) (two : 2 ≤ size S) (parts : (Y : ℕ) → Connected q.graph Y → size Y < size S → Least q Y (best Y)) where
  -- both parts of an offer are smaller than S, so that `best` is their least cost
  module _ {k : Choice} (o : Offer q best S k) where
    offer-sizes : size k.outer + size o.other ≡ size S
    offer-sizes = sym (size-sum k.outer o.other o.joinable.apart) ∙ ap size o.whole

    offer-outer : Least q k.outer (best k.outer)
    offer-outer = parts k.outer o.outer-conn (omega (arith, offer-sizes, size-pos o.other (between-right q.graph k.outer o.other o.joinable.between)))

    offer-inner : Least q o.other (best o.other)
    offer-inner = parts o.other o.inner-conn (omega (arith, offer-sizes, size-pos k.outer (between_left q.graph k.outer o.other o.joinable.between)))

    -- the tree that joins best trees of the two parts
    offer-tree : Tree
    offer-tree = join offer-outer.tree offer-inner.tree k.method

    offer-covers : tables_of offer-tree ≡ S
    unfolding offer-tree tables_of
    offer-covers = omega (arith, offer-outer.covers, offer-inner.covers, o.whole)

    offer-valid : Valid q offer-tree
    unfolding offer-tree Valid
    offer-valid = (
      offer-outer.valid,
      offer-inner.valid,
      rw (offer-outer.covers, offer-inner.covers) o.joinable,
      o.method,
      rw offer-inner.covers o.shaped,
    )

    offer-costs : cost_of q offer-tree ≡ k.cost
    unfolding offer-tree cost_of
    offer-costs = rw (offer-outer.covers, offer-inner.covers, offer-outer.costs, offer-inner.costs) (sym o.costs)

  -- the offer that a join of valid trees makes
  module _ (x y : Tree) (m : ℕ) (v : Valid q (join x y m)) (e : tables_of (join x y m) ≡ S) where
    abbrev made : Choice
    made = record { cost = best (tables_of x) + best (tables_of y) + price q (tables_of x) (tables_of y) m; outer = tables_of x; method = m }

    offered : Offer q best S made
    unfolding Valid tables_of
    offered = record {
      other = tables_of y;
      outer-conn = connected-tree q x v.0;
      inner-conn = connected-tree q y v.1;
      joinable = v.2;
      shaped = v.4;
      whole = e;
      method = v.3;
      costs = refl;
    }

  lower : {k : Choice} → Best (Offer q best S) k → (t : Tree) → Valid q t → tables_of t ≡ S → k.cost ≤ cost_of q t
  unfolding cost_of tables_of Valid offered
  lower b (scan t) v e = absurd (omega (arith, ap size e, size-pow (t - 1)))
  lower b (join x y m) v e =
      let o : Offer q best S (made x y m v e) = offered x y m v e in
      omega (arith, (b.first (made x y m v e) o).by-cost, (offer-outer o).least x v.0 refl, (offer-inner o).least y v.1 refl)

  -- THE THEOREM, first half: the best offer costs the least
  pub bellman-least : {k : Choice} → Best (Offer q best S) k → Least q S k.cost
  bellman-least {k} b = record {
    tree = offer-tree b.among;
    valid = offer-valid b.among;
    covers = offer-covers b.among;
    costs = offer-costs b.among;
    least = lower b;
  }

  -- a join that reaches the best cost is an offer of that cost
  module _ {x m : ℕ} (r : Reaches q S x m) where
    abbrev reached_choice : Choice
    reached_choice = record { cost = best x + best r.inner + price q x r.inner m; outer = x; method = m }

    reached : Offer q best S reached_choice
    reached = record {
      other = r.inner;
      outer-conn = rw r.outer-best.covers at (connected-tree q r.outer-best.tree r.outer-best.valid);
      inner-conn = rw r.inner-best.covers at (connected-tree q r.inner-best.tree r.inner-best.valid);
      joinable = r.joinable;
      shaped = r.shaped;
      whole = r.whole;
      method = r.method;
      costs = refl;
    }

    reached-cost : {c : ℕ} → Least q S c → c ≡ reached_choice.cost
    unfolding reached
    reached-cost l =
        omega (arith, least-unique l r.reaches, least-unique (offer-outer reached) r.outer-best, least-unique (offer-inner reached) r.inner-best)

  -- second half: and is the pick
  pub bellman-pick : {k : Choice} → Best (Offer q best S) k → Pick q S k.outer k.method
  bellman-pick {k} b = record {
    among = record {
      inner = o.other;
      outer-cost = best k.outer;
      inner-cost = best o.other;
      outer-best = offer-outer o;
      inner-best = offer-inner o;
      joinable = o.joinable;
      shaped = o.shaped;
      whole = o.whole;
      method = o.method;
      reaches = rw (← o.costs) (bellman-least b);
    };
    outer-first = λ x' m' r. (b.first _ (reached r)).by-outer (reached-cost r (bellman-least b));
    method-first = λ x' m' r e. (b.first _ (reached r)).by-method (reached-cost r (bellman-least b)) e;
  }
    where
      o : Offer q best S k
      o = b.among

-- A memo row while its pairs are handed, in any order: the best of the choices handed so far. Only which pairs were handed counts.
use Rattle.std.specs.Prelude.{◌≡◌, refl, ◌⊎◌, ℕ, ◌+◌}
use Rattle.std.proofs.Common.{sym, ap, ◌∙◌, inl, inr, ⊎_elim, add_comm, le_antisymm}
use mathlib.Core.List.{List, Memᴰ}
use Rattle.rules.specs.Offers.{Pair, union, Way, along, back, Choice, Priced, join_cost, Offers}
use Rattle.rules.specs.laws.Choice.{NoLater, Best, Either, best-same, best-keep, best-take, best-unique}
use Rattle.rules.specs.Query.{Query, method_count}
use Rattle.rules.specs.Connected.{Connected}
use Rattle.rules.specs.Trees.{Joinable, Inner, Least}
use Rattle.rules.specs.Log.{Prices, Stands}
use Rattle.rules.specs.laws.Connected.{joinable-sym}
use Rattle.rules.proofs.laws.Bellman.{Offer, least-unique}
use Rattle.rules.proofs.laws.Ways.{along-in, back_in, way_of, offered-same}
use Rattle.rules.specs.laws.Standing.{JoinablePair, among, With, Complete, Handed}

module _ (q : Query) (best : ℕ → ℕ) where
  -- only which pairs were handed counts
  pub handed-same : {P Q : Pair → Type 0} {S : ℕ} {k : Choice} → ((p : Pair) → P p → Q p) → ((p : Pair) → Q p → P p) → Best (Handed q best P S) k → Best (Handed q best Q S) k
  handed-same {P} {Q} {S} to from b = best-same (move to) (move from) b
    where
      move : {P Q : Pair → Type 0} → ((p : Pair) → P p → Q p) → (k : Choice) → Handed q best P S k → Handed q best Q S k
      move f k o = record { pair = o.pair; handed = f o.pair o.handed; whole = o.whole; prices = o.prices }

  -- the row of S after one more pair, whose result it is
  module _ (P : Pair → Type 0) (p : Pair) where
    to : (k : Choice) → Either (Handed q best P (union p)) (Offers q best p) k → Handed q best (With P p) (union p) k
    to k (inl o) = record { pair = o.pair; handed = inl o.handed; whole = o.whole; prices = o.prices }
    to k (inr o) = record { pair = p; handed = inr refl; whole = refl; prices = o }

    from : (k : Choice) → Handed q best (With P p) (union p) k → Either (Handed q best P (union p)) (Offers q best p) k
    from k o = pick o.handed
      where
        pick : P o.pair ⊎ (o.pair ≡ p) → Either (Handed q best P (union p)) (Offers q best p) k
        pick (inl m) = inl (record { pair = o.pair; handed = m; whole = o.whole; prices = o.prices })
        pick (inr e) = inr (rw e at o.prices)

    -- the first pair of its result
    pub row_first : {b : Choice} → ((k : Choice) → Handed q best P (union p) k → ⊥) → Best (Offers q best p) b → Best (Handed q best (With P p) (union p)) b
    row_first {b} none n = record { among = to b (inr n.among); first = λ k o. ⊎_elim (λ x. absurd (none k x)) (n.first k) (from k o) }

    pub row_keep : {a b : Choice} → Best (Handed q best P (union p)) a → Best (Offers q best p) b → NoLater a b → Best (Handed q best (With P p) (union p)) a
    row_keep r n le = best-same to from (best-keep r n le)

    pub row-take : {a b : Choice} → Best (Handed q best P (union p)) a → Best (Offers q best p) b → NoLater b a → Best (Handed q best (With P p) (union p)) b
    row-take r n le = best-same to from (best-take r n le)

    -- every other row stays
    pub row_other : {S : ℕ} {a : Choice} → (union p ≡ S → ⊥) → Best (Handed q best P S) a → Best (Handed q best (With P p) S) a
    row_other {S} {a} ne r = best-same up down r
      where
        up : (k : Choice) → Handed q best P S k → Handed q best (With P p) S k
        up k o = record { pair = o.pair; handed = inl o.handed; whole = o.whole; prices = o.prices }

        down : (k : Choice) → Handed q best (With P p) S k → Handed q best P S k
        down k o = pick o.handed
          where
            pick : P o.pair ⊎ (o.pair ≡ p) → Handed q best P S k
            pick (inl m) = record { pair = o.pair; handed = m; whole = o.whole; prices = o.prices }
            pick (inr e) = absurd (ne (ap (λ (r : Pair). union r) (sym e) ∙ o.whole))

  -- a pair of S, priced with outer X and inner Y, is an offer
  offer-of : {S X Y : ℕ} {k : Choice} → Connected q.graph X → Connected q.graph Y → Joinable q.graph X Y → Inner q Y → X + Y ≡ S → Priced (method_count q) (join_cost q best) X Y k → Offer q best S k
  offer-of {S} {X} {Y} {k} cx cy j f w p = record {
    other = Y;
    outer-conn = rw p.outer cx;
    inner-conn = cy;
    joinable = rw p.outer j;
    shaped = f;
    whole = rw p.outer w;
    method = record { from_one = p.from_one; to-count = p.to-count };
    costs = rw p.outer p.costs;
  }

  module _ (P : Pair → Type 0) (S : ℕ) (all : Complete q P S) where
    to-offer : (k : Choice) → Handed q best P S k → Offer q best S k
    to-offer k o = pick r.0 r.1
      where
        D : ℕ
        D = o.pair.driving

        I : ℕ
        I = o.pair.inner

        j : JoinablePair q.graph o.pair
        j = all.sound o.pair o.handed o.whole

        w : Way
        w = o.prices.way

        r : ((w ≡ along o.pair) ⊎ (w ≡ back o.pair)) × Inner q w.inner
        r = way_of q.shape o.pair w o.prices.offered

        priced : (v : Way) → w ≡ v → Priced (method_count q) (join_cost q best) v.outer v.inner k
        priced v e = rw e at o.prices.priced

        pick : (w ≡ along o.pair) ⊎ (w ≡ back o.pair) → Inner q w.inner → Offer q best S k
        pick (inl e) f = offer-of j.driving-conn j.inner-conn j.joinable (rw e at f) o.whole (priced (along o.pair) e)
        pick (inr e) f = offer-of j.inner-conn j.driving-conn (joinable-sym j.joinable) (rw e at f) (add_comm I D ∙ o.whole) (priced (back o.pair) e)

    from-offer : (k : Choice) → Offer q best S k → Handed q best P S k
    from-offer k o = pick (all.total (record { driving = k.outer; inner = o.other }) (record { driving-conn = o.outer-conn; inner-conn = o.inner-conn; joinable = o.joinable }) o.shaped o.whole)
      where
        priced : Priced (method_count q) (join_cost q best) k.outer o.other k
        priced = record { outer = refl; from_one = o.method.from_one; to-count = o.method.to-count; costs = o.costs }

        pick : P (record { driving = k.outer; inner = o.other }) ⊎ P (record { driving = o.other; inner = k.outer }) → Handed q best P S k
        pick (inl m) = record { pair = _; handed = m; whole = o.whole; prices = record { way = _; offered = along-in q.shape (record { driving = k.outer; inner = o.other }) o.shaped; priced = priced } }
        pick (inr m) = record { pair = _; handed = m; whole = add_comm o.other k.outer ∙ o.whole; prices = record { way = _; offered = back_in q.shape (record { driving = o.other; inner = k.outer }) o.shaped; priced = priced } }

    -- ORDER INDEPENDENCE: once all pairs of S are handed, in whatever order, the row is the best over all splits of S
    pub row-final : {k : Choice} → Best (Handed q best P S) k → Best (Offer q best S) k
    row-final = best-same to-offer from-offer

  -- two complete runs leave the same row
  pub rows_agree : {S : ℕ} {P P' : Pair → Type 0} {k k' : Choice} → Complete q P S → Complete q P' S → Best (Handed q best P S) k → Best (Handed q best P' S) k' → k ≡ k'
  rows_agree {S} {P} {P'} a a' r r' = best-unique (row-final P S a r) (row-final P' S a' r')

  -- ---- the row's cost is the log's standing cost, where `best` holds the least costs of the pairs' parts
  module _ (h : List Pair) (parts : (p : Pair) → Memᴰ p h → Least q p.driving (best p.driving) × Least q p.inner (best p.inner)) where
    to-price : (p : Pair) → Memᴰ p h → (k : Choice) → Offers q best p k → Prices q p k.cost
    to-price p m k o = let l = parts p m in record { best = best; driving-best = l.0; inner-best = l.1; choice = k; offers = o; costs = refl }

    of-price : (p : Pair) → Memᴰ p h → (c : ℕ) (r : Prices q p c) → Offers q best p r.choice
    of-price p m c r = offered-same (λ w i n. part w n (way_of q.shape p w i).0) r.choice r.offers
      where
        driving : r.best p.driving ≡ best p.driving
        driving = least-unique r.driving-best (parts p m).0

        inner : r.best p.inner ≡ best p.inner
        inner = least-unique r.inner-best (parts p m).1

        part : (w : Way) (n : ℕ) → (w ≡ along p) ⊎ (w ≡ back p) → join_cost q r.best w.outer w.inner n ≡ join_cost q best w.outer w.inner n
        part w n (inl e) = rw (e, driving, inner) refl
        part w n (inr e) = rw (e, driving, inner) refl

    pub row-stands : {S : ℕ} {k : Choice} → Best (Handed q best (among h) S) k → Stands q h S k.cost
    row-stands {S} {k} b = record {
      by = b.among.pair;
      handed = b.among.handed;
      result = b.among.whole;
      prices = to-price b.among.pair b.among.handed k b.among.prices;
      least = λ p m w c' r. rw r.costs (b.first r.choice (record { pair = p; handed = m; whole = w; prices = of-price p m c' r })).by-cost;
    }

-- the standing cost is one number
pub stands-unique : {q : Query} {h : List Pair} {S c c' : ℕ} → Stands q h S c → Stands q h S c' → c ≡ c'
stands-unique {q} {h} {S} {c} {c'} a b = le_antisymm (a.least b.by b.handed b.result c' b.prices) (b.least a.by a.handed a.result c a.prices)

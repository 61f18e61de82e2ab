-- Over any schedule: all pairs are handed once, and every part that a turn reads is final, its pairs having been handed in the groups before.
use Rattle.std.specs.Prelude.{◌≡◌, refl, ◌⊎◌}
use Rattle.std.proofs.Common.{ap, inl, inr, ⊎_elim, arith}
use Rattle.std.proofs.Math.Path.{subst}
use mathlib.Core.List.Memᴰ
use mathlib.Core.List.{List, [], ◌∷◌, ◌++◌, map, Memᴰ}
use Prim.Native.Nat.{ℕ, zero, suc, ◌+◌, ◌≤◌, ◌<◌}
use Rattle.std.proofs.Math.Decide.{dec_lt}
use Rattle.rules.specs.declared.Crew.{Crew}
use Rattle.rules.specs.Sets.{Splits, size}
use Rattle.rules.specs.Query.{Query, table_count}
use Rattle.rules.specs.Trees.{Inner}
use Rattle.rules.specs.Offers.{Pair, union, ways, sides}
use Rattle.rules.specs.Schedule.{Schedule, Meets, Asked, Scheduled}
use Rattle.rules.specs.Shares.{Numbered}
use Rattle.rules.specs.Turns.{Hand, Groups}
use Rattle.rules.specs.Log.{sets_of, pair_of}
use Rattle.rules.specs.laws.Lists.{Once, once-append}
use Rattle.rules.specs.laws.Sets.{splits-size, size-pos}
use Rattle.rules.specs.laws.Connected.{connected-join}
use Rattle.rules.proofs.laws.Shapes.{fits-less}
use Rattle.rules.proofs.laws.Rows.{size-count}
use Rattle.rules.specs.laws.Standing.{JoinablePair, among, Complete}
use Rattle.rules.specs.laws.Turns.{Entries}
use Rattle.rules.proofs.laws.Complete.{InGroup, swap, joinable-swap, From, queues, hands-once, sized_of, entries-left, map-append, groups-from, groups-complete, Earlier, groups-earlier}
use Rattle.rules.proofs.laws.Ways.{sides-are}

-- the sizes of a joinable pair, the smaller first
pub record SizesOf (q : Query) (p : Pair) : Type 0 where
  pub driving : ℕ
  pub inner : ℕ
  pub asked : Asked q.shape (table_count q.graph) driving inner
  pub sized : ((size p.driving ≡ driving) × (size p.inner ≡ inner)) ⊎ ((size p.inner ≡ driving) × (size p.driving ≡ inner))
  pub makes : driving + inner ≡ size (union p)

pub sizes-of : (q : Query) (p : Pair) → JoinablePair q.graph p → Inner q p.inner → SizesOf q p
sizes-of q p j f = go (dec_lt (size p.inner) (size p.driving))
  where
    x : ℕ
    x = size p.driving

    y : ℕ
    y = size p.inner

    sp : Splits (union p) p.driving p.inner
    sp = record { apart = j.joinable.apart; whole = refl }

    whole : size (union p) ≡ x + y
    whole = splits-size sp

    few : size (union p) ≤ table_count q.graph
    few = size-count q.graph (union p) (connected-join j.driving-conn j.inner-conn sp j.joinable.between)

    px : 0 < x
    px = size-pos p.driving j.driving-conn.some

    py : 0 < y
    py = size-pos p.inner j.inner-conn.some

    go : Dec (y < x) → SizesOf q p
    go (yes l) = record { driving = y; inner = x; asked = record { from_one = py; rising = omega arith; known = omega (arith, whole, few); shaped = f }; sized = inr (refl, refl); makes = omega (arith, whole) }
    go (no n) = record {
      driving = x;
      inner = y;
      asked = record { from_one = px; rising = omega arith; known = omega (arith, whole, few); shaped = fits-less q.shape x y px (omega arith) f };
      sized = inl (refl, refl);
      makes = omega (arith, whole);
    }

map-append-candidates : (a b : List (Hand Numbered)) → map (λ (x : Hand Numbered). x.candidate) (a ++ b) ≡ map (λ (x : Hand Numbered). x.candidate) a ++ map (λ (x : Hand Numbered). x.candidate) b
map-append-candidates [] b = refl
map-append-candidates (x ∷ a) b = ap (λ (l : List Numbered). x.candidate ∷ l) (map-append-candidates a b)

module _ (q : Query) (crew : Crew) (workers : 0 < crew.workers) (n : ℕ) (groups : Schedule) (serves : Scheduled q.shape (table_count q.graph) n groups) where
  -- the group of a pair, one way round
  pub inside : (p : Pair) (b : SizesOf q p) → InGroup (groups (serves.home b.driving b.inner)) p ⊎ InGroup (groups (serves.home b.driving b.inner)) (swap p)
  inside p b = go b.sized (serves.complete b.driving b.inner b.asked)
    where
      k : ℕ
      k = serves.home b.driving b.inner

      go : ((size p.driving ≡ b.driving) × (size p.inner ≡ b.inner)) ⊎ ((size p.inner ≡ b.driving) × (size p.driving ≡ b.inner))
          → (1 ≤ k) × (k ≤ n) × Meets (groups k) b.driving b.inner → InGroup (groups k) p ⊎ InGroup (groups k) (swap p)
      go (inl e) r = inl (rw (e.0, e.1) r.2)
      go (inr e) r = inr (rw (e.0, e.1) r.2)

  -- it is group k that has the sizes
  group-is : (k : ℕ) → 1 ≤ k → k ≤ n → (p : Pair) → InGroup (groups k) p → Asked q.shape (table_count q.graph) (size p.driving) (size p.inner) × (serves.home (size p.driving) (size p.inner) ≡ k)
  group-is k l u p i = serves.sound k (size p.driving) (size p.inner) l u i

  -- WHAT A TURN PRICES, by the group alone
  pub group-ways : (k : ℕ) → 1 ≤ k → k ≤ n → (p : Pair) → InGroup (groups k) p → ways q.shape p ≡ sides (groups k).both p
  group-ways k l u p i = sides-are q.shape p (groups k).both (serves.ways k (size p.driving) (size p.inner) l u i) (group-is k l u p i).0.shaped

  -- GROUP k READS SETS OF AT MOST k TABLES
  pub reads-small : (k : ℕ) → 1 ≤ k → k ≤ n → (p : Pair) → InGroup (groups k) p → (size p.driving ≤ k) × (size p.inner ≤ k)
  reads-small k l u p i =
      let r = group-is k l u p i in
      let e = serves.reads (size p.driving) (size p.inner) r.0 in
      (omega (arith, e, r.1, r.0.rising), omega (arith, e, r.1))

  -- AND BUILDS SETS OF MORE
  pub results-large : (k : ℕ) → 1 ≤ k → k ≤ n → (p : Pair) → JoinablePair q.graph p → InGroup (groups k) p → k < size (union p)
  results-large k l u p d i =
      let r = group-is k l u p i in
      let s : Splits (union p) p.driving p.inner = record { apart = d.joinable.apart; whole = refl } in
      omega (arith, serves.builds (size p.driving) (size p.inner) r.0, r.1, splits-size s)

  -- WHAT HAS ALL PAIRS OF THE GROUPS BEFORE k has all pairs of each set of at most k tables
  pub early-total : (P : Pair → Type 0) (k : ℕ) → ((j : ℕ) → 1 ≤ j → j < k → (p : Pair) → JoinablePair q.graph p → InGroup (groups j) p → P p ⊎ P (swap p))
      → (S : ℕ) → size S ≤ k → (p : Pair) → JoinablePair q.graph p → Inner q p.inner → union p ≡ S → P p ⊎ P (swap p)
  early-total P k all S l p d f w =
      let s = sizes-of q p d f in
      let j = serves.home s.driving s.inner in
      let o = (serves.complete s.driving s.inner s.asked).0 in
      let b : j < k = omega (arith, serves.builds s.driving s.inner s.asked, s.makes, ap size w) in
      ⊎_elim (λ i. all j o b p d i) (λ i. ⊎_elim (λ y. inr y) (λ y. inl y) (all j o b (swap p) (joinable-swap d) i)) (inside p s)

  -- FROM THE TURNS IN A ROW: all pairs of each set, whatever the workers, the scheme, the turns and the schedule
  pub plan-complete : (ts : List ℕ) (h : List (Hand Numbered)) → Entries crew.workers ts → Groups crew.workers (queues q.graph crew workers groups) 1 n ts h → (S : ℕ) → Complete q (among (map pair_of h)) S
  plan-complete ts h t z S = groups-complete q.graph crew workers groups q refl 1 n ts h t z S (λ p d f w.
      let b = sizes-of q p d f in
      let r = serves.complete b.driving b.inner b.asked in
      (serves.home b.driving b.inner, r.0, omega (arith, r.1), inside p b))

  module _ (ts : List ℕ) (h : List (Hand Numbered)) (t : Entries crew.workers ts) (z : Groups crew.workers (queues q.graph crew workers groups) 1 n ts h) where
    from : (p : Pair) → Memᴰ p (map pair_of h) → From q.graph crew workers groups 1 n p
    from p i = let o = Memᴰ.of_map pair_of h i in rw o.2 at (groups-from q.graph crew workers groups 1 n ts h t z o.0 o.1)

    pub plan-joinable : (p : Pair) → Memᴰ p (map pair_of h) → JoinablePair q.graph p
    plan-joinable p i = (from p i).joinable

    -- the driving set of a pair may be the inner part
    pub plan-shaped : (p : Pair) → Memᴰ p (map pair_of h) → Inner q p.driving
    plan-shaped p i = let r = from p i in (group-is r.group r.first (omega (arith, r.last)) p r.inside).0.shaped

    -- AT EACH TURN: of both parts that it reads all pairs were handed by the turns before
    pub read-final : (a b : List (Hand Numbered)) (x : Hand Numbered) → h ≡ a ++ x ∷ b → (S : ℕ) → (S ≡ (pair_of x).driving) ⊎ (S ≡ (pair_of x).inner) → Complete q (among (map pair_of a)) S
    read-final a b x e S part = record { sound = sound; total = early-total (among (map pair_of a)) r.group r.all S small }
      where
        r : Earlier q.graph crew workers groups 1 n (map pair_of a) (pair_of x)
        r = groups-earlier q.graph crew workers groups 1 n ts h t z a b x e

        small : size S ≤ r.group
        small =
            let s = reads-small r.group r.first (omega (arith, r.last)) (pair_of x) r.inside in
            ⊎_elim (λ f. rw f s.0) (λ f. rw f s.1) part

        sound : (p : Pair) → Memᴰ p (map pair_of a) → union p ≡ S → JoinablePair q.graph p
        sound p i w = plan-joinable p (rw (e, map-append) (Memᴰ.append_left (map pair_of (x ∷ b)) i))

  -- NOTHING IS HANDED TWICE, in one group or in two
  pub plan-once : (k c : ℕ) → 1 ≤ k → k + c ≤ suc n → (ts : List ℕ) (h : List (Hand Numbered)) → Entries crew.workers ts → Groups crew.workers (queues q.graph crew workers groups) k c ts h → Once (map (λ (x : Hand Numbered). x.candidate) h)
  unfolding Groups
  plan-once k zero l u ts h t z = rw z (unfold Once in tt)
  plan-once k (suc c) l u ts h t z =
      rw (z.5, map-append-candidates) (once-append (map (λ (x : Hand Numbered). x.candidate) z.0) (map (λ (x : Hand Numbered). x.candidate) z.1)
      (hands-once q.graph crew (groups k) workers t z.3) (plan-once (suc k) c (omega arith) (omega arith) z.2 z.1 (entries-left z.3 t) z.4) cross)
    where
      cross : (y : Numbered) → Memᴰ y (map (λ (x : Hand Numbered). x.candidate) z.0) → Memᴰ y (map (λ (x : Hand Numbered). x.candidate) z.1) → ⊥
      cross y i j =
          let a = Memᴰ.of_map (λ (x : Hand Numbered). x.candidate) z.0 i in
          let b = Memᴰ.of_map (λ (x : Hand Numbered). x.candidate) z.1 j in
          let f = groups-from q.graph crew workers groups (suc k) c z.2 z.1 (entries-left z.3 t) z.4 b.0 b.1 in
          let p : Pair = sets_of y in
          let ia : InGroup (groups k) p = subst (λ (v : Numbered). InGroup (groups k) (sets_of v)) a.2 (sized_of q.graph crew (groups k) workers t z.3 a.0 a.1) in
          let ib : InGroup (groups f.group) p = subst (λ (v : Numbered). InGroup (groups f.group) (sets_of v)) b.2 f.inside in
          let x = (group-is k l (omega arith) p ia).1 in
          let w = (group-is f.group (omega (arith, f.first)) (omega (arith, f.last)) p ib).1 in
          omega (arith, x, w, f.first)

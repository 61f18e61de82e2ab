-- Tests that compute, and the decisions made of them: an edge between two sets, a connected set.
use Rattle.std.specs.Prelude.{◌≡◌, refl, ◌⊎◌, Bool, true, cond, ◌&&◌, ◌||◌, List, ltb, length, get_or}
use Rattle.std.proofs.Common.{inl, inr, arith}
use Prim.Native.Nat.{ℕ, zero, suc, ◌+◌, ◌-◌, ◌^◌, ◌≤◌, ◌<◌}
use Rattle.std.proofs.Math.Decide.{dec_lt}
use Rattle.std.proofs.Math.Dec.{eqb}
use borrow.Author.Tests.{eqb-true, eq-eqb, ne_eqb, ltb-true, lt-ltb}
use Rattle.rules.specs.Sets.{Splits, holds, has, single, size}
use Rattle.rules.specs.Query.{Graph, IsTable, Between, table_count, edge_count}
use Rattle.rules.specs.Connected.{Connected}
use Rattle.rules.specs.laws.Bools.{and-true, and-true-l, and_true_r, or_cases, or-true-l, or_true_r, any, any_some, any_of, find, find_none, find-some, decide_by}
use Rattle.rules.specs.laws.Sets.{size-pos, size-pow, splits-size, holds-some, holds-single, holds-pos, splits-inner, splits-outer, holds-minus, holds-lt, lt-of-holds}
use Rattle.rules.specs.laws.Connected.{connected-join, connected-single, flood-done, Within, within-right}

-- edge i runs between X and Y
unfoldable pub crosses_in : List ℕ → List ℕ → ℕ → ℕ → ℕ → Bool
crosses_in left right X Y i = (has X (get_or left i 0) && has Y (get_or right i 0)) || (has X (get_or right i 0) && has Y (get_or left i 0))

unfoldable pub between_in : List ℕ → List ℕ → ℕ → ℕ → Bool
between_in left right X Y = any (crosses_in left right X Y) (length left)

module _ (g : Graph) where
  abbrev pub crosses : ℕ → ℕ → ℕ → Bool
  crosses X Y i = crosses_in g.left g.right X Y i

  abbrev pub between : ℕ → ℕ → Bool
  between X Y = between_in g.left g.right X Y

  pub between-true : (X Y : ℕ) → between X Y ≡ true → Between g X Y
  unfolding between_in crosses_in
  between-true X Y e = go (or_cases (has X l && has Y far) (has X far && has Y l) r.2)
    where
      r : (i : ℕ) × (i < edge_count g) × (crosses X Y i ≡ true)
      r = any_some (crosses X Y) (edge_count g) e

      l : ℕ
      l = get_or g.left r.0 0

      far : ℕ
      far = get_or g.right r.0 0

      go : ((has X l && has Y far) ≡ true) ⊎ ((has X far && has Y l) ≡ true) → Between g X Y
      go (inl h) = record {
        from = l;
        to = far;
        from_in = eqb-true (holds X l) 1 (and-true-l (has X l) (has Y far) h);
        to_in = eqb-true (holds Y far) 1 (and_true_r (has X l) (has Y far) h);
        linked = record { edge = r.0; known = r.1; joins = inl (refl, refl) };
      }
      go (inr h) = record {
        from = far;
        to = l;
        from_in = eqb-true (holds X far) 1 (and-true-l (has X far) (has Y l) h);
        to_in = eqb-true (holds Y l) 1 (and_true_r (has X far) (has Y l) h);
        linked = record { edge = r.0; known = r.1; joins = inr (refl, refl) };
      }

  pub between-of : (X Y : ℕ) → Between g X Y → between X Y ≡ true
  unfolding between_in crosses_in
  between-of X Y b = any_of (crosses X Y) (edge_count g) i b.linked.known (go b.linked.joins)
    where
      i : ℕ
      i = b.linked.edge

      l : ℕ
      l = get_or g.left i 0

      far : ℕ
      far = get_or g.right i 0

      go : ((l ≡ b.from) × (far ≡ b.to)) ⊎ ((l ≡ b.to) × (far ≡ b.from)) → crosses X Y i ≡ true
      go (inl h) = or-true-l (has X l && has Y far) (has X far && has Y l) (and-true (has X l) (has Y far) (eq-eqb (holds X l) 1 (rw h.0 b.from_in)) (eq-eqb (holds Y far) 1 (rw h.1 b.to_in)))
      go (inr h) = or_true_r (has X l && has Y far) (has X far && has Y l) (and-true (has X far) (has Y l) (eq-eqb (holds X far) 1 (rw h.1 b.from_in)) (eq-eqb (holds Y l) 1 (rw h.0 b.to_in)))

  -- a connected set: grow a part from one table until no edge leads on
  unfoldable pub onward : ℕ → ℕ → ℕ → Bool
  onward X Y v = has Y v && between X (single v)

  unfoldable pub flood : ℕ → ℕ → ℕ → ℕ
  flood zero X Y = X
  flood (suc n) X Y = let v = find (onward X Y) (table_count g) in cond (eqb v 0) X (flood n (X + single v) (Y - single v))

  unfoldable pub connects : ℕ → Bool
  connects S = let a = find (has S) (table_count g) in ltb S (2 ^ table_count g) && (ltb 0 S && eqb (flood (size S) (single a) (S - single a)) S)

  -- what a flood from X, with Y left, comes to: a connected part with no edge to the rest
  pub record Flooded (S F : ℕ) : Type 0 where
    pub rest : ℕ
    pub splits : Splits S F rest
    pub connected : Connected g F
    pub closed : Between g F rest → ⊥

  no-onward : (S X Y : ℕ) → Splits S X Y → ((t : ℕ) → holds S t ≡ 1 → IsTable g t) → find (onward X Y) (table_count g) ≡ 0 → Between g X Y → ⊥
  unfolding onward Within
  no-onward S X Y p kn e b =
      let w = b.to in
      let t = kn w (within-right p w b.to_in) in
      find_none (onward X Y) (table_count g) e w t.from_one t.to-count
      (and-true (has Y w) (between X (single w)) (eq-eqb (holds Y w) 1 b.to_in) (between-of X (single w) (record { from = b.from; to = w; from_in = b.from_in; to_in = holds-single w t.from_one; linked = b.linked })))

  no-rest : (X Y : ℕ) → size Y ≤ 0 → Between g X Y → ⊥
  no-rest X Y l b = omega (arith, size-pos Y (holds-pos Y b.to b.to_in))

  flooded : (n S X Y : ℕ) → size Y ≤ n → Splits S X Y → ((t : ℕ) → holds S t ≡ 1 → IsTable g t) → Connected g X → Flooded S (flood n X Y)
  unfolding flood onward
  flooded zero S X Y l p kn c = record { rest = Y; splits = p; connected = c; closed = no-rest X Y l }
  flooded (suc n) S X Y l p kn c = go (dec_lt 0 v) (λ l₁ p₁. flooded n S (X + single v) (Y - single v) l₁ p₁ kn)
    where
      v : ℕ
      v = find (onward X Y) (table_count g)

      go : Dec (0 < v) → (size (Y - single v) ≤ n → Splits S (X + single v) (Y - single v) → Connected g (X + single v) → Flooded S (flood n (X + single v) (Y - single v)))
          → Flooded S (cond (eqb v 0) X (flood n (X + single v) (Y - single v)))
      go (no n) ih = let e : v ≡ 0 = omega arith in rw (eq-eqb v 0 e) (record { rest = Y; splits = p; connected = c; closed = no-onward S X Y p kn e })
      go (yes h) ih = rw (ne_eqb v 0 (λ e. omega arith)) (ih (omega (arith, splits-size out, size-pow (v - 1))) (splits-outer p out) (connected-join c (connected-single g v tab) (splits-inner p out) b))
        where
          f : onward X Y v ≡ true
          f = (find-some (onward X Y) (table_count g) h).0

          b : Between g X (single v)
          b = between-true X (single v) (and_true_r (has Y v) (between X (single v)) f)

          tab : IsTable g v
          tab = record { from_one = h; to-count = (find-some (onward X Y) (table_count g) h).1 }

          out : Splits Y (single v) (Y - single v)
          out = holds-minus Y v (eqb-true (holds Y v) 1 (and-true-l (has Y v) (between X (single v)) f))

  -- from one table of S
  module _ (S : ℕ) (kn : (t : ℕ) → holds S t ≡ 1 → IsTable g t) (some : 0 < S) where
    start : ℕ
    start = find (has S) (table_count g)

    start-in : holds S start ≡ 1
    unfolding start
    start-in = go (dec_lt 0 start)
      where
        go : Dec (0 < start) → holds S start ≡ 1
        go (yes l) = eqb-true (holds S start) 1 (find-some (has S) (table_count g) l).0
        go (no n) =
            let r = holds-some S some in
            let t = kn r.0 r.1 in
            absurd (find_none (has S) (table_count g) (omega arith) r.0 t.from_one t.to-count (eq-eqb (holds S r.0) 1 r.1))

    flooded-start : Flooded S (flood (size S) (single start) (S - single start))
    flooded-start =
        let p = holds-minus S start start-in in
        flooded (size S) S (single start) (S - single start) (omega (arith, splits-size p)) p kn (connected-single g start (kn start start-in))

  pub connects-true : (S : ℕ) → connects S ≡ true → Connected g S
  unfolding connects start
  connects-true S e = rw whole at (flooded-start S kn some).connected
    where
      F : ℕ
      F = flood (size S) (single (find (has S) (table_count g))) (S - single (find (has S) (table_count g)))

      e₂ : (ltb 0 S && eqb F S) ≡ true
      e₂ = and_true_r (ltb S (2 ^ table_count g)) (ltb 0 S && eqb F S) e

      kn : (t : ℕ) → holds S t ≡ 1 → IsTable g t
      kn t h = let r = holds-lt (table_count g) S t (ltb-true S (2 ^ table_count g) (and-true-l (ltb S (2 ^ table_count g)) (ltb 0 S && eqb F S) e)) h in record { from_one = r.0; to-count = r.1 }

      some : 0 < S
      some = ltb-true 0 S (and-true-l (ltb 0 S) (eqb F S) e₂)

      whole : F ≡ S
      whole = eqb-true F S (and_true_r (ltb 0 S) (eqb F S) e₂)

  pub connects-of : (S : ℕ) → Connected g S → connects S ≡ true
  unfolding connects start
  connects-of S c =
      and-true (ltb S (2 ^ table_count g)) (ltb 0 S && eqb F S) (lt-ltb S (2 ^ table_count g) (lt-of-holds (table_count g) S (λ t h. (c.known t h).to-count)))
      (and-true (ltb 0 S) (eqb F S) (lt-ltb 0 S c.some) (eq-eqb F S (flood-done f.connected f.splits f.closed c)))
    where
      F : ℕ
      F = flood (size S) (single (find (has S) (table_count g))) (S - single (find (has S) (table_count g)))

      f : Flooded S F
      f = flooded-start S c.known c.some

-- whether an edge runs between two sets
unfoldable pub between? : (g : Graph) (X Y : ℕ) → Dec (Between g X Y)
unfolding decide_by between_in crosses_in any
between? g X Y = decide_by (between g X Y) (between-true g X Y) (between-of g X Y)

-- whether a set is connected
unfoldable pub connected? : (g : Graph) (S : ℕ) → Dec (Connected g S)
unfolding decide_by connects flood find onward between_in crosses_in any
connected? g S = decide_by (connects g S) (connects-true g S) (connects-of g S)

-- Laws of writing the rows of all sizes in one walk: places in the list of all rows, a column, one step, and the whole.
use Rattle.std.specs.Prelude.{◌≡◌, Bool, true, false, cond, ◌⊎◌, ℕ, zero, suc, ◌+◌, ◌-◌, ◌*◌, ◌≤◌, ◌<◌, min, length, get_or, set, drop}
use Rattle.std.proofs.Math.Path.{refl}
use Rattle.std.proofs.Common.{sym, ap, ◌∙◌, inl, inr, zero-add, arith, length-append, length-set, length-drop, get_or-set_same, get_or-set_other, get_or-append-add, get_or-drop, ext_get_or, eq-eqb}
use mathlib.Core.List.{List, [], ◌∷◌, ◌++◌, map}
use Rattle.std.proofs.Math.Decide.{dec_lt, ℕ_discrete}
use Rattle.std.specs.Int.Bits.{bit_and}
use Rattle.std.proofs.Math.ListN.{get_or-append}
use Rattle.std.proofs.lemmas.List.{append_assoc, get_or_at}
use Rattle.std.proofs.lemmas.List.Edits.{sets, sets-eq}
use Rattle.rules.specs.Lists.{is_yes, in_row}
use Rattle.rules.specs.Sets.{single}
use Rattle.rules.specs.Limits.{max_estimate}
use Rattle.rules.specs.Query.{Graph, table_count, edge_count, at}
use Rattle.rules.specs.Checked.{GoodGraph}
use Rattle.rules.specs.Estimate.{estimate}
use Rattle.rules.specs.Rows.{rows_of, memo}
use Rattle.rules.specs.laws.Lists.{row-split, at_map, length-map}
use Rattle.rules.specs.laws.Bools.{true-or-false}
use Rattle.rules.specs.laws.Decide.{connected?}
use Rattle.graph.specs.Near.{Near}
use Rattle.graph.specs.declared.chosen.Chosen.{Chosen}
use Rattle.graph.specs.Node.{taking}
use Rattle.graph.specs.NodeLaws.{node-with, node-without}
use Rattle.parts.specs.Parts.{cell_of, Parts, by_parts}
use Rattle.parts.specs.PartLaws.{valued-with, valued-without, with-estimate, valued-root}
use Rattle.rows.specs.Sizes.{up_to}
use Rattle.rows.specs.Tally.{found, here, Tallied}
use Rattle.fill.specs.Fill.{Ahead, Kept, Placed, Laid, Filled, Filling}
use Rattle.rows.specs.WalkLaws.{up_to-none, up_to-more, up_to-end, length_more}
use Rattle.rows.specs.FoundLaws.{found-step, found_first, count-here, tallied-none, tallied-step}
use Rattle.rows.specs.TallyLaws.{nothing, root}

-- ---- places
module _ (M : List ℕ) (a : ℕ) (xs ys : List ℕ) (h : Ahead M a (xs ++ ys)) where
  ahead-left : Ahead M a xs
  ahead-left = record { front = h.front; behind = ys ++ h.behind; whole = ap (λ (l : List ℕ). h.front ++ l) (sym (append_assoc xs ys h.behind)) ∙ h.whole; place = h.place }

  ahead-right : Ahead M (a + length xs) ys
  ahead-right = record {
    front = h.front ++ xs;
    behind = h.behind;
    whole = append_assoc h.front xs (ys ++ h.behind) ∙ ap (λ (l : List ℕ). h.front ++ l) (sym (append_assoc xs ys h.behind)) ∙ h.whole;
    place = omega (arith, length-append h.front xs, h.place);
  }

ahead-one : (M : List ℕ) (a x : ℕ) → Ahead M a (x ∷ []) → (a < length M) × (get_or M a 0 ≡ x)
ahead-one M a x h =
    (omega (arith, ap length h.whole, length-append h.front ((x ∷ []) ++ h.behind), h.place), ap (λ (l : List ℕ). get_or l a 0) (sym h.whole) ∙ get_or_at h.front x h.behind 0 a h.place)

ahead-at : {M : List ℕ} {a b : ℕ} {xs ys : List ℕ} → Ahead M a xs → a ≡ b → xs ≡ ys → Ahead M b ys
ahead-at h e f = record { front = h.front; behind = h.behind; whole = ap (λ (l : List ℕ). h.front ++ (l ++ h.behind)) (sym f) ∙ h.whole; place = h.place ∙ e }

-- ---- kept cells
kept_same : (W old : List ℕ) → Kept W old old
kept_same W old = record { cells = λ i. inl refl }

kept_on : {W old mid new : List ℕ} → Kept W old mid → Kept W mid new → Kept W old new
kept_on {W} {old} {mid} {new} a b = record { cells = λ i. go i (a.cells i) (b.cells i) }
  where
    go : (i : ℕ) → (get_or mid i 0 ≡ get_or old i 0) ⊎ ((i < length W) × (get_or mid i 0 ≡ get_or W i 0)) → (get_or new i 0 ≡ get_or mid i 0) ⊎ ((i < length W) × (get_or new i 0 ≡ get_or W i 0)) → (get_or new i 0 ≡ get_or old i 0) ⊎ ((i < length W) × (get_or new i 0 ≡ get_or W i 0))
    go i x (inr y) = inr y
    go i (inl x) (inl y) = inl (y ∙ x)
    go i (inr x) (inl y) = inr (x.0, y ∙ x.1)

kept-right : {W mid new : List ℕ} → Kept W mid new → (i : ℕ) → get_or mid i 0 ≡ get_or W i 0 → get_or new i 0 ≡ get_or W i 0
kept-right {W} {mid} {new} k i e = go (k.cells i)
  where
    go : (get_or new i 0 ≡ get_or mid i 0) ⊎ ((i < length W) × (get_or new i 0 ≡ get_or W i 0)) → get_or new i 0 ≡ get_or W i 0
    go (inl x) = x ∙ e
    go (inr x) = x.1

kept_store : (W old : List ℕ) (k v : ℕ) → k < length W → k < length old → v ≡ get_or W k 0 → Kept W old (set old k v)
kept_store W old k v l m e = record { cells = λ i. go i (ℕ_discrete i k) }
  where
    go : (i : ℕ) → Dec (i ≡ k) → (get_or (set old k v) i 0 ≡ get_or old i 0) ⊎ ((i < length W) × (get_or (set old k v) i 0 ≡ get_or W i 0))
    go i (yes z) = inr (omega arith, rw z (get_or-set_same old k v 0 m ∙ e))
    go i (no z) = inl (get_or-set_other old k i v 0 z)

-- ---- nothing found
pub filled_none : {g : Graph} {n t chosen z : ℕ} (starts out values : List ℕ) → ((s : ℕ) → found g s z t (n + 1 - t) chosen ≡ []) → Filled g n t chosen z starts starts out out values values
filled_none {g} starts out values h = record { places = tallied-none starts h; sets = none (memo g) out; estimates = none (map (estimate g) (memo g)) values }
  where
    none : {n : ℕ} (W old : List ℕ) → Laid W n starts starts old old
    none W old = record { kept = kept_same W old; cells = λ s i l a b. absurd (omega arith) }

-- ---- a column: v is written at place a where there is a row
module _ (row : Bool) (a v : ℕ) (W old : List ℕ) {new : List ℕ} (there : row ≡ true → (a < length W) × (get_or W a 0 ≡ v)) (m : length W ≤ length old) (o : new ≡ cond row (set old a v) old) where
  kept_row : Kept W old new
  kept_row = go (true-or-false row)
    where
      go : (row ≡ true) ⊎ (row ≡ false) → Kept W old new
      go (inl q) =
          let i : new ≡ set old a v = rw q at o in
          rw i (kept_store W old a v (there q).0 (omega (arith, (there q).0)) (sym (there q).1))
      go (inr q) = let i : new ≡ old = rw q at o in rw i (kept_same W old)

  put-row : row ≡ true → get_or new a 0 ≡ get_or W a 0
  put-row q =
      let i : new ≡ set old a v = rw q at o in
      rw i (get_or-set_same old a v 0 (omega (arith, (there q).0)) ∙ sym (there q).1)

-- ---- one step: k is the place of the row that table t makes
module _ {g : Graph} {n t chosen : ℕ} (z x : ℕ) (row : Bool) (starts : List ℕ) {v : ℕ} (l : t ≤ n) (e : x ≡ single t) (r : row ≡ is_yes (connected? g (chosen + x)))
    (b : z + 1 < length starts) (s : z + 1 ≤ n) (w : v ≡ cond row (get_or starts (z + 1) 0 + 1) (get_or starts (z + 1) 0)) (p : Placed g n t chosen z starts) where
  -- that row is the one that stands there
  pub row-place : row ≡ true → (get_or starts (z + 1) 0 < length (memo g)) × (get_or (memo g) (get_or starts (z + 1) 0) 0 ≡ chosen + x)
  unfolding here
  row-place q =
      let one : here row (chosen + x) z (z + 1) ≡ (chosen + x) ∷ [] = rw (eq-eqb (z + 1) (z + 1) refl, q) refl in
      ahead-one (memo g) (get_or starts (z + 1) 0) (chosen + x)
      (ahead-at (ahead-left (memo g) (get_or starts (z + 1) 0) (here row (chosen + x) z (z + 1)) (found g (z + 1) (z + 1) (t + 1) (n + 1 - (t + 1)) (chosen + x) ++ found g (z + 1) z (t + 1) (n + 1 - (t + 1)) chosen) (ahead-at (p.sizes (z + 1) s) refl (found-step g n t chosen x z row l e r (z + 1)))) refl one)

  later : (k : ℕ) → k ≤ n → Ahead (memo g) (get_or (set starts (z + 1) v) k 0) (found g k (z + 1) (t + 1) (n + 1 - (t + 1)) (chosen + x) ++ found g k z (t + 1) (n + 1 - (t + 1)) chosen)
  later k i =
      ahead-at (ahead-right (memo g) (get_or starts k 0) (here row (chosen + x) z k) (found g k (z + 1) (t + 1) (n + 1 - (t + 1)) (chosen + x) ++ found g k z (t + 1) (n + 1 - (t + 1)) chosen) (ahead-at (p.sizes k i) refl (found-step g n t chosen x z row l e r k)))
      (sym (count-here row (chosen + x) z starts b w k)) refl

  pub placed-with : Placed g n (t + 1) (chosen + x) (z + 1) (set starts (z + 1) v)
  placed-with = record { sizes = λ k i. ahead-left (memo g) (get_or (set starts (z + 1) v) k 0) (found g k (z + 1) (t + 1) (n + 1 - (t + 1)) (chosen + x)) (found g k z (t + 1) (n + 1 - (t + 1)) chosen) (later k i) }

  pub placed-without : {mid : List ℕ} → Tallied g n (t + 1) (chosen + x) (z + 1) (set starts (z + 1) v) mid → Placed g n (t + 1) chosen z mid
  placed-without h = record {
    sizes = λ k i. ahead-at (ahead-right (memo g) (get_or (set starts (z + 1) v) k 0) (found g k (z + 1) (t + 1) (n + 1 - (t + 1)) (chosen + x)) (found g k z (t + 1) (n + 1 - (t + 1)) chosen) (later k i)) (sym (h.sizes k i)) refl;
  }

  -- the row, what was found with it, and without
  pub laid-step : (W old : List ℕ) {out mid new ends last : List ℕ} → Kept W old out → (row ≡ true → get_or out (get_or starts (z + 1) 0) 0 ≡ get_or W (get_or starts (z + 1) 0) 0)
      → Laid W n (set starts (z + 1) v) ends out mid → Laid W n ends last mid new → Laid W n starts last old new
  laid-step W old {out} {mid} {new} {ends} {last} k put first second =
      record { kept = kept_on k (kept_on first.kept second.kept); cells = λ j i a c d. which j i a c d (dec_lt i (get_or (set starts (z + 1) v) j 0)) (dec_lt i (get_or ends j 0)) }
    where
      which : (j i : ℕ) → j ≤ n → get_or starts j 0 ≤ i → i < get_or last j 0 → Dec (i < get_or (set starts (z + 1) v) j 0) → Dec (i < get_or ends j 0) → get_or new i 0 ≡ get_or W i 0
      which j i a c d (yes f) q = kept-right second.kept i (kept-right first.kept i (here-row (ℕ_discrete j (z + 1)) (true-or-false row)))
        where
          here-row : Dec (j ≡ z + 1) → (row ≡ true) ⊎ (row ≡ false) → get_or out i 0 ≡ get_or W i 0
          here-row (yes m) (inl o) =
              let at_row : get_or starts (z + 1) 0 ≡ i = omega (arith, ap (λ (y : ℕ). get_or starts y 0) m, ap (λ (y : ℕ). get_or (set starts (z + 1) v) y 0) m, get_or-set_same starts (z + 1) v 0 b, rw o at w) in
              rw (← at_row) (put o)
          here-row (yes m) (inr o) = absurd (omega (arith, ap (λ (y : ℕ). get_or starts y 0) m, ap (λ (y : ℕ). get_or (set starts (z + 1) v) y 0) m, get_or-set_same starts (z + 1) v 0 b, rw o at w))
          here-row (no m) o = absurd (omega (arith, get_or-set_other starts (z + 1) j v 0 m))
      which j i a c d (no f) (yes q) = kept-right second.kept i (first.cells j i a (omega arith) q)
      which j i a c d (no f) (no q) = second.cells j i a (omega arith) d

-- ---- a node that fills: x is table t as a set, `more` the estimate with it
module _ {g : Graph} {near parts : List ℕ} {n t : ℕ} {e : ℕ} {chosen : Chosen} {starts out values : List ℕ} (c : Filling g near parts n t chosen e starts out values) (x : ℕ) (row : Bool) (l : t ≤ n) (q : x ≡ single t)
    (r : row ≡ is_yes (connected? g (chosen.set + x))) where
  abbrev place : ℕ
  place = get_or starts (chosen.size + 1) 0

  abbrev estimates : List ℕ
  estimates = map (estimate g) (memo g)

  inside : chosen.size + 1 < length starts
  inside = omega (arith, c.smaller, c.long)

  inside-n : chosen.size + 1 ≤ n
  inside-n = omega (arith, c.smaller)

  there : row ≡ true → (place < length (memo g)) × (get_or (memo g) (place) 0 ≡ chosen.set + x)
  there = row-place chosen.size x row starts {v = cond row (place + 1) (place)} l q r inside inside-n refl c.placed

  pub fits-row : row ≡ true → (place < length out) × (place < length values)
  fits-row b = (omega (arith, c.room, (there b).0), omega (arith, c.estimates-room, (there b).0))

  module _ {v more : ℕ} {wrote valued : List ℕ} (w : v ≡ cond row (place + 1) (place)) (m : more ≡ min max_estimate (by_parts parts (bit_and chosen.set (at near t)) t (t - 1) (e * get_or parts (cell_of t t) 0)))
      (i : length wrote ≡ length out) (j : length valued ≡ length values) where
    pub filling-with : Filling g near parts n (t + 1) (taking chosen x (at near t) row) more (set starts (chosen.size + 1) v) wrote valued
    filling-with = record {
      node = node-with c.node x l q row r;
      valued = valued-with c.node c.valued l x more q m;
      smaller = omega (arith, c.smaller);
      long = omega (arith, c.long, length-set starts (chosen.size + 1) v);
      placed = placed-with chosen.size x row starts l q r inside inside-n w c.placed;
      room = omega (arith, c.room);
      estimates-room = omega (arith, c.estimates-room);
    }

    module _ {ends mid values-mid : List ℕ} (f : Filled g n (t + 1) (chosen.set + x) (chosen.size + 1) (set starts (chosen.size + 1) v) ends wrote mid valued values-mid) where
      pub filling-without : length ends ≡ length (set starts (chosen.size + 1) v) → length mid ≡ length wrote → length values-mid ≡ length valued → Filling g near parts n (t + 1) chosen e ends mid values-mid
      filling-without a b d = record {
        node = node-without c.node l;
        valued = valued-without c.node c.valued l;
        smaller = omega (arith, c.smaller);
        long = omega (arith, c.long, length-set starts (chosen.size + 1) v);
        placed = placed-without chosen.size x row starts l q r inside inside-n w c.placed f.places;
        room = omega (arith, c.room);
        estimates-room = omega (arith, c.estimates-room);
      }

      -- one step of filling
      pub filled-step : {last new values-new : List ℕ} → wrote ≡ cond row (set out (place) (chosen.set + x)) out → valued ≡ cond row (set values (place) more) values
          → Filled g n (t + 1) chosen.set chosen.size ends last mid new values-mid values-new → Filled g n t chosen.set chosen.size starts last out new values values-new
      filled-step a b h = record {
        places = tallied-step x row starts l q r inside w f.places h.places;
        sets = laid-step chosen.size x row starts l q r inside inside-n w c.placed (memo g) out (kept_row row place (chosen.set + x) (memo g) out there c.room a) (put-row row place (chosen.set + x) (memo g) out there c.room a) f.sets h.sets;
        estimates = laid-step chosen.size x row starts l q r inside inside-n w c.placed estimates values (kept_row row place more estimates values valued-there room b) (put-row row place more estimates values valued-there room b) f.estimates h.estimates;
      }
        where
          room : length estimates ≤ length values
          room = omega (arith, length-map (estimate g) (memo g), c.estimates-room)

          valued-there : row ≡ true → (place < length estimates) × (get_or estimates place 0 ≡ more)
          valued-there y =
              (omega (arith, length-map (estimate g) (memo g), (there y).0), at_map (estimate g) 0 (memo g) place (there y).0 ∙ ap (estimate g) (there y).1 ∙ sym (with-estimate c.node c.valued l x more q m))

-- ---- the whole
memo-parts : (g : Graph) (k : ℕ) → k < table_count g → up_to g k ++ (rows_of g (k + 1) ++ in_row (rows_of g) (1 + (k + 1)) (table_count g - (k + 1))) ≡ memo g
unfolding memo
memo-parts g k l =
    let e : k + 1 + (table_count g - (k + 1)) ≡ table_count g = omega arith in
    sym (append_assoc (up_to g k) (rows_of g (k + 1)) (in_row (rows_of g) (1 + (k + 1)) (table_count g - (k + 1))))
    ∙ ap (λ (a : List ℕ). a ++ in_row (rows_of g) (1 + (k + 1)) (table_count g - (k + 1))) (sym (up_to-more g k))
    ∙ sym (row-split (rows_of g) 1 (k + 1) (table_count g - (k + 1)))
    ∙ ap (in_row (rows_of g) 1) e

found-zero : (g : Graph) (t m chosen : ℕ) → found g 0 0 t m chosen ≡ []
unfolding found
found-zero g t m chosen = refl

placed-root : (g : Graph) (starts : List ℕ) → ((s : ℕ) → s ≤ table_count g → get_or starts s 0 ≡ length (up_to g (s - 1))) → Placed g (table_count g) 1 0 0 starts
placed-root g starts h = record { sizes = λ s l. go s l }
  where
    no_size : 0 - 1 ≡ 0
    no_size = omega arith

    go : (s : ℕ) → s ≤ table_count g → Ahead (memo g) (get_or starts s 0) (found g s 0 1 (table_count g + 1 - 1) 0)
    go zero l = record { front = []; behind = memo g; whole = ap (λ (a : List ℕ). a ++ memo g) (found-zero g 1 (table_count g + 1 - 1) 0); place = sym (h 0 l ∙ ap (λ (i : ℕ). length (up_to g i)) no_size ∙ ap length (up_to-none g)) }
    go (suc k) l =
        let e : suc k - 1 ≡ k = omega arith in
        let f : suc k ≡ k + 1 = omega arith in
        record {
          front = up_to g k;
          behind = in_row (rows_of g) (1 + (k + 1)) (table_count g - (k + 1));
          whole = ap (λ (a : List ℕ). up_to g k ++ (a ++ in_row (rows_of g) (1 + (k + 1)) (table_count g - (k + 1)))) (ap (λ (s : ℕ). found g s 0 1 (table_count g + 1 - 1) 0) f ∙ found_first g k) ∙ memo-parts g k (omega arith);
          place = sym (h (suc k) l ∙ ap (λ (i : ℕ). length (up_to g i)) e);
        }

-- each place is one of a size's rows
size-at : (g : Graph) (k i : ℕ) → i < length (up_to g k) → (j : ℕ) × (j < k) × (length (up_to g j) ≤ i) × (i < length (up_to g (j + 1)))
size-at g zero i l = absurd (omega (arith, ap length (up_to-none g)))
size-at g (suc k) i l = go (dec_lt i (length (up_to g k))) (λ h. size-at g k i h)
  where
    e : length (up_to g (suc k)) ≡ length (up_to g (k + 1))
    e = ap (λ (j : ℕ). length (up_to g j)) (omega arith)

    go : Dec (i < length (up_to g k)) → (i < length (up_to g k) → (j : ℕ) × (j < k) × (length (up_to g j) ≤ i) × (i < length (up_to g (j + 1)))) → (j : ℕ) × (j < suc k) × (length (up_to g j) ≤ i) × (i < length (up_to g (j + 1)))
    go (yes h) ih = let o = ih h in (o.0, omega (arith, o.1), o.2, o.3)
    go (no h) ih = (k, omega arith, omega arith, omega (arith, e))

-- so the list begins with W, and else is as it was
laid-whole : (W old : List ℕ) {new : List ℕ} → length new ≡ length old → length W ≤ length old → Kept W old new → ((i : ℕ) → i < length W → get_or new i 0 ≡ get_or W i 0) → new ≡ sets old 0 W
laid-whole W old {new} n m k h = ext_get_or 0 new (W ++ drop (length W) old) (n ∙ sym long) each ∙ sym whole
  where
    long : length (W ++ drop (length W) old) ≡ length old
    long = omega (arith, length-append W (drop (length W) old), length-drop (length W) old)

    whole : sets old 0 W ≡ W ++ drop (length W) old
    whole = let e : 0 + length W ≡ length W = zero-add (length W) in sets-eq W old 0 (rw e m) ∙ rw e

    each : (i : ℕ) → i < length new → get_or new i 0 ≡ get_or (W ++ drop (length W) old) i 0
    each i l = go (dec_lt i (length W)) (k.cells i)
      where
        go : Dec (i < length W) → (get_or new i 0 ≡ get_or old i 0) ⊎ ((i < length W) × (get_or new i 0 ≡ get_or W i 0)) → get_or new i 0 ≡ get_or (W ++ drop (length W) old) i 0
        go (yes a) c = h i a ∙ sym (get_or-append W (drop (length W) old) 0 i a)
        go (no a) (inr c) = absurd (a c.0)
        go (no a) (inl c) =
            let e : i ≡ length W + (i - length W) = omega arith in
            c ∙ ap (λ (j : ℕ). get_or old j 0) e ∙ sym (get_or-drop (length W) old (i - length W) 0) ∙ sym (get_or-append-add W (drop (length W) old) (i - length W) 0) ∙ ap (λ (j : ℕ). get_or (W ++ drop (length W) old) j 0) (sym e)

module _ (g : Graph) (starts : List ℕ) {ends : List ℕ} (h : (s : ℕ) → s ≤ table_count g → get_or starts s 0 ≡ length (up_to g (s - 1))) (f : Tallied g (table_count g) 1 0 0 starts ends) where
  -- a column of all rows
  column-root : (W old : List ℕ) {new : List ℕ} → length W ≡ length (memo g) → length new ≡ length old → length (memo g) ≤ length old → Laid W (table_count g) starts ends old new → new ≡ sets old 0 W
  column-root W old {new} w n m laid = laid-whole W old n (omega arith) laid.kept each
    where
      each : (i : ℕ) → i < length W → get_or new i 0 ≡ get_or W i 0
      each i l =
          let o = size-at g (table_count g) i (omega (arith, w, ap length (up_to-end g (table_count g) refl))) in
          let j = o.0 in
          let e : j + 1 - 1 ≡ j = omega arith in
          let b : get_or starts (j + 1) 0 ≡ length (up_to g j) = h (j + 1) (omega (arith, o.1)) ∙ ap (λ (k : ℕ). length (up_to g k)) e in
          laid.cells (j + 1) i (omega (arith, o.1)) (omega (arith, b, o.2)) (omega (arith, b, o.3, f.sizes (j + 1) (omega (arith, o.1)), ap length (found_first g j), length_more g j))

pub filled-root : (g : Graph) (starts out values : List ℕ) {ends out' values' : List ℕ} → length out' ≡ length out → length values' ≡ length values → length (memo g) ≤ length out → length (memo g) ≤ length values → ((s : ℕ) → s ≤ table_count g → get_or starts s 0 ≡ length (up_to g (s - 1)))
    → Filled g (table_count g) 1 0 0 starts ends out out' values values' → (out' ≡ sets out 0 (memo g)) × (values' ≡ sets values 0 (map (estimate g) (memo g)))
filled-root g starts out values a b m k h f =
    (column-root g starts h f.places (memo g) out refl a m f.sets, column-root g starts h f.places (map (estimate g) (memo g)) values (length-map (estimate g) (memo g)) b k f.estimates)

-- one more size's place
pub starts_more : (g : Graph) (starts : List ℕ) (k : ℕ) {v : ℕ} → k + 1 < length starts → v ≡ length (up_to g k) → ((s : ℕ) → s ≤ k → get_or starts s 0 ≡ length (up_to g (s - 1))) → (s : ℕ) → s ≤ k + 1 → get_or (set starts (k + 1) v) s 0 ≡ length (up_to g (s - 1))
starts_more g starts k {v} b e h s l = go (ℕ_discrete s (k + 1))
  where
    go : Dec (s ≡ k + 1) → get_or (set starts (k + 1) v) s 0 ≡ length (up_to g (s - 1))
    go (yes i) =
        let f : k ≡ s - 1 = omega arith in
        ap (λ (j : ℕ). get_or (set starts (k + 1) v) j 0) i ∙ get_or-set_same starts (k + 1) v 0 b ∙ e ∙ ap (λ (j : ℕ). length (up_to g j)) f
    go (no i) = get_or-set_other starts (k + 1) s v 0 i ∙ h s (omega arith)

pub starts_none : (g : Graph) (starts : List ℕ) → get_or starts 0 0 ≡ 0 → (s : ℕ) → s ≤ 0 → get_or starts s 0 ≡ length (up_to g (s - 1))
starts_none g starts e s l =
    let z : s ≡ 0 = omega arith in
    let y : 0 ≡ s - 1 = omega arith in
    ap (λ (j : ℕ). get_or starts j 0) z ∙ e ∙ sym (ap length (up_to-none g)) ∙ ap (λ (j : ℕ). length (up_to g j)) y

pub filling-root : (g : Graph) (near parts starts out values : List ℕ) → GoodGraph g → Near g near → Parts g (edge_count g) parts → table_count g < length starts → length (memo g) ≤ length out → length (memo g) ≤ length values → ((s : ℕ) → s ≤ table_count g → get_or starts s 0 ≡ length (up_to g (s - 1)))
    → Filling g near parts (table_count g) 1 nothing 1 starts out values
filling-root g near parts starts out values good n p l m k h =
    record { node = root g near good n; valued = valued-root g parts good p; smaller = omega arith; long = l; placed = placed-root g starts h; room = m; estimates-room = k }

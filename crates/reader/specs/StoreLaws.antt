-- A good line's record at the end of the columns of its kind.
use Rattle.std.specs.Prelude.{◌≡◌, refl, List, ℕ, ◌≤◌, ◌<◌, ◌+◌, ◌-◌, length, take, drop, get_or, set}
use Rattle.std.proofs.Common.{sym, ◌∙◌, ap, add-one, length-set, take-suc-set, drop-set-lt, drop-drop}
use Rattle.std.proofs.Math.Bool.{false}
use native.Mathlib.Omega.{arith}
use Rattle.std.proofs.Math.Dec.{leb}
use borrow.Author.Tests.{leb-false}
use Rattle.rules.specs.declared.forms.Kind.{Kind}
use Rattle.rules.specs.declared.forms.Kind.TheVariants.{Table, Method, Edge, Crew}
use Rattle.rules.specs.Limits.{max_tables, max_methods, max_edge_lines}
use Rattle.rules.specs.Answers.{Spared}
use Rattle.rules.specs.Reading.{stage, excess, push, with_record}
use Rattle.fields.specs.declared.kinds.Progress.{Progress}
use Rattle.reader.specs.Lists.{Lists, Room}
use Rattle.reader.specs.Records.{Within, Spare, read_of}

-- the columns are as long as the records in them are many
pub record Held (p : Progress) (a : Lists) : Type 0 where
  pub tables : p.tables ≤ length a.rows
  pub methods : p.methods ≤ length a.fixed
  pub edges : p.edges ≤ length a.left

-- a line's record more: what is read, what is spare, and how far the columns are filled
pub record Stored (kind : Kind) (cells : List ℕ) (p n : Progress) (a b : Lists) : Type 0 where
  pub read : read_of n b ≡ with_record kind cells (read_of p a)
  pub spare : Spare n a b
  pub within : Within n
  pub held : Held n b
  pub tables-grow : p.tables ≤ n.tables
  pub methods-grow : p.methods ≤ n.methods
  pub edges-grow : p.edges ≤ n.edges

-- ---- one column
pushed : (l l' : List ℕ) (n v : ℕ) → n < length l → l' ≡ set l n v → take (n + 1) l' ≡ push (take n l) v
pushed l l' n v h e = rw (e, add-one) (take-suc-set l n v h)

pub spared-same : (n : ℕ) (l : List ℕ) → Spared n l l
spared-same n l = record { length-kept = refl; kept = refl }

spared-set : (l l' : List ℕ) (n v : ℕ) → l' ≡ set l n v → Spared (n + 1) l l'
spared-set l l' n v e = record { length-kept = ap length e ∙ length-set l n v; kept = ap (drop (n + 1)) e ∙ drop-set-lt (n + 1) l n v (omega arith) }

pub spared-on : (n m : ℕ) (a b c : List ℕ) → n ≤ m → Spared n a b → Spared m b c → Spared m a c
spared-on n m a b c h s t =
    let e : n + (m - n) ≡ m = omega arith in
    let f : drop m b ≡ drop m a = rw (← e) (sym (drop-drop (m - n) n b) ∙ ap (drop (m - n)) s.kept ∙ drop-drop (m - n) n a) in
    record { length-kept = t.length-kept ∙ s.length-kept; kept = t.kept ∙ f }

-- ---- there is room for one more
module _ (p : Progress) (kind : Kind) (x : excess kind p.tables p.methods p.edges ≡ false) where
  table_more : kind ≡ Table → p.tables < max_tables
  unfolding excess
  table_more k = let y : leb max_tables p.tables ≡ false = rw k at x in leb-false max_tables p.tables y

  method-more : kind ≡ Method → p.methods < max_methods
  unfolding excess
  method-more k = let y : leb max_methods p.methods ≡ false = rw k at x in leb-false max_methods p.methods y

  edge_more : kind ≡ Edge → p.edges < max_edge_lines
  unfolding excess
  edge_more k = let y : leb max_edge_lines p.edges ≡ false = rw k at x in leb-false max_edge_lines p.edges y

  module _ (a : Lists) (room : Room a) where
    pub table_fits : kind ≡ Table → (p.tables < length a.rows) × (p.tables < length a.scans)
    table_fits k = let m = table_more k in (omega (arith, room.rows_fit), omega (arith, room.scans-fit))

    pub method-fits : kind ≡ Method → (p.methods < length a.fixed) × (p.methods < length a.per_outer) × (p.methods < length a.per_inner) × (p.methods < length a.per_result)
    method-fits k = let m = method-more k in (omega (arith, room.fixed-fit), omega (arith, room.outer-fit), omega (arith, room.inner-fit), omega (arith, room.result-fit))

    pub edge-fits : kind ≡ Edge → (p.edges < length a.left) × (p.edges < length a.right) × (p.edges < length a.divisors)
    edge-fits k = let m = edge_more k in (omega (arith, room.left-fit), omega (arith, room.right-fit), omega (arith, room.divisors-fit))

-- where there is room, what is stored is held
held_in : (n : Progress) (a b : Lists) → Room a → Spare n a b → Within n → Held n b
held_in n a b r s w = record {
  tables = omega (arith, r.rows_fit, s.rows-spare.length-kept, w.tables);
  methods = omega (arith, r.fixed-fit, s.fixed-spare.length-kept, w.methods);
  edges = omega (arith, r.left-fit, s.left-spare.length-kept, w.edges);
}

pub spare-none : (p : Progress) (a : Lists) → Spare p a a
spare-none p a = record {
  rows-spare = spared-same p.tables a.rows;
  scans-spare = spared-same p.tables a.scans;
  left-spare = spared-same p.edges a.left;
  right-spare = spared-same p.edges a.right;
  divisors-spare = spared-same p.edges a.divisors;
  fixed-spare = spared-same p.methods a.fixed;
  outer-spare = spared-same p.methods a.per_outer;
  inner-spare = spared-same p.methods a.per_inner;
  result-spare = spared-same p.methods a.per_result;
}

stored : (kind : Kind) (cells : List ℕ) (p n : Progress) (a b : Lists) → Room a → read_of n b ≡ with_record kind cells (read_of p a) → Spare n a b → Within n → p.tables ≤ n.tables → p.methods ≤ n.methods → p.edges ≤ n.edges
    → Stored kind cells p n a b
stored kind cells p n a b r e s w t m g = record { read = e; spare = s; within = w; held = held_in n a b r s w; tables-grow = t; methods-grow = m; edges-grow = g }

-- ---- one more record of a kind
module _ (p : Progress) (a : Lists) (room : Room a) (w : Within p) (kind : Kind) (cells : List ℕ) (latest : ℕ) (f : latest ≡ stage kind) where
  pub table-stored : excess kind p.tables p.methods p.edges ≡ false → kind ≡ Table → (rows' scans' : List ℕ)
      → rows' ≡ set a.rows p.tables (get_or cells 1 0) → scans' ≡ set a.scans p.tables (get_or cells 2 0)
      → Stored kind cells p (record { tables = p.tables + 1; methods = p.methods; edges = p.edges; latest = latest; workers = p.workers; scheme = p.scheme }) a (record { rows = rows'; scans = scans'; left = a.left; right = a.right; divisors = a.divisors; fixed = a.fixed; per_outer = a.per_outer; per_inner = a.per_inner; per_result = a.per_result })
  unfolding with_record
  table-stored x k rows' scans' e0 e1 =
      let r = table_fits p kind x a room k in
      let m = table_more p kind x k in
      stored kind cells p _ a _ room (rw (f, k, pushed a.rows rows' p.tables (get_or cells 1 0) r.0 e0, pushed a.scans scans' p.tables (get_or cells 2 0) r.1 e1) refl)
      (record {
        rows-spare = spared-set a.rows rows' p.tables (get_or cells 1 0) e0;
        scans-spare = spared-set a.scans scans' p.tables (get_or cells 2 0) e1;
        left-spare = spared-same p.edges a.left;
        right-spare = spared-same p.edges a.right;
        divisors-spare = spared-same p.edges a.divisors;
        fixed-spare = spared-same p.methods a.fixed;
        outer-spare = spared-same p.methods a.per_outer;
        inner-spare = spared-same p.methods a.per_inner;
        result-spare = spared-same p.methods a.per_result;
      }) (record { tables = omega arith; methods = w.methods; edges = w.edges }) (omega arith) (omega arith) (omega arith)

  pub method-stored : excess kind p.tables p.methods p.edges ≡ false → kind ≡ Method → (fixed' per_outer' per_inner' per_result' : List ℕ)
      → fixed' ≡ set a.fixed p.methods (get_or cells 0 0) → per_outer' ≡ set a.per_outer p.methods (get_or cells 1 0) → per_inner' ≡ set a.per_inner p.methods (get_or cells 2 0) → per_result' ≡ set a.per_result p.methods (get_or cells 3 0)
      → Stored kind cells p (record { tables = p.tables; methods = p.methods + 1; edges = p.edges; latest = latest; workers = p.workers; scheme = p.scheme }) a (record { rows = a.rows; scans = a.scans; left = a.left; right = a.right; divisors = a.divisors; fixed = fixed'; per_outer = per_outer'; per_inner = per_inner'; per_result = per_result' })
  unfolding with_record
  method-stored x k fixed' per_outer' per_inner' per_result' e0 e1 e2 e3 =
      let r = method-fits p kind x a room k in
      let m = method-more p kind x k in
      stored kind cells p _ a _ room (rw (f, k, pushed a.fixed fixed' p.methods (get_or cells 0 0) r.0 e0, pushed a.per_outer per_outer' p.methods (get_or cells 1 0) r.1 e1, pushed a.per_inner per_inner' p.methods (get_or cells 2 0) r.2 e2, pushed a.per_result per_result' p.methods (get_or cells 3 0) r.3 e3) refl)
      (record {
        rows-spare = spared-same p.tables a.rows;
        scans-spare = spared-same p.tables a.scans;
        left-spare = spared-same p.edges a.left;
        right-spare = spared-same p.edges a.right;
        divisors-spare = spared-same p.edges a.divisors;
        fixed-spare = spared-set a.fixed fixed' p.methods (get_or cells 0 0) e0;
        outer-spare = spared-set a.per_outer per_outer' p.methods (get_or cells 1 0) e1;
        inner-spare = spared-set a.per_inner per_inner' p.methods (get_or cells 2 0) e2;
        result-spare = spared-set a.per_result per_result' p.methods (get_or cells 3 0) e3;
      }) (record { tables = w.tables; methods = omega arith; edges = w.edges }) (omega arith) (omega arith) (omega arith)

  pub edge-stored : excess kind p.tables p.methods p.edges ≡ false → kind ≡ Edge → (left' right' divisors' : List ℕ)
      → left' ≡ set a.left p.edges (get_or cells 0 0) → right' ≡ set a.right p.edges (get_or cells 1 0) → divisors' ≡ set a.divisors p.edges (get_or cells 2 0)
      → Stored kind cells p (record { tables = p.tables; methods = p.methods; edges = p.edges + 1; latest = latest; workers = p.workers; scheme = p.scheme }) a (record { rows = a.rows; scans = a.scans; left = left'; right = right'; divisors = divisors'; fixed = a.fixed; per_outer = a.per_outer; per_inner = a.per_inner; per_result = a.per_result })
  unfolding with_record
  edge-stored x k left' right' divisors' e0 e1 e2 =
      let r = edge-fits p kind x a room k in
      let m = edge_more p kind x k in
      stored kind cells p _ a _ room (rw (f, k, pushed a.left left' p.edges (get_or cells 0 0) r.0 e0, pushed a.right right' p.edges (get_or cells 1 0) r.1 e1, pushed a.divisors divisors' p.edges (get_or cells 2 0) r.2 e2) refl)
      (record {
        rows-spare = spared-same p.tables a.rows;
        scans-spare = spared-same p.tables a.scans;
        left-spare = spared-set a.left left' p.edges (get_or cells 0 0) e0;
        right-spare = spared-set a.right right' p.edges (get_or cells 1 0) e1;
        divisors-spare = spared-set a.divisors divisors' p.edges (get_or cells 2 0) e2;
        fixed-spare = spared-same p.methods a.fixed;
        outer-spare = spared-same p.methods a.per_outer;
        inner-spare = spared-same p.methods a.per_inner;
        result-spare = spared-same p.methods a.per_result;
      }) (record { tables = w.tables; methods = w.methods; edges = omega arith }) (omega arith) (omega arith) (omega arith)

  pub crew-stored : kind ≡ Crew → Stored kind cells p (record { tables = p.tables; methods = p.methods; edges = p.edges; latest = latest; workers = get_or cells 0 0; scheme = get_or cells 1 0 }) a a
  unfolding with_record
  crew-stored k = stored kind cells p _ a a room (rw (f, k) refl) (spare-none _ a) (record { tables = w.tables; methods = w.methods; edges = w.edges }) (omega arith) (omega arith) (omega arith)

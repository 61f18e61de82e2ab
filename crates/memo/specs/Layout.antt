-- What laying out leaves.
use Rattle.std.specs.Prelude.{◌≡◌, List, map, ℕ, ◌≤◌, ◌<◌, length, replicate, Result, Ok, Err}
use Rattle.rules.specs.Query.{Graph}
use Rattle.rules.specs.Estimate.{estimate}
use Rattle.rules.specs.Rows.{memo}
use Rattle.rules.specs.Skips.{skips}
use Rattle.rules.specs.Refusals.{Memory}
use Rattle.memo.specs.declared.layout.Laid.{Laid}
use Rattle.rules.specs.declared.refusal.Reason.TheVariants.{MemoRows, SkipCells}
use Rattle.rules.specs.declared.refusal.Refusal.{Refusal}
use Rattle.rules.specs.Verdict.{verdict_of}
use Rattle.memo.specs.declared.lent.Memo.{Memo}
use Rattle.skips.specs.Vectors.{written}

-- what a caller lends to be laid out: the memo's columns and the skip cells
pub record Lent : Type 0 where
  pub sets : List ℕ
  pub estimates : List ℕ
  pub costs : List ℕ
  pub outers : List ℕ
  pub methods : List ℕ
  pub skips : List ℕ

abbrev pub lent : List ℕ → List ℕ → List ℕ → List ℕ → List ℕ → List ℕ → Lent
lent s e c o m k = record { sets = s; estimates = e; costs = c; outers = o; methods = m; skips = k }

-- what the lists hold
abbrev pub held : Memo → Lent
held m = lent m.sets.now m.estimates.now m.costs.now m.outers.now m.methods.now m.skips.now

-- the same lists, whatever they hold
pub record SameLists (old new : Memo) : Type 0 where
  pub sets : new.sets.ghost_name ≡ old.sets.ghost_name
  pub estimates : new.estimates.ghost_name ≡ old.estimates.ghost_name
  pub costs : new.costs.ghost_name ≡ old.costs.ghost_name
  pub outers : new.outers.ghost_name ≡ old.outers.ghost_name
  pub methods : new.methods.ghost_name ≡ old.methods.ghost_name
  pub skips : new.skips.ghost_name ≡ old.skips.ghost_name

-- the part of a caller's memory that laying out writes
abbrev pub lent_of : Memory → Lent
lent_of m = lent m.sets m.estimates m.costs m.outers m.methods m.skips

-- "lent lists holding fields of the same records" have one length: what check 1 has seen to
pub record OneLength (old : Lent) : Type 0 where
  pub estimates : length old.estimates ≡ length old.sets
  pub costs : length old.costs ≡ length old.sets
  pub outers : length old.outers ≡ length old.sets
  pub methods : length old.methods ≡ length old.sets

-- no refusal 13, no refusal 14
pub record Room (g : Graph) (old : Lent) : Type 0 where
  pub rows : length (memo g) ≤ length old.sets
  pub cells : length (skips g) ≤ length old.skips

-- each column once the memo is laid out: the search will fill costs, outers and methods; spare cells are as they were
abbrev pub laid : Graph → Lent → Lent
laid g old = record {
  sets = written old.sets 0 (memo g);
  estimates = written old.estimates 0 (map (estimate g) (memo g));
  costs = written old.costs 0 (replicate (length (memo g)) 0);
  outers = written old.outers 0 (replicate (length (memo g)) 0);
  methods = written old.methods 0 (replicate (length (memo g)) 0);
  skips = written old.skips 0 (skips g);
}

-- "memo rows fewer than connected sets", "skip cells fewer than the sum of those sets' sizes"
abbrev pub few_rows : Refusal
few_rows = record { reason = MemoRows; place = 0 }

abbrev pub few_cells : Refusal
few_cells = record { reason = SkipCells; place = 0 }

-- the number of an answer: 0 where there is no refusal
abbrev pub refusal_of : Result Laid Refusal → ℕ
refusal_of r = (verdict_of r).number

abbrev pub counts : Graph → Laid
counts g = record { rows = length (memo g); cells = length (skips g) }

-- the answer and what is left of what was lent, in each of the three cases
pub record LaidOut (g : Graph) (old new : Lent) (r : Result Laid Refusal) : Type 0 where
  pub refused13 : length old.sets < length (memo g) → (r ≡ Err few_rows) × (new ≡ old)
  pub refused14 : length (memo g) ≤ length old.sets → length old.skips < length (skips g) → (r ≡ Err few_cells) × (new ≡ old)
  pub given : Room g old → (r ≡ Ok (counts g)) × (new ≡ laid g old)

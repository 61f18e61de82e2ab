use mathlib.Core.Path.{◌≡◌, ap, sym, ◌∙◌}
use Prim.Native.Nat.{ℕ, ◌^◌, ◌<◌}
use native.Mathlib.Omega.{arith}
use lib.Bits.{bit_xor, xor_lt}
use lib.Count.{count_trailing_zeros}
use Rattle.rules.specs.Sets.{tables}
use Rattle.rules.specs.Rows.{before}
use Rattle.sets.specs.Laws.{trailing_lt, xor_same, before_self, before-lowest}
use Rattle.sets.proofs.comes_first.Goals as goal

-- a and b are one set
pub returns-then-a-b : goal.returns-then-a-b
returns-then-a-b c =
    let a = c.args.a in
    sym (ap (λ (x : ℕ). before (tables 32 a) (tables 32 x)) (sym c.if-a-b.true) ∙ before_self (tables 32 a))

-- they differ, and below the width
small : (a b : ℕ) → (a ≡ b → ⊥) → a < 2 ^ 32 → b < 2 ^ 32 → count_trailing_zeros 64 (bit_xor a b) < 32
small a b d ha hb = trailing_lt 64 32 (bit_xor a b) (some (bit_xor a b) (λ e. d (xor_same a b e))) (xor_lt 32 a b ha hb) (omega arith)
  where
    some : (n : ℕ) → (n ≡ 0 → ⊥) → 0 < n
    some n h = omega arith

place : (c : goal.Else-a-b) → count_trailing_zeros 64 (bit_xor c.args.a c.args.b) < 32
place c = small c.args.a c.args.b c.if-a-b.false c.requires.1 c.requires.2

pub overflow_cast-result : goal.overflow_cast-result
overflow_cast-result c = omega (arith, place c)

pub overflow_shr-result : goal.overflow_shr-result
overflow_shr-result c = omega (arith, place c)

pub returns : goal.returns
returns c =
    sym (before-lowest 32 64 c.args.a c.args.b (omega arith) c.requires.1 c.requires.2 c.requires.0)

-- Where the first byte of a kind stands.
use Rattle.std.specs.Prelude.{cond, List, [], ◌∷◌, ℕ, zero, suc, eqb}

-- how many bytes stand before the first byte `by`, or before the end
unfoldable pub span : ℕ → List ℕ → ℕ
span by [] = zero
span by (b ∷ bs) = cond (eqb b by) zero (suc (span by bs))

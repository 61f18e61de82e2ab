-- Memo order of sets of one size, as a number.
use Rattle.std.specs.Prelude.{ℕ, zero, suc, ◌+◌, ◌*◌, ◌/◌, ◌%◌, ◌^◌}

-- the n lowest digits of S in the other order: of two sets of one size, the one with the larger key stands first
unfoldable pub key : ℕ → ℕ → ℕ
key zero S = 0
key (suc n) S = S % 2 * 2 ^ n + key n (S / 2)

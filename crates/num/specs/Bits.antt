-- The bit length of a number: how many binary digits it takes. Assumes nothing.
use Rattle.std.specs.Prelude.{ℕ, zero, suc, ◌/◌}

-- The digits of n, where at most `most` are looked at: 0 has none, and any other number has one more than its half.
unfoldable pub digits_in : ℕ → ℕ → ℕ
digits_in zero n = zero
digits_in (suc most) zero = zero
digits_in (suc most) (suc n) = suc (digits_in most (suc n / 2))

-- A number n has no more than n digits.
unfoldable pub bit_length : ℕ → ℕ
bit_length n = digits_in n n

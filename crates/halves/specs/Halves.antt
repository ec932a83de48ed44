-- A signed number of 16 bits as its bits, in two's complement, and as two bytes. Assumes nothing.
use Rattle.std.specs.Prelude.{cond, ℕ, ◌+◌, ◌-◌, ◌*◌, ltb, ℤ, pos, negsuc}

-- The top bit means negative, and then the number is -1 less the complement of its bits.
abbrev pub from_bits : ℕ → ℤ
from_bits n = cond (ltb n 32768) (pos n) (negsuc (65535 - n))

-- The bits of a number, the other way round.
abbrev pub bits_of : ℤ → ℕ
bits_of (pos n) = n
bits_of (negsuc n) = 65535 - n

-- The high byte stands above the low one.
abbrev pub from_halves : ℕ → ℕ → ℤ
from_halves high low = from_bits (high * 256 + low)

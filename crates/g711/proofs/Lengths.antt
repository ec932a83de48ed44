-- The bit length of what is kept: what is left of 32 after its leading zeros, at most 12 or 13, and 6 at least where 33 was added. Assumes nothing.
use mathlib.Core.Path.{◌≡◌}
use Prim.Native.Nat.{ℕ, ◌-◌, ◌<◌, ◌≤◌}
use lib.Count.{count_leading_zeros}
use Rattle.num.specs.Bits.{bit_length}
use Rattle.num.proofs.Bits.{not-leading, length-le, lt-length}

pub left_of_32 : (n : ℕ) → n < 4294967296 → 32 - count_leading_zeros 32 n ≡ bit_length n
left_of_32 = not-leading 32

pub at_most_12 : (n : ℕ) → n < 4096 → bit_length n ≤ 12
at_most_12 = length-le 12

pub at_most_13 : (n : ℕ) → n < 8192 → bit_length n ≤ 13
at_most_13 = length-le 13

pub at_least_6 : (n : ℕ) → 32 ≤ n → 6 ≤ bit_length n
at_least_6 = lt-length 5

pub ruleset lengths = (left_of_32, at_most_12, at_most_13, at_least_6)

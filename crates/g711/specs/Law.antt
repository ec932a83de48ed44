-- G.711's two laws, over one parameter, the law: what a code decodes to, and the code of a sample.
-- Bits are numbered from 0, codes are numbers below 256, and samples are signed. Assumes nothing.
use Rattle.std.specs.Prelude.{Bool, cond, ℕ, zero, suc, ◌+◌, ◌-◌, ◌*◌, ◌/◌, ◌%◌, ◌^◌, max, ltb, eqb, ℤ, pos, negsuc, neg_ℤ}
use Rattle.std.specs.Int.Bits.{bit_xor}
use Rattle.std.specs.Int.Signed.{mag, shr_z}
use Rattle.num.specs.Bits.{bit_length}

pub data Law : Type 0 where
  mu_law : Law
  a_law : Law

-- The number that a code is xored with to give u: mu 0xff, A 0xd5.
abbrev pub mask : Law → ℕ
mask mu_law = 0xff
mask a_law = 0xd5

-- ---- Decoding

-- Bits of u are numbered from 0: those from low to high, as a number.
abbrev pub bits : ℕ → ℕ → ℕ → ℕ
bits low high u = u / 2 ^ low % 2 ^ (high + 1 - low)

-- The magnitude of e and f. mu: 4((2f+33)2^e - 33). A: 8(2f+1) if e = 0, else 8(2f+33)2^(e-1).
abbrev pub magnitude : Law → ℕ → ℕ → ℕ
magnitude mu_law e f = 4 * ((2 * f + 33) * 2 ^ e - 33)
magnitude a_law zero f = 8 * (2 * f + 1)
magnitude a_law (suc e) f = 8 * (2 * f + 33) * 2 ^ e

-- e is bits 4 to 6, f is bits 0 to 3, and bit 7 means negative.
abbrev pub value_of : Law → ℕ → ℤ
value_of law u =
    let m = magnitude law (bits 4 6 u) (bits 0 3 u) in cond (eqb (bits 7 7 u) 1) (neg_ℤ (pos m)) (pos m)

-- The sample of a code: u is the code xor the mask.
unfoldable pub sample_of : Law → ℕ → ℤ
sample_of law code = value_of law (bit_xor code (mask law))

-- ---- Encoding

-- How many low bits are dropped by arithmetic shift: mu 2, A 3.
abbrev pub dropped : Law → ℕ
dropped mu_law = 2
dropped a_law = 3

-- What is kept of a sample: shifted, and a negative then complemented, not negated. (`mag` of -1 - n is n.) mu adds 33.
abbrev pub kept : Law → ℤ → ℕ
kept mu_law x = mag (shr_z x (2 ^ dropped mu_law)) + 33
kept a_law x = mag (shr_z x (2 ^ dropped a_law))

-- A mu-law sum above 8191 is clipped to segment 7 with all four bits set.
abbrev pub clipped : ℕ → Bool
clipped sum = ltb 8191 sum

-- The segment. mu: the sum's bit length less 6. A: the bit length, taken as 5 if shorter, less 5.
unfoldable pub segment : Law → ℤ → ℕ
segment mu_law x = cond (clipped (kept mu_law x)) 7 (bit_length (kept mu_law x) - 6)
segment a_law x = max 5 (bit_length (kept a_law x)) - 5

-- The four bits. mu: the low four of the sum shifted right by segment plus 1. A: after a right shift by the segment, or by 1 in segment 0.
unfoldable pub four_bits : Law → ℤ → ℕ
four_bits mu_law x = cond (clipped (kept mu_law x)) 15 (kept mu_law x / 2 ^ (segment mu_law x + 1) % 16)
four_bits a_law x = kept a_law x / 2 ^ max 1 (segment a_law x) % 16

-- Sign, segment and four bits make u,
abbrev pub joined : ℤ → ℕ → ℕ → ℕ
joined (pos n) s f = 16 * s + f
joined (negsuc n) s f = 128 + (16 * s + f)

-- and the xor gives the code.
unfoldable pub code_of : Law → ℤ → ℕ
code_of law x = bit_xor (joined x (segment law x) (four_bits law x)) (mask law)

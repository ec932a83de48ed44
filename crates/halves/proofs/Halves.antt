-- A number of 16 bits is read back from its bits, and from its two bytes; and any bits are read as one. Assumes nothing.
use mathlib.Core.Path.{◌≡◌, ap}
use Prim.Native.Nat.{ℕ, ◌+◌, ◌-◌, ◌*◌, ◌/◌, ◌%◌}
use native.Mathlib.Omega.{arith}
use lib.Dec.{ltb, leb→le}
use lib.IntN.{ℤ, pos, negsuc}
use lib.Signed.{◌≤ℤ◌}
use mir.Syntax.{w16}
use mir.Val.{SFits}
use borrow.Author.Tests.{lt-ltb, le-ltb, ltb-true, ltb-false}
use borrow.Table.Steps.{cases}
use Rattle.halves.specs.Halves.{from_bits, bits_of, from_halves}

pub bits_back : (x : ℤ) → negsuc 32767 ≤ℤ x → x ≤ℤ pos 32767 → from_bits (bits_of x) ≡ x
bits_back (pos n) l h = let k = leb→le n 32767 h.le in rw (lt-ltb n 32768 (omega arith))
bits_back (negsuc n) l h = let k = leb→le n 32767 l.le in rw (le-ltb (65535 - n) 32768 (omega arith)) (ap negsuc (omega arith))

pub halves-back : (x : ℤ) → negsuc 32767 ≤ℤ x → x ≤ℤ pos 32767 → from_halves (bits_of x / 256) (bits_of x % 256) ≡ x
halves-back x l h = let whole : bits_of x / 256 * 256 + bits_of x % 256 ≡ bits_of x = omega arith in rw whole (bits_back x l h)

pub bits_fit : (n : ℕ) → SFits w16 (from_bits n)
bits_fit n =
    cases (ltb n 32768)
    (λ t. rw t (record { sfits = omega (arith, ltb-true n 32768 t) }))
    (λ t. rw t (record { sfits = omega (arith, ltb-false n 32768 t) }))

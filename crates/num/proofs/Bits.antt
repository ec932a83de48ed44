-- The bit length against the machine's count of leading zeros, and against powers of two.
-- Each halves its number, so they go down together. Assumes nothing.
use mathlib.Core.Path.{◌≡◌, refl, ap, ◌∙◌}
use Prim.Native.Nat.{ℕ, zero, suc, ◌+◌, ◌-◌, ◌/◌, ◌^◌, ◌≤◌, ◌<◌}
use native.Mathlib.Nat.{pow-suc, add-suc, lt_of_not-le, not-le_of_lt, le_trans}
use native.Mathlib.Omega.{arith}
use lib.Count.{count_leading_zeros}
use lib.Pow.{pow_mono}
use Rattle.num.specs.Bits.{digits_in, bit_length}

leads : (k most n : ℕ) → n ≤ most → n < 2 ^ k → count_leading_zeros k n + digits_in most n ≡ k
unfolding count_leading_zeros digits_in
leads zero zero n l h = refl
leads zero (suc most) zero l h = refl
leads zero (suc most) (suc n) l h = omega arith
leads (suc k) zero zero l h = omega arith
leads (suc k) zero (suc n) l h = omega arith
leads (suc k) (suc most) zero l h = omega arith
leads (suc k) (suc most) (suc n) l h =
    add-suc (count_leading_zeros k (suc n / 2)) (digits_in most (suc n / 2))
    ∙ ap suc (leads k most (suc n / 2) (omega arith) (let p = pow-suc 2 k in omega arith))

holds : (most n : ℕ) → n ≤ most → n < 2 ^ digits_in most n
unfolding digits_in
holds zero n l = omega arith
holds (suc most) zero l = omega arith
holds (suc most) (suc n) l =
    let d = digits_in most (suc n / 2) in
    let h : suc n / 2 < 2 ^ d = holds most (suc n / 2) (omega arith) in
    let p = pow-suc 2 d in
    omega arith

-- of k digits, those that are not leading zeros
pub leading : (k n : ℕ) → n < 2 ^ k → count_leading_zeros k n + bit_length n ≡ k
unfolding bit_length
leading k n h = leads k n n (omega arith) h

pub not-leading : (k n : ℕ) → n < 2 ^ k → k - count_leading_zeros k n ≡ bit_length n
not-leading k n h = let e = leading k n h in omega arith

-- a number below 2 ^ k takes at most k digits
pub length-le : (k n : ℕ) → n < 2 ^ k → bit_length n ≤ k
length-le k n h = let e = leading k n h in omega arith

-- and one that is not takes more
pub lt-length : (k n : ℕ) → 2 ^ k ≤ n → k < bit_length n
unfolding bit_length
lt-length k n h = lt_of_not-le (λ l. not-le_of_lt (holds n n (omega arith)) (le_trans (pow_mono l) h))

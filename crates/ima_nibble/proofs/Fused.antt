-- A nibble's parts that the state behind it shares: the magnitude is what was taken, whatever the sign. Assumes nothing.
use mathlib.Core.Path.{◌≡◌, refl, sym, ap, ◌∙◌}
use mathlib.Core.Bool.{Bool, true, false}
use Prim.Native.Nat.{ℕ, ◌+◌, ◌-◌, ◌*◌, ◌/◌, ◌%◌, ◌≤◌, min}
use native.Mathlib.Omega.{arith}
use lib.Dec.{leb}
use lib.IntN.{ℤ, pos, negsuc}
use lib.Signed.{lt_z}
use borrow.Author.Tests.{leb-true, leb-false, le-ltb, eq-eqb, ne_eqb}
use borrow.Table.Steps.{cases}
use Rattle.ima_nibble.specs.Step.{bit, part, m, sum_of, exact_sum, indexed, sign, takes, left, greedy}
use Rattle.ima_nibble.proofs.Counted.{reached_of, none, all, counted}
use Rattle.ima_nibble.proofs.Held.{hold}
use Rattle.ima_nibble.proofs.Parts.{parts, taken, part-le}

-- the sign by the test
pub sign-is : (x : ℤ) → sign x ≡ part (lt_z x (pos 0)) 8
sign-is (pos n) = rw (le-ltb n 0 (omega arith))
sign-is (negsuc n) = refl

-- the sign is above the magnitude
eight : (is : Bool) → part is 8 % 8 ≡ 0
eight true = refl
eight false = refl

quarter : (is : Bool) (g n : ℕ) → g ≡ 4 + n → n ≤ 3 → (part is 8 + g) % 4 ≡ n
quarter true g n e h = omega arith
quarter false g n e h = omega arith

reached-le : (a s r : ℕ) → reached_of a s r ≤ 3
reached-le a s r =
    omega (arith, part-le (takes r (a + s / 4)) 1, part-le (takes r (a + s / 2)) 1, part-le (takes r (a + s / 2 + s / 4)) 1)

module _ (s r : ℕ) where
  -- what is taken is what is not left
  pub took : m s (greedy s r) ≡ r - left (left (left r s) (s / 2)) (s / 4)
  took = let same : 0 + greedy s r ≡ greedy s r = omega arith in rw same at (taken s r false)

  module _ (is : Bool) where
    abbrev v : ℕ
    v = part is 8 + greedy s r

    pub sums : (p : ℤ) → sum_of is p (m s (greedy s r) + s / 8) ≡ exact_sum s p v
    sums p =
        let same : m s v ≡ m s (greedy s r) = taken s r is ∙ sym took in
        rw (same, (parts s r is).1) refl

    -- below the first part nothing above it is reached, and from it on all below
    added : part (bit 4 v) (2 * (v % 4) + 3) ≡ 3 * part (takes r s) 1 + 2 * reached_of s s r
    added =
        let sum = counted s r in
        let top = eight is in
        cases (leb s r)
        (λ e.
        let one : part (takes r s) 1 ≡ 1 = rw e refl in
        let low = all s r (leb-true s r e) in
        let high = reached-le s s r in
        let set : v / 4 % 2 ≡ 1 = omega (arith, sum, top, one, low, high) in
        let rest = quarter is (greedy s r) (reached_of s s r) (omega (arith, sum, one, low)) high in
        rw (eq-eqb (v / 4 % 2) 1 set) (omega (arith, one, rest)))
        (λ e.
        let no : part (takes r s) 1 ≡ 0 = rw e refl in
        let high = none s r (leb-false s r e) in
        let low = reached-le 0 s r in
        let unset : v / 4 % 2 ≡ 1 → ⊥ = λ b. omega (arith, sum, top, no, low, high, b) in
        rw (ne_eqb (v / 4 % 2) 1 unset) (omega (arith, no, high)))

    pub raises : (last i : ℕ) → min (i + (3 * part (takes r s) 1 + 2 * reached_of s s r) - 1) last ≡ indexed last i v
    raises last i = ap (λ (n : ℕ). min (i + n - 1) last) (sym added) ∙ hold last v i (bit 4 v) refl

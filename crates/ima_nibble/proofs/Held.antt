-- An index that is moved and held: what is added is one more than the move, and that one is taken away again. Assumes nothing.
use mathlib.Core.Path.{◌≡◌, sym}
use mathlib.Core.Bool.{Bool, true, false}
use Prim.Native.Nat.{ℕ, zero, suc, ◌+◌, ◌-◌, ◌*◌, ◌/◌, ◌%◌, ◌<◌, min}
use native.Mathlib.Omega.{arith}
use lib.Dec.{ltb}
use lib.IntN.{pos, nat_abs}
use borrow.Author.Tests.{eqb-true, eqb-false, ltb-true, ltb-false, lt-ltb, le-ltb}
use borrow.Table.Steps.{cases}
use Rattle.num.specs.Clamp.{clamp}
use Rattle.num.proofs.Signed.{sub-ge}
use Rattle.ima_nibble.specs.Step.{bit, part, indexed}

-- a number that is not negative, held at the last index
top : (last n : ℕ) → nat_abs (clamp (pos 0) (pos last) (pos n)) ≡ min n last
top last n =
    rw (le-ltb n 0 (omega arith))
    (cases (ltb last n) (λ e. rw e (omega (arith, ltb-true last n e))) (λ e. rw e (omega (arith, ltb-false last n e))))

module _ (last v : ℕ) where
  low : bit 4 v ≡ false → v % 8 < 4
  low e = let b = eqb-false (v / 4 % 2) 1 e in omega (arith, b)

  pub hold : (i : ℕ) (is : Bool) → bit 4 v ≡ is → min (i + part (bit 4 v) (2 * (v % 4) + 3) - 1) last ≡ indexed last i v
  unfolding indexed
  hold i true e =
      let b = eqb-true (v / 4 % 2) 1 e in
      let n = i + (2 * (v % 8) - 6) in
      let same : i + (2 * (v % 4) + 3) - 1 ≡ n = omega arith in
      rw (e, le-ltb (v % 8) 4 (omega arith), same) (sym (top last n))
  hold zero false e = let b = low e in rw (e, lt-ltb (v % 8) 4 (omega arith)) (omega arith)
  hold (suc i) false e =
      let b = low e in
      let n = suc i - 1 in
      let same : suc i + 0 - 1 ≡ n = omega arith in
      rw (e, lt-ltb (v % 8) 4 (omega arith), sub-ge (suc i) 1 (omega arith), same) (sym (top last n))

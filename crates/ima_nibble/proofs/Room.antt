-- How far a number of 16 bits is from the lowest and from the highest of them. Assumes nothing.
use mathlib.Core.Path.{◌≡◌, sym, ap, ap₂, ◌∙◌}
use mathlib.Core.Bool.{Bool, cond}
use Prim.Native.Nat.{ℕ, zero, suc, ◌<◌, min}
use native.Mathlib.Omega.{arith}
use lib.Dec.{T, ltb}
use lib.IntN.{ℤ, pos, negsuc, neg_ℤ, nat_abs, ◌+ℤ◌, ◌-ℤ◌, +ℤ_comm, neg_ℤ-+ℤ}
use lib.Signed.{non_neg, pos-nat_abs}
use mir.Syntax.{w16}
use mir.Val.{SFits}
use Rattle.num.proofs.Signed.{sub-ge}
use Rattle.num.specs.Clamp.{clamp, outside}
use Rattle.num.proofs.Shift.{put_on, signed, clamp-step, outside-step}
use Rattle.ima_nibble.specs.Step.{sum_of}

abbrev pub under : ℤ → ℕ
under p = nat_abs (p +ℤ pos 32768)

abbrev pub over : ℤ → ℕ
over p = nat_abs (pos 32767 -ℤ p)

-- neither distance is negative
not-under : (p : ℤ) → SFits w16 p → T (non_neg (p +ℤ pos 32768))
not-under (pos n) f = tt
not-under (negsuc n) f = rw (sub-ge 32768 (suc n) (omega (arith, f.sfits))) tt

not-over : (p : ℤ) → SFits w16 p → T (non_neg (pos 32767 -ℤ p))
not-over (pos zero) f = tt
not-over (pos (suc n)) f = rw (sub-ge 32767 (suc n) (omega (arith, f.sfits))) tt
not-over (negsuc n) f = tt

module _ (p : ℤ) (f : SFits w16 p) where
  pub under-is : p +ℤ pos 32768 ≡ pos (under p)
  under-is = sym (pos-nat_abs (p +ℤ pos 32768) (not-under p f))

  pub over-is : pos 32767 -ℤ p ≡ pos (over p)
  over-is = sym (pos-nat_abs (pos 32767 -ℤ p) (not-over p f))

  -- the two limits by them
  pub lowest-is : negsuc 32767 ≡ p -ℤ pos (under p)
  lowest-is =
      sym
      (ap (λ (z : ℤ). p -ℤ z) (sym under-is)
      ∙ ap (λ (z : ℤ). p +ℤ z) (neg_ℤ-+ℤ p (pos 32768) ∙ +ℤ_comm (neg_ℤ p) (negsuc 32767))
      ∙ put_on p (negsuc 32767))

  pub highest-is : pos 32767 ≡ p +ℤ pos (over p)
  highest-is = sym (put_on p (pos 32767)) ∙ ap (λ (z : ℤ). p +ℤ z) over-is

  -- a step to one side is held by the room there
  pub step_is : (d : ℕ) (is : Bool) → clamp (negsuc 32767) (pos 32767) (sum_of is p d) ≡ p +ℤ signed is (min d (cond is (under p) (over p)))
  step_is d is =
      ap₂ (λ (a b : ℤ). clamp a b (sum_of is p d)) lowest-is highest-is
      ∙ clamp-step p (under p) (over p) d is

  -- and is clipped if it is longer
  pub clips-is : (d : ℕ) (is : Bool) → outside (negsuc 32767) (pos 32767) (sum_of is p d) ≡ ltb (cond is (under p) (over p)) d
  clips-is d is =
      ap₂ (λ (a b : ℤ). outside a b (sum_of is p d)) lowest-is highest-is
      ∙ outside-step p (under p) (over p) d is

pub under-lt : (p : ℤ) → SFits w16 p → under p < 65536
under-lt (pos n) f = omega (arith, f.sfits)
under-lt (negsuc n) f = rw (sub-ge 32768 (suc n) (omega (arith, f.sfits))) (omega arith)

pub over-lt : (p : ℤ) → SFits w16 p → over p < 65536
over-lt (pos zero) f = omega arith
over-lt (pos (suc n)) f = rw (sub-ge 32767 (suc n) (omega (arith, f.sfits))) (omega arith)
over-lt (negsuc n) f = omega (arith, f.sfits)

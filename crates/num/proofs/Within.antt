-- A clamped number lies between its limits, how large it can be then, and on which side of another it stays. Assumes nothing.
use mathlib.Core.Path.{◌≡◌}
use mathlib.Core.Bool.{false, true≢false}
use Prim.Native.Nat.{ℕ, ◌≤◌, zero-le}
use lib.Dec.{leb→le, le→leb}
use lib.IntN.{ℤ, pos, negsuc, nat_abs}
use lib.Signed.{mag, lt_z, ◌≤ℤ◌, lt_z_yes, lt_z_no, ≤ℤ_refl, clash_ℤ}
use borrow.Table.Steps.{cases}
use Rattle.num.specs.Clamp.{clamp, outside}
use Rattle.num.proofs.Shift.{≤ℤ-trans}

pub clamp-within : {a b : ℤ} → a ≤ℤ b → (x : ℤ) → (a ≤ℤ clamp a b x) × (clamp a b x ≤ℤ b)
clamp-within {a} {b} h x =
    cases (lt_z x a)
    (λ e. rw e (≤ℤ_refl a, h))
    (λ e. rw e (cases (lt_z b x) (λ f. rw f (h, ≤ℤ_refl b)) (λ f. rw f (lt_z_no (rw e tt), lt_z_no (rw f tt)))))

-- a number that is not outside its limits is its own clamp
pub clamp-inside : (a b x : ℤ) → outside a b x ≡ false → clamp a b x ≡ x
unfolding outside
clamp-inside a b x e =
    cases (lt_z x a)
    (λ t. absurd (true≢false (rw t at e)))
    (λ t. rw t (cases (lt_z b x) (λ u. absurd (true≢false (rw (t, u) at e))) (λ u. rw u)))

-- between -(n + 1) and n
pub mag-clamp : (n : ℕ) (x : ℤ) → mag (clamp (negsuc n) (pos n) x) ≤ n
mag-clamp n x = let (l, h) = clamp-within {a = negsuc n} {b = pos n} (record { le = tt }) x in small _ l h
  where
    small : (z : ℤ) → negsuc n ≤ℤ z → z ≤ℤ pos n → mag z ≤ n
    small (pos a) l h = leb→le a n h.le
    small (negsuc a) l h = leb→le a n l.le

-- between 0 and n
pub clamp-le : (n : ℕ) (x : ℤ) → nat_abs (clamp (pos 0) (pos n) x) ≤ n
clamp-le n x = let (l, h) = clamp-within {a = pos 0} {b = pos n} (record { le = le→leb 0 n zero-le }) x in small _ l h
  where
    small : (z : ℤ) → pos 0 ≤ℤ z → z ≤ℤ pos n → nat_abs z ≤ n
    small (pos a) l h = leb→le a n h.le
    small (negsuc a) l h = absurd l.le

-- a number between the limits that is at least x, or at most x, is so of x clamped
module _ {a b p : ℤ} (l : a ≤ℤ p) (h : p ≤ℤ b) where
  pub clamp-under : (x : ℤ) → x ≤ℤ p → clamp a b x ≤ℤ p
  clamp-under x k =
      cases (lt_z x a)
      (λ e. rw e l)
      (λ e. rw e (cases (lt_z b x) (λ f. clash_ℤ (lt_z_yes {a = b} (rw f tt)) (≤ℤ-trans k h)) (λ f. rw f k)))

  pub clamp-over : (x : ℤ) → p ≤ℤ x → p ≤ℤ clamp a b x
  clamp-over x k =
      cases (lt_z x a)
      (λ e. clash_ℤ (lt_z_yes {a = x} (rw e tt)) (≤ℤ-trans l k))
      (λ e. rw e (cases (lt_z b x) (λ f. rw f h) (λ f. rw f k)))

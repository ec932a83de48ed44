-- Signed numbers: how large a sum is, what the machine reads back of a number, and what its tests and casts say of it.
-- A number that fits is read back as it is, so each law begins there. Assumes nothing.
use mathlib.Core.Path.{◌≡◌, refl, sym, ap, ap₂, ◌∙◌, subst}
use mathlib.Core.Bool.{Bool, true, false}
use Prim.Native.Nat.{ℕ, zero, suc, ◌+◌, ◌-◌, ◌^◌, ◌≤◌, ◌<◌, max}
use native.Mathlib.Omega.{arith}
use lib.Dec.{T, ltb}
use lib.IntN.{ℤ, pos, negsuc, neg_ℤ, nat_abs, sub_ℕ, ◌+ℤ◌, ◌-ℤ◌}
use lib.Signed.{mag, lt_z, non_neg}
use mir.Syntax.{Width, w16, w32}
use mir.Val.{bits, hbits, SFits, Fits, to_z, of_z}
use mir.ValLaws.{to_z-of_z}
use borrow.Author.Tests.{ltb-true, le-ltb}
use borrow.Table.Steps.{cases}

-- ---- sums

pub sub-ge : (a b : ℕ) → b ≤ a → sub_ℕ a b ≡ pos (a - b)
sub-ge a b h = rw (le-ltb a b h)

-- a number by its sign: mag is n both of n and of -(n + 1)
pub negative : (x : ℤ) → lt_z x (pos 0) ≡ true → x ≡ negsuc (mag x)
negative (pos n) t = absurd (omega (arith, ltb-true n 0 t))
negative (negsuc n) t = refl

pub positive : (x : ℤ) → lt_z x (pos 0) ≡ false → x ≡ pos (mag x)
positive (pos n) t = refl
positive (negsuc n) t = absurd (subst T t tt)

-- -1 less n
pub minus_one : (n : ℕ) → negsuc 0 -ℤ pos n ≡ negsuc n
minus_one zero = refl
minus_one (suc n) = ap negsuc (omega arith)

mag-sub : (a b : ℕ) → mag (sub_ℕ a b) ≤ a + b
mag-sub a b = cases (ltb a b) (λ e. rw e (omega (arith, ltb-true a b e))) (λ e. rw e (omega arith))

pub mag-add : (x y : ℤ) → mag (x +ℤ y) ≤ suc (mag x + mag y)
mag-add (pos a) (pos b) = omega arith
mag-add (pos a) (negsuc b) = let h = mag-sub a (suc b) in omega arith
mag-add (negsuc a) (pos b) = let h = mag-sub b (suc a) in omega arith
mag-add (negsuc a) (negsuc b) = omega arith

pub mag-neg : (x : ℤ) → mag (neg_ℤ x) ≤ suc (mag x)
mag-neg (pos zero) = omega arith
mag-neg (pos (suc n)) = omega arith
mag-neg (negsuc n) = omega arith

sub-le : (a b : ℕ) → nat_abs (sub_ℕ a b) ≤ max a b
sub-le a b = cases (ltb a b) (λ e. rw e (omega (arith, ltb-true a b e))) (λ e. rw e (omega arith))

-- how far two numbers are apart
pub apart-le : (x y : ℤ) → nat_abs (x -ℤ y) ≤ suc (mag x + mag y)
apart-le (pos a) (pos zero) = omega arith
apart-le (pos a) (pos (suc b)) = let h = sub-le a (suc b) in omega arith
apart-le (pos a) (negsuc b) = omega arith
apart-le (negsuc a) (pos zero) = let h = sub-le 0 (suc a) in omega arith
apart-le (negsuc a) (pos (suc b)) = omega arith
apart-le (negsuc a) (negsuc b) = let h = sub-le (suc b) (suc a) in omega arith

-- ---- what is read back

-- a number of 16 bits, widened to 32
pub widens : (x : ℤ) → SFits w16 x → SFits w32 (to_z w16 (of_z w16 x))
widens x f = rw (to_z-of_z w16 x f) (record { sfits = let h = f.sfits in omega arith })

pub widened : (x : ℤ) → SFits w16 x → to_z w32 (of_z w32 (to_z w16 (of_z w16 x))) ≡ x
widened x f = to_z-of_z w32 _ (widens x f) ∙ to_z-of_z w16 x f

-- what the machine found when it compared two numbers, or one with 0
pub compared : {w : Width} {a b : ℤ} {is : Bool} → SFits w a → SFits w b → lt_z (to_z w (of_z w a)) (to_z w (of_z w b)) ≡ is → lt_z a b ≡ is
compared {w} {a} {b} f g t = sym (ap₂ lt_z (to_z-of_z w a f) (to_z-of_z w b g)) ∙ t

pub signed : {w : Width} {x : ℤ} {is : Bool} → SFits w x → lt_z (to_z w (of_z w x)) (pos 0) ≡ is → lt_z x (pos 0) ≡ is
signed {w} {x} f t = sym (ap (λ (z : ℤ). lt_z z (pos 0)) (to_z-of_z w x f)) ∙ t

-- the difference of two numbers of 16 bits, made in 32
module _ {x y : ℤ} (f : SFits w16 x) (g : SFits w16 y) where
  pub difference-is : to_z w32 (of_z w32 (to_z w16 (of_z w16 x))) -ℤ to_z w32 (of_z w32 (to_z w16 (of_z w16 y))) ≡ x -ℤ y
  difference-is = ap₂ ◌-ℤ◌ (widened x f) (widened y g)

  pub difference-small : mag (x -ℤ y) < 131072
  difference-small = let h = mag-add x (neg_ℤ y) in let k = mag-neg y in omega (arith, f.sfits, g.sfits)

  pub difference-fits : SFits w32 (to_z w32 (of_z w32 (to_z w16 (of_z w16 x))) -ℤ to_z w32 (of_z w32 (to_z w16 (of_z w16 y))))
  difference-fits = rw difference-is (record { sfits = omega (arith, difference-small) })

-- how large a number is: 0 less it where it is negative, and the number itself elsewhere
module _ (x : ℤ) (f : SFits w32 x) where
  pub absolute-negative : lt_z (to_z w32 (of_z w32 x)) (pos 0) ≡ true → pos 0 -ℤ to_z w32 (of_z w32 x) ≡ pos (nat_abs x)
  absolute-negative t =
      let e = negative x (signed f t) in
      ap (λ (z : ℤ). pos 0 -ℤ z) (to_z-of_z w32 x f ∙ e) ∙ ap pos (omega (arith, ap nat_abs e))

  pub absolute-positive : lt_z (to_z w32 (of_z w32 x)) (pos 0) ≡ false → x ≡ pos (nat_abs x)
  absolute-positive t = let e = positive x (signed f t) in e ∙ ap pos (sym (ap nat_abs e))

-- a number that 16 bits hold, narrowed from 32
module _ (x : ℤ) (h : mag x ≤ 32767) where
  reads : to_z w32 (of_z w32 x) ≡ x
  reads = to_z-of_z w32 x (record { sfits = omega arith })

  pub narrows : SFits w16 (to_z w32 (of_z w32 x))
  narrows = rw reads (record { sfits = omega arith })

  pub narrowed : to_z w16 (of_z w16 (to_z w32 (of_z w32 x))) ≡ x
  narrowed = to_z-of_z w16 _ narrows ∙ reads

-- a number that is known to be at least 0, cast to an unsigned one
module _ (w : Width) (x : ℤ) (n : ℕ) (e : x ≡ pos n) (h : n < 2 ^ hbits w) where
  pub fits-pos : SFits w x
  fits-pos = rw e (record { sfits = h })

  reads-back : to_z w (of_z w x) ≡ pos n
  reads-back = to_z-of_z w x fits-pos ∙ e

  pub casts : {w' : Width} → n < 2 ^ bits w' → T (non_neg (to_z w (of_z w x))) × Fits w' (nat_abs (to_z w (of_z w x)))
  casts k = rw reads-back (tt, record { fits = k })

  pub cast_is : nat_abs (to_z w (of_z w x)) ≡ n
  cast_is = rw reads-back

-- The order of two signed numbers and the limits of a third stay as they are when all move by the same amount, and the order turns round
-- when all are negated, since a ≤ b says that b - a is not negative. Assumes nothing.
use mathlib.Core.Path.{◌≡◌, refl, sym, ap, subst, ◌∙◌}
use mathlib.Core.Bool.{Bool, true, false, not, cond}
use Prim.Native.Nat.{ℕ, zero, suc, min}
use native.Mathlib.Omega.{arith}
use lib.Dec.{T, leb, ltb, leb-zero, leb-suc-zero, leb-suc-suc}
use lib.IntN.{ℤ, pos, negsuc, neg_ℤ, nat_abs, sub_ℕ, ◌+ℤ◌, ◌-ℤ◌}
use lib.IntN.{+ℤ_assoc, +ℤ_comm, +ℤ_idr, neg_ℤ-neg_ℤ, neg_ℤ-+ℤ, +ℤ-neg_ℤ_cancel, -ℤ-+ℤ_cancel}
use lib.Signed.{lt_z, le_z, non_neg, ◌≤ℤ◌, lt_z_yes, lt_z_no, <ℤ-≤ℤ_trans, clash_ℤ, pos-nat_abs}
use borrow.Author.Tests.{lt-ltb, le-ltb, leb-true, leb-false, ltb-true, ltb-false}
use borrow.Table.Steps.{cases}
use Rattle.num.specs.Clamp.{clamp, outside}

-- the order by a difference
lt_not : (a b : ℕ) → ltb a b ≡ not (leb b a)
lt_not a b =
    cases (leb b a) (λ e. rw (e, le-ltb a b (leb-true b a e))) (λ e. rw (e, lt-ltb a b (leb-false b a e)))

sub-sign : (a b : ℕ) → non_neg (sub_ℕ a b) ≡ leb b a
sub-sign a b = rw (lt_not a b) (cases (leb b a) (λ e. rw e) (λ e. rw e))

le_is : (a b : ℤ) → le_z a b ≡ non_neg (b -ℤ a)
le_is (pos zero) (pos b) = leb-zero b
le_is (pos (suc a)) (pos b) = sym (sub-sign b (suc a))
le_is (pos zero) (negsuc b) = sym (sub-sign 0 (suc b) ∙ leb-suc-zero b)
le_is (pos (suc a)) (negsuc b) = refl
le_is (negsuc a) (pos b) = refl
le_is (negsuc a) (negsuc b) = sym (sub-sign (suc a) (suc b) ∙ leb-suc-suc b a)

lt-is : (a b : ℤ) → lt_z a b ≡ not (le_z b a)
lt-is (pos a) (pos b) = lt_not a b
lt-is (pos a) (negsuc b) = refl
lt-is (negsuc a) (pos b) = refl
lt-is (negsuc a) (negsuc b) = lt_not b a

pub ≤ℤ-trans : {a b c : ℤ} → a ≤ℤ b → b ≤ℤ c → a ≤ℤ c
≤ℤ-trans {a} {b} {c} h k =
    cases (lt_z c a) (λ e. clash_ℤ (<ℤ-≤ℤ_trans (lt_z_yes (rw e tt)) h) k) (λ e. lt_z_no (rw e tt))

-- every number moved by p
module _ (p : ℤ) where
  pub take-off : (a : ℤ) → (p +ℤ a) -ℤ p ≡ a
  take-off a = rw (+ℤ_comm p a) (+ℤ-neg_ℤ_cancel a p)

  pub put_on : (x : ℤ) → p +ℤ (x -ℤ p) ≡ x
  put_on x = +ℤ_comm p (x -ℤ p) ∙ -ℤ-+ℤ_cancel x p

  pub shift_le : (a b : ℤ) → le_z (p +ℤ a) (p +ℤ b) ≡ le_z a b
  shift_le a b =
      rw (le_is (p +ℤ a) (p +ℤ b), neg_ℤ-+ℤ p a, ← (+ℤ_assoc (p +ℤ b) (neg_ℤ p) (neg_ℤ a)), take-off b) (sym (le_is a b))

  pub shift-lt : (a b : ℤ) → lt_z (p +ℤ a) (p +ℤ b) ≡ lt_z a b
  shift-lt a b = rw (lt-is (p +ℤ a) (p +ℤ b), shift_le b a) (sym (lt-is a b))

  pub shift-lt-self : (a : ℤ) → lt_z (p +ℤ a) p ≡ lt_z a (pos 0)
  shift-lt-self a = ap (lt_z (p +ℤ a)) (sym (+ℤ_idr p)) ∙ shift-lt a (pos 0)

  pub shift-clamp : (a b x : ℤ) → clamp (p +ℤ a) (p +ℤ b) (p +ℤ x) ≡ p +ℤ clamp a b x
  shift-clamp a b x =
      rw (shift-lt x a, shift-lt b x)
      (cases (lt_z x a) (λ e. rw e) (λ e. rw e (cases (lt_z b x) (λ f. rw f) (λ f. rw f))))

-- the greater of two numbers is some way above the other, and the lesser that way below
pub rise : {a b : ℤ} → a ≤ℤ b → (n : ℕ) × (b ≡ a +ℤ pos n)
rise {a} {b} h = (nat_abs (b -ℤ a), rw (pos-nat_abs (b -ℤ a) (subst T (le_is a b) h.le)) (sym (put_on a b)))

pub fall : {a b : ℤ} → a ≤ℤ b → (n : ℕ) × (a ≡ b -ℤ pos n)
fall {a} h = let (n, e) = rise h in (n, sym (+ℤ-neg_ℤ_cancel a (pos n)) ∙ ap (λ z. z -ℤ pos n) (sym e))

-- every number negated
pub neg-le : (a b : ℤ) → le_z (neg_ℤ a) (neg_ℤ b) ≡ le_z b a
neg-le a b = rw (le_is (neg_ℤ a) (neg_ℤ b), neg_ℤ-neg_ℤ a, +ℤ_comm (neg_ℤ b) a) (sym (le_is b a))

pub neg-lt : (a b : ℤ) → lt_z (neg_ℤ a) (neg_ℤ b) ≡ lt_z b a
neg-lt a b = rw (lt-is (neg_ℤ a) (neg_ℤ b), neg-le b a) (sym (lt-is b a))

not-below : (a b : ℕ) → lt_z (pos a) (neg_ℤ (pos b)) ≡ false
not-below a zero = leb-suc-zero a
not-below a (suc b) = refl

-- n above 0, or below it where the test is true
abbrev pub signed : Bool → ℕ → ℤ
signed is n = cond is (neg_ℤ (pos n)) (pos n)

lesser : (f : ℕ → ℤ) (n k : ℕ) → cond (ltb k n) (f k) (f n) ≡ f (min n k)
lesser f n k =
    cases (ltb k n)
    (λ e. rw e (ap f (omega (arith, ltb-true k n e))))
    (λ e. rw e (ap f (omega (arith, ltb-false k n e))))

-- a step from p to one side is held by the room there
pub clamp-step : (p : ℤ) (a b n : ℕ) (is : Bool)
    → clamp (p -ℤ pos a) (p +ℤ pos b) (cond is (p -ℤ pos n) (p +ℤ pos n)) ≡ p +ℤ signed is (min n (cond is a b))
clamp-step p a b n true =
    let z : ℕ → ℤ = λ k. neg_ℤ (pos k) in
    rw (shift-clamp p (z a) (pos b) (z n), neg-lt (pos n) (pos a), not-below b n, lesser z n a)
clamp-step p a b n false = rw (shift-clamp p (neg_ℤ (pos a)) (pos b) (pos n), not-below n a, lesser pos n b)

-- and it ends outside the limits if it is longer than that room
pub outside-step : (p : ℤ) (a b n : ℕ) (is : Bool)
    → outside (p -ℤ pos a) (p +ℤ pos b) (cond is (p -ℤ pos n) (p +ℤ pos n)) ≡ ltb (cond is a b) n
unfolding outside
outside-step p a b n true =
    rw (shift-lt p (neg_ℤ (pos n)) (neg_ℤ (pos a)), neg-lt (pos n) (pos a), shift-lt p (pos b) (neg_ℤ (pos n)), not-below b n)
    (cases (ltb a n) (λ e. rw e) (λ e. rw e))
outside-step p a b n false = rw (shift-lt p (pos n) (neg_ℤ (pos a)), not-below n a, shift-lt p (pos b) (pos n))

-- The law of reach on one side of the predictor: with a room below the predictor and one above it, every number is a distance from the
-- predictor on one side, and the law is one about naturals: a nibble fits if its m is at most the room on its side. Assumes nothing.
use mathlib.Core.Path.{◌≡◌, ap₂, ◌∙◌}
use mathlib.Core.Bool.{Bool, true, false, not, cond, ◌&&◌, and-eq-true_iff, false≢true}
use Prim.Native.Nat.{ℕ, zero, suc, ◌+◌, ◌/◌, min, ◌<◌, ◌≤◌}
use native.Mathlib.Nat.{lt_of_not-le}
use native.Mathlib.Omega.{arith}
use lib.Dec.{T, leb, eqb, leb→le}
use lib.IntN.{ℤ, pos, negsuc, neg_ℤ, ◌+ℤ◌, ◌-ℤ◌}
use lib.Signed.{◌≤ℤ◌}
use borrow.Author.Tests.{le-leb, lt-ltb, leb-true, ltb-true, eqb-true, eq-eqb, ne_eqb}
use borrow.Table.Steps.{cases}
use Rattle.num.proofs.Shift.{signed, take-off, shift_le, shift-lt-self, neg-le, neg-lt, clamp-step}
use Rattle.ima_nibble.specs.Step.{bit, part, m, d, predicted, greedy, nibble_of, needed, can_fall, sign_alone, reachable}
use Rattle.ima_nibble.proofs.Parts.{parts, none, finds}

-- the test on naturals, with a room of a below the predictor and of b above it, and what it says where it passed
abbrev test : ℕ → ℕ → ℕ → ℕ → Bool → Bool
test s a b v is = cond is (leb (needed s v) a && can_fall (pos 0) (pos a) && not (eqb v sign_alone && eqb (s / 8) 0)) (leb (needed s v) b)

passed : (s a b v : ℕ) (is : Bool) → test s a b v is ≡ true
    → (needed s v ≤ cond is a b) × (T is → (can_fall (pos 0) (pos (cond is a b)) ≡ true) × (v ≡ part is sign_alone → s / 8 ≡ 0 → ⊥))
passed s a b v true t =
    let falls = can_fall (pos 0) (pos a) in
    let (u, n) = (and-eq-true_iff (leb (needed s v) a && falls) (not (eqb v sign_alone && eqb (s / 8) 0))).0 t in
    let (l, h) = (and-eq-true_iff (leb (needed s v) a) falls).0 u in
    (leb-true (needed s v) a l, λ _. (h, λ e z. false≢true (rw (eq-eqb v sign_alone e, eq-eqb (s / 8) 0 z) at n)))
passed s a b v false t = (leb-true (needed s v) b t, λ t. absurd t)

-- a nibble of which m is 0 has no bit but its sign
empty : (s : ℕ) → 4 ≤ s → (v : ℕ) → v < 16 → m s v ≡ 0 → v ≡ part (bit 8 v) 8
unfolding m
empty s 4≤s v h z = omega (arith, finds s 4≤s 0 (omega arith) 0 (omega arith) (omega arith), finds s 4≤s v h 0 (omega arith) (omega arith))

-- the nibble of a distance r on one side, where 0 is no distance below
nibble-is : (s : ℕ) (p : ℤ) (is : Bool) (r : ℕ) → (T is → 0 < r) → nibble_of s p (p +ℤ signed is r) ≡ part is 8 + greedy s r
unfolding nibble_of
nibble-is s p true zero h = absurd (omega (arith, h tt))
nibble-is s p true (suc r) h = rw (take-off p (negsuc r))
nibble-is s p false r h = rw (take-off p (pos r))

-- the limits by the room on each side of the predictor
module _ (lowest highest : ℤ) (s : ℕ) (4≤s : 4 ≤ s) (p : ℤ) (a b : ℕ) (low : lowest ≡ p -ℤ pos a) (high : highest ≡ p +ℤ pos b) where
  predicted-is : (v : ℕ) → predicted lowest highest s p v ≡ p +ℤ signed (bit 8 v) (min (d s v) (cond (bit 8 v) a b))
  unfolding predicted
  predicted-is v = rw (low, high) (clamp-step p a b (d s v) (bit 8 v))

  reachable-is : (v : ℕ) → reachable lowest highest s p v ≡ test s a b v (bit 8 v)
  unfolding reachable
  reachable-is v =
      let n = pos (needed s v) in
      let z = neg_ℤ (pos a) in
      let fits = shift_le p z (neg_ℤ n) ∙ neg-le (pos a) n in
      let above = shift-lt-self p z ∙ neg-lt (pos a) (pos 0) in
      let negative = ap₂ (λ (x y : Bool). x && y && not (eqb v sign_alone && eqb (s / 8) 0)) fits above in
      rw (low, high) (ap₂ (cond (bit 8 v)) negative (shift_le p n (pos b)))

  -- what is emitted is reachable
  pub emits-at : (z : ℤ) → lowest ≤ℤ (p +ℤ z) → (p +ℤ z) ≤ℤ highest → reachable lowest highest s p (nibble_of s p (p +ℤ z)) ≡ true
  unfolding nibble_of
  emits-at (pos n) l h =
      let v = 0 + greedy s n in
      let (fits, sign) = parts s n false in
      let room = leb→le n b (rw (high, shift_le p (pos n) (pos b)) at h.le) in
      rw (take-off p (pos n), reachable-is v, sign) (le-leb (needed s v) b (omega arith))
  emits-at (negsuc n) l h =
      let v = 8 + greedy s (suc n) in
      let (fits, sign) = parts s (suc n) true in
      let room = leb→le (suc n) a (rw (low, shift_le p (neg_ℤ (pos a)) (negsuc n), neg-le (pos a) (pos (suc n))) at l.le) in
      let some : v ≡ sign_alone → s / 8 ≡ 0 → ⊥ = λ e z. omega (arith, none s (suc n) (omega arith)) in
      rw (take-off p (negsuc n), reachable-is v, sign, le-leb (needed s v) a (omega arith), lt-ltb 0 a (omega arith))
      (cases (eqb v sign_alone) (λ e. rw (e, ne_eqb (s / 8) 0 (some (eqb-true v sign_alone e)))) (λ e. rw e))

  -- a reachable nibble comes back
  pub returns : (v : ℕ) → v < 16 → reachable lowest highest s p v ≡ true → nibble_of s p (predicted lowest highest s p v) ≡ v
  returns v h t =
      let is = bit 8 v in
      let r = min (d s v) (cond is a b) in
      let (l, k) = passed s a b v is (rw (reachable-is v) at t) in
      let some : T is → 0 < d s v = λ u. lt_of_not-le (λ z. (k u).1 (empty s 4≤s v h (omega arith)) (omega arith)) in
      rw (predicted-is v)
      (nibble-is s p is r (λ u. let falls = (k u).0 in omega (arith, ltb-true, some u)) ∙ finds s 4≤s v h r (omega arith) (omega arith))

-- What one nibble takes of a difference. One level takes its part or not, over a Bool; the parts of the levels below and a leftover
-- of at most s/8 come to less than the level's own part, so three levels find the bits again. Assumes nothing.
use mathlib.Core.Path.{◌≡◌, refl, sym, ◌∙◌}
use mathlib.Core.Bool.{Bool, true, false}
use Prim.Native.Nat.{ℕ, suc, ◌+◌, ◌-◌, ◌*◌, ◌/◌, ◌≤◌, ◌<◌}
use native.Mathlib.Omega.{arith}
use lib.Dec.{leb}
use borrow.Author.Tests.{le-leb, lt-leb, leb-true, leb-false}
use borrow.Table.Steps.{cases}
use Rattle.num.specs.Lists.{from}
use Rattle.num.proofs.Lists.{table}
use Rattle.ima_nibble.specs.Step.{bit, part, m, d, takes, left, greedy}

-- ---- a nibble by its four bits

abbrev value : Bool → Bool → Bool → Bool → ℕ
value is a b c = part is 8 + (part a 4 + part b 2 + part c 1)

bits : (s : ℕ) (is a b c : Bool)
    → (bit 8 (value is a b c) ≡ is) × (m s (value is a b c) ≡ part a s + part b (s / 2) + part c (s / 4))
unfolding m
bits s true true true true = (refl, refl)
bits s true true true false = (refl, refl)
bits s true true false true = (refl, refl)
bits s true true false false = (refl, refl)
bits s true false true true = (refl, refl)
bits s true false true false = (refl, refl)
bits s true false false true = (refl, refl)
bits s true false false false = (refl, refl)
bits s false true true true = (refl, refl)
bits s false true true false = (refl, refl)
bits s false true false true = (refl, refl)
bits s false true false false = (refl, refl)
bits s false false true true = (refl, refl)
bits s false false true false = (refl, refl)
bits s false false false true = (refl, refl)
bits s false false false false = (refl, refl)

shape : (v : ℕ) → v < 16 → value (bit 8 v) (bit 4 v) (bit 2 v) (bit 1 v) ≡ v
unfolding from
shape v h =
    let all = from 16 0 (λ n. n) in
    sym (table (λ n. value (bit 8 n) (bit 4 n) (bit 2 n) (bit 1 n)) all 16 refl v 0 h) ∙ table (λ n. n) all 16 refl v 0 h

-- ---- one level

pub part-le : (is : Bool) (x : ℕ) → part is x ≤ x
part-le true x = omega arith
part-le false x = omega arith

takes-le : (r x : ℕ) → part (takes r x) x ≤ r
takes-le r x = cases (leb x r) (λ e. rw e (leb-true x r e)) (λ e. rw e (omega arith))

-- a level that gives nothing leaves all
refuses : (w r x : ℕ) → part (takes r x) (suc w) ≡ 0 → (r < x) × (left r x ≡ r)
refuses w r x z = cases (leb x r) (λ e. absurd (omega (arith, rw e at z))) (λ e. (leb-false x r e, rw e (omega arith)))

takes-is : (is : Bool) (x e : ℕ) → e < x → takes (part is x + e) x ≡ is
takes-is true x e h = le-leb x (x + e) (omega arith)
takes-is false x e h = lt-leb x (0 + e) (omega arith)

left_is : (is : Bool) (x e : ℕ) → e < x → left (part is x + e) x ≡ e
left_is is x e h = rw (takes-is is x e h) (omega arith)

-- ---- three levels

pub m-le : (s v : ℕ) → m s v ≤ 2 * s
unfolding m
m-le s v = omega (arith, part-le (bit 4 v) s, part-le (bit 2 v) (s / 2), part-le (bit 1 v) (s / 4))

module _ (s r : ℕ) where
  abbrev r₂ : ℕ
  r₂ = left r s

  abbrev r₁ : ℕ
  r₁ = left r₂ (s / 2)

  pub greedy-lt : greedy s r < 8
  unfolding greedy
  greedy-lt = omega (arith, part-le (takes r s) 4, part-le (takes r₂ (s / 2)) 2, part-le (takes r₁ (s / 4)) 1)

  -- what is taken from a difference is at most the difference, and bit 8 is the sign
  pub parts : (is : Bool) → (m s (part is 8 + greedy s r) ≤ r) × (bit 8 (part is 8 + greedy s r) ≡ is)
  unfolding greedy
  parts is =
      let (sign, taken) = bits s is (takes r s) (takes r₂ (s / 2)) (takes r₁ (s / 4)) in
      (omega (arith, taken, takes-le r s, takes-le r₂ (s / 2), takes-le r₁ (s / 4)), sign)

  -- what is taken is what is not left
  pub taken : (is : Bool) → m s (part is 8 + greedy s r) ≡ r - left r₁ (s / 4)
  unfolding greedy
  taken is =
      let (sign, sum) = bits s is (takes r s) (takes r₂ (s / 2)) (takes r₁ (s / 4)) in
      omega (arith, sum, takes-le r s, takes-le r₂ (s / 2), takes-le r₁ (s / 4))

  -- only a difference below s/4 has no bits
  pub none : greedy s r ≡ 0 → r < s / 4
  unfolding greedy
  none z =
      omega (arith, refuses 3 r s (omega arith), refuses 1 r₂ (s / 2) (omega arith), refuses 0 r₁ (s / 4) (omega arith))

module _ (s : ℕ) (4≤s : 4 ≤ s) where
  -- from anything between a nibble's m and its d the greedy division finds the nibble's magnitude
  pub finds : (v : ℕ) → v < 16 → (r : ℕ) → m s v ≤ r → r ≤ d s v → part (bit 8 v) 8 + greedy s r ≡ v
  unfolding m greedy
  finds v v<16 r l h =
      let a = bit 4 v in
      let b = bit 2 v in
      let c = bit 1 v in
      let e = r - m s v in
      let f = part c (s / 4) + e in
      let g = part b (s / 2) + f in
      let e< : e < s / 4 = omega arith in
      let f< : f < s / 2 = omega (arith, part-le c (s / 4)) in
      let g< : g < s = omega (arith, part-le b (s / 2)) in
      let is : r ≡ part a s + g = omega arith in
      rw (is, left_is a s g g<, takes-is a s g g<, left_is b (s / 2) f f<, takes-is b (s / 2) f f<, takes-is c (s / 4) e e<)
      (shape v v<16)

-- Taking the parts greedily and counting the sums of parts that are reached give the same number.
-- Below the first part a test is the second level's own; from it on it is that test of what is left. Assumes nothing.
use mathlib.Core.Path.{◌≡◌, refl}
use mathlib.Core.Bool.{false}
use Prim.Native.Nat.{ℕ, ◌+◌, ◌-◌, ◌/◌, ◌≤◌, ◌<◌}
use native.Mathlib.Omega.{arith}
use lib.Dec.{leb}
use borrow.Author.Tests.{leb-true, leb-false, le-leb, lt-leb}
use borrow.Table.Steps.{cases}
use Rattle.num.proofs.Tests.{leb-same}
use Rattle.ima_nibble.specs.Step.{part, takes, left, greedy}

-- how many of a + s/4, a + s/2 and a + s/2 + s/4 the difference r reaches
abbrev pub reached_of : ℕ → ℕ → ℕ → ℕ
reached_of a s r = part (takes r (a + s / 4)) 1 + part (takes r (a + s / 2)) 1 + part (takes r (a + s / 2 + s / 4)) 1

module _ (s r : ℕ) where
  -- a difference below the first part reaches none of the sums that have it, and any other all of those that have not
  pub none : r < s → reached_of s s r ≡ 0
  none l = rw (over (s / 4), over (s / 2), over₂)
    where
      over : (x : ℕ) → leb (s + x) r ≡ false
      over x = lt-leb (s + x) r (omega arith)

      over₂ : leb (s + s / 2 + s / 4) r ≡ false
      over₂ = lt-leb (s + s / 2 + s / 4) r (omega arith)

  pub all : s ≤ r → reached_of 0 s r ≡ 3
  all l = rw (le-leb (0 + s / 4) r (omega arith), le-leb (0 + s / 2) r (omega arith), le-leb (0 + s / 2 + s / 4) r (omega arith))

  -- what is left reaches the same without it
  rest : s ≤ r → reached_of s s r ≡ reached_of 0 s (r - s)
  rest l = rw (less (s / 4), less (s / 2), less₂)
    where
      less : (x : ℕ) → leb (s + x) r ≡ leb (0 + x) (r - s)
      less x = leb-same (s + x) r (0 + x) (r - s) (λ h. omega arith) (λ h. omega arith)

      less₂ : leb (s + s / 2 + s / 4) r ≡ leb (0 + s / 2 + s / 4) (r - s)
      less₂ = leb-same (s + s / 2 + s / 4) r (0 + s / 2 + s / 4) (r - s) (λ h. omega arith) (λ h. omega arith)

  -- the two smaller parts
  two : reached_of 0 s r ≡ part (takes r (s / 2)) 2 + part (takes (left r (s / 2)) (s / 4)) 1
  two =
      cases (leb (s / 2) r)
      (λ e.
      let k = leb-true (s / 2) r e in
      let third = leb-same (0 + s / 2 + s / 4) r (s / 4) (r - s / 2) (λ h. omega arith) (λ h. omega arith) in
      rw (e, le-leb (0 + s / 4) r (omega arith), le-leb (0 + s / 2) r (omega arith), third) refl)
      (λ e.
      let k = leb-false (s / 2) r e in
      let first = leb-same (0 + s / 4) r (s / 4) (r - 0) (λ h. omega arith) (λ h. omega arith) in
      rw (e, lt-leb (0 + s / 2) r (omega arith), lt-leb (0 + s / 2 + s / 4) r (omega arith), first) (omega arith))

pub counted : (s r : ℕ) → reached_of 0 s r + part (takes r s) 1 + reached_of s s r ≡ greedy s r
unfolding greedy
counted s r =
    cases (leb s r)
    (λ e. let l = leb-true s r e in rw (all s r l, rest s r l, two s (r - s), e) (omega arith))
    (λ e.
    let l = leb-false s r e in
    let minus : r - 0 ≡ r = omega arith in
    rw (none s r l, two s r, e, minus) (omega arith))

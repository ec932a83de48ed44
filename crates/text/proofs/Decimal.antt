-- A number in decimal: its last digit behind those of a tenth of it, and how many digits it has; and digits that are written from the back, one at a turn.
-- Assumes nothing.
use mathlib.Core.Path.{◌≡◌, refl, sym, ap, ap₂, ◌∙◌}
use mathlib.Core.List.{List, [], ◌∷◌, ◌++◌}
use Prim.Native.Nat.{ℕ, zero, suc, ◌-◌, ◌/◌, ◌%◌, ◌^◌, ◌≤◌, ◌<◌}
use native.Mathlib.Nat.{pow-suc}
use native.Mathlib.Omega.{arith}
use lib.Dec.{ltb}
use lib.ListN.{length, set, take, drop, length-append, length-set, length-drop}
use lib.Seq.{take_all, append_snoc, drop-cons, get_or-set_same, drop-set-lt, lt-length-set}
use borrow.Author.Tests.{lt-ltb, le-ltb, ltb-true, ltb-false}
use borrow.Table.Steps.{cases}
use Rattle.text.specs.Text.{digit, decimal_in, decimal}

-- ---- its last digit

one_in : (most n : ℕ) → n < 10 → decimal_in (suc most) n ≡ digit n ∷ []
unfolding decimal_in
one_in most n h = let e : n % 10 ≡ n = omega arith in rw (e, lt-ltb n 10 h) refl

more-in : (most n : ℕ) → 10 ≤ n → decimal_in (suc most) n ≡ decimal_in most (n / 10) ++ (digit (n % 10) ∷ [])
unfolding decimal_in
more-in most n h = rw (le-ltb n 10 h) refl

-- more digits than the number has are no more
enough : (a b n : ℕ) → n ≤ a → n ≤ b → decimal_in (suc a) n ≡ decimal_in (suc b) n
enough zero b n h k = one_in zero n (omega arith) ∙ sym (one_in b n (omega arith))
enough (suc a) zero n h k = one_in (suc a) n (omega arith) ∙ sym (one_in zero n (omega arith))
enough (suc a) (suc b) n h k =
    cases (ltb n 10)
    (λ e. let l = ltb-true n 10 e in one_in (suc a) n l ∙ sym (one_in (suc b) n l))
    (λ e.
    let g = ltb-false n 10 e in
    more-in (suc a) n g
    ∙ ap (λ (front : List ℕ). front ++ (digit (n % 10) ∷ [])) (enough a b (n / 10) (omega (arith, g)) (omega (arith, g)))
    ∙ sym (more-in (suc b) n g))

pub decimal-one : (n : ℕ) → n < 10 → decimal n ≡ digit n ∷ []
unfolding decimal
decimal-one n h = one_in n n h

pub decimal-more : (n : ℕ) → 10 ≤ n → decimal n ≡ decimal (n / 10) ++ (digit (n % 10) ∷ [])
unfolding decimal
decimal-more zero h = absurd (omega arith)
decimal-more (suc n) h =
    more-in (suc n) (suc n) h
    ∙ ap (λ (front : List ℕ). front ++ (digit (suc n % 10) ∷ [])) (enough n (suc n / 10) (suc n / 10) (omega arith) (omega arith))

-- ---- how many digits it has

pub one-digit : (n : ℕ) → n < 10 → length (decimal n) ≡ 1
one-digit n h = ap length (decimal-one n h)

-- a tenth of a number of so many digits has one fewer
pub tenth : (k n : ℕ) → n < 10 ^ suc k → n / 10 < 10 ^ k
tenth k n h = omega (arith, pow-suc 10 k, h)

-- and a number from 10 on has more than one
pub not_last : (k n : ℕ) → 10 ≤ n → n < 10 ^ suc k → suc (k - 1) ≡ k
not_last zero n g h = absurd (omega (arith, g, h))
not_last (suc k) n g h = omega arith

-- a number below a power of ten has at most as many digits as the power says, which is 1 or more
pub few-digits : (k n : ℕ) → n < 10 ^ suc k → length (decimal n) ≤ suc k
few-digits zero n h = omega (arith, one-digit n h)
few-digits (suc k) n h =
    cases (ltb n 10)
    (λ e. omega (arith, one-digit n (ltb-true n 10 e)))
    (λ e.
    let is = ap length (decimal-more n (ltb-false n 10 e)) ∙ length-append (decimal (n / 10)) (digit (n % 10) ∷ []) in
    omega (arith, is, few-digits k (n / 10) (tenth (suc k) n h)))

pub ten-digits : (n : ℕ) → n < 2 ^ 32 → length (decimal n) ≤ 10
ten-digits n h = few-digits 9 n (omega (arith, h))

-- ---- digits that are written from the back, the one at `first` being the next

module _ (digits : List ℕ) (first d : ℕ) (h : first < length digits) where
  written : drop first (set digits first d) ≡ d ∷ drop (suc first) digits
  written =
      drop-cons (set digits first d) first 0 (lt-length-set digits first d h)
      ∙ ap₂ (λ (x : ℕ) (xs : List ℕ). x ∷ xs) (get_or-set_same digits first d 0 h) (drop-set-lt (suc first) digits first d (omega arith))

  -- the first digit of all, and all that stand from it on
  pub first-digit : (size rest : ℕ) → length digits ≡ size → rest < 10 → d ≡ digit rest → take (size - first) (drop first (set digits first d)) ≡ decimal rest ++ drop (suc first) digits
  first-digit size rest size_is l d-is =
      let long = length-drop first (set digits first d) ∙ ap (λ (n : ℕ). n - first) (length-set digits first d ∙ size_is) in
      take_all (size - first) (drop first (set digits first d)) (omega (arith, long)) ∙ written ∙ rw (decimal-one rest l, d-is) refl

  -- one before it
  pub next-digit : (rest : ℕ) → 10 ≤ rest → d ≡ digit (rest % 10) → decimal (rest / 10) ++ drop first (set digits first d) ≡ decimal rest ++ drop (suc first) digits
  next-digit rest g d-is = rw (written, decimal-more rest g, d-is) (sym (append_snoc (decimal (rest / 10)) (digit (rest % 10)) (drop (suc first) digits)))

-- A list by a rule, in two parts, and from a later number on. Assumes nothing.
use mathlib.Core.Path.{◌≡◌, refl, ap, ◌∙◌}
use mathlib.Core.List.{List, ◌∷◌, ◌++◌}
use Prim.Native.Nat.{ℕ, zero, suc, ◌+◌, ◌-◌, ◌≤◌}
use native.Mathlib.Omega.{arith}
use Rattle.num.specs.Lists.{from}

module _ {X : Type 0} where
  parted : (f : ℕ → X) (a b i : ℕ) → from (a + b) i f ≡ from a i f ++ from b (i + a) f
  unfolding from
  parted f zero b i = let e : 0 + b ≡ b = omega arith in let z : i + 0 ≡ i = omega arith in rw (e, z)
  parted f (suc a) b i =
      let e : suc a + b ≡ suc (a + b) = omega arith in
      let z : suc i + a ≡ i + suc a = omega arith in
      rw e (ap (λ (xs : List X). f i ∷ xs) (parted f a b (suc i) ∙ ap (λ (m : ℕ). from a (suc i) f ++ from b m f) z))

  pub in_two : (f : ℕ → X) (i n : ℕ) → i ≤ n → from n 0 f ≡ from i 0 f ++ from (n - i) i f
  in_two f i n h =
      let e : n ≡ i + (n - i) = omega arith in
      let z : 0 + i ≡ i = omega arith in
      ap (λ (m : ℕ). from m 0 f) e ∙ parted f i (n - i) 0 ∙ ap (λ (m : ℕ). from i 0 f ++ from (n - i) m f) z

  -- a rule from the i-th number on
  pub shifted : (f : ℕ → X) (i n j : ℕ) → from n j (λ p. f (i + p)) ≡ from n (i + j) f
  unfolding from
  shifted f i zero j = refl
  shifted f i (suc n) j =
      let e : i + suc j ≡ suc (i + j) = omega arith in
      ap (λ (xs : List X). f (i + j) ∷ xs) (shifted f i n (suc j) ∙ ap (λ (m : ℕ). from n m f) e)

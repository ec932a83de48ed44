-- Two lists of equal length differ nowhere exactly when they are one list. Assumes nothing.
use mathlib.Core.Path.{◌≡◌, refl, ap₂}
use mathlib.Core.Bool.{false, not, true≢false}
use mathlib.Core.List.{List, [], ◌∷◌}
use Prim.Native.Nat.{ℕ}
use native.Mathlib.Omega.{arith}
use lib.Dec.{eqb}
use lib.ListN.{length}
use lib.Pointwise.{pointwise}
use borrow.Author.Tests.{eqb-true, eq-eqb}
use borrow.Table.Steps.{cases}
use Rattle.ms_repacked.specs.Repack.{any_change}

pub alike : (xs ys : List ℕ) → length xs ≡ length ys → any_change xs ys ≡ false → xs ≡ ys
unfolding any_change
alike [] [] e t = refl
alike [] (y ∷ ys) e t = absurd (omega (arith, e))
alike (x ∷ xs) [] e t = absurd (omega (arith, e))
alike (x ∷ xs) (y ∷ ys) e t =
    cases (eqb x y)
    (λ same. ap₂ ◌∷◌ (eqb-true x y same) (alike xs ys (omega (arith, e)) (rw same at t)))
    (λ other. absurd (true≢false (rw other at t)))

pub itself : (xs : List ℕ) → any_change xs xs ≡ false
unfolding any_change
itself [] = refl
itself (x ∷ xs) = rw (eq-eqb x x refl) (itself xs)

-- What is asked of two lists of equal length by comparing them place by place.
pub differ : (xs ys : List ℕ) → length xs ≡ length ys → not (pointwise eqb xs ys) ≡ any_change xs ys
unfolding any_change
differ [] [] e = refl
differ [] (y ∷ ys) e = absurd (omega (arith, e))
differ (x ∷ xs) [] e = absurd (omega (arith, e))
differ (x ∷ xs) (y ∷ ys) e = cases (eqb x y) (λ same. rw same (differ xs ys (omega (arith, e)))) (λ other. rw other refl)

-- Decoding ignores the upper four bits of its byte. Assumes nothing.
use mathlib.Core.Path.{◌≡◌, refl}
use mathlib.Core.List.{List}
use Prim.Native.Nat.{ℕ, ◌/◌, ◌%◌}
use native.Mathlib.Omega.{arith}
use Rattle.ima_nibble.specs.Step.{State, Limits, m, predicted, indexed, stepped}

-- the bits of weight 8, 4, 2 and 1, and the magnitude
module _ (v : ℕ) where
  eight : v % 16 / 8 % 2 ≡ v / 8 % 2
  eight = omega arith

  four : v % 16 / 4 % 2 ≡ v / 4 % 2
  four = omega arith

  two : v % 16 / 2 % 2 ≡ v / 2 % 2
  two = omega arith

  one : v % 16 / 1 % 2 ≡ v / 1 % 2
  one = omega arith

  magnitude : v % 16 % 8 ≡ v % 8
  magnitude = omega arith

pub four-bits : (limits : Limits) (steps : List ℕ) (st : State) (v : ℕ) → stepped limits steps st v ≡ stepped limits steps st (v % 16)
unfolding m predicted indexed stepped
four-bits limits steps st v = rw (eight v, four v, two v, one v, magnitude v) refl

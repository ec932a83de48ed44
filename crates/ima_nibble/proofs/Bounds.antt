-- How large what a step hands back is. Assumes nothing.
use mathlib.Core.Path.{◌≡◌, refl}
use mathlib.Core.List.{List}
use Prim.Native.Nat.{ℕ, ◌%◌, ◌≤◌, ◌<◌}
use native.Mathlib.Omega.{arith}
use lib.Dec.{le→leb}
use lib.IntN.{ℤ, pos, negsuc, nat_abs, ◌+ℤ◌, ◌-ℤ◌}
use mir.Syntax.{w16}
use mir.Val.{SFits}
use Rattle.num.proofs.Within.{clamp-le}
use Rattle.ima_nibble.specs.Step.{State, Limits, sixteen, In, lowered, sign, nibble_of, move, indexed, stepped, narrow}
use Rattle.ima_nibble.proofs.Parts.{greedy-lt}

sign_le : (x : ℤ) → sign x ≤ 8
sign_le (pos n) = omega arith
sign_le (negsuc n) = omega arith

-- a nibble has four bits
pub nibble-lt : (s : ℕ) (p x : ℤ) → nibble_of s p x < 16
unfolding nibble_of
nibble-lt s p x = omega (arith, sign_le (x -ℤ p), greedy-lt s (nat_abs (x -ℤ p)))

-- an index is held
pub index-le : (last i v : ℕ) → indexed last i v ≤ last
unfolding indexed
index-le last i v = clamp-le last (pos i +ℤ move v)

-- and so is a state's
pub held : (limits : Limits) (steps : List ℕ) (st : State) (v : ℕ) → (stepped limits steps st v).index ≤ limits.last
unfolding stepped
held limits steps st v = index-le limits.last (lowered limits st.index) v

pub moved-lt : (steps : List ℕ) (st next : State) (v : ℕ) → next ≡ stepped sixteen steps st v → next.index < 256
moved-lt steps st next v e = rw e (omega (arith, held sixteen steps st v))

-- so nothing of it is lost in a state's eight bits
pub narrow_below : (st : State) → st.index < 256 → narrow st ≡ st
narrow_below st h = let same : st.index % 256 ≡ st.index = omega arith in rw same refl

pub narrow-is : (steps : List ℕ) (st : State) (v : ℕ) → narrow (stepped sixteen steps st v) ≡ stepped sixteen steps st v
narrow-is steps st v = narrow_below (stepped sixteen steps st v) (moved-lt steps st (stepped sixteen steps st v) v refl)

-- Every number of 16 bits is within the limits.
pub fits_in : (x : ℤ) → SFits w16 x → In sixteen x
fits_in (pos n) f = record { above = record { le = tt }; below = record { le = le→leb n 32767 (omega (arith, f.sfits)) } }
fits_in (negsuc n) f = record { above = record { le = le→leb n 32767 (omega (arith, f.sfits)) }; below = record { le = tt } }

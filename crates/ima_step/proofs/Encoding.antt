-- A sample's nibble and the state behind it, from what both need. Assumes nothing.
use mathlib.Core.Path.{◌≡◌, refl}
use mathlib.Core.List.{List}
use Prim.Native.Nat.{ℕ, ◌+◌, ◌-◌, ◌*◌, ◌/◌, min}
use native.Mathlib.Omega.{arith}
use lib.IntN.{ℤ, pos, negsuc, nat_abs, ◌-ℤ◌}
use lib.ListN.{get_or}
use lib.Signed.{lt_z}
use Rattle.num.specs.Clamp.{clamp, outside}
use Rattle.ima_nibble.specs.Step.{State, state, sixteen, sum_of, exact_sum, predicted, tallied, indexed, stepped, step_at, emitted, nibble_of, sign, part, m, takes, greedy}
use Rattle.ima_nibble.proofs.Counted.{reached_of, counted}
use Rattle.ima_nibble.proofs.Fused.{sign-is, sums, raises}

module _ (steps : List ℕ) (st : State) (x z : ℤ) (i s r side below four above taken : ℕ)
    (i-is : i ≡ min st.index 88)
    (s-is : s ≡ get_or steps i 0)
    (z-is : z ≡ x -ℤ st.predictor)
    (r-is : r ≡ nat_abs z)
    (side-is : side ≡ sign z)
    (below-is : below ≡ reached_of 0 s r)
    (four-is : four ≡ part (takes r s) 1)
    (above-is : above ≡ reached_of s s r)
    (taken-is : taken ≡ m s (greedy s r))
  where
    abbrev v : ℕ
    v = side + below + four + above

    emits : v ≡ emitted sixteen steps st x
    unfolding nibble_of step_at
    emits = rw (← i-is, ← s-is, ← z-is, ← r-is) (omega (arith, counted s r))

    v-is : v ≡ part (lt_z z (pos 0)) 8 + greedy s r
    v-is = omega (arith, counted s r, sign-is z)

    abbrev sum : ℤ
    sum = sum_of (lt_z z (pos 0)) st.predictor (taken + s / 8)

    sum_is : sum ≡ exact_sum (step_at sixteen steps st) st.predictor v
    unfolding step_at
    sum_is = rw (← i-is, ← s-is, taken-is, v-is) (sums s r (lt_z z (pos 0)) st.predictor)

    index_is : min (i + (3 * four + 2 * above) - 1) 88 ≡ indexed 88 i v
    index_is = rw (v-is, four-is, above-is) (raises s r (lt_z z (pos 0)) 88 i)

    pub coded-is : {p : ℤ} {j n : ℕ} → p ≡ clamp (negsuc 32767) (pos 32767) sum → j ≡ min (i + (3 * four + 2 * above) - 1) 88 → n ≡ tallied 4294967295 (outside (negsuc 32767) (pos 32767) sum) st.clipped
        → (v ≡ emitted sixteen steps st x) × (state p j n ≡ stepped sixteen steps st v)
    unfolding stepped predicted
    coded-is p-is j-is n-is = (emits, rw (p-is, j-is, n-is, ← sum_is, ← i-is, index_is) refl)

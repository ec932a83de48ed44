-- A change is d, or d negated, and two nibbles one after the other. Assumes nothing.
use mathlib.Core.Path.{◌≡◌, refl, ap}
use mathlib.Core.Bool.{Bool, true, false, cond}
use mathlib.Core.List.{List}
use Prim.Native.Nat.{ℕ, ◌≤◌, min}
use native.Mathlib.Omega.{arith}
use lib.IntN.{ℤ, pos, neg_ℤ, ◌+ℤ◌, ◌-ℤ◌}
use lib.ListN.{get_or}
use Rattle.ima_nibble.proofs.Bounds.{index-le}
use Rattle.ima_nibble.specs.Step.{State, state, sixteen, stepped, step_at, predicted, indexed, exact_sum, bit, d}
use Rattle.ima_step.specs.Private.{change, held, HeldTwice}

-- adding d negated is subtracting it
pub either : (p x : ℤ) (is : Bool) → p +ℤ cond is (neg_ℤ x) x ≡ cond is (p -ℤ x) (p +ℤ x)
either p x true = refl
either p x false = refl

-- one nibble from its change and its place, and the next from its own
module _ (steps : List ℕ) (st : State) (v w a b : ℕ) (one two : ℤ)
    (a-is : a ≡ min st.index 88)
    (b-is : b ≡ indexed 88 a v)
    (b-held : b ≤ 88)
    (one-is : one ≡ change (get_or steps a 0) v)
    (two-is : two ≡ change (get_or steps b 0) w)
  where
    abbrev next : State
    next = stepped sixteen steps st v

    sum_is : st.predictor +ℤ one ≡ exact_sum (step_at sixteen steps st) st.predictor v
    unfolding step_at
    sum_is = rw (one-is, a-is) (either st.predictor (pos (d (get_or steps (min st.index 88) 0) v)) (bit 8 v))

    first-is : held (st.predictor +ℤ one) ≡ next.predictor
    unfolding stepped predicted
    first-is = ap held sum_is

    step_is : step_at sixteen steps next ≡ get_or steps b 0
    unfolding stepped step_at
    step_is =
        let low : min b 88 ≡ b = omega arith in
        rw (← a-is, ← b-is, low) refl

    next-is : next.predictor +ℤ two ≡ exact_sum (step_at sixteen steps next) next.predictor w
    next-is = rw (two-is, step_is) (either next.predictor (pos (d (get_or steps b 0) w)) (bit 8 w))

    pub twice-is : {first second : ℤ} {n : ℕ} → HeldTwice (st.predictor +ℤ one) two st.clipped first second n
        → (first ≡ next.predictor) × (second ≡ (stepped sixteen steps next w).predictor) × (n ≡ (stepped sixteen steps next w).clipped)
    unfolding stepped predicted
    twice-is h =
        rw (first-is, next-is, sum_is) at h

-- the state behind both, from its three numbers
pub behind : (steps : List ℕ) (st : State) (v w : ℕ) (p : ℤ) (i n : ℕ)
    → p ≡ (stepped sixteen steps (stepped sixteen steps st v) w).predictor
    → i ≡ indexed 88 (indexed 88 (min st.index 88) v) w
    → n ≡ (stepped sixteen steps (stepped sixteen steps st v) w).clipped
    → state p i n ≡ stepped sixteen steps (stepped sixteen steps st v) w
unfolding stepped
behind steps st v w p i n p-is i-is n-is =
    let between = indexed 88 (min st.index 88) v in
    let low : min between 88 ≡ between = omega (arith, index-le 88 (min st.index 88) v) in
    rw (p-is, i-is, n-is, low) refl

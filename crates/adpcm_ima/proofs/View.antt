-- The view of a state loses nothing, and `same_state` is equality. Assumes nothing.
use mathlib.Core.Path.{◌≡◌, refl, ap, ap₂, ◌∙◌}
use mathlib.Core.Bool.{true, ◌&&◌, false≢true, and-eq-true_iff}
use mathlib.Core.Logic.{◌↔◌}
use Prim.Native.Nat.{ℕ}
use lib.Dec.{eqb}
use lib.IntN.{ℤ, pos, negsuc}
use borrow.Author.Tests.{eqb-true, eq-eqb}
use Rattle.num.specs.Outcome.{Faithful}
use Rattle.ima_nibble.specs.Step.{State, state}
use Rattle.adpcm_ima.specs.declared.AdpcmImaState.{AdpcmImaState}
use Rattle.adpcm_ima.specs.View.{state_of, same_z, same_state}

abbrev own : ℤ → ℕ → ℕ → AdpcmImaState
own p i n = record { predictor = p; step_index = i; clipped = n }

pub state-faithful : Faithful state_of
state-faithful s t e =
    ap₂ (λ (p : ℤ) (i : ℕ). own p i s.clipped) (ap (λ st. st.predictor) e) (ap (λ st. st.index) e)
    ∙ ap (own t.predictor t.step_index) (ap (λ st. st.clipped) e)

-- ---- equality, by field

pub same_z-itself : (x : ℤ) → same_z x x ≡ true
same_z-itself (pos n) = eq-eqb n n refl
same_z-itself (negsuc n) = eq-eqb n n refl

same_z-true : (x y : ℤ) → same_z x y ≡ true → x ≡ y
same_z-true (pos a) (pos b) t = ap pos (eqb-true a b t)
same_z-true (pos a) (negsuc b) t = absurd (false≢true t)
same_z-true (negsuc a) (pos b) t = absurd (false≢true t)
same_z-true (negsuc a) (negsuc b) t = ap negsuc (eqb-true a b t)

-- Two states are the same by it exactly when they are equal.
pub same-is : (s t : State) → (same_state s t ≡ true) ↔ (s ≡ t)
same-is s t = (
  λ e.
      let (two, n) = (and-eq-true_iff (same_z s.predictor t.predictor && eqb s.index t.index) (eqb s.clipped t.clipped)).0 e in
      let (p, i) = (and-eq-true_iff (same_z s.predictor t.predictor) (eqb s.index t.index)).0 two in
      ap₂ (λ (q : ℤ) (j : ℕ). state q j s.clipped) (same_z-true s.predictor t.predictor p) (eqb-true s.index t.index i)
      ∙ ap (state t.predictor t.index) (eqb-true s.clipped t.clipped n),
  λ e. rw e (rw (same_z-itself t.predictor, eq-eqb t.index t.index refl) (eq-eqb t.clipped t.clipped refl)),
)

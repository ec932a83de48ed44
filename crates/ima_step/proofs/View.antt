-- The view of a wide state loses nothing. Assumes nothing.
use mathlib.Core.Path.{ap, ap₂, ◌∙◌}
use Prim.Native.Nat.{ℕ}
use lib.IntN.{ℤ}
use Rattle.num.specs.Outcome.{Faithful}
use Rattle.ima_step.specs.declared.Wide.{Wide}
use Rattle.ima_step.specs.View.{wide_of}

abbrev wide : ℤ → ℕ → ℕ → Wide
wide p i n = record { predictor = p; index = i; clipped = n }

pub wide-faithful : Faithful wide_of
wide-faithful v w e =
    ap₂ (λ (p : ℤ) (i : ℕ). wide p i v.clipped) (ap (λ st. st.predictor) e) (ap (λ st. st.index) e)
    ∙ ap (wide w.predictor w.index) (ap (λ st. st.clipped) e)

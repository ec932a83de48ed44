-- A call that comes to 0 is done. Assumes nothing.
use mathlib.Core.Path.{◌≡◌, refl, ap}
use Rattle.std.specs.Prelude.{Result, Ok, Err, IsOk}
use Rattle.num.specs.Outcome.{outcome}
use Rattle.refusal.specs.declared.Refusal.{Refusal}
use Rattle.refusal.specs.declared.Refused.{Refused}
use Rattle.refusal.specs.Refusal.{handed, answered}
use Rattle.refusal.proofs.Numbers.{number-not-0}

module _ {X Back Buffer : Type 0} (view : X → Back) (back : Back) (buffer : Buffer) where
  pub handed-done : (r : Result X (Refused X)) (ys : Buffer) → handed view r ys ≡ outcome 0 back buffer → IsOk r
  handed-done (Ok x) ys is = refl
  handed-done (Err e) ys is = absurd (number-not-0 e.refusal (ap (λ o. o.number) is))

  pub answered-done : (none : Back) (r : Result X Refusal) (ys : Buffer) → answered view none r ys ≡ outcome 0 back buffer → IsOk r
  answered-done none (Ok x) ys is = refl
  answered-done none (Err e) ys is = absurd (number-not-0 e (ap (λ o. o.number) is))

-- The buffer is in what a call comes to.
pub answered-buffer : {X Back Buffer : Type 0} (view : X → Back) (none : Back) (r : Result X Refusal) (ys : Buffer) → ys ≡ (answered view none r ys).buffer
answered-buffer view none (Ok x) ys = refl
answered-buffer view none (Err e) ys = refl

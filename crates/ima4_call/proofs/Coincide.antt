-- Two results that an ima4 call allows for one input coincide. Assumes nothing.
use mathlib.Core.Path.{◌≡◌}
use mathlib.Core.List.{List}
use Rattle.std.specs.Prelude.{Result}
use Rattle.num.specs.Outcome.{Outcome}
use Rattle.ima_nibble.specs.Step.{State}
use Rattle.refusal.specs.declared.Refused.{Refused}
use Rattle.refusal.specs.Refusal.{handed}
use Rattle.refusal.proofs.Coincide.{handed-coincide}
use Rattle.adpcm_ima.specs.declared.AdpcmImaState.{AdpcmImaState}
use Rattle.adpcm_ima.specs.View.{state_of}
use Rattle.adpcm_ima.proofs.View.{state-faithful}

abbrev Answer : Type 0
Answer = Result AdpcmImaState (Refused AdpcmImaState)

pub ima4-coincide : {Y : Type 0} (allowed : Outcome State (List Y)) (r s : Answer) (ys zs : List Y)
    → handed state_of r ys ≡ allowed → handed state_of s zs ≡ allowed → (r ≡ s) × (ys ≡ zs)
ima4-coincide = handed-coincide state_of state-faithful

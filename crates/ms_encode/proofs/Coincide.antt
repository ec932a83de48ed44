-- Two results that encoding an MS block allows for one input coincide. Assumes nothing.
use mathlib.Core.Path.{◌≡◌}
use mathlib.Core.List.{List, map}
use Prim.Native.Nat.{ℕ}
use Rattle.std.specs.Prelude.{Result}
use Rattle.num.specs.Outcome.{Outcome}
use Rattle.num.proofs.Outcome.{map-faithful}
use Rattle.refusal.specs.declared.Refused.{Refused}
use Rattle.refusal.specs.Refusal.{handed}
use Rattle.refusal.proofs.Coincide.{handed-coincide}
use Rattle.ima_nibble.specs.Step.{State}
use Rattle.adpcm_ima.specs.declared.AdpcmImaState.{AdpcmImaState}
use Rattle.adpcm_ima.specs.View.{state_of}
use Rattle.adpcm_ima.proofs.View.{state-faithful}

abbrev Answer : Type 0
Answer = Result (List AdpcmImaState) (Refused (List AdpcmImaState))

pub ms-coincide : (allowed : Outcome (List State) (List ℕ)) (r s : Answer) (ys zs : List ℕ)
    → handed (map state_of) r ys ≡ allowed → handed (map state_of) s zs ≡ allowed → (r ≡ s) × (ys ≡ zs)
ms-coincide = handed-coincide (map state_of) (map-faithful state_of state-faithful)

-- Two results that a call of an index allows for one input coincide, where it is given no state. Assumes nothing.
use mathlib.Core.Path.{◌≡◌}
use mathlib.Core.List.{List}
use Prim.Native.Nat.{ℕ}
use lib.IntN.{ℤ}
use Rattle.std.specs.Prelude.{Result}
use Rattle.num.specs.Outcome.{Outcome}
use Rattle.ima_nibble.specs.Step.{State}
use Rattle.refusal.specs.declared.Refusal.{Refusal}
use Rattle.refusal.specs.Refusal.{answered}
use Rattle.refusal.proofs.Coincide.{answered-coincide}
use Rattle.adpcm_ima.specs.declared.AdpcmImaState.{AdpcmImaState}
use Rattle.adpcm_ima.specs.View.{state_of}
use Rattle.adpcm_ima.proofs.View.{state-faithful}

pub from-coincide : (allowed : Outcome State (List ℤ)) (none : State) (r s : Result AdpcmImaState Refusal) (xs ys : List ℤ)
    → answered state_of none r xs ≡ allowed → answered state_of none s ys ≡ allowed → (r ≡ s) × (xs ≡ ys)
from-coincide = answered-coincide state_of state-faithful

pub reindex-coincide : (allowed : Outcome Unit (List ℕ)) (r s : Result Unit Refusal) (xs ys : List ℕ)
    → answered (λ u. u) tt r xs ≡ allowed → answered (λ u. u) tt s ys ≡ allowed → (r ≡ s) × (xs ≡ ys)
reindex-coincide allowed = answered-coincide (λ u. u) (λ x y e. e) allowed tt

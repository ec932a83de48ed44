-- Two results that repacking allows for one input coincide. Assumes nothing.
use mathlib.Core.Path.{◌≡◌}
use mathlib.Core.Bool.{Bool, false}
use mathlib.Core.List.{List}
use Prim.Native.Nat.{ℕ}
use Rattle.std.specs.Prelude.{Result}
use Rattle.num.specs.Outcome.{Outcome}
use Rattle.refusal.specs.declared.Refusal.{Refusal}
use Rattle.refusal.specs.Refusal.{answered}
use Rattle.refusal.proofs.Coincide.{answered-coincide}

pub repack-coincide : (allowed : Outcome Bool (List ℕ)) (r s : Result Bool Refusal) (ys zs : List ℕ)
    → answered (λ b. b) false r ys ≡ allowed → answered (λ b. b) false s zs ≡ allowed → (r ≡ s) × (ys ≡ zs)
repack-coincide allowed = answered-coincide (λ b. b) (λ x y e. e) allowed false

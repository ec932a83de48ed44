-- Two results that decoding allows for one input coincide. Assumes nothing.
use mathlib.Core.Path.{◌≡◌}
use mathlib.Core.List.{List}
use Prim.Native.Nat.{ℕ}
use lib.IntN.{ℤ}
use Rattle.std.specs.Prelude.{Result}
use Rattle.num.specs.Outcome.{Outcome}
use Rattle.refusal.specs.declared.Refusal.{Refusal}
use Rattle.refusal.specs.Refusal.{answered}
use Rattle.refusal.proofs.Coincide.{answered-coincide}
use Rattle.ms_block.specs.Block.{no_counts}

pub decode-coincide : (allowed : Outcome (List ℕ) (List ℤ)) (r s : Result (List ℕ) Refusal) (ys zs : List ℤ)
    → answered (λ ns. ns) no_counts r ys ≡ allowed → answered (λ ns. ns) no_counts s zs ≡ allowed → (r ≡ s) × (ys ≡ zs)
decode-coincide allowed = answered-coincide (λ ns. ns) (λ x y e. e) allowed no_counts

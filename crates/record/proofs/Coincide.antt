-- Two results that reading allows for one input coincide. Assumes nothing.
use mathlib.Core.Path.{◌≡◌}
use mathlib.Core.List.{List}
use Prim.Native.Nat.{ℕ}
use Rattle.std.specs.Prelude.{Result}
use Rattle.num.specs.Outcome.{Outcome, Faithful}
use Rattle.refusal.specs.declared.Refusal.{Refusal}
use Rattle.refusal.specs.Refusal.{answered}
use Rattle.refusal.proofs.Coincide.{answered-coincide}
use Rattle.record.specs.declared.Record.{Record}
use Rattle.record.specs.Record.{record_in}

-- The view of the struct loses nothing.
pub record-faithful : Faithful record_in
record-faithful x y e = λ i. record { channels = (e i).0; length = (e i).1 }

pub record-coincide : (allowed : Outcome (ℕ × ℕ) (List ℕ)) (r s : Result Record Refusal) (ys zs : List ℕ)
    → answered record_in (0, 0) r ys ≡ allowed → answered record_in (0, 0) s zs ≡ allowed → (r ≡ s) × (ys ≡ zs)
record-coincide allowed = answered-coincide record_in record-faithful allowed (0, 0)

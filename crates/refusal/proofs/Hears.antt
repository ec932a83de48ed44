-- What is heard of a call, seen through a view, is what the call comes to. Assumes nothing.
use mathlib.Core.Path.{◌≡◌, ap}
use Prim.Native.Nat.{ℕ}
use Rattle.std.specs.Prelude.{Result, Ok, Err}
use Rattle.num.specs.Outcome.{outcome}
use Rattle.refusal.specs.declared.Refused.{Refused}
use Rattle.refusal.specs.Refusal.{hears, handed}

pub as_heard : {X Back Buffer : Type 0} (view : X → Back) (answer : Result X (Refused X)) (both : ℕ × X) (buffer : Buffer)
    → both ≡ hears (λ x. x) answer → outcome both.0 (view both.1) buffer ≡ handed view answer buffer
as_heard view (Ok x) both buffer is = ap (λ b. outcome b.0 (view b.1) buffer) is
as_heard view (Err refused) both buffer is = ap (λ b. outcome b.0 (view b.1) buffer) is

-- No refusal has the number 0, and no two have one number. Assumes nothing.
use mathlib.Core.Path.{◌≡◌, refl, sym, ap, ◌∙◌}
use Prim.Native.Nat.{ℕ}
use native.Mathlib.Omega.{arith}
use Rattle.std.specs.Prelude.{cond, eqb}
use Rattle.num.specs.Outcome.{outcome, outcome_by}
use Rattle.num.proofs.Outcome.{as-given, number_is}
use Rattle.refusal.specs.declared.Refusal.{Refusal}
use Rattle.refusal.specs.declared.Refusal.TheVariants.{Channels, Lengths, Blocks, Record, Index, StepIndex}
use Rattle.refusal.specs.Refusal.{refusal_number}

pub number-not-0 : (r : Refusal) → refusal_number r ≡ 0 → ⊥
number-not-0 Channels e = omega (arith, e)
number-not-0 Lengths e = omega (arith, e)
number-not-0 Blocks e = omega (arith, e)
number-not-0 Record e = omega (arith, e)
number-not-0 Index e = omega (arith, e)
number-not-0 StepIndex e = omega (arith, e)

-- The refusal that has a number, whatever it is for one that none has.
abbrev refusal_of : ℕ → Refusal
refusal_of n = cond (eqb n 1) Channels (cond (eqb n 2) Lengths (cond (eqb n 3) Blocks (cond (eqb n 4) Record (cond (eqb n 5) Index StepIndex))))

has-it : (r : Refusal) → refusal_of (refusal_number r) ≡ r
has-it Channels = refl
has-it Lengths = refl
has-it Blocks = refl
has-it Record = refl
has-it Index = refl
has-it StepIndex = refl

pub number-once : (r s : Refusal) → refusal_number r ≡ refusal_number s → r ≡ s
number-once r s e = sym (has-it r) ∙ ap refusal_of e ∙ has-it s

-- A call that is decided by the number of a refusal hands back what was given.
pub refuses : {Back Buffer : Type 0} (r : Refusal) (made given : Back × Buffer)
    → outcome_by (refusal_number r) made given ≡ outcome (refusal_number r) given.0 given.1
refuses r made given = as-given (refusal_number r) made given (λ z. number-not-0 r (sym (number_is (refusal_number r) made given) ∙ z))

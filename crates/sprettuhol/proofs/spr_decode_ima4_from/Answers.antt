-- The state that comes back is stored where the call is done, and another stays as it was.
use Rattle.std.proofs.Common.{List, ℕ, ℤ, sym, ap, ap₂, ◌∙◌}
use Rattle.num.specs.Outcome.{outcome}
use Rattle.refusal.proofs.Numbers.{number-not-0}
use Rattle.ima_nibble.specs.Step.{State, state, zero_state}
use Rattle.seek_index.proofs.Theorems.{from-any, from-none}
use Rattle.sprettuhol.proofs.spr_decode_ima4_from.Goals as goal

pub returns-in-Ok : goal.returns-in-Ok
returns-in-Ok c =
    let a = c.args in
    let is = c.in-Ok.ensures in
    ap (λ (st : State). outcome 0 st c.decode_adpcm_ima_ima4_from.new.out_samples) c.store.ensures
    ∙ is
    ∙ from-any zero_state (state a.predictor.now a.step_index.now a.clipped.now) a.bytes.now a.«record».now a.from a.samples.now (sym (ap (λ o. o.number) is))

pub returns-in-Err : goal.returns-in-Err
returns-in-Err c =
    let a = c.args in
    let given = state a.predictor.now a.step_index.now a.clipped.now in
    let is = c.in-Err.ensures in
    ap₂ (λ (n : ℕ) (ys : List ℤ). outcome n given ys) (c.number.ensures ∙ ap (λ o. o.number) is) (ap (λ o. o.buffer) is)
    ∙ from-none zero_state given a.bytes.now a.«record».now a.from a.samples.now (λ z. number-not-0 c.in-Err.refusal (ap (λ o. o.number) is ∙ z))

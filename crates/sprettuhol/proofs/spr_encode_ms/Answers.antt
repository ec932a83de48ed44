-- It hands the numbers on as states, and stores those of the states that come back.
use Rattle.std.proofs.Common.{List, ℕ, ℤ, ap, ap₂, ◌∙◌, length, map}
use Rattle.num.specs.Outcome.{outcome}
use Rattle.refusal.proofs.Hears.{as_heard}
use Rattle.ima_nibble.specs.Step.{State}
use Rattle.adpcm_ima.specs.View.{state_of}
use Rattle.ms_block.specs.Call.{encode_ms}
use Rattle.ms_block.proofs.Round.{states-length}
use Rattle.channels.specs.States.{states_of, predictors_of, indices_of}
use Rattle.channels.proofs.Numbers.{numbers-back, numbers-length}
use Rattle.sprettuhol.proofs.spr_encode_ms.Goals as goal

pub returns-clause-encoded : goal.returns-clause-encoded
returns-clause-encoded c =
    let a = c.args in
    let call = c.encode_adpcm_ima_ms in
    let (number, states) = c.hear-number.result in
    let after = map state_of states in
    let given = states_of a.predictors.now a.step_indices.now a.clipped.now in
    let is =
    as_heard (map state_of) call.result c.hear-number.result call.new.out_buf c.hear-number.ensures
    ∙ call.ensures
    ∙ ap (λ (sts : List State). encode_ms a.channels a.samples.now sts a.block.now) c.states_of-before.ensures in
    let size = ap (λ r. length r.back) is ∙ states-length a.channels a.samples.now given a.block.now (numbers-length a.predictors.now a.step_indices.now a.clipped.now) in
    let stored =
    ap₂ (λ (ps : List ℤ) (is : List ℕ). states_of ps is c.clipped_of.result) c.predictors_of.ensures c.step_indices_of.ensures
    ∙ ap (states_of (predictors_of after) (indices_of after)) c.clipped_of.ensures
    ∙ numbers-back after size in
    ap (λ (sts : List State). outcome number sts call.new.out_buf) stored ∙ is

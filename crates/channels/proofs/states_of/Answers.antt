-- Each state is made of its numbers. Assumes nothing.
use Rattle.std.proofs.Common.{◌≡◌, ◌∙◌, pos, map, get_or, rules}
use Rattle.std.proofs.Math.ListN.{get_or-map, length-map}
use Rattle.num.proofs.Lists.{by_place}
use Rattle.ima_nibble.specs.Step.{state, zero_state}
use Rattle.adpcm_ima.specs.View.{state_of, zeroed}
use Rattle.ms_block.specs.Sizes.{most}
use Rattle.channels.specs.States.{states_of}
use Rattle.channels.proofs.states_of.Goals as goal

pub returns : goal.returns
unfolding states_of
returns c =
    let a = c.args in
    let items = c.from_fn.ensures.items in
    let made = c.from_fn.result in
    by_place _ (map state_of made) most zero_state (length-map made state_of ∙ items.long)
    (λ e h.
    let (p, q, called) = items.at e zeroed h in
    let is : state_of (get_or made e zeroed) ≡ state (get_or a.predictors e (pos 0)) (get_or a.step_indices e 0) (get_or a.clipped e 0) = search rules in
    get_or-map state_of made e zeroed ∙ is)

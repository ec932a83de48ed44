-- Each predictor is that of the channel's state. Assumes nothing.
use Rattle.std.proofs.Common.{pos, rules}
use Rattle.num.proofs.Lists.{by_view}
use Rattle.adpcm_ima.specs.View.{state_of, zeroed}
use Rattle.ms_block.specs.Sizes.{most}
use Rattle.channels.specs.States.{predictors_of}
use Rattle.channels.proofs.predictors_of.Goals as goal

pub returns : goal.returns
unfolding predictors_of
returns c =
    let items = c.map.ensures.items in
    by_view state_of (λ st. st.predictor) c.args.states c.map.result most zeroed (pos 0) items.long (λ e h. let (p, q, called) = items.at e zeroed (pos 0) h in search rules)

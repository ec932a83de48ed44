-- Each count is that of the channel's state. Assumes nothing.
use Rattle.std.proofs.Common.{rules}
use Rattle.num.proofs.Lists.{by_view}
use Rattle.adpcm_ima.specs.View.{state_of, zeroed}
use Rattle.ms_block.specs.Sizes.{most}
use Rattle.ms_block.specs.Block.{counts_of}
use Rattle.channels.proofs.clipped_of.Goals as goal

pub returns : goal.returns
unfolding counts_of
returns c =
    let items = c.map.ensures.items in
    by_view state_of (λ st. st.clipped) c.args.states c.map.result most zeroed 0 items.long (λ e h. let (p, q, called) = items.at e zeroed 0 h in search rules)

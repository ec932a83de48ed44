-- Each count is that of the channel's state. Assumes nothing.
use Rattle.std.proofs.Common.{rules}
use Rattle.num.proofs.Lists.{by_view}
use Rattle.ima_step.specs.View.{wide_of, zero_wide}
use Rattle.ms_block.specs.Sizes.{most}
use Rattle.ms_block.specs.Block.{counts_of}
use Rattle.ms_decode.proofs.counts.Goals as goal

pub returns : goal.returns
unfolding counts_of
returns c =
    let items = c.map.ensures.items in
    by_view wide_of (λ st. st.clipped) c.args.wides c.map.result most zero_wide 0 items.long (λ e h. let (p, q, called) = items.at e zero_wide 0 h in search rules)

-- The numbers that are marked P hold: the two columns of the table are one, by computing what the definitions give. Assumes nothing.
use mathlib.Core.Path.{◌≡◌, refl}
use Rattle.num.specs.Clamp.{outside}
use Rattle.num.specs.Bits.{digits_in, bit_length}
use Rattle.num.specs.Lists.{from}
use Rattle.g711.specs.Law.{sample_of, segment, four_bits, code_of}
use Rattle.ima_nibble.specs.Series.{decoded, encoded, nibbles_of, packed}
use Rattle.ima_nibble.specs.Step.{step_at, m, predicted, indexed, stepped, greedy, nibble_of}
use Rattle.ima_nibble.specs.Table.{ima_steps}
use Rattle.ms_block.specs.Header.{head_of}
use Rattle.ms_block.specs.Readings.{sound_headers}
use Rattle.ms_block.specs.Sizes.{ms_refusal, repack_refusal}
use Rattle.ms_block.specs.Weave.{strand, woven}
use Rattle.ms_block.specs.Block.{decoded_channel, encoded_channel, decoded_ms_block, channel_end, clipped_counts, no_counts, begun, block_from}
use Rattle.ms_block.specs.Call.{decode_ms}
use Rattle.ms_repacked.specs.Repack.{repacked, any_change, repack_ms}
use Rattle.numbers_table.specs.Numbers.{numbers, left_column, right_column}

pub numbers-hold : left_column numbers ≡ right_column numbers
unfolding outside step_at m predicted indexed stepped greedy nibble_of ima_steps decoded encoded nibbles_of packed
    sample_of segment four_bits code_of digits_in bit_length
    from strand woven head_of ms_refusal sound_headers decoded_channel encoded_channel decoded_ms_block channel_end clipped_counts no_counts begun block_from decode_ms
    repacked any_change repack_refusal repack_ms
numbers-hold = refl

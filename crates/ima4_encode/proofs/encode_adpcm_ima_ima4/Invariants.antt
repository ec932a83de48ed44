-- What is written, and then what the samples from the 2k-th on are encoded to, is what the whole block is encoded to.
use Rattle.std.proofs.Common.{◌≡◌, ◌+◌, ◌<◌, length, take}
use Rattle.ima_nibble.specs.Series.{after}
use Rattle.ima_nibble.specs.Table.{ima_steps}
use Rattle.ima_step.specs.View.{wide_of}
use Rattle.ima4_block.proofs.Turn.{bytes_from}
use Rattle.ima4_encode.proofs.encode_adpcm_ima_ima4.Given as goal

abbrev pub invariant-loop-k : goal.invariant-loop-k
invariant-loop-k l = record {
  block : after (take (l.k + 2) l.out_buf) (bytes_from ima_steps l.k (wide_of l.wide) l.samples) ≡ after (take 2 l.initial.out_buf) (bytes_from ima_steps 0 (wide_of l.initial.wide) l.samples);
  samples : length l.samples ≡ 64;
  bytes : length l.out_buf ≡ 34;
  index : l.wide.index < 256;
}

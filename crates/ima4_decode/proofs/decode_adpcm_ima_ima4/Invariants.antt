-- What is written, and then what the bytes from the k-th on decode to, is what the whole block decodes to.
use Rattle.std.proofs.Common.{◌≡◌, ◌*◌, ◌<◌, length, take}
use Rattle.ima_nibble.specs.Series.{after}
use Rattle.ima_nibble.specs.Table.{ima_steps}
use Rattle.ima_step.specs.View.{wide_of}
use Rattle.ima4_block.proofs.Turn.{samples_from}
use Rattle.ima4_decode.proofs.decode_adpcm_ima_ima4.Given as goal

abbrev pub invariant-loop-k : goal.invariant-loop-k
invariant-loop-k l = record {
  block : after (take (2 * l.k) l.out_samples) (samples_from ima_steps l.k (wide_of l.wide) l.buf) ≡ samples_from ima_steps 0 (wide_of l.initial.wide) l.buf;
  bytes : length l.buf ≡ 34;
  samples : length l.out_samples ≡ 64;
  index : l.wide.index < 256;
}

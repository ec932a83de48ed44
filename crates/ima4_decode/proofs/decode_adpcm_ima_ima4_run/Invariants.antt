-- What the first i blocks come to is written.
use Rattle.std.proofs.Common.{◌≡◌, ◌*◌, ◌≤◌, length}
use Rattle.adpcm_ima.specs.View.{state_of}
use Rattle.ima4_block.specs.Block.{decoded_ima4_block}
use Rattle.ima4_block.specs.Call.{decode_ima4}
use Rattle.ima4_block.proofs.Lengths.{decodes}
use Rattle.ima4_block.proofs.Ran.{Ran}
use Rattle.ima4_decode.proofs.decode_adpcm_ima_ima4_run.Given as goal

abbrev pub invariant-loop-i : goal.invariant-loop-i
invariant-loop-i l = record {
  ran : Ran decoded_ima4_block 34 64 decode_ima4 decodes (state_of l.initial.next) l.buf (state_of l.next) l.i l.out_samples;
  few : l.n ≤ 1024;
  bytes : length l.buf ≡ 34 * l.n;
  samples : length l.out_samples ≡ 64 * l.n;
}

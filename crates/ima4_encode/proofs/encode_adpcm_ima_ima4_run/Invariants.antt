-- What the first i blocks are encoded to is written.
use Rattle.std.proofs.Common.{◌≡◌, ◌*◌, ◌≤◌, length}
use Rattle.adpcm_ima.specs.View.{state_of}
use Rattle.ima4_block.specs.Block.{encoded_ima4_block}
use Rattle.ima4_block.specs.Call.{encode_ima4}
use Rattle.ima4_block.proofs.Lengths.{encodes}
use Rattle.ima4_block.proofs.Ran.{Ran}
use Rattle.ima4_encode.proofs.encode_adpcm_ima_ima4_run.Given as goal

abbrev pub invariant-loop-i : goal.invariant-loop-i
invariant-loop-i l = record {
  ran : Ran encoded_ima4_block 64 34 encode_ima4 encodes (state_of l.initial.next) l.samples (state_of l.next) l.i l.out_buf;
  few : l.n ≤ 1024;
  samples : length l.samples ≡ 64 * l.n;
  bytes : length l.out_buf ≡ 34 * l.n;
}

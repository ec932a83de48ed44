-- A turn is the call on the next block, so what is written and then the run of the rest is the run. Assumes nothing.
use Rattle.std.proofs.Common.{◌≡◌, ◌∙◌, ◌/◌, length, true, ap, arith, rules}
use Rattle.refusal.proofs.Done.{handed-done}
use Rattle.adpcm_ima.specs.View.{state_of}
use Rattle.ima4_block.specs.Block.{encoded_ima4_block}
use Rattle.ima4_block.specs.Call.{finished, is_run, encode_ima4, encode_ima4_run}
use Rattle.ima4_block.proofs.Lengths.{encodes, run-are}
use Rattle.ima4_block.proofs.Ran.{none, one_block, ends}
use Rattle.ima4_encode.proofs.encode_adpcm_ima_ima4_run.Goals as goal

pub loop-i-init : goal.loop-i-init
loop-i-init c =
    let a = c.args in
    let taken : is_run (length a.out_buf.now) (length a.samples.now) ≡ true = search rules in
    let (few, b, s) = run-are (length a.out_buf.now) (length a.samples.now) taken in
    record {
      ran = none encoded_ima4_block 64 34 encode_ima4 encodes (state_of a.state) a.samples.now a.out_buf.now;
      few = omega arith;
      samples = omega arith;
      bytes = omega arith;
    }

pub unwrap-next-requires : goal.unwrap-next-requires
unwrap-next-requires c =
    let call = c.encode_adpcm_ima_ima4 in
    handed-done state_of _ _ call.result call.new.out_buf (call.ensures ∙ encodes _ _ _ (search rules) (search rules))

pub loop-i-preserved : goal.loop-i-preserved
loop-i-preserved c =
    let a = c.args in
    let inv = c.loop-i.invariant in
    let call = c.encode_adpcm_ima_ima4 in
    record {
      ran = one_block encoded_ima4_block 64 34 encode_ima4 encodes (state_of a.state) a.samples.now _ c.loop-i.i (state_of c.loop-i.next) (state_of c.unwrap-next.result) 0 c.loop-i.out_buf call.new.out_buf (rw c.unwrap-next.ensures at call.ensures) (search rules) (omega arith) inv.samples inv.bytes inv.ran;
      few = inv.few;
      samples = inv.samples;
      bytes = search rules;
    }

pub returns : goal.returns
unfolding encode_ima4_run
returns c =
    let a = c.args in
    let inv = c.loop-i.invariant in
    let n = length a.out_buf.now / 34 in
    let taken : is_run (length a.out_buf.now) (length a.samples.now) ≡ true = search rules in
    let last : c.loop-i.i ≡ n = omega arith in
    rw taken (ap finished (ends encoded_ima4_block 64 34 encode_ima4 encodes (state_of a.state) a.samples.now n c.loop-i.i (state_of c.loop-i.next) c.loop-i.out_buf last inv.bytes inv.ran))

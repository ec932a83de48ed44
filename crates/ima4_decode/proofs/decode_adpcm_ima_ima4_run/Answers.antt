-- A turn is the call on the next block, so what is written and then the run of the rest is the run. Assumes nothing.
use Rattle.std.proofs.Common.{◌≡◌, ◌∙◌, ◌/◌, length, true, ap, arith, rules}
use Rattle.refusal.proofs.Done.{handed-done}
use Rattle.adpcm_ima.specs.View.{state_of}
use Rattle.ima4_block.specs.Block.{decoded_ima4_block}
use Rattle.ima4_block.specs.Call.{finished, is_run, decode_ima4, decode_ima4_run}
use Rattle.ima4_block.proofs.Lengths.{decodes, run-are}
use Rattle.ima4_block.proofs.Ran.{none, one_block, ends}
use Rattle.ima4_decode.proofs.decode_adpcm_ima_ima4_run.Goals as goal

pub loop-i-init : goal.loop-i-init
loop-i-init c =
    let a = c.args in
    let taken : is_run (length a.buf.now) (length a.out_samples.now) ≡ true = search rules in
    let (few, b, s) = run-are (length a.buf.now) (length a.out_samples.now) taken in
    record {
      ran = none decoded_ima4_block 34 64 decode_ima4 decodes (state_of a.state) a.buf.now a.out_samples.now;
      few = omega arith;
      bytes = omega arith;
      samples = omega arith;
    }

pub unwrap-next-requires : goal.unwrap-next-requires
unwrap-next-requires c =
    let call = c.decode_adpcm_ima_ima4 in
    handed-done state_of _ _ call.result call.new.out_samples (call.ensures ∙ decodes _ _ _ (search rules) (search rules))

pub loop-i-preserved : goal.loop-i-preserved
loop-i-preserved c =
    let a = c.args in
    let inv = c.loop-i.invariant in
    let call = c.decode_adpcm_ima_ima4 in
    record {
      ran = one_block decoded_ima4_block 34 64 decode_ima4 decodes (state_of a.state) a.buf.now _ c.loop-i.i (state_of c.loop-i.next) (state_of c.unwrap-next.result) 0 c.loop-i.out_samples call.new.out_samples (rw c.unwrap-next.ensures at call.ensures) (search rules) (omega arith) inv.bytes inv.samples inv.ran;
      few = inv.few;
      bytes = inv.bytes;
      samples = search rules;
    }

pub returns : goal.returns
unfolding decode_ima4_run
returns c =
    let a = c.args in
    let inv = c.loop-i.invariant in
    let n = length a.buf.now / 34 in
    let taken : is_run (length a.buf.now) (length a.out_samples.now) ≡ true = search rules in
    let last : c.loop-i.i ≡ n = omega arith in
    rw taken (ap finished (ends decoded_ima4_block 34 64 decode_ima4 decodes (state_of a.state) a.buf.now n c.loop-i.i (state_of c.loop-i.next) c.loop-i.out_samples last inv.samples inv.ran))

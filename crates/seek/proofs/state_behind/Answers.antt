-- A turn decodes a block, of which the state alone counts.
use Rattle.std.proofs.Common.{◌∙◌, ◌/◌, length, rules, arith}
use Rattle.refusal.proofs.Done.{handed-done}
use Rattle.adpcm_ima.specs.View.{state_of}
use Rattle.ima4_block.proofs.Theorems.{decode-fits}
use Rattle.seek_index.proofs.Turn.{next-state}
use Rattle.seek.proofs.state_behind.Goals as goal

pub unwrap-next-requires : goal.unwrap-next-requires
unwrap-next-requires c =
    let call = c.decode_adpcm_ima_ima4_run in
    handed-done state_of _ _ call.result call.new.out_samples (call.ensures ∙ decode-fits 1 (omega arith) _ _ _ (search rules) (search rules))

pub loop-i-preserved : goal.loop-i-preserved
loop-i-preserved c =
    let a = c.args in
    let loop = c.loop-i in
    let call = c.decode_adpcm_ima_ima4_run in
    next-state (state_of a.state) a.buf.now (length a.buf.now / 34) loop.i (state_of loop.next) (state_of c.unwrap-next.result) 0 loop.samples call.new.out_samples
    (rw c.unwrap-next.ensures at call.ensures) (search rules) c.loop-i-test.true (omega arith) loop.invariant

-- A turn decodes a byte, so what is written and then what the rest decodes to is the block's. Assumes nothing.
use Rattle.std.proofs.Common.{◌≡◌, ◌+◌, ◌/◌, ◌%◌, length, get_or, take, true, refl, sym, ap, ◌∙◌, arith, rules}
use Rattle.std.proofs.lemmas.Int.{to_z-of_z}
use mir.Syntax.{w16}
use mir.Val.{SFits, to_z, of_z}
use Rattle.num.specs.Outcome.{outcome}
use Rattle.ima_nibble.specs.Step.{State, state, sixteen, stepped}
use Rattle.ima_nibble.specs.Series.{after}
use Rattle.ima_nibble.specs.Table.{ima_steps}
use Rattle.ima_nibble.proofs.Bounds.{moved-lt, narrow_below}
use Rattle.ima_step.specs.View.{wide_of}
use Rattle.ima_step.proofs.Twice.{behind}
use Rattle.ima4_block.specs.Block.{decoded_ima4_block}
use Rattle.ima4_block.specs.Call.{finished, is_block, decode_ima4}
use Rattle.ima4_block.proofs.Turn.{all, samples_from, two-samples, no-samples}
use Rattle.ima4_decode.proofs.decode_adpcm_ima_ima4.Goals as goal

pub loop-k-preserved : goal.loop-k-preserved
unfolding ima_steps
loop-k-preserved c =
    let inv = c.loop-k.invariant in
    let k = c.loop-k.k in
    let w = wide_of c.loop-k.wide in
    let out = c.loop-k.out_samples in
    let bytes = c.args.buf.now in
    let pair = c.decode_byte-pair in
    let f : SFits w16 pair.result.first = search rules in
    let g : SFits w16 pair.result.second = search rules in
    let byte = get_or bytes (k + 2) 0 in
    let between = stepped sixteen ima_steps w (byte % 16) in
    let x = to_z w16 (of_z w16 pair.result.first) in
    let y = to_z w16 (of_z w16 pair.result.second) in
    let next = state y c.index_after-index.result pair.result.clipped in
    let next-is = behind ima_steps w (byte % 16) (byte / 16) y c.index_after-index.result pair.result.clipped (to_z-of_z w16 _ g ∙ pair.ensures.1) c.index_after-index.ensures pair.ensures.2 in
    let turn = two-samples ima_steps w between next bytes out k refl next-is (omega arith) (omega arith) in
    record {
      block = rw (to_z-of_z w16 _ f ∙ pair.ensures.0) (turn ∙ inv.block);
      bytes = inv.bytes;
      samples = search rules;
      index = moved-lt ima_steps between next (byte / 16) next-is;
    }

pub returns : goal.returns
unfolding decode_ima4 decoded_ima4_block
returns c =
    let inv = c.loop-k.invariant in
    let out = c.loop-k.out_samples in
    let w = wide_of c.loop-k.wide in
    let bytes = c.args.buf.now in
    let from = c.from-wide.ensures.0 ∙ c.start_state.ensures in
    let last : c.loop-k.k ≡ 32 = omega arith in
    let state = c.narrow.ensures ∙ narrow_below w inv.index in
    let block =
    sym (all out 64 w (omega arith))
    ∙ ap (after (take 64 out)) (sym (no-samples ima_steps w bytes inv.bytes))
    ∙ (rw last at inv.block)
    ∙ ap (λ (st : State). samples_from ima_steps 0 st bytes) from in
    let taken : is_block (length bytes) (length c.args.out_samples.now) ≡ true = search rules in
    rw taken (ap (λ (st : State). outcome 0 st out) state ∙ ap finished block)

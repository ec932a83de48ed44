-- A turn encodes two samples, so what is written and then what the rest is encoded to is the block's. Assumes nothing.
use Rattle.std.proofs.Common.{◌≡◌, ◌+◌, ◌*◌, length, ◌++◌, get_or, take, drop, pos, true, sym, ap, ap₂, ◌∙◌, arith, rules}
use Rattle.std.proofs.lemmas.Int.{to_z-of_z}
use mir.Syntax.{w16}
use mir.Val.{SFits}
use Rattle.num.specs.Outcome.{outcome}
use Rattle.ima_nibble.specs.Step.{sixteen, emitted}
use Rattle.ima_nibble.specs.Series.{after}
use Rattle.ima_nibble.specs.Table.{ima_steps}
use Rattle.ima_nibble.proofs.Bounds.{moved-lt, narrow_below}
use Rattle.ima_step.specs.View.{wide_of}
use Rattle.ima4_block.specs.Block.{encoded_ima4_block}
use Rattle.ima4_block.specs.Call.{finished, is_block, encode_ima4}
use Rattle.ima4_block.proofs.Turn.{all, bytes_from, one_byte, no_bytes}
use Rattle.ima4_encode.proofs.encode_adpcm_ima_ima4.Goals as goal

pub loop-k-preserved : goal.loop-k-preserved
unfolding ima_steps
loop-k-preserved c =
    let inv = c.loop-k.invariant in
    let k = c.loop-k.k in
    let w = wide_of c.loop-k.wide in
    let samples = c.args.samples.now in
    let low = c.encode_step-low in
    let high = c.encode_step-high in
    let (low-is, low-below, between) = low.ensures in
    let (high-is, high-below, behind) = high.ensures in
    let byte : c.pack.result ≡ 16 * high.result.nibble + low.result.nibble = omega (arith, c.pack.ensures) in
    let f : SFits w16 (get_or samples (2 * k) (pos 0)) = search rules in
    let g : SFits w16 (get_or samples (2 * k + 1) (pos 0)) = search rules in
    let v = wide_of low.result.next in
    let u = wide_of high.result.next in
    let turn = one_byte ima_steps w v u samples c.loop-k.out_buf k low.result.nibble high.result.nibble (low-is ∙ ap (emitted sixteen ima_steps w) (to_z-of_z w16 _ f)) between (high-is ∙ ap (emitted sixteen ima_steps v) (to_z-of_z w16 _ g)) behind (omega arith) (omega arith) in
    record {
      block = rw byte (turn ∙ inv.block);
      samples = inv.samples;
      bytes = search rules;
      index = moved-lt ima_steps v u _ behind;
    }

pub returns : goal.returns
unfolding encode_ima4 encoded_ima4_block
returns c =
    let a = c.args in
    let inv = c.loop-k.invariant in
    let out = c.loop-k.out_buf in
    let w = wide_of c.loop-k.wide in
    let samples = a.samples.now in
    let from = c.from-wide.ensures.0 ∙ c.lowered_state.ensures in
    let taken : is_block (length a.out_buf.now) (length samples) ≡ true = search rules in
    let last : c.loop-k.k ≡ 32 = omega arith in
    let state = c.narrow.ensures ∙ narrow_below w inv.index in
    let header = c.copy_from_slice.ensures.after ∙ c.header_of.ensures in
    let block =
    sym (all out 34 w (omega arith))
    ∙ ap (after (take 34 out)) (sym (no_bytes ima_steps w samples inv.samples))
    ∙ (rw last at inv.block)
    ∙ ap₂ (λ bs st. after (take 2 (bs ++ drop 2 a.out_buf.now)) (bytes_from ima_steps 0 st samples)) header from in
    rw taken (ap (λ st. outcome 0 st out) state ∙ ap finished block)

-- The samples are decoded into the first places of the array.
use Rattle.std.proofs.Common.{sym, ◌∙◌}
use lib.Seq.{length-take-le}
use Rattle.answer.proofs.Small.{samples-are, room, decodes, done}
use Rattle.answer.proofs.samples_of.Goals as goal

pub slice_bounds-out-end : goal.slice_bounds-out-end
slice_bounds-out-end c = room c.args.channels c.args.block.now c.requires _ _ c.samples-m.ensures c.zero_samples-out.ensures

pub slice_bounds-decode_adpcm_ima_ms-end : goal.slice_bounds-decode_adpcm_ima_ms-end
slice_bounds-decode_adpcm_ima_ms-end c =
    sym (length-take-le c.samples-m.result c.zero_samples-out.result (room c.args.channels c.args.block.now c.requires _ _ c.samples-m.ensures c.zero_samples-out.ensures))

pub unwrap-requires : goal.unwrap-requires
unwrap-requires c =
    let a = c.args in
    let out = c.zero_samples-out in
    let decode = c.decode_adpcm_ima_ms in
    let m-is = c.samples-m.ensures ∙ samples-are a.channels a.block.now c.requires in
    done a.channels a.block.now c.requires c.samples-m.result decode.result decode.new.out_samples out.result m-is out.ensures decode.ensures

pub returns : goal.returns
returns c =
    let a = c.args in
    let out = c.zero_samples-out in
    let decode = c.decode_adpcm_ima_ms in
    let m-is = c.samples-m.ensures ∙ samples-are a.channels a.block.now c.requires in
    decodes a.channels a.block.now c.requires c.samples-m.result decode.result decode.new.out_samples out.result m-is out.ensures decode.ensures

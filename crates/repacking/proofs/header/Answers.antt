-- The four bytes of the header stand within the block, and are those of the state that it was read as.
use Rattle.std.proofs.Common.{◌≡◌, ◌/◌, sym, ap, ◌∙◌, arith, rules, w16, FitsSigned}
use Rattle.std.proofs.Math.Facts.{to_z-of_z}
use Rattle.halves.specs.Halves.{bits_of}
use Rattle.adpcm_ima.specs.View.{state_of}
use Rattle.ms_block.proofs.Sizes.{shape}
use Rattle.ms_block.proofs.OwnBytes.{head-is}
use Rattle.ms_repacked.proofs.Midway.{header-put}
use Rattle.repacking.proofs.header.Goals as goal

pub returns : goal.returns
returns c =
    let block = c.args.block.now in
    let ch = c.args.ch in
    let alike = shape _ _ _ c.requires.0.0 in
    let f : FitsSigned w16 c.head-state.result.predictor = search rules in
    let own = c.head-state.ensures ∙ sym (head-is block alike ch c.requires.1) in
    let bits = c.bits_of-bits.ensures.0 ∙ ap bits_of (to_z-of_z f) in
    let high : c.high_half.result ≡ c.bits_of-bits.result / 256 = c.high_half.ensures ∙ omega (arith, c.bits_of-bits.ensures.1) in (
      own,
      rw (c.low_half.ensures, high) (header-put block alike ch c.requires.1 c.args.out.now (state_of c.head-state.result) c.bits_of-bits.result c.requires.0.1 own bits c.requires.2),
    )

-- Behind the last channel every byte is written, and then the two blocks are compared.
use Rattle.std.proofs.Common.{◌≡◌, ℕ, length, sym, ap, ap₂, ◌∙◌, subst, arith}
use Rattle.num.specs.Outcome.{outcome}
use Rattle.ms_block.proofs.Sizes.{shape}
use Rattle.ms_reading.proofs.Refused.{by_none}
use Rattle.ms_repacked.specs.Private.{Upto}
use Rattle.ms_repacked.specs.Repack.{any_change, repack_ms}
use Rattle.ms_repacked.proofs.Midway.{ends}
use Rattle.ms_repacked.proofs.Theorems.{allowed}
use Rattle.repacking.proofs.repack_adpcm_ima_ms.Goals as goal

pub returns : goal.returns
unfolding repack_ms
returns c =
    let a = c.args in
    let all : c.loop-ch.ch ≡ a.channels = omega arith in
    let taken = allowed a.channels (length a.block.now) (length a.out.now) (sym c.in_ok-check_repack.ensures) in
    let same : length c.loop-ch.out ≡ length a.block.now = omega (arith, taken.1) in
    let new = ends a.block.now (shape _ _ _ taken.0) c.loop-ch.out same (subst (λ (e : ℕ). Upto a.channels a.block.now e 0 c.loop-ch.out) all c.loop-ch.invariant) in
    ap₂ (outcome 0) (c.any_change.ensures ∙ ap (any_change a.block.now) new) new
    ∙ by_none a.reading a.channels a.block.now _ _ _ c.in_ok-check_repack.ensures c.in_ok-check_headers.ensures

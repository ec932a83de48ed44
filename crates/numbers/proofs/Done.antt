-- None of the calls that are unwrapped refuses: their blocks are as long as they have to be, and the header of the mono block is sound. Assumes nothing.
use Rattle.std.proofs.Common.{◌≡◌, ℕ, List, [], ◌∷◌, Result, Bool, false, length, ◌∙◌, refl}
use Rattle.std.specs.Prelude.{ℤ, IsOk}
use Rattle.refusal.specs.declared.Refusal.{Refusal}
use Rattle.refusal.specs.declared.Refused.{Refused}
use Rattle.refusal.specs.Refusal.{handed, answered}
use Rattle.refusal.proofs.Done.{handed-done, answered-done}
use Rattle.ima_nibble.specs.Step.{State}
use Rattle.adpcm_ima.specs.declared.AdpcmImaState.{AdpcmImaState}
use Rattle.adpcm_ima.specs.View.{state_of}
use Rattle.ima4_block.specs.Call.{decode_ima4}
use Rattle.ima4_block.proofs.Lengths.{decodes}
use Rattle.ms_block.specs.declared.Reading.TheVariants.{Strict}
use Rattle.ms_block.specs.Block.{no_counts, clipped_counts, decoded_ms_block}
use Rattle.ms_block.specs.Call.{decode_ms}
use Rattle.ms_block.specs.Sizes.{ms_refusal, repack_refusal}
use Rattle.ms_block.specs.Readings.{sound_headers}
use Rattle.ms_repacked.specs.Repack.{repacked, any_change, repack_ms}

-- an ima4 block decoded
pub decoded : (r : Result AdpcmImaState (Refused AdpcmImaState)) (st : State) (bytes : List ℕ) (old new : List ℤ) → length bytes ≡ 34 → length old ≡ 64
    → handed state_of r new ≡ decode_ima4 st bytes old → IsOk r
decoded r st bytes old new b s e = handed-done state_of _ _ r new (e ∙ decodes st bytes old b s)

abbrev pub mono : List ℕ
mono = 0 ∷ 0 ∷ 0 ∷ 0 ∷ 0x17 ∷ []

-- the mono block decoded
pub mono_decoded : (r : Result (List ℕ) Refusal) (old new : List ℤ) → length old ≡ 3 → answered (λ ns. ns) no_counts r new ≡ decode_ms Strict 1 mono old → IsOk r
unfolding decode_ms ms_refusal sound_headers
mono_decoded r old new s e = answered-done (λ ns. ns) (clipped_counts 1 mono) (decoded_ms_block 1 mono) no_counts r new (e ∙ rw s refl)

-- and repacked
pub mono_repacked : (r : Result Bool Refusal) (old new : List ℕ) → length old ≡ 5 → answered (λ b. b) false r new ≡ repack_ms Strict 1 mono old → IsOk r
unfolding repack_ms repack_refusal ms_refusal sound_headers
mono_repacked r old new s e = answered-done (λ b. b) (any_change mono (repacked 1 mono)) (repacked 1 mono) false r new (e ∙ rw s refl)

-- None of the calls refuses: the lengths fit, and the index is one that the calls take. Assumes nothing.
use Rattle.std.proofs.Common.{◌≡◌, ℕ, ◌*◌, ◌/◌, ◌≤◌, List, Result, Ok, Err, length, arith, ap, ◌∙◌, refl}
use Rattle.std.specs.Prelude.{ℤ, IsOk}
use borrow.Author.Tests.{le-leb, eq-eqb}
use Rattle.num.specs.Outcome.{Outcome}
use Rattle.refusal.specs.declared.Refusal.{Refusal}
use Rattle.refusal.specs.declared.Refused.{Refused}
use Rattle.refusal.specs.Refusal.{handed, answered}
use Rattle.refusal.proofs.Numbers.{number-not-0}
use Rattle.ima_nibble.specs.Step.{State, zero_state}
use Rattle.adpcm_ima.specs.declared.AdpcmImaState.{AdpcmImaState}
use Rattle.adpcm_ima.specs.View.{state_of}
use Rattle.ima4_block.specs.Call.{decode_ima4_run, encode_ima4_run}
use Rattle.num.specs.Lists.{from}
use Rattle.seek_index.specs.Record.{seek_index, state_bytes}
use Rattle.seek_index.specs.Call.{index_ima4, decode_ima4_from}

module _ {Buffer : Type 0} (buffer : Buffer) (is : Outcome State Buffer) (zero : is.number ≡ 0) where
  handed-0 : (r : Result AdpcmImaState (Refused AdpcmImaState)) → handed state_of r buffer ≡ is → IsOk r
  handed-0 (Ok x) e = refl
  handed-0 (Err refused) e = absurd (number-not-0 refused.refusal (ap (λ o. o.number) e ∙ zero))

  answered-0 : (r : Result AdpcmImaState Refusal) → answered state_of zero_state r buffer ≡ is → IsOk r
  answered-0 (Ok x) e = refl
  answered-0 (Err refusal) e = absurd (number-not-0 refusal (ap (λ o. o.number) e ∙ zero))

-- two blocks encoded as a run
pub encoded : (r : Result AdpcmImaState (Refused AdpcmImaState)) (st : State) (samples : List ℤ) (old new : List ℕ) → length samples ≡ 128 → length old ≡ 68
    → handed state_of r new ≡ encode_ima4_run st samples old → IsOk r
unfolding encode_ima4_run
encoded r st samples old new s b e = handed-0 new (encode_ima4_run st samples old) (rw (s, b) refl) r e

-- some blocks decoded as a run
pub decoded : (n : ℕ) → n ≤ 1024 → (r : Result AdpcmImaState (Refused AdpcmImaState)) (st : State) (bytes : List ℕ) (old new : List ℤ) → length bytes ≡ 34 * n → length old ≡ 64 * n
    → handed state_of r new ≡ decode_ima4_run st bytes old → IsOk r
unfolding decode_ima4_run
decoded n few r st bytes old new b s e =
    let are : length bytes / 34 ≡ n = omega arith in
    handed-0 new (decode_ima4_run st bytes old) (rw (are, le-leb n 1024 few, eq-eqb (length bytes) (34 * n) b, eq-eqb (length old) (64 * n) s) refl) r e

-- two blocks indexed, block by block
pub index-done : (r : Result AdpcmImaState (Refused AdpcmImaState)) (st : State) (bytes old new : List ℕ) → length bytes ≡ 68 → length old ≡ 10
    → handed state_of r new ≡ index_ima4 st bytes 1 old → IsOk r
unfolding index_ima4
index-done r st bytes old new b s e = handed-0 new (index_ima4 st bytes 1 old) (rw (b, s) refl) r e

-- and the second block decoded by way of that index
pub by_index : (r : Result AdpcmImaState (Refused AdpcmImaState)) (q : Result AdpcmImaState Refusal) (st : State) (bytes old index : List ℕ) (out new : List ℤ)
    → length bytes ≡ 68 → length old ≡ 10 → length out ≡ 64 → handed state_of r index ≡ index_ima4 st bytes 1 old
    → answered state_of zero_state q new ≡ decode_ima4_from zero_state bytes index 1 out → IsOk q
unfolding index_ima4 decode_ima4_from seek_index state_bytes from
by_index r q st bytes old index out new b i s e f =
    let is : index ≡ seek_index 1 2 st bytes = ap (λ o. o.buffer) e ∙ rw (b, i) refl in
    answered-0 new (decode_ima4_from zero_state bytes index 1 out) (rw (is, b, s) refl) q f

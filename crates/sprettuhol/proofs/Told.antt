-- What a call comes to over C that tells something beside its buffer: it is stored where the call is done, and stays as it was where it is refused. Assumes nothing.
use mathlib.Core.Path.{◌≡◌, refl, sym, ap, ◌∙◌}
use mathlib.Core.Bool.{Bool, false}
use mathlib.Core.List.{List}
use Prim.Native.Nat.{ℕ}
use lib.IntN.{ℤ}
use lib.ListN.{length}
use Rattle.std.specs.Prelude.{Result, Ok, Err}
use Rattle.num.specs.Outcome.{Outcome, outcome, outcome_by}
use Rattle.num.proofs.Outcome.{as-given}
use Rattle.refusal.specs.declared.Refusal.{Refusal}
use Rattle.refusal.specs.Refusal.{refusal_number, answered}
use Rattle.refusal.proofs.Numbers.{number-not-0, refuses}
use Rattle.ms_block.specs.declared.Reading.{Reading}
use Rattle.ms_block.specs.Readings.{read_by}
use Rattle.ms_block.specs.Sizes.{ms_refusal, repack_refusal}
use Rattle.ms_block.specs.Block.{no_counts}
use Rattle.ms_block.specs.Call.{decode_ms}
use Rattle.ms_repacked.specs.Repack.{repack_ms}
use Rattle.sprettuhol.specs.Decode.{decode_call}
use Rattle.sprettuhol.specs.Repack.{number_of, repack_call}
use Rattle.sprettuhol.specs.Told.{seen, stored}

-- a call that leaves its buffer as it was where it is refused, and what is stored of what comes back
module _ {Back Stored Y : Type 0} (view : Back → Stored) (none : Back) (call : Outcome Back (List Y)) (out : List Y) (given : Stored)
    (untouched : (call.number ≡ 0 → ⊥) → call.buffer ≡ out) where
  pub over-C : (answer : Result Back Refusal) (ys : List Y) (both : ℕ × Stored) → answered (λ b. b) none answer ys ≡ call
      → both ≡ stored given (seen view answer) → outcome both.0 both.1 ys ≡ outcome_by call.number (view call.back, call.buffer) (given, out)
  over-C (Ok x) ys both is tells =
      ap (λ (b : ℕ × Stored). outcome b.0 b.1 ys) tells ∙ ap (λ (r : Outcome Back (List Y)). outcome_by r.number (view r.back, r.buffer) (given, out)) is
  over-C (Err e) ys both is tells =
      let kept : ys ≡ out = ap (λ r. r.buffer) is ∙ untouched (λ z. number-not-0 e (ap (λ r. r.number) is ∙ z)) in
      ap (λ (b : ℕ × Stored). outcome b.0 b.1 ys) tells
      ∙ ap (outcome (refusal_number e) given) kept
      ∙ sym (refuses e (view call.back, call.buffer) (given, out))
      ∙ ap (λ (n : ℕ). outcome_by n (view call.back, call.buffer) (given, out)) (ap (λ r. r.number) is)

same : {X : Type 0} (answer : Result X Refusal) → answer ≡ seen (λ x. x) answer
same (Ok x) = refl
same (Err refusal) = refl

module _ (reading : Reading) (c : ℕ) (block : List ℕ) where
  pub told-change : (out : List ℕ) (given : ℕ) (answer : Result Bool Refusal) (told : Result ℕ Refusal) (ys : List ℕ) (k stored-number : ℕ)
      → answered (λ b. b) false answer ys ≡ repack_ms reading c block out → told ≡ seen number_of answer
      → (k, stored-number) ≡ stored given told → outcome k stored-number ys ≡ repack_call reading c block out given
  unfolding repack_ms repack_call
  told-change out given answer told ys k n is told-is tells =
      over-C number_of false (repack_ms reading c block out) out given
      (λ refused. ap (λ r. r.buffer) (as-given (read_by reading c block (repack_refusal c (length block) (length out))) _ _ refused))
      answer ys (k, n) is (tells ∙ ap (stored given) told-is)

  pub told-counts : (out : List ℤ) (given : List ℕ) (answer : Result (List ℕ) Refusal) (ys : List ℤ) (k : ℕ) (counts : List ℕ)
      → answered (λ b. b) no_counts answer ys ≡ decode_ms reading c block out
      → (k, counts) ≡ stored given answer → outcome k counts ys ≡ decode_call reading c block out given
  unfolding decode_ms decode_call
  told-counts out given answer ys k counts is tells =
      over-C (λ (ns : List ℕ). ns) no_counts (decode_ms reading c block out) out given
      (λ refused. ap (λ r. r.buffer) (as-given (read_by reading c block (ms_refusal c (length block) (length out))) _ _ refused))
      answer ys (k, counts) is (tells ∙ ap (stored given) (same answer))

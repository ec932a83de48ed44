-- A block repacked into the first places of an array, in either reading: what was refused, and what stands in the array otherwise. Assumes nothing.
use mathlib.Core.Path.{◌≡◌, refl, sym, ap, ◌∙◌}
use mathlib.Core.Bool.{Bool, false}
use mathlib.Core.List.{List, ◌++◌, append_assoc}
use Prim.Native.Nat.{ℕ, ◌+◌, ◌≤◌}
use native.Mathlib.Omega.{arith}
use lib.ListN.{length, take, drop, length-append, length-drop}
use lib.Seq.{take_at, length-take-le}
use borrow.Author.Tests.{ne_eqb}
use Rattle.std.specs.Prelude.{Ok, Err}
use Rattle.num.specs.Outcome.{outcome}
use Rattle.num.proofs.Outcome.{number_is}
use Rattle.refusal.specs.declared.Refusal.{Refusal}
use Rattle.refusal.specs.Refusal.{refusal_number, answered}
use Rattle.refusal.proofs.Numbers.{number-not-0}
use Rattle.ms_block.specs.declared.Reading.{Reading}
use Rattle.ms_block.specs.Readings.{read_by}
use Rattle.ms_block.specs.Sizes.{samples_of, repack_refusal}
use Rattle.ms_block.proofs.Readings.{not-refused}
use Rattle.ms_block.proofs.Sizes.{shape}
use Rattle.ms_repacked.specs.Repack.{repacked, any_change, repack_ms}
use Rattle.ms_repacked.proofs.Settled.{repacked-length}
use Rattle.ms_repacked.proofs.Theorems.{allowed}
use Rattle.text.specs.Text.{ascii, hex, line, Stands}
use Rattle.lines.specs.Lines.{refusal_line}
use Rattle.answer.specs.Answer.{loss_of, first_line, both_lines, answer_for}
use Rattle.answer.specs.Private.{Small}

module _ (reading : Reading) (c : ℕ) (block : List ℕ) where
  -- the number that repacking answers, with a second buffer of so many bytes
  abbrev refusal_for : ℕ → ℕ
  refusal_for m = read_by reading c block (repack_refusal c (length block) m)

  refusal_is : (out : List ℕ) → (repack_ms reading c block out).number ≡ refusal_for (length out)
  unfolding repack_ms
  refusal_is out = number_is (refusal_for (length out)) _ _

  -- the array begins with the new block
  pub record Made (changed : Bool) (xs : List ℕ) : Type 0 where
    pub small : Small c block
    pub size : length xs ≡ 4096
    pub says : let new = take (length block) xs in answer_for reading c block ≡ line (first_line changed (loss_of c block new) ++ hex new)

module _ (reading : Reading) (c : ℕ) (block out xs : List ℕ) where
  refused : (refusal : Refusal) → length block ≤ 4096 → length out ≡ 4096 → answered (λ b. b) false (Err refusal) xs ≡ repack_ms reading c block (take (length block) out)
      → refusal_number refusal ≡ refusal_for reading c block (length block)
  refused refusal few room e =
      let long : length (take (length block) out) ≡ length block = length-take-le (length block) out (omega (arith, few, room)) in
      ap (λ r. r.number) e ∙ refusal_is reading c block (take (length block) out) ∙ ap (refusal_for reading c block) long

  pub refuses : (refusal : Refusal) → length block ≤ 4096 → length out ≡ 4096 → answered (λ b. b) false (Err refusal) xs ≡ repack_ms reading c block (take (length block) out)
      → answer_for reading c block ≡ refusal_line (refusal_number refusal)
  unfolding answer_for
  refuses refusal few room e =
      let number = refused refusal few room e in
      let other : refusal_for reading c block (length block) ≡ 0 → ⊥ = λ z. number-not-0 refusal (number ∙ z) in
      rw (ne_eqb (refusal_for reading c block (length block)) 0 other, ← number) refl

  pub made : (changed : Bool) → length block ≤ 4096 → length out ≡ 4096 → answered (λ b. b) false (Ok changed) xs ≡ repack_ms reading c block (take (length block) out)
      → Made reading c block changed (xs ++ drop (length block) out)
  unfolding repack_ms answer_for both_lines
  made changed few room e =
      let n = length block in
      let long : length (take n out) ≡ n = length-take-le n out (omega (arith, few, room)) in
      let taken : refusal_for reading c block n ≡ 0 = sym (ap (λ r. r.number) e ∙ refusal_is reading c block (take n out) ∙ ap (refusal_for reading c block) long) in
      let small : Small c block = ((allowed c n n (not-refused c block reading (repack_refusal c n n) taken)).0, few) in
      let result : outcome 0 changed xs ≡ outcome 0 (any_change block (repacked c block)) (repacked c block) = e ∙ rw (long, taken) refl in
      let xs-are = ap (λ r. r.buffer) result in
      let many = ap length xs-are ∙ repacked-length block (shape c n (samples_of c n) small.0) in
      let New-is = take_at xs (drop n out) n many ∙ xs-are in
      record {
        small = small;
        size = length-append xs (drop n out) ∙ omega (arith, many, few, room, length-drop n out);
        says = rw (taken, New-is, ← (ap (λ r. r.back) result)) (sym (append_assoc (first_line changed (loss_of c block (repacked c block))) (hex (repacked c block)) (ascii "\n")));
      }

-- The first places of a buffer have the text that was put there.
pub counts : (out text buffer : List ℕ) (place : ℕ) → Stands out 0 text place buffer → (place ≤ length buffer) × (place ≡ length (take place buffer))
counts out text buffer place (place_is, buffer-is) =
    let parts = length-append text (drop (0 + length text) out) in
    let whole : length buffer ≡ length (text ++ drop (0 + length text) out) = ap length buffer-is in
    let some : place ≤ length buffer = omega (arith, place_is, parts, whole) in
    (some, sym (length-take-le place buffer some))

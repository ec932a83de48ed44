-- What is asked by a record that was read into an array: nothing, or its block, which stands there. Assumes nothing.
use mathlib.Core.Path.{◌≡◌, refl, sym, ap, ap₂, ◌∙◌}
use mathlib.Core.Bool.{true}
use mathlib.Core.List.{List}
use Prim.Native.Nat.{ℕ, ◌≤◌}
use native.Mathlib.Omega.{arith}
use lib.ListN.{length, take}
use borrow.Table.Steps.{cases}
use Rattle.std.specs.Prelude.{Ok, Err}
use Rattle.num.specs.Outcome.{outcome}
use Rattle.refusal.specs.declared.Refusal.{Refusal}
use Rattle.refusal.specs.Refusal.{refusal_number, answered}
use Rattle.refusal.proofs.Numbers.{number-not-0}
use Rattle.ms_block.specs.declared.Reading.{Reading}
use Rattle.record.specs.declared.Record.{Record}
use Rattle.record.specs.Record.{record_in, channels_of, block_of, well_formed, read_record}
use Rattle.record.proofs.Formed.{formed, block-few, block-taken}
use Rattle.text.specs.Text.{put}
use Rattle.text.proofs.Behind.{put-length}
use Rattle.lines.specs.Lines.{refusal_line}
use Rattle.answer.specs.Answer.{answer_for, answer_to}

-- the array holds the record's block, and it is answered to
pub record Asked (reading : Reading) (input : List ℕ) (channels n : ℕ) (xs : List ℕ) : Type 0 where
  pub few : n ≤ 4096
  pub long : length xs ≡ 4096
  pub asks : answer_to reading input ≡ answer_for reading channels (take n xs)

module _ (reading : Reading) (input out xs : List ℕ) where
  -- it is malformed
  pub none : (refusal : Refusal) → answered record_in (0, 0) (Err refusal) xs ≡ read_record input out → answer_to reading input ≡ refusal_line (refusal_number refusal)
  unfolding answer_to read_record
  none refusal e =
      cases (well_formed input)
      (λ t. absurd (number-not-0 refusal (ap (λ r. r.number) e ∙ rw t refl)))
      (λ t. rw t (ap refusal_line (sym (ap (λ r. r.number) e ∙ rw t refl))))

  module _ (read : Record) (size : length out ≡ 4096) (e : answered record_in (0, 0) (Ok read) xs ≡ read_record input out) where
    well : well_formed input ≡ true
    unfolding read_record
    well = cases (well_formed input) (λ t. t) (λ t. let four : 0 ≡ 4 = ap (λ r. r.number) e ∙ rw t refl in absurd (omega (arith, four)))

    pub asked : Asked reading input read.channels read.length xs
    unfolding answer_to read_record
    asked =
        let result : outcome {Back = ℕ × ℕ} 0 (record_in read) xs ≡ outcome 0 (channels_of input, length (block_of input)) (put out 0 (block_of input)) = e ∙ rw well refl in
        let n-is = ap (λ r. r.back.1) result in
        let xs-are = ap (λ r. r.buffer) result in
        let room = block-few input (formed input well) in
        let block-is = ap₂ (λ (m : ℕ) (ys : List ℕ). take m ys) n-is xs-are ∙ block-taken input out in
        record {
          few = omega (arith, n-is, room);
          long = ap length xs-are ∙ put-length out 0 (block_of input) (omega (arith, size, room)) ∙ size;
          asks = rw (well, block-is, ← (ap (λ r. r.back.0) result)) refl;
        }

-- What the programs `repack` and `repack_lenient` print: the one reads strictly, and the other leniently. Assumes nothing.
use Rattle.std.specs.Prelude.{Bool, cond, List, ◌++◌, Option, ℕ, eqb, length}
use Rattle.ms_block.specs.declared.Reading.{Reading}
use Rattle.ms_block.specs.Readings.{read_by}
use Rattle.ms_block.specs.Sizes.{repack_refusal}
use Rattle.ms_block.specs.Block.{decoded_ms_block}
use Rattle.ms_repacked.specs.Repack.{repacked, any_change}
use Rattle.loss.specs.Loss.{Report, loss_report}
use Rattle.text.specs.Text.{hex, line}
use Rattle.lines.specs.Lines.{refusal_line, same_line, change_line}
use Rattle.record.specs.Record.{channels_of, block_of, well_formed}

-- What changed is the loss report of old against new samples.
abbrev pub loss_of : ℕ → List ℕ → List ℕ → Report (Option ℕ)
loss_of c old new = (loss_report (decoded_ms_block c old) (decoded_ms_block c new)).back

abbrev pub first_line : Bool → Report (Option ℕ) → List ℕ
first_line changed r = cond changed (change_line r) same_line

-- After `same` or `changed` comes a line of the new block in upper-case hex.
unfoldable pub both_lines : ℕ → List ℕ → List ℕ
both_lines c block =
    let new = repacked c block in
    first_line (any_change block new) (loss_of c block new) ++ line (hex new)

-- 4 is tested first, then 1 and 2, and then 8 by the program that reads strictly.
unfoldable pub answer_for : Reading → ℕ → List ℕ → List ℕ
answer_for reading c block =
    let number = read_by reading c block (repack_refusal c (length block) (length block)) in
    cond (eqb number 0) (both_lines c block) (refusal_line number)

unfoldable pub answer_to : Reading → List ℕ → List ℕ
answer_to reading input = cond (well_formed input) (answer_for reading (channels_of input) (block_of input)) (refusal_line 4)

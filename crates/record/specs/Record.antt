-- The record that a program reads. Assumes nothing.
use Rattle.std.specs.Prelude.{Bool, cond, ◌&&◌, List, ℕ, ◌+◌, ◌*◌, eqb, leb, length, get_or, drop}
use Rattle.num.specs.Outcome.{Outcome, outcome_by}
use Rattle.text.specs.Text.{put}
use Rattle.record.specs.declared.Record.{Record}

-- Two bytes big-endian, the length of all that follows, 2 to 4,098; version byte 1; channel byte; the block.
abbrev pub length_of : List ℕ → ℕ
length_of input = 256 * get_or input 0 0 + get_or input 1 0

abbrev pub version_of : List ℕ → ℕ
version_of input = get_or input 2 0

abbrev pub channels_of : List ℕ → ℕ
channels_of input = get_or input 3 0

abbrev pub block_of : List ℕ → List ℕ
block_of input = drop 4 input

-- Short input, extra bytes, another length or version are malformed.
unfoldable pub well_formed : List ℕ → Bool
well_formed input = leb 2 (length_of input) && leb (length_of input) 4098 && eqb (length input) (2 + length_of input) && eqb (version_of input) 1

-- They are refused by 4. Of any other record the channel byte and the block's length come back, and the block stands at the start of the array,
-- with what was behind it left as it was.
unfoldable pub read_record : List ℕ → List ℕ → Outcome (ℕ × ℕ) (List ℕ)
read_record input out =
    outcome_by (cond (well_formed input) 0 4) ((channels_of input, length (block_of input)), put out 0 (block_of input)) ((0, 0), out)

-- What the struct of the code says.
abbrev pub record_in : Record → ℕ × ℕ
record_in read = (read.channels, read.length)

-- One ima4 block, decoded and encoded: a header and 64 nibbles. Assumes nothing.
use Rattle.std.specs.Prelude.{List, ◌++◌, ℕ, ℤ, get_or, drop}
use Rattle.ima_nibble.specs.Step.{State, sixteen}
use Rattle.ima_nibble.specs.Table.{ima_steps}
use Rattle.ima_nibble.specs.Series.{Done, done, decoded, encoded, nibbles_of, packed}
use Rattle.ima4_block.specs.Header.{ima4_header, start_state, lowered_state}

-- A block is a header of two bytes, then 64 nibbles, low half first.
unfoldable pub decoded_ima4_block : State → List ℕ → Done ℤ
decoded_ima4_block own bytes = decoded sixteen ima_steps (start_state own (get_or bytes 0 0) (get_or bytes 1 0)) (nibbles_of (drop 2 bytes))

unfoldable pub encoded_ima4_block : State → List ℤ → Done ℕ
encoded_ima4_block st samples = let nibbles = encoded sixteen ima_steps (lowered_state st) samples in done (ima4_header (lowered_state st) ++ packed nibbles.written) nibbles.end

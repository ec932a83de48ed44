-- A block that the encoder could have written. Assumes nothing.
use Rattle.std.specs.Prelude.{◌≡◌, List, ℕ, ◌≤◌, ◌<◌, ℤ, length}
use Rattle.num.specs.Lists.{All}
use Rattle.ima_nibble.specs.Step.{State, sixteen}
use Rattle.ima_nibble.specs.Series.{Within}
use Rattle.ms_block.specs.Readings.{header_index}
use Rattle.ms_block.specs.Sizes.{most, Taken}
use Rattle.ms_block.specs.Block.{encoded_ms_block}

-- There are samples, of 16 bits, and starting indices of 0 to 88 from which the encoder writes the block, in a call that it takes.
pub record Written (c : ℕ) (block : List ℕ) : Type 0 where
  pub samples : List ℤ
  pub states : List State
  pub within : Within sixteen samples
  pub channels : length states ≡ most
  pub indices : All (λ st. st.index ≤ 88) states
  pub taken : Taken c (length block) (length samples)
  pub writes : encoded_ms_block c states samples ≡ block

-- Two blocks that are alike in header indices.
abbrev pub SameIndices : ℕ → List ℕ → List ℕ → Type 0
SameIndices c block other = (e : ℕ) → e < c → header_index block e ≡ header_index other e

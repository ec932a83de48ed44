-- The header of one channel of an MS block. Assumes nothing.
use Rattle.std.specs.Prelude.{List, [], ◌∷◌, ℕ, ◌/◌, ◌%◌, get_or}
use Rattle.halves.specs.Halves.{bits_of, from_halves}
use Rattle.ima_nibble.specs.Step.{State, state, sixteen, lowered}

-- Per channel a header of four bytes: predictor little-endian, index, one byte ignored on reading and written 0.
abbrev pub ms_header : State → List ℕ
ms_header st = (bits_of st.predictor % 256) ∷ (bits_of st.predictor / 256) ∷ st.index ∷ 0 ∷ []

-- The decoder lowers an index above 88, and its count begins.
abbrev pub headed : ℕ → ℕ → ℕ → State
headed low high index = state (from_halves high low) (lowered sixteen index) 0

-- The header that a channel's bytes begin with.
unfoldable pub head_of : List ℕ → State
head_of bytes = headed (get_or bytes 0 0) (get_or bytes 1 0) (get_or bytes 2 0)

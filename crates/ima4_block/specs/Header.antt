-- An ima4 block's header, and the state that the block starts from. Assumes nothing.
use Rattle.std.specs.Prelude.{Bool, cond, ◌&&◌, List, [], ◌∷◌, ℕ, ◌+◌, ◌*◌, ◌/◌, ◌%◌, eqb, ℤ, pos, ◌+ℤ◌, ◌-ℤ◌}
use Rattle.std.specs.Int.Signed.{le_z}
use Rattle.num.specs.Clamp.{clamp}
use Rattle.halves.specs.Halves.{from_bits, bits_of}
use Rattle.ima_nibble.specs.Step.{State, reloaded, sixteen, lowered}

-- A block is 34 bytes: big-endian, nine top bits of the predictor, seven bits of index;
abbrev pub header_bits : State → ℕ
header_bits st = 128 * (bits_of st.predictor / 128) + st.index

abbrev pub ima4_header : State → List ℕ
ima4_header st = (header_bits st / 256) ∷ (header_bits st % 256) ∷ []

-- The decoder's header index is lowered to 88. A header has no count: the decoder keeps its own.
abbrev pub header_state : State → ℕ → State
header_state own bits = reloaded own (from_bits (128 * (bits / 128))) (lowered sixteen (bits % 128))

-- Within 127 (both ends included, limits saturating).
abbrev pub saturated : ℤ → ℤ
saturated x = clamp sixteen.lowest sixteen.highest x

abbrev pub near : ℤ → ℤ → Bool
near p h = le_z (saturated (h -ℤ pos 127)) p && le_z p (saturated (h +ℤ pos 127))

-- It keeps its own state if its index, not lowered first, equals that number and its predictor is within 127 of the header's. Otherwise it reloads both.
-- The count is not looked at.
abbrev pub keeps : State → State → Bool
keeps own head = eqb own.index head.index && near own.predictor head.predictor

unfoldable pub start_state : State → ℕ → ℕ → State
start_state own high low = let head = header_state own (256 * high + low) in cond (keeps own head) own head

-- The encoder lowers its index before writing.
abbrev pub lowered_state : State → State
lowered_state st = reloaded st st.predictor (lowered sixteen st.index)

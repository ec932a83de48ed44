-- A seek index beside an ima4 run: a record of the decoder's states before every k-th block. Assumes nothing.
use Rattle.std.specs.Prelude.{List, [], ◌∷◌, ◌++◌, ℕ, suc, ◌+◌, ◌-◌, ◌*◌, ◌/◌, ◌%◌, get_or, take, drop}
use Rattle.num.specs.Lists.{from}
use Rattle.halves.specs.Halves.{bits_of, from_halves}
use Rattle.ima_nibble.specs.Step.{State, state}
use Rattle.ima4_block.specs.Call.{decoded_run}

-- The decoder state before block b, its own: that block's header is not looked at yet.
abbrev pub state_before : State → List ℕ → ℕ → State
state_before st bytes b = (decoded_run b st bytes).end

-- States stand before blocks 0, k, 2k and so on, none for an empty run: of n blocks, n/k of them, rounded up.
abbrev pub states_kept : ℕ → ℕ → ℕ
states_kept k n = (n + (k - 1)) / k

abbrev pub kept_state : ℕ → State → List ℕ → ℕ → State
kept_state k st bytes i = state_before st bytes (k * i)

abbrev pub kept_states : ℕ → ℕ → State → List ℕ → List State
kept_states k n st bytes = from (states_kept k n) 0 (kept_state k st bytes)

-- Three bytes per kept state (predictor big-endian, index). The index is raw, even above 88.
unfoldable pub state_bytes : List State → List ℕ
state_bytes [] = []
state_bytes (st ∷ sts) = (bits_of st.predictor / 256) ∷ (bits_of st.predictor % 256) ∷ st.index ∷ state_bytes sts

-- Two bytes big-endian length of the rest, version byte 1, k,
abbrev pub record_head : ℕ → ℕ → List ℕ
record_head k rest = (rest / 256) ∷ (rest % 256) ∷ 1 ∷ k ∷ []

abbrev pub rest_length : ℕ → ℕ → ℕ
rest_length k n = 2 + 3 * states_kept k n

-- then the states. The first is the start state.
unfoldable pub seek_index : ℕ → ℕ → State → List ℕ → List ℕ
seek_index k n st bytes = record_head k (rest_length k n) ++ state_bytes (kept_states k n st bytes)

-- ---- Read from any record, which is believed

abbrev pub version_in : List ℕ → ℕ
version_in index = get_or index 2 0

abbrev pub rest_in : List ℕ → ℕ
rest_in index = get_or index 0 0 * 256 + get_or index 1 0

abbrev pub every_in : List ℕ → ℕ
every_in index = get_or index 3 0

-- The i-th of its states, from 0: three bytes behind the four of the head, and three for each state before it. A count is not stored.
abbrev pub state_in : List ℕ → ℕ → State
state_in index i = let three = drop (4 + 3 * i) index in state (from_halves (get_or three 0 0) (get_or three 1 0)) (get_or three 2 0) 0

-- The kept state at or before block j is the j/k-th, which stands before block k(j/k). The state before that block or a later one, b, is reached from there.
unfoldable pub reached : List ℕ → List ℕ → ℕ → ℕ → State
reached index bytes j b = let k = every_in index in let i = j / k in state_before (state_in index i) (drop (34 * (k * i)) bytes) (b - k * i)

-- Only the states after block j are rebuilt. All that stands before them stays.
unfoldable pub rebuilt : ℕ → List ℕ → List ℕ → ℕ → List ℕ
rebuilt n index bytes j =
    let k = every_in index in
    let i = suc (j / k) in
    take (4 + 3 * i) index ++ state_bytes (from (states_kept k n - i) i (λ e. reached index bytes j (k * e)))

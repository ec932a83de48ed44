-- An MS block of c channels, decoded and encoded. Assumes nothing.
use Rattle.std.specs.Prelude.{cond, List, ◌∷◌, ◌++◌, ℕ, ltb, ℤ, pos, length, get_or, drop}
use Rattle.num.specs.Lists.{from}
use Rattle.ima_nibble.specs.Step.{State, zero_state, reloaded, sixteen}
use Rattle.ima_nibble.specs.Table.{ima_steps}
use Rattle.ima_nibble.specs.Series.{Done, done, decoded, encoded, predictors, nibbles_of, packed}
use Rattle.ms_block.specs.Header.{ms_header, head_of}
use Rattle.ms_block.specs.Sizes.{most, samples_of, bytes_of}
use Rattle.ms_block.specs.Weave.{strand, woven}

-- ---- One channel

-- A header, then bytes, low nibble first. The header predictor is the first sample.
unfoldable pub decoded_channel : List ℕ → List ℤ
decoded_channel bytes = let head = head_of bytes in head.predictor ∷ (decoded sixteen ima_steps head (nibbles_of (drop 4 bytes))).written

-- The state behind the last byte. It counts from 0 for each block.
unfoldable pub channel_end : List ℕ → State
channel_end bytes = (decoded sixteen ima_steps (head_of bytes) (nibbles_of (drop 4 bytes))).end

-- The same the other way round: the header has the state that the channel starts from, as it is, and the nibbles follow of all samples but the first.
unfoldable pub encoded_channel : State → List ℤ → Done ℕ
encoded_channel st samples =
    let nibbles = encoded sixteen ima_steps st (drop 1 samples) in
    done (ms_header st ++ packed nibbles.written) nibbles.end

-- ---- All channels: four bytes of each in turn, headers included; and interleaved samples

abbrev pub bytes_in : ℕ → List ℕ → ℕ → List ℕ
bytes_in c bytes e = strand 4 c 0 bytes e

abbrev pub samples_in : ℕ → List ℤ → ℕ → List ℤ
samples_in c samples e = strand 1 c (pos 0) samples e

-- Each channel starts from its header.
unfoldable pub decoded_ms_block : ℕ → List ℕ → List ℤ
decoded_ms_block c bytes = woven 1 c (pos 0) (samples_of c (length bytes)) (λ e. decoded_channel (bytes_in c bytes e))

-- A count for each channel; 0 for channels that are not there,
unfoldable pub clipped_counts : ℕ → List ℕ → List ℕ
clipped_counts c bytes = from most 0 (λ e. cond (ltb e c) (channel_end (bytes_in c bytes e)).clipped 0)

-- and for all of them where nothing is decoded.
unfoldable pub no_counts : List ℕ
no_counts = from most 0 (λ e. 0)

-- The channel states travel together; those of channels that are not there come back as they went in.
abbrev pub state_in : List State → ℕ → State
state_in states e = get_or states e zero_state

-- Their counts.
unfoldable pub counts_of : List State → List ℕ
counts_of states = from most 0 (λ e. (state_in states e).clipped)

abbrev pub each : ℕ → List State → (ℕ → State) → List State
each c states f = from most 0 (λ e. cond (ltb e c) (f e) (state_in states e))

-- The encoder sets each predictor from the first sample, and the incoming index is raw, even 200; the incoming count stays.
abbrev pub begun_in : ℕ → List State → List ℤ → ℕ → State
begun_in c states samples e = reloaded (state_in states e) (get_or (samples_in c samples e) 0 (pos 0)) (state_in states e).index

unfoldable pub begun : ℕ → List State → List ℤ → List State
begun c states samples = each c states (begun_in c states samples)

-- What follows is written from these states.
abbrev pub encoded_in : ℕ → List State → List ℤ → ℕ → Done ℕ
encoded_in c states samples e = encoded_channel (state_in states e) (samples_in c samples e)

unfoldable pub block_from : ℕ → List State → List ℤ → List ℕ
block_from c states samples = woven 4 c 0 (bytes_of c (length samples)) (λ e. (encoded_in c states samples e).written)

unfoldable pub states_from : ℕ → List State → List ℤ → List State
states_from c states samples = each c states (λ e. (encoded_in c states samples e).end)

abbrev pub encoded_ms_block : ℕ → List State → List ℤ → List ℕ
encoded_ms_block c states samples = block_from c (begun c states samples) samples

abbrev pub encoded_states : ℕ → List State → List ℤ → List State
encoded_states c states samples = states_from c (begun c states samples) samples

-- What is heard of channel e when it is decoded again: the first sample, and then the encoder's predictor at every sample.
abbrev pub heard : ℕ → List State → List ℤ → ℕ → List ℤ
heard c states samples e =
    let xs = samples_in c samples e in
    get_or xs 0 (pos 0) ∷ predictors sixteen ima_steps (begun_in c states samples e) (drop 1 xs)

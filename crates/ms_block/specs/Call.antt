-- The two calls: what each comes to. Assumes nothing.
use Rattle.std.specs.Prelude.{List, ℕ, ℤ, length}
use Rattle.num.specs.Outcome.{Outcome, outcome_by}
use Rattle.ima_nibble.specs.Step.{State}
use Rattle.ms_block.specs.declared.Reading.{Reading}
use Rattle.ms_block.specs.Readings.{read_by}
use Rattle.ms_block.specs.Sizes.{ms_refusal}
use Rattle.ms_block.specs.Block.{decoded_ms_block, clipped_counts, no_counts, encoded_ms_block, encoded_states}

-- Decoding takes and returns no state. It answers a count for each channel, and 0 for all of them where it refuses.
unfoldable pub decode_ms : Reading → ℕ → List ℕ → List ℤ → Outcome (List ℕ) (List ℤ)
decode_ms reading c bytes out =
    outcome_by (read_by reading c bytes (ms_refusal c (length bytes) (length out))) (clipped_counts c bytes, decoded_ms_block c bytes) (no_counts, out)

-- Encoding hands the states back.
unfoldable pub encode_ms : ℕ → List ℤ → List State → List ℕ → Outcome (List State) (List ℕ)
encode_ms c samples states out =
    outcome_by (ms_refusal c (length out) (length samples)) (encoded_states c states samples, encoded_ms_block c states samples) (states, out)

-- The four calls: what each comes to. Assumes nothing.
use Rattle.std.specs.Prelude.{Bool, cond, ◌&&◌, List, ℕ, ◌*◌, ◌/◌, eqb, leb, ℤ, length}
use Rattle.num.specs.Outcome.{Outcome, outcome, outcome_by}
use Rattle.ima_nibble.specs.Step.{State}
use Rattle.ima_nibble.specs.Series.{Done}
use Rattle.ima4_block.specs.Block.{decoded_ima4_block, encoded_ima4_block}
use Rattle.ima4_block.specs.Run.{run}

-- 34 bytes per block, 64 samples per block;
abbrev pub are_blocks : ℕ → ℕ → ℕ → Bool
are_blocks n bytes samples = eqb bytes (34 * n) && eqb samples (64 * n)

-- a single-block call takes exactly one,
abbrev pub is_block : ℕ → ℕ → Bool
is_block bytes samples = are_blocks 1 bytes samples

-- and a run 0 to 1,024.
abbrev pub is_run : ℕ → ℕ → Bool
is_run bytes samples = leb (bytes / 34) 1024 && are_blocks (bytes / 34) bytes samples

-- Otherwise 3. The state comes back, and the buffer holds what is written.
abbrev pub ima4_outcome : {Y : Type 0} → Bool → Done Y → State → List Y → Outcome State (List Y)
ima4_outcome taken r st out = outcome_by (cond taken 0 3) (r.end, r.written) (st, out)

abbrev pub finished : {Y : Type 0} → Done Y → Outcome State (List Y)
finished r = outcome 0 r.end r.written

-- A one-block ima4 call given no blocks answers 3.
unfoldable pub decode_ima4 : State → List ℕ → List ℤ → Outcome State (List ℤ)
decode_ima4 st bytes out = ima4_outcome (is_block (length bytes) (length out)) (decoded_ima4_block st bytes) st out

unfoldable pub encode_ima4 : State → List ℤ → List ℕ → Outcome State (List ℕ)
encode_ima4 st samples out = ima4_outcome (is_block (length out) (length samples)) (encoded_ima4_block st samples) st out

-- A run reads 34 bytes a block to decode, and 64 samples to encode.
abbrev pub decoded_run : ℕ → State → List ℕ → Done ℤ
decoded_run = run decoded_ima4_block 34

abbrev pub encoded_run : ℕ → State → List ℤ → Done ℕ
encoded_run = run encoded_ima4_block 64

-- No blocks: done, state as given.
unfoldable pub decode_ima4_run : State → List ℕ → List ℤ → Outcome State (List ℤ)
decode_ima4_run st bytes out = ima4_outcome (is_run (length bytes) (length out)) (decoded_run (length bytes / 34) st bytes) st out

unfoldable pub encode_ima4_run : State → List ℤ → List ℕ → Outcome State (List ℕ)
encode_ima4_run st samples out = ima4_outcome (is_run (length out) (length samples)) (encoded_run (length out / 34) st samples) st out

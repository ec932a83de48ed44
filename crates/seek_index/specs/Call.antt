-- The three calls of a seek index: what each comes to. Assumes nothing.
use Rattle.std.specs.Prelude.{Bool, cond, ◌&&◌, List, ℕ, ◌+◌, ◌-◌, ◌*◌, ◌/◌, eqb, ltb, leb, ℤ, length, drop}
use Rattle.num.specs.Outcome.{Outcome, outcome_by}
use Rattle.ima_nibble.specs.Step.{State, uncounted}
use Rattle.ima_nibble.specs.Series.{Done}
use Rattle.ima4_block.specs.Call.{decoded_run}
use Rattle.seek_index.specs.Record.{state_before, rest_length, seek_index, version_in, rest_in, every_in, reached, rebuilt}

-- A run is 0 to 1,024 blocks of 34 bytes. 3 for the run's bytes;
abbrev pub are_run : ℕ → Bool
are_run bytes = leb (bytes / 34) 1024 && eqb bytes (34 * (bytes / 34))

-- then 5 for k outside 1 to 64,
abbrev pub is_every : ℕ → Bool
is_every k = leb 1 k && leb k 64

-- or a record buffer not of the length the run asks: two bytes, and the rest that they count.
abbrev pub index_length : ℕ → ℕ → ℕ
index_length k n = 2 + rest_length k n

abbrev pub index_refusal : ℕ → ℕ → ℕ → ℕ
index_refusal bytes k size = cond (are_run bytes) (cond (is_every k && eqb size (index_length k (bytes / 34))) 0 5) 3

-- Also 5 for a record of another version, one not of the length the run asks,
abbrev pub is_index : ℕ → List ℕ → Bool
is_index n index =
    let k = every_in index in
    eqb (version_in index) 1 && is_every k && eqb (length index) (index_length k n) && eqb (rest_in index) (rest_length k n)

-- or j at or past the end;
abbrev pub place_refusal : ℕ → List ℕ → ℕ → ℕ
place_refusal bytes index j = cond (are_run bytes) (cond (is_index (bytes / 34) index && ltb j (bytes / 34)) 0 5) 3

-- then 3 for samples not 64 per block from j on.
abbrev pub from_refusal : ℕ → List ℕ → ℕ → ℕ → ℕ
from_refusal bytes index j samples =
    let number = place_refusal bytes index j in
    cond (eqb number 0) (cond (eqb samples (64 * (bytes / 34 - j))) 0 3) number

-- Buffers stay as they were at a refusal, and so does the state that is given.
-- Building hands back the state behind the run's last block too.
unfoldable pub index_ima4 : State → List ℕ → ℕ → List ℕ → Outcome State (List ℕ)
index_ima4 st bytes k out =
    let n = length bytes / 34 in
    outcome_by (index_refusal (length bytes) k (length out)) (state_before st bytes n, seek_index k n st bytes) (st, out)

-- Decoding from block j to the end, by way of an index. The count begins at block j, whatever k is.
abbrev pub decoded_from : ℕ → List ℕ → List ℕ → ℕ → Done ℤ
decoded_from n index bytes j = decoded_run (n - j) (uncounted (reached index bytes j j)) (drop (34 * j) bytes)

unfoldable pub decode_ima4_from : State → List ℕ → List ℕ → ℕ → List ℤ → Outcome State (List ℤ)
decode_ima4_from given bytes index j out =
    let r = decoded_from (length bytes / 34) index bytes j in
    outcome_by (from_refusal (length bytes) index j (length out)) (r.end, r.written) (given, out)

-- Rebuilding after blocks from j on are replaced one for one.
unfoldable pub reindex_ima4 : List ℕ → ℕ → List ℕ → Outcome Unit (List ℕ)
reindex_ima4 bytes j index = outcome_by (place_refusal (length bytes) index j) (tt, rebuilt (length bytes / 34) index bytes j) (tt, index)

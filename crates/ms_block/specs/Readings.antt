-- The two ways in which a block is read: strict reading is the default, and lenient reading is chosen by name. Assumes nothing.
use Rattle.std.specs.Prelude.{Bool, true, cond, ◌&&◌, List, ℕ, zero, suc, ◌+◌, ◌*◌, eqb, leb, get_or}
use Rattle.ms_block.specs.declared.Reading.{Reading}
use Rattle.ms_block.specs.declared.Reading.TheVariants.{Strict, Lenient}

-- The index in the header of channel e, as it stands there.
abbrev pub header_index : List ℕ → ℕ → ℕ
header_index block e = get_or block (4 * e + 2) 0

-- No header index is above 88, in any channel used.
unfoldable pub sound_headers : ℕ → List ℕ → Bool
sound_headers zero block = true
sound_headers (suc c) block = sound_headers c block && leb (header_index block c) 88

-- 8: a header index above 88 in any channel used, in strict reading, after 1 and 2. Lenient reading refuses no index.
abbrev pub read_by : Reading → ℕ → List ℕ → ℕ → ℕ
read_by Strict c block number = cond (eqb number 0) (cond (sound_headers c block) 0 8) number
read_by Lenient c block number = number

-- What only private functions and loops need: what is known between the channels of a block that is being repacked. Assumes nothing.
use Rattle.std.specs.Prelude.{◌≡◌, List, ℕ, ◌+◌, ◌*◌, ◌/◌, ◌<◌, length, get_or}
use Rattle.ms_block.specs.Sizes.{samples_of, Taken}
use Rattle.ms_block.specs.Weave.{place}
use Rattle.ms_repacked.specs.Repack.{repacked}

-- A block that is taken, and a second buffer of equal length.
abbrev pub Alike : ℕ → List ℕ → List ℕ → Type 0
Alike c block out = Taken c (length block) (samples_of c (length block)) × (length out ≡ length block)

-- All bytes of the channels before channel e are written, and the first d of channel e.
abbrev pub Upto : ℕ → List ℕ → ℕ → ℕ → List ℕ → Type 0
Upto c block e d out =
    (h k : ℕ) → h < c → k < length block / c → (length block / c) * h + k < (length block / c) * e + d
    → get_or out (place 4 c h k) 0 ≡ get_or (repacked c block) (place 4 c h k) 0

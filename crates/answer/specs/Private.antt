-- What only private functions need. Assumes nothing.
use Rattle.std.specs.Prelude.{List, ℕ, ◌≤◌, length}
use Rattle.ms_block.specs.Sizes.{samples_of, Taken}

-- A block that is taken, and no longer than a record's.
abbrev pub Small : ℕ → List ℕ → Type 0
Small c block = Taken c (length block) (samples_of c (length block)) × (length block ≤ 4096)

-- Where the header of a channel stands, and where a byte of it. Assumes nothing.
use Rattle.std.proofs.Common.{List, ℕ, ◌+◌, ◌*◌, ◌/◌, ◌%◌, ◌≤◌, ◌<◌, length}
use Rattle.ms_block.specs.Sizes.{samples_of, Taken}
use Rattle.ms_block.proofs.Sizes.{shape}
use Rattle.ms_repacked.proofs.Midway.{fourth, inside-block}

pub of_header : (c ch : ℕ) (block : List ℕ) → Taken c (length block) (samples_of c (length block)) → ch < c
    → (4 * ch + 4 ≤ length block) × (length block ≤ 65535)
of_header c ch block taken h = let is = shape _ _ _ taken in (fourth block is ch h, is.short)

pub of_byte : (c ch d : ℕ) (block : List ℕ) → Taken c (length block) (samples_of c (length block)) → ch < c → d < length block / c
    → (4 * (c * (d / 4) + ch) + d % 4 < length block) × (length block ≤ 65535)
of_byte c ch d block taken h within = let is = shape _ _ _ taken in (inside-block block is ch d h within, is.short)

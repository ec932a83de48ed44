-- Repacking an MS block: what the call answers, and what its buffer holds at the end. Assumes nothing.
use Rattle.std.specs.Prelude.{Bool, false, not, ◌||◌, List, [], ◌∷◌, ℕ, eqb, length}
use Rattle.num.specs.Outcome.{Outcome, outcome_by}
use Rattle.ima_nibble.specs.Step.{State}
use Rattle.ms_block.specs.declared.Reading.{Reading}
use Rattle.ms_block.specs.Header.{head_of}
use Rattle.ms_block.specs.Readings.{read_by}
use Rattle.ms_block.specs.Sizes.{repack_refusal}
use Rattle.ms_block.specs.Block.{bytes_in, decoded_ms_block, encoded_ms_block, each}

-- Its header's indices, each above 88 taken as 88, which is what a decoder starts from.
abbrev pub starts_of : ℕ → List ℕ → List State
starts_of c block = each c [] (λ e. head_of (bytes_in c block e))

-- Decode it, encode the samples from its header's indices.
unfoldable pub repacked : ℕ → List ℕ → List ℕ
repacked c block = encoded_ms_block c (starts_of c block) (decoded_ms_block c block)

-- Whether any byte changed, of two lists of equal length.
unfoldable pub any_change : List ℕ → List ℕ → Bool
any_change [] ys = false
any_change (x ∷ xs) [] = false
any_change (x ∷ xs) (y ∷ ys) = not (eqb x y) || any_change xs ys

-- What comes back is whether any byte changed; none does where the call refuses.
unfoldable pub repack_ms : Reading → ℕ → List ℕ → List ℕ → Outcome Bool (List ℕ)
repack_ms reading c block out =
    let new = repacked c block in
    outcome_by (read_by reading c block (repack_refusal c (length block) (length out))) (any_change block new, new) (false, out)

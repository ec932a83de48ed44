-- What only private functions and loops need: what they hand on to each other in the midst of a block. Assumes nothing.
use Rattle.std.specs.Prelude.{◌≡◌, List, ℕ, ◌≤◌, ◌<◌, ℤ, pos, get_or}
use Rattle.ima_nibble.specs.Step.{State}
use Rattle.ms_block.specs.Header.{head_of}
use Rattle.ms_block.specs.Block.{bytes_in, state_in}

-- the headers of the first k channels are read: each has its state and its first sample, and the others have no count
pub record Headed (c : ℕ) (bytes : List ℕ) (k : ℕ) (out : List ℤ) (states : List State) : Type 0 where
  pub there : (e : ℕ) → e < k → (state_in states e ≡ head_of (bytes_in c bytes e)) × (get_or out e (pos 0) ≡ (head_of (bytes_in c bytes e)).predictor)
  pub others : (e : ℕ) → k ≤ e → (state_in states e).clipped ≡ 0

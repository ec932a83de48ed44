-- How far an encoder stays from its samples: the largest absolute miss, of a series of nibbles, of ima4 blocks and of an MS block.
-- No byte and no state depends on it. Assumes nothing.
use Rattle.std.specs.Prelude.{Bool, cond, List, [], ◌∷◌, map, ℕ, eqb, ℤ, nat_abs, ◌-ℤ◌, length, drop}
use Rattle.num.specs.Lists.{from}
use Rattle.loss.specs.Loss.{largest}
use Rattle.ima_nibble.specs.Step.{State, Limits, sixteen, stepped, emitted}
use Rattle.ima_nibble.specs.Table.{ima_steps}
use Rattle.ima4_block.specs.Call.{is_block, is_run}
use Rattle.ms_block.specs.Block.{samples_in, state_in, begun}
use Rattle.ms_block.specs.Sizes.{ms_refusal}

-- ---- Nibbles

-- The remaining error for a sample: the sample minus the new predictor, signed.
unfoldable pub missed : Limits → List ℕ → State → ℤ → ℤ
missed limits steps st x = x -ℤ (stepped limits steps st (emitted limits steps st x)).predictor

-- The same for samples one after another, each from the state that the one before it left.
unfoldable pub misses : Limits → List ℕ → State → List ℤ → List ℤ
misses limits steps st [] = []
misses limits steps st (x ∷ xs) = missed limits steps st x ∷ misses limits steps (stepped limits steps st (emitted limits steps st x)) xs

-- The largest absolute miss over their nibbles, 0 where there are none.
unfoldable pub largest_miss : Limits → List ℕ → State → List ℤ → ℕ
largest_miss limits steps st xs = largest (map nat_abs (misses limits steps st xs))

-- ---- ima4, of what `encode_ima4` and `encode_ima4_run` encode

-- Over their nibbles: no header stands between these for the encoder, so those of all blocks are one series. 0 where there are none or the call is refused.
abbrev pub ima4_miss : Bool → State → List ℤ → ℕ
ima4_miss taken st samples = cond taken (largest_miss sixteen ima_steps st samples) 0

unfoldable pub encode_ima4_miss : State → List ℤ → List ℕ → ℕ
encode_ima4_miss st samples out = ima4_miss (is_block (length out) (length samples)) st samples

unfoldable pub encode_ima4_run_miss : State → List ℤ → List ℕ → ℕ
encode_ima4_run_miss st samples out = ima4_miss (is_run (length out) (length samples)) st samples

-- ---- MS, of what `encode_ms` encodes

-- Of channel e, from the states that the block starts from. The header's sample is not among its nibbles.
abbrev pub miss_in : ℕ → List State → List ℤ → ℕ → ℕ
miss_in c states samples e = largest_miss sixteen ima_steps (state_in states e) (drop 1 (samples_in c samples e))

-- Of all channels.
unfoldable pub miss_from : ℕ → List State → List ℤ → ℕ
miss_from c states samples = largest (from c 0 (miss_in c states samples))

abbrev pub encoded_miss : ℕ → List State → List ℤ → ℕ
encoded_miss c states samples = miss_from c (begun c states samples) samples

-- 0 where there are no nibbles or the call is refused.
unfoldable pub encode_ms_miss : ℕ → List ℤ → List State → List ℕ → ℕ
encode_ms_miss c samples states out = cond (eqb (ms_refusal c (length out) (length samples)) 0) (encoded_miss c states samples) 0

-- The channels' states as three lists of numbers. Assumes nothing.
use Rattle.std.specs.Prelude.{List, ℕ, ℤ, pos, get_or}
use Rattle.num.specs.Lists.{from}
use Rattle.ima_nibble.specs.Step.{State, state}
use Rattle.ms_block.specs.Sizes.{most}
use Rattle.ms_block.specs.Block.{state_in}

-- A predictor, a step index and a count for each channel, and the other way round.
unfoldable pub states_of : List ℤ → List ℕ → List ℕ → List State
states_of predictors indices counts = from most 0 (λ e. state (get_or predictors e (pos 0)) (get_or indices e 0) (get_or counts e 0))

unfoldable pub predictors_of : List State → List ℤ
predictors_of states = from most 0 (λ e. (state_in states e).predictor)

unfoldable pub indices_of : List State → List ℕ
indices_of states = from most 0 (λ e. (state_in states e).index)

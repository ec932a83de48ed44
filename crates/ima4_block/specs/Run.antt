-- A run of blocks, decoded or encoded. Assumes nothing.
use Rattle.std.specs.Prelude.{List, [], ℕ, zero, suc, take, drop}
use Rattle.ima_nibble.specs.Step.{State}
use Rattle.ima_nibble.specs.Series.{Done, done, after}

-- A run is the single-block call on each block in order, the first from the given state, each later one from the state the one before handed back;
-- the last state is the run's end state. No blocks: done, state as given. Each block is `size` of the Xs that are read.
unfoldable pub run : {X Y : Type 0} → (State → List X → Done Y) → ℕ → ℕ → State → List X → Done Y
run block size zero st xs = done [] st
run block size (suc n) st xs =
    let first = block st (take size xs) in
    after first.written (run block size n first.end (drop size xs))

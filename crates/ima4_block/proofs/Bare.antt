-- The count moves nothing else: a block and a run from two states that are alike but for it give the same samples, and end alike but for it. Assumes nothing.
use mathlib.Core.Path.{◌≡◌, refl, ap, ap₂}
use mathlib.Core.List.{List}
use Prim.Native.Nat.{ℕ, zero, suc, ◌+◌, ◌*◌}
use lib.IntN.{ℤ}
use lib.ListN.{get_or, take, drop}
use borrow.Table.Steps.{cases}
use Rattle.ima_nibble.specs.Step.{State, state, uncounted, sixteen}
use Rattle.ima_nibble.specs.Table.{ima_steps}
use Rattle.ima_nibble.specs.Series.{Done, after, bare, nibbles_of}
use Rattle.ima_nibble.proofs.Series.{recounted, decoded-bare}
use Rattle.ima4_block.specs.Header.{header_state, keeps, start_state}
use Rattle.ima4_block.specs.Block.{decoded_ima4_block}
use Rattle.ima4_block.specs.Run.{run}
use Rattle.ima4_block.specs.Call.{decoded_run}

block-bare : (p : ℤ) (i n k : ℕ) (bytes : List ℕ) → bare (decoded_ima4_block (state p i n) bytes) ≡ bare (decoded_ima4_block (state p i k) bytes)
unfolding decoded_ima4_block start_state
block-bare p i n k bytes =
    let vs = nibbles_of (drop 2 bytes) in
    let head = header_state (state p i k) (256 * get_or bytes 0 0 + get_or bytes 1 0) in
    cases (keeps (state p i k) head)
    (λ e. rw e (decoded-bare sixteen ima_steps p i n k vs))
    (λ e. rw e (decoded-bare sixteen ima_steps head.predictor head.index n k vs))

-- over any block that has this law
module _ {X Y : Type 0} (block : State → List X → Done Y) (size : ℕ)
    (same : (p : ℤ) (i n k : ℕ) (xs : List X) → bare (block (state p i n) xs) ≡ bare (block (state p i k) xs)) where
  any-count : (m : ℕ) (p : ℤ) (i n k : ℕ) (xs : List X) → bare (run block size m (state p i n) xs) ≡ bare (run block size m (state p i k) xs)
  unfolding run
  any-count zero p i n k xs = refl
  any-count (suc m) p i n k xs =
      let e = same p i n k (take size xs) in
      let rest : State → Done Y = λ st. bare (run block size m st (drop size xs)) in
      ap₂ after (ap (λ r. r.written) e) (recounted rest (λ q j a b. any-count m q j a b (drop size xs)) _ _ (ap (λ r. r.end) e))

pub run-bare : (n : ℕ) (st other : State) (bytes : List ℕ) → uncounted st ≡ uncounted other → bare (decoded_run n st bytes) ≡ bare (decoded_run n other bytes)
run-bare n st other bytes = recounted (λ s. bare (decoded_run n s bytes)) (λ p i a b. any-count decoded_ima4_block 34 block-bare n p i a b bytes) st other

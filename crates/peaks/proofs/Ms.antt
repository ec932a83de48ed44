-- The largest miss of a block: no channel misses by more, it is no more than all channels need, and without nibbles it is 0. Assumes nothing.
use mathlib.Core.Path.{◌≡◌, ap, ◌∙◌}
use mathlib.Core.List.{List}
use Prim.Native.Nat.{ℕ, ◌*◌, ◌/◌, ◌≤◌, ◌<◌}
use native.Mathlib.Omega.{arith}
use lib.IntN.{ℤ}
use lib.ListN.{length, drop, length-drop, drop_of_length-le}
use Rattle.peaks.proofs.Largest.{rule-under, rule-at-most}
use Rattle.ima_nibble.specs.Step.{State, sixteen}
use Rattle.ima_nibble.specs.Table.{ima_steps}
use Rattle.peaks.specs.Miss.{largest_miss}
use Rattle.peaks.proofs.Nibbles.{no-miss}
use Rattle.ms_block.specs.Block.{samples_in, state_in, begun}
use Rattle.peaks.specs.Miss.{miss_in, miss_from, encode_ms_miss}
use Rattle.ms_block.specs.Sizes.{Taken}
use Rattle.ms_block.proofs.Round.{samples-many}
use Rattle.ms_block.proofs.Sizes.{shape}
use Rattle.ms_block.proofs.Weave.{quotient}

module _ (c : ℕ) (states : List State) (samples : List ℤ) where
  pub channel-under : (e : ℕ) → e < c → miss_in c states samples e ≤ miss_from c states samples
  unfolding miss_from
  channel-under = rule-under (miss_in c states samples) c

  pub channels-at-most : (k : ℕ) → ((e : ℕ) → e < c → miss_in c states samples e ≤ k) → miss_from c states samples ≤ k
  unfolding miss_from
  channels-at-most = rule-at-most (miss_in c states samples) c

-- A block of headers alone has no nibbles, and a miss of 0: the sample in a header is not missed.
pub no-nibbles : (c : ℕ) (samples : List ℤ) (states : List State) (out : List ℕ) → length out ≡ 4 * c → Taken c (length out) (length samples)
    → encode_ms_miss c samples states out ≡ 0
unfolding encode_ms_miss
no-nibbles c samples states out long taken =
    let is = shape c (length out) (length samples) taken in
    let starts = begun c states samples in
    let four : length out / c ≡ 4 = ap (λ (n : ℕ). n / c) (long ∙ omega arith) ∙ quotient c 4 0 (omega (arith, is.some)) in
    let none = channels-at-most c starts samples 0
    (λ e l.
    let mine = samples_in c samples e in
    let short : length (drop 1 mine) ≤ 0 = omega (arith, length-drop 1 mine, samples-many samples is e l, four) in
    omega (arith, ap (largest_miss sixteen ima_steps (state_in starts e)) (drop_of_length-le (drop 1 mine) {i = 0} short), no-miss sixteen ima_steps (state_in starts e))) in
    rw taken (omega (arith, none))

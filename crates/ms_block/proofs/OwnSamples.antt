-- The samples of one channel: the state before the two of each byte, the byte that they are written as, and the state behind it. Assumes nothing.
use mathlib.Core.Path.{◌≡◌, ap, ap₂, ◌∙◌}
use mathlib.Core.List.{List}
use Prim.Native.Nat.{ℕ, suc, ◌+◌, ◌-◌, ◌*◌, ◌≤◌, ◌<◌}
use native.Mathlib.Omega.{arith}
use lib.IntN.{ℤ, pos}
use lib.ListN.{length, get_or, drop, length-drop}
use lib.Seq.{get_or-drop}
use Rattle.ima_nibble.specs.Step.{State, sixteen, emitted}
use Rattle.ima_nibble.specs.Table.{ima_steps}
use Rattle.ima_nibble.proofs.Bytes.{writes, then, written_byte, written_next}
use Rattle.ms_block.specs.Block.{encoded_channel}

abbrev pub gives : State → ℤ → ℕ
gives = emitted sixteen ima_steps

abbrev pub moved : State → ℤ → State
moved = then sixteen ima_steps

-- the state before byte d, the headers' four included
abbrev pub before : State → List ℤ → ℕ → State
before st samples d = writes sixteen ima_steps st (drop 1 samples) (d - 4)

module _ (st : State) (samples : List ℤ) (d : ℕ) (four : 4 ≤ d) (h : 2 * d - 6 < length samples) where
  abbrev low : ℤ
  low = get_or samples (2 * d - 7) (pos 0)

  abbrev high : ℤ
  high = get_or samples (2 * d - 6) (pos 0)

  low-is : get_or (drop 1 samples) (2 * (d - 4)) (pos 0) ≡ low
  low-is = get_or-drop 1 samples (2 * (d - 4)) (pos 0) ∙ ap (λ (i : ℕ). get_or samples i (pos 0)) (omega (arith, four))

  high_is : get_or (drop 1 samples) (2 * (d - 4) + 1) (pos 0) ≡ high
  high_is = get_or-drop 1 samples (2 * (d - 4) + 1) (pos 0) ∙ ap (λ (i : ℕ). get_or samples i (pos 0)) (omega (arith, four))

  inside : 2 * (d - 4) + 1 < length (drop 1 samples)
  inside = omega (arith, length-drop 1 samples, four, h)

  pub byte-is : get_or (encoded_channel st samples).written d 0 ≡ 16 * gives (moved (before st samples d) low) high + gives (before st samples d) low
  unfolding encoded_channel
  byte-is =
      let j : d ≡ suc (suc (suc (suc (d - 4)))) = omega (arith, four) in
      ap (λ (i : ℕ). get_or (encoded_channel st samples).written i 0) j
      ∙ written_byte sixteen ima_steps (d - 4) st (drop 1 samples) inside
      ∙ ap₂ (λ (x y : ℤ). 16 * gives (moved (before st samples d) x) y + gives (before st samples d) x) low-is high_is

  pub next-is : before st samples (suc d) ≡ moved (moved (before st samples d) low) high
  next-is =
      let j : suc d - 4 ≡ suc (d - 4) = omega (arith, four) in
      ap (writes sixteen ima_steps st (drop 1 samples)) j
      ∙ written_next sixteen ima_steps (d - 4) st (drop 1 samples) inside
      ∙ ap₂ (λ (x y : ℤ). moved (moved (before st samples d) x) y) low-is high_is

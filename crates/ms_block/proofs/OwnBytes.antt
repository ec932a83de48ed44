-- The bytes of one channel: the state before each, the two samples that it gives, and the state behind it; and the header that they begin with. Assumes nothing.
use mathlib.Core.Path.{◌≡◌, refl, ap, ◌∙◌}
use mathlib.Core.List.{List}
use Prim.Native.Nat.{ℕ, suc, ◌+◌, ◌-◌, ◌*◌, ◌/◌, ◌%◌, ◌≤◌, ◌<◌}
use native.Mathlib.Omega.{arith}
use lib.IntN.{ℤ, pos}
use lib.ListN.{length, get_or, drop, length-drop}
use lib.Seq.{get_or-drop}
use Rattle.ima_nibble.specs.Step.{State, sixteen, stepped}
use Rattle.ima_nibble.specs.Table.{ima_steps}
use Rattle.ima_nibble.proofs.Bytes.{reads, read_low, read-high, read_next}
use Rattle.ms_block.specs.Header.{headed, head_of}
use Rattle.ms_block.specs.Readings.{header_index}
use Rattle.ms_block.proofs.Sizes.{Shape, four_bytes}
use Rattle.ms_block.proofs.Weave.{strand-at}
use Rattle.ms_block.specs.Block.{decoded_channel, bytes_in}
use Rattle.ms_block.proofs.Midst.{byte, in_group}

abbrev pub moved : State → ℕ → State
moved = stepped sixteen ima_steps

-- the state before byte d, the headers' four included
abbrev pub before : List ℕ → ℕ → State
before own d = reads sixteen ima_steps (head_of own) (drop 4 own) (d - 4)

abbrev pub sample : List ℕ → ℕ → ℤ
sample own k = get_or (decoded_channel own) k (pos 0)

module _ (own : List ℕ) (d : ℕ) (four : 4 ≤ d) (h : d < length own) where
  abbrev pub low : State
  low = moved (before own d) (get_or own d 0 % 16)

  abbrev pub high : State
  high = moved low (get_or own d 0 / 16)

  byte-is : get_or (drop 4 own) (d - 4) 0 ≡ get_or own d 0
  byte-is = get_or-drop 4 own (d - 4) 0 ∙ ap (λ (i : ℕ). get_or own i 0) (omega (arith, four))

  inside : d - 4 < length (drop 4 own)
  inside = omega (arith, length-drop 4 own, four, h)

  pub low-is : sample own (2 * d - 7) ≡ low.predictor
  unfolding decoded_channel
  low-is =
      let k : 2 * d - 7 ≡ suc (2 * (d - 4)) = omega (arith, four) in
      rw k (read_low sixteen ima_steps (d - 4) (head_of own) (drop 4 own) inside ∙ ap (λ (b : ℕ). (moved (before own d) (b % 16)).predictor) byte-is)

  pub high_is : sample own (2 * d - 6) ≡ high.predictor
  unfolding decoded_channel
  high_is =
      let k : 2 * d - 6 ≡ suc (2 * (d - 4) + 1) = omega (arith, four) in
      rw k (read-high sixteen ima_steps (d - 4) (head_of own) (drop 4 own) inside ∙ ap (λ (b : ℕ). (moved (moved (before own d) (b % 16)) (b / 16)).predictor) byte-is)

  pub next-is : before own (suc d) ≡ high
  next-is =
      let k : suc d - 4 ≡ suc (d - 4) = omega (arith, four) in
      ap (reads sixteen ima_steps (head_of own) (drop 4 own)) k
      ∙ read_next sixteen ima_steps (d - 4) (head_of own) (drop 4 own) inside
      ∙ ap (λ (b : ℕ). moved (moved (before own d) (b % 16)) (b / 16)) byte-is

-- the first bytes of a channel are its header, which stands behind the headers before it
module _ {c m : ℕ} (bytes : List ℕ) (is : Shape c (length bytes) m) (ch : ℕ) (l : ch < c) where
  header-byte : (i : ℕ) → i < 4 → get_or (bytes_in c bytes ch) i 0 ≡ get_or bytes (4 * ch + i) 0
  header-byte i h =
      let hc : 0 < c = omega (arith, l) in
      let p : byte c ch i ≡ 4 * ch + i = ap (byte c ch) (omega arith) ∙ in_group c hc 0 ch i h ∙ omega arith in
      strand-at 4 c (omega arith) hc 0 bytes ch i (omega (arith, h, four_bytes is)) ∙ ap (λ (q : ℕ). get_or bytes q 0) p

  pub head-is : head_of (bytes_in c bytes ch) ≡ headed (get_or bytes (4 * ch) 0) (get_or bytes (4 * ch + 1) 0) (get_or bytes (4 * ch + 2) 0)
  unfolding head_of
  head-is =
      let z : 4 * ch + 0 ≡ 4 * ch = omega arith in
      rw (header-byte 0 (omega arith), header-byte 1 (omega arith), header-byte 2 (omega arith), z) refl

  pub index_is : get_or (bytes_in c bytes ch) 2 0 ≡ header_index bytes ch
  index_is = header-byte 2 (omega arith)

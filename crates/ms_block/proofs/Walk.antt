-- Where the three loops stand, over the groups of a block of n bytes, the channels of a group and the bytes of a channel:
-- `at` is the place of the next byte, and how far each loop is says whose byte that is. Assumes nothing.
use mathlib.Core.Path.{◌≡◌, ◌∙◌}
use Prim.Native.Nat.{ℕ, suc, ◌+◌, ◌-◌, ◌*◌, ◌/◌, ◌≤◌, ◌<◌, min}
use native.Mathlib.Nat.{mul-le-mul_left}
use native.Mathlib.Omega.{arith}
use Rattle.ms_block.proofs.Sizes.{Shape, samples-all}
use Rattle.ms_block.proofs.Weave.{in-strand}
use Rattle.ms_block.proofs.Midst.{byte, in_group}

-- a block of n bytes, of a length that is taken
abbrev pub Block : ℕ → ℕ → Type 0
Block c n = Shape c n (2 * n - 7 * c)

-- before group g
pub record Groups (c n g at : ℕ) : Type 0 where
  pub block : Block c n
  pub place : at ≡ min n (4 * (c * (g + 1)))
  pub small : g < at

-- before channel ch of group g
pub record Channels (c n g ch at : ℕ) : Type 0 where
  pub block : Block c n
  pub channel : ch ≤ c
  pub place : at ≡ min n (4 * (c * (g + 1) + ch))
  pub small : g + ch < at

-- between the bytes of that channel, from place `start` up to `end`
pub record Bytes (c n g ch start end at : ℕ) : Type 0 where
  pub block : Block c n
  pub channel : ch < c
  pub place : start ≡ 4 * (c * (g + 1) + ch)
  pub small : g + ch < start
  pub stop : end ≡ min (start + 4) n
  pub more : start < n
  pub begun : start ≤ at
  pub ended : at ≤ end

-- ---- from each to the next, where that does not follow by itself

module _ {c n : ℕ} where
  pub groups-first : Block c n → Groups c n 0 (4 * c)
  groups-first is = record { block = is; place = omega (arith, is.enough); small = omega (arith, is.some) }

  pub bytes-first : (g ch at end : ℕ) → Channels c n g ch at → ch < c → (at ≡ n → ⊥) → end ≡ min (at + 4) n → Bytes c n g ch at end at
  bytes-first g ch at end h l left stop =
      record {
        block = h.block;
        channel = l;
        place = omega (arith, h.place, left);
        small = h.small;
        stop = stop;
        more = omega (arith, h.place, left);
        begun = omega arith;
        ended = omega (arith, h.place, left, stop);
      }

  pub bytes_next : (g ch start end at : ℕ) → Bytes c n g ch start end at → at < end → Bytes c n g ch start end (at + 1)
  bytes_next g ch start end at h l =
      record {
        block = h.block;
        channel = h.channel;
        place = h.place;
        small = h.small;
        stop = h.stop;
        more = h.more;
        begun = omega (arith, h.begun);
        ended = omega (arith, l);
      }

  pub channels-next : (g ch start end at : ℕ) → Bytes c n g ch start end at → end ≤ at → Channels c n g (ch + 1) at
  channels-next g ch start end at h l =
      record {
        block = h.block;
        channel = omega (arith, h.channel);
        place = omega (arith, h.ended, h.stop, h.place, l);
        small = omega (arith, h.small, h.stop, h.more, l);
      }

-- ---- a byte that is read or written

module _ {c n g ch start end at : ℕ} (h : Bytes c n g ch start end at) (l : at < end) where
  -- which of its channel's own bytes it is, the header's four included
  abbrev pub own : ℕ
  own = 4 * (g + 1) + (at - start)

  pub four : 4 ≤ own
  four = omega arith

  hc : 0 < c
  hc = omega (arith, h.channel)

  pub own-place : byte c ch own ≡ at
  own-place =
      in_group c hc (g + 1) ch (at - start) (omega (arith, h.begun, h.stop, l)) ∙ omega (arith, h.place, h.begun)

  pub own-inside : own < n / c
  own-inside = in-strand 4 c (omega arith) hc n ch own h.block.even h.channel (omega (arith, own-place, h.stop, l))

  pub frame_is : 2 * own - 7 ≡ 8 * g + 1 + 2 * (at - start)
  frame_is = omega arith

  pub room : c * (2 * own - 7) + ch + c < 2 * n - 7 * c
  room =
      let two : suc (suc (2 * own - 7)) ≤ 1 + 2 * (n / c - 4) = omega (arith, own-inside, four) in
      omega (arith, h.channel, samples-all h.block, mul-le-mul_left {m = suc (suc (2 * own - 7))} {n = 1 + 2 * (n / c - 4)} c two)

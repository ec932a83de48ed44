-- What each channel of a block depends on, and what decoding makes of an encoded block, in either reading. Over any number of channels that is taken.
-- Assumes nothing.
use mathlib.Core.Path.{◌≡◌, refl, sym, ap, ap₂, ◌∙◌}
use mathlib.Core.Bool.{true}
use mathlib.Core.List.{List, [], ◌∷◌}
use Prim.Native.Nat.{ℕ, ◌<◌, ◌≤◌}
use native.Mathlib.Omega.{arith}
use lib.Dec.{eqb}
use lib.IntN.{ℤ, pos}
use lib.ListN.{length, get_or}
use borrow.Author.Tests.{eqb-true}
use borrow.Table.Steps.{cases}
use Rattle.num.specs.Lists.{from}
use Rattle.num.specs.Outcome.{outcome}
use Rattle.ima_nibble.specs.Step.{State, state, reloaded, sixteen}
use Rattle.ima_nibble.specs.Series.{Within, encoded}
use Rattle.ms_block.specs.declared.Reading.{Reading}
use Rattle.ms_block.specs.declared.Reading.TheVariants.{Strict, Lenient}
use Rattle.ms_block.specs.Readings.{header_index, sound_headers, read_by}
use Rattle.ms_block.specs.Weave.{strand, woven, AlikeBut}
use Rattle.ms_block.proofs.OwnBytes.{index_is}
use Rattle.ms_block.proofs.Readings.{sound-if, always-8, read_alike}
use Rattle.ms_block.proofs.Sizes.{Shape, shape}
use Rattle.ms_block.proofs.Weave.{woven-same, others-alike}
use Rattle.ms_block.specs.Block.{decoded_channel, encoded_channel, bytes_in, samples_in, decoded_ms_block, clipped_counts, no_counts, state_in, begun_in, begun, states_from, encoded_ms_block, heard}
use Rattle.ms_block.specs.Call.{decode_ms, encode_ms}
use Rattle.ms_block.specs.Sizes.{ms_refusal, Taken}
use Rattle.ms_block.proofs.Round.{channel-bare, channel-decoded, block-length, channel-begun, channel-heard}

-- ---- each channel alone

-- A channel's samples depend on that channel's header and bytes alone;
pub own-bytes-alone : (c m : ℕ) (bytes others : List ℕ) → Taken c (length bytes) m → length others ≡ length bytes → (e : ℕ) → e < c
    → bytes_in c bytes e ≡ bytes_in c others e → samples_in c (decoded_ms_block c bytes) e ≡ samples_in c (decoded_ms_block c others) e
own-bytes-alone c m bytes others taken long e h same =
    let is = shape c (length bytes) m taken in
    let is' = shape c (length others) m (rw long taken) in
    channel-decoded bytes is e h ∙ ap decoded_channel same ∙ sym (channel-decoded others is' e h)

-- and its bytes on its own samples and the index that it comes with alone.
pub own-samples-alone : (c n : ℕ) (samples others : List ℤ) (states starts : List State) → Taken c n (length samples) → length others ≡ length samples → (e : ℕ) → e < c
    → samples_in c samples e ≡ samples_in c others e → (state_in states e).index ≡ (state_in starts e).index
    → bytes_in c (encoded_ms_block c states samples) e ≡ bytes_in c (encoded_ms_block c starts others) e
own-samples-alone c n samples others states starts taken long e h same index =
    let is = shape c n (length samples) taken in
    let is' = shape c n (length others) (rw long taken) in
    channel-begun samples is e h states
    ∙ sym (channel-bare (begun_in c states samples e) (samples_in c samples e))
    ∙ ap₂ (λ (xs : List ℤ) (i : ℕ). (encoded_channel (state (get_or xs 0 (pos 0)) i 0) xs).written) same index
    ∙ channel-bare (begun_in c starts others e) (samples_in c others e)
    ∙ sym (channel-begun others is' e h starts)

-- So changing one channel's header and bytes, in lenient reading, never changes another channel's samples. Strict reading would refuse the whole
-- block for an index above 88.
pub isolated : (c e : ℕ) (block other : List ℕ) (out : List ℤ) → AlikeBut 4 c 0 e block other → (h : ℕ) → h < c → (h ≡ e → ⊥)
    → samples_in c (decode_ms Lenient c other out).buffer h ≡ samples_in c (decode_ms Lenient c block out).buffer h
unfolding decode_ms
isolated c e block other out (long, alike) h l apart =
    let number = ms_refusal c (length block) (length out) in
    cases (eqb number 0)
    (λ t.
    let taken : Taken c (length other) (length out) = rw long (eqb-true number 0 t) in
    let same = others-alike 4 c (omega arith) (omega (arith, l)) 0 e block other (long, alike) h l apart in
    rw (long, t) (own-bytes-alone c (length out) other block taken (sym long) h l same))
    (λ t. rw (long, t) refl)

-- ---- either reading

-- What a reading accepts, it decodes as lenient reading does.
pub decodes-alike : (reading : Reading) (c : ℕ) (bytes : List ℕ) (out : List ℤ) → read_by reading c bytes (ms_refusal c (length bytes) (length out)) ≡ 0
    → decode_ms reading c bytes out ≡ decode_ms Lenient c bytes out
unfolding decode_ms
decodes-alike reading c bytes out accepted =
    read_alike c bytes reading (ms_refusal c (length bytes) (length out)) (clipped_counts c bytes, decoded_ms_block c bytes) (no_counts, out) accepted

-- ---- one sample

-- A one-sample mono block returns its index still, 200 too: no nibble has lowered it. The predictor is the sample, and the count stays.
pub one-sample : (x : ℤ) (states : List State) (out : List ℕ) → length out ≡ 4
    → let r = encode_ms 1 (x ∷ []) states out in (r.number ≡ 0) × (state_in r.back 0 ≡ reloaded (state_in states 0) x (state_in states 0).index)
unfolding from strand ms_refusal encoded encoded_channel begun states_from encode_ms
one-sample x states out long = rw long (refl, refl)

-- ---- there and back

-- from any states
module _ (c : ℕ) (samples : List ℤ) (states : List State) (out : List ℕ) (taken : Taken c (length out) (length samples)) where
  is : Shape c (length out) (length samples)
  is = shape c (length out) (length samples) taken

  abbrev block : List ℕ
  block = encoded_ms_block c states samples

  long : length block ≡ length out
  long = block-length samples is (begun c states samples)

  third : (st : State) (xs : List ℤ) → get_or (encoded_channel st xs).written 2 0 ≡ st.index
  unfolding encoded_channel
  third st xs = refl

  -- The encoder writes the raw number,
  pub index-written : (e : ℕ) → e < c → header_index block e ≡ (state_in states e).index
  index-written e h =
      sym (index_is {m = length samples} block (rw long is) e h)
      ∙ ap (λ (bs : List ℕ). get_or bs 2 0) (channel-begun samples is e h states)
      ∙ third (begun_in c states samples e) (samples_in c samples e)

  -- so what it writes from indices of 0 to 88 is sound,
  pub written-sound : ((e : ℕ) → e < c → (state_in states e).index ≤ 88) → sound_headers c block ≡ true
  written-sound held = sound-if c block (λ e h. omega (arith, index-written e h, held e h))

  -- and what it writes from one above 88, strict reading refuses.
  pub raw-refused : (e : ℕ) → e < c → 88 < (state_in states e).index → (back : List ℤ) → length back ≡ length samples
      → decode_ms Strict c (encode_ms c samples states out).buffer back ≡ outcome 8 no_counts back
  unfolding decode_ms encode_ms
  raw-refused e h above back room = rw (taken, long, room, taken, always-8 c block e h (omega (arith, above, index-written e h))) refl

  -- samples of 16 bits
  module _ (within : Within sixteen samples) where
    decoded-is : decoded_ms_block c block ≡ woven 1 c (pos 0) (length samples) (heard c states samples)
    unfolding decoded_ms_block
    decoded-is =
        rw (long, ← is.fits)
        (woven-same 1 c (omega arith) (omega (arith, is.some)) (pos 0) (length samples) _ (heard c states samples) (λ e h. channel-heard samples is e h within states))

    -- What the encoder writes decodes to the first sample and then the encoder's predictor at every sample, for each channel,
    -- in a reading that accepts it.
    pub decodes-back : (reading : Reading) → read_by reading c block 0 ≡ 0 → (back : List ℤ) → length back ≡ length samples
        → decode_ms reading c (encode_ms c samples states out).buffer back ≡ outcome 0 (clipped_counts c block) (woven 1 c (pos 0) (length samples) (heard c states samples))
    unfolding decode_ms encode_ms
    decodes-back reading accepted back room = rw (taken, long, room, taken, accepted) (ap (outcome 0 (clipped_counts c block)) decoded-is)

    -- the same of one channel
    pub channel-decodes-back : (e : ℕ) → e < c → samples_in c (decoded_ms_block c block) e ≡ heard c states samples e
    channel-decodes-back e h = channel-decoded {m = length samples} block (rw long is) e h ∙ channel-heard samples is e h within states

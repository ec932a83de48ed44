-- A block by its channels: each is decoded from its own bytes alone and encoded from its own samples alone, and then decoded again from what was written.
-- Over any number of channels that is taken. Assumes nothing.
use mathlib.Core.Path.{◌≡◌, refl, sym, ap, ◌∙◌}
use mathlib.Core.Bool.{cond}
use mathlib.Core.List.{List, ◌∷◌, ◌++◌}
use Prim.Native.Nat.{ℕ, ◌+◌, ◌-◌, ◌*◌, ◌/◌, ◌≤◌, ◌<◌}
use native.Mathlib.Omega.{arith}
use lib.Dec.{ltb, eqb}
use lib.IntN.{ℤ, pos}
use lib.ListN.{length, get_or, drop, length-drop}
use lib.Seq.{ext_get_or}
use borrow.Author.Tests.{ltb-true, ltb-false, lt-ltb}
use borrow.Table.Steps.{cases}
use Rattle.num.specs.Lists.{from}
use Rattle.halves.proofs.Halves.{halves-back}
use Rattle.num.proofs.Lists.{all-at, all_from, table, length_from}
use Rattle.ima_nibble.specs.Step.{State, zero_state, uncounted, sixteen, In}
use Rattle.ima_nibble.specs.Table.{ima_steps}
use Rattle.ima_nibble.specs.Series.{Done, Within, encoded, predictors, nibbles_of, packed}
use Rattle.ima_nibble.proofs.Series.{packed-length, nibbles-length, decoded-length, encoded-length, decoded-lowered, decoded-bare, encoded-bare, decodes-back, encoded-unpacked}
use Rattle.ms_block.specs.Header.{ms_header, head_of}
use Rattle.ms_block.specs.Sizes.{most, samples_of, bytes_of, ms_refusal}
use Rattle.ms_block.specs.Weave.{place, channel_at, item_at, strand, woven}
use Rattle.ms_block.proofs.Sizes.{Shape, four_bytes, samples-each, even-samples}
use Rattle.ms_block.proofs.Weave.{woven-length, strand-length, unwoven}
use Rattle.ms_block.specs.Block.{decoded_channel, encoded_channel, bytes_in, samples_in, decoded_ms_block, state_in, each, begun_in, begun, encoded_in, block_from, states_from, encoded_ms_block, heard}
use Rattle.ms_block.specs.Call.{encode_ms}

abbrev enc : State → List ℤ → Done ℕ
enc = encoded sixteen ima_steps

-- ---- one channel

-- a sample, and two more for each byte behind the header
pub decoded-many : (own : List ℕ) → length (decoded_channel own) ≡ 1 + 2 * (length own - 4)
unfolding decoded_channel
decoded-many own =
    omega (arith, decoded-length sixteen ima_steps (head_of own) (nibbles_of (drop 4 own)), nibbles-length (drop 4 own), length-drop 4 own)

module _ (k : ℕ) (st : State) (xs : List ℤ) (many : length xs ≡ 1 + 2 * k) where
  pairs : length (drop 1 xs) ≡ 2 * k
  pairs = omega (arith, length-drop 1 xs, many)

  -- the header, and a byte for each two samples behind the first
  encoded-many : length (encoded_channel st xs).written ≡ 4 + k
  unfolding encoded_channel
  encoded-many = omega (arith, packed-length k (enc st (drop 1 xs)).written (encoded-length sixteen ima_steps st (drop 1 xs) ∙ pairs))

  -- The header gives its predictor back, and the nibbles behind it give the encoder's.
  -- Its index may be above 88: the decoder lowers it, as the encoder did.
  pub read_back : In sixteen st.predictor
      → decoded_channel (encoded_channel st xs).written ≡ st.predictor ∷ predictors sixteen ima_steps st (drop 1 xs)
  unfolding decoded_channel encoded_channel head_of
  read_back within =
      let vs = (enc st (drop 1 xs)).written in
      rw (halves-back st.predictor within.above within.below, encoded-unpacked sixteen ima_steps k st (drop 1 xs) pairs)
      (ap (λ (ys : List ℤ). st.predictor ∷ ys)
      (decoded-lowered sixteen ima_steps (uncounted st) vs
      ∙ ap (λ r. r.written) (decoded-bare sixteen ima_steps st.predictor st.index 0 st.clipped vs)
      ∙ ap (λ r. r.written) (decodes-back sixteen ima_steps st (drop 1 xs))))

-- A block has nothing of a count.
pub channel-bare : (st : State) (xs : List ℤ) → (encoded_channel (uncounted st) xs).written ≡ (encoded_channel st xs).written
unfolding encoded_channel
channel-bare st xs =
    ap (λ r. ms_header st ++ packed r.written) (encoded-bare sixteen ima_steps st.predictor st.index 0 st.clipped (drop 1 xs))

-- ---- all channels, decoded

-- Channel e of the samples is channel e of the bytes, decoded.
pub channel-decoded : {c m : ℕ} (bytes : List ℕ) → Shape c (length bytes) m → (e : ℕ) → e < c
    → samples_in c (decoded_ms_block c bytes) e ≡ decoded_channel (bytes_in c bytes e)
unfolding decoded_ms_block
channel-decoded {c} {m} bytes is e h =
    let hc : 0 < c = omega (arith, h) in
    let own = strand-length 4 c (omega arith) hc 0 bytes e in
    rw (← is.fits)
    (unwoven 1 c (omega arith) hc (pos 0) m (λ e. decoded_channel (bytes_in c bytes e)) e (even-samples is) h
    (decoded-many (bytes_in c bytes e) ∙ ap (λ (k : ℕ). 1 + 2 * (k - 4)) own ∙ sym (samples-each is)))

-- ---- all channels, encoded

-- the states of the channels that are there, and the others
pub each-is : (c : ℕ) (given : List State) (f : ℕ → State) (states : List State) → length states ≡ most
    → ((e : ℕ) → e < c → state_in states e ≡ f e) → ((e : ℕ) → c ≤ e → state_in states e ≡ state_in given e) → states ≡ each c given f
each-is c given f states some there others =
    let g : ℕ → State = λ e. cond (ltb e c) (f e) (state_in given e) in
    ext_get_or zero_state states (from most 0 g) (some ∙ sym (length_from g most 0))
    (λ e h.
    let is : state_in states e ≡ g e =
    cases (ltb e c)
    (λ t. there e (ltb-true e c t) ∙ ap (λ b. cond b (f e) (state_in given e)) (sym t))
    (λ t. others e (ltb-false e c t) ∙ ap (λ b. cond b (f e) (state_in given e)) (sym t)) in
    is ∙ sym (table g (from most 0 g) most refl e zero_state (omega (arith, h, some))))

pub in-each : (c : ℕ) (states : List State) (f : ℕ → State) (e : ℕ) → e < c → c ≤ most → state_in (each c states f) e ≡ f e
in-each c states f e h few =
    let g : ℕ → State = λ e. cond (ltb e c) (f e) (state_in states e) in
    table g (from most 0 g) most refl e zero_state (omega arith) ∙ rw (lt-ltb e c h)

-- as many states come back as went in
pub states-length : (c : ℕ) (samples : List ℤ) (states : List State) (out : List ℕ) → length states ≡ most → length (encode_ms c samples states out).back ≡ most
unfolding encode_ms states_from
states-length c samples states out h =
    cases (eqb (ms_refusal c (length out) (length samples)) 0)
    (λ t. rw t (length_from _ most 0))
    (λ t. rw t h)

zero_in : In sixteen (pos 0)
zero_in = record { above = record { le = tt }; below = record { le = tt } }

-- samples within the limits are so in each channel, and those of all channels are where each channel's are
pub samples-within : (c : ℕ) (samples : List ℤ) (e : ℕ) → Within sixteen samples → Within sixteen (samples_in c samples e)
unfolding strand
samples-within c samples e within = all_from _ (In sixteen) (λ d. all-at (In sixteen) samples (place 1 c e d) (pos 0) zero_in within) (length samples / c) 0

pub decoded-within : (c : ℕ) (bytes : List ℕ) → ((e : ℕ) → Within sixteen (decoded_channel (bytes_in c bytes e))) → Within sixteen (decoded_ms_block c bytes)
unfolding decoded_ms_block woven
decoded-within c bytes within =
    all_from _ (In sixteen) (λ p. all-at (In sixteen) (decoded_channel (bytes_in c bytes (channel_at 1 c p))) (item_at 1 c p) (pos 0) zero_in (within (channel_at 1 c p)))
    (samples_of c (length bytes)) 0

module _ {c n : ℕ} (samples : List ℤ) (is : Shape c n (length samples)) where
  bytes-many : bytes_of c (length samples) ≡ n
  bytes-many = omega (arith, is.fits, is.enough)

  pub block-length : (states : List State) → length (block_from c states samples) ≡ n
  unfolding block_from
  block-length states = woven-length 4 c (omega arith) (omega (arith, is.some)) 0 (bytes_of c (length samples)) _ ∙ bytes-many

  module _ (e : ℕ) (h : e < c) where
    hc : 0 < c
    hc = omega (arith, h)

    pub samples-many : length (samples_in c samples e) ≡ 1 + 2 * (n / c - 4)
    samples-many = strand-length 1 c (omega arith) hc (pos 0) samples e ∙ samples-each is

    -- Channel e of the bytes is channel e of the samples, encoded.
    pub channel-encoded : (states : List State) → bytes_in c (block_from c states samples) e ≡ (encoded_in c states samples e).written
    unfolding block_from
    channel-encoded states =
        rw bytes-many
        (unwoven 4 c (omega arith) hc 0 n (λ e. (encoded_in c states samples e).written) e is.even h
        (encoded-many (n / c - 4) (state_in states e) (samples_in c samples e) samples-many ∙ omega (arith, four_bytes is)))

    -- the same from the states that the encoder begins with
    pub channel-begun : (states : List State) → bytes_in c (encoded_ms_block c states samples) e ≡ (encoded_channel (begun_in c states samples e) (samples_in c samples e)).written
    unfolding begun
    channel-begun states =
        channel-encoded (begun c states samples)
        ∙ ap (λ (st : State). (encoded_channel st (samples_in c samples e)).written) (in-each c states (begun_in c states samples) e h is.few)

    pub first-within : Within sixteen samples → In sixteen (get_or (samples_in c samples e) 0 (pos 0))
    first-within within = all-at (In sixteen) (samples_in c samples e) 0 (pos 0) zero_in (samples-within c samples e within)

    -- there and back
    pub channel-heard : Within sixteen samples → (states : List State) → decoded_channel (bytes_in c (encoded_ms_block c states samples) e) ≡ heard c states samples e
    channel-heard within states =
        ap decoded_channel (channel-begun states)
        ∙ read_back (n / c - 4) (begun_in c states samples e) (samples_in c samples e) samples-many (first-within within)

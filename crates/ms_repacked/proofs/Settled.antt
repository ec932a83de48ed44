-- One channel repacked, from its own bytes alone: what the encoder wrote comes back as it was, by the law of reach at every nibble.
-- Then a block by its channels. Over any number of channels that is taken. Assumes nothing.
use mathlib.Core.Path.{◌≡◌, refl, sym, ap, ap₂, ◌∙◌}
use mathlib.Core.List.{List, [], ◌∷◌, ◌++◌}
use Prim.Native.Nat.{ℕ, ◌+◌, ◌*◌, ◌≤◌, ◌<◌}
use native.Mathlib.Omega.{arith}
use lib.IntN.{ℤ, pos}
use lib.ListN.{length, get_or, drop}
use Rattle.halves.proofs.Halves.{halves-back, bits_fit}
use Rattle.ima_nibble.specs.Step.{State, reloaded, uncounted, sixteen, In, lowered}
use Rattle.ima_nibble.specs.Table.{ima_steps}
use Rattle.ima_nibble.specs.Series.{Within, predictors, nibbles_of, packed}
use Rattle.ima_nibble.proofs.Bounds.{fits_in}
use Rattle.ima_nibble.proofs.Rising.{step-within}
use Rattle.ima_nibble.proofs.Series.{decoded-within as nibbles-within, encodes-again}
use Rattle.ms_block.specs.Header.{ms_header, head_of}
use Rattle.ms_block.specs.Sizes.{samples_of}
use Rattle.ms_block.specs.Weave.{woven}
use Rattle.ms_block.proofs.Sizes.{Shape}
use Rattle.ms_block.proofs.Weave.{woven-length, woven-same, rewoven}
use Rattle.ms_block.specs.Block.{decoded_channel, encoded_channel, bytes_in, decoded_ms_block, begun}
use Rattle.ms_block.proofs.Round.{read_back, channel-bare, channel-decoded, channel-begun, block-length, in-each, decoded-within}
use Rattle.ms_repacked.specs.Repack.{starts_of, repacked}

-- ---- one channel

-- Its bytes decoded, and the samples encoded from its header's index.
abbrev pub again : List ℕ → List ℕ
again own = (encoded_channel (head_of own) (decoded_channel own)).written

-- A header is within the limits whatever its bytes, and so are the samples behind it.
pub head_in : (own : List ℕ) → In sixteen (head_of own).predictor
unfolding head_of
head_in own = fits_in _ (bits_fit (get_or own 1 0 * 256 + get_or own 0 0))

pub head-held : (own : List ℕ) → (head_of own).index ≤ 88
unfolding head_of
head-held own = omega arith

pub samples-in : (own : List ℕ) → Within sixteen (decoded_channel own)
unfolding decoded_channel
samples-in own = (head_in own, nibbles-within sixteen ima_steps (head_of own) (nibbles_of (drop 4 own)) (head_in own))

-- the header that was written is read as it was, with a count that begins
head-back : (st : State) (xs : List ℤ) → In sixteen st.predictor → st.index ≤ 88 → head_of (encoded_channel st xs).written ≡ uncounted st
unfolding head_of encoded_channel
head-back st xs p h =
    let same : lowered sixteen st.index ≡ st.index = omega arith in
    rw (halves-back st.predictor p.above p.below, same) refl

-- the samples of a channel but the first are within the limits too
rest_in : (xs : List ℤ) → Within sixteen xs → Within sixteen (drop 1 xs)
rest_in [] h = tt
rest_in (x ∷ xs) (h, k) = k

-- What the encoder wrote, from an index of 0 to 88, comes back as it was.
pub settled : (k : ℕ) (st : State) (xs : List ℤ) → length xs ≡ 1 + 2 * k → In sixteen st.predictor → st.index ≤ 88 → Within sixteen xs
    → again (encoded_channel st xs).written ≡ (encoded_channel st xs).written
unfolding encoded_channel
settled k st xs many p h within =
    let ys = st.predictor ∷ predictors sixteen ima_steps st (drop 1 xs) in
    ap₂ (λ (s : State) (zs : List ℤ). (encoded_channel s zs).written) (head-back st xs p h) (read_back k st xs many p)
    ∙ channel-bare st ys
    ∙ ap (λ r. ms_header st ++ packed r.written) (encodes-again sixteen ima_steps (λ s. omega (arith, step-within s)) st (drop 1 xs) p (rest_in xs within))

-- ---- all channels

-- two blocks with the same channels
pub same-channels : {c m : ℕ} (xs ys : List ℕ) → Shape c (length xs) m → length ys ≡ length xs → ((e : ℕ) → e < c → bytes_in c xs e ≡ bytes_in c ys e) → xs ≡ ys
same-channels {c} xs ys is long same =
    let hc : 0 < c = omega (arith, is.some) in
    sym (rewoven 4 c (omega arith) hc 0 xs is.even)
    ∙ woven-same 4 c (omega arith) hc 0 (length xs) (bytes_in c xs) (bytes_in c ys) same
    ∙ ap (λ (n : ℕ). woven 4 c 0 n (bytes_in c ys)) (sym long)
    ∙ rewoven 4 c (omega arith) hc 0 ys (rw long is.even)

-- every sample of a block
pub block_in : (c : ℕ) (block : List ℕ) → Within sixteen (decoded_ms_block c block)
block_in c block = decoded-within c block (λ e. samples-in (bytes_in c block e))

module _ {c m : ℕ} (block : List ℕ) (is : Shape c (length block) m) where
  pub samples-shape : Shape c (length block) (length (decoded_ms_block c block))
  unfolding decoded_ms_block
  samples-shape =
      let hc : 0 < c = omega (arith, is.some) in
      let many = woven-length 1 c (omega arith) hc (pos 0) (samples_of c (length block)) (λ e. decoded_channel (bytes_in c block e)) in
      rw (many, ← is.fits) is

  pub repacked-length : length (repacked c block) ≡ length block
  unfolding repacked
  repacked-length = block-length (decoded_ms_block c block) samples-shape (begun c (starts_of c block) (decoded_ms_block c block))

  -- Each channel is repacked from its own bytes.
  pub channel-again : (e : ℕ) → e < c → bytes_in c (repacked c block) e ≡ again (bytes_in c block e)
  unfolding repacked decoded_channel
  channel-again e h =
      channel-begun (decoded_ms_block c block) samples-shape e h (starts_of c block)
      ∙ ap₂ (λ (xs : List ℤ) (st : State). (encoded_channel (reloaded st (get_or xs 0 (pos 0)) st.index) xs).written)
      (channel-decoded block is e h) (in-each c [] (λ e. head_of (bytes_in c block e)) e h is.few)

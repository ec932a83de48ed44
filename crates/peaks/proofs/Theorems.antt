-- An encoder's largest miss is the loss report's peak between the samples and what its bytes decode to. Assumes nothing.
use mathlib.Core.Path.{◌≡◌, refl, sym, ap, ap₂, ◌∙◌}
use mathlib.Core.List.{List, [], ◌∷◌}
use Prim.Native.Nat.{ℕ, zero, suc, ◌*◌, ◌/◌, ◌≤◌, ◌<◌, max}
use native.Mathlib.Omega.{arith}
use lib.Dec.{ltb}
use lib.IntN.{ℤ, pos, nat_abs, +ℤ_invr}
use lib.ListN.{length, get_or, drop, length-drop, get_or-eq_default}
use borrow.Author.Tests.{ltb-true, ltb-false}
use borrow.Table.Steps.{cases}
use Rattle.loss.specs.Loss.{distance, distances, largest, loss_report}
use Rattle.loss.proofs.Places.{taken}
use Rattle.loss.proofs.Theorems.{none-larger, one-as-large}
use Rattle.ima_nibble.specs.Step.{State, Limits, sixteen, Good}
use Rattle.ima_nibble.specs.Table.{ima_steps}
use Rattle.ima_nibble.specs.Series.{Within, predictors}
use Rattle.peaks.specs.Miss.{missed, largest_miss}
use Rattle.ima_nibble.proofs.Bytes.{then}
use Rattle.peaks.proofs.Nibbles.{no-miss, miss-first, miss-each, miss-at-most}
use Rattle.ima_nibble.proofs.Series.{predictors-length}
use Rattle.ima4_block.specs.Call.{decode_ima4_run, encode_ima4_run}
use Rattle.peaks.specs.Miss.{encode_ima4_run_miss}
use Rattle.peaks.proofs.Ima4.{run-miss}
use Rattle.ima4_block.proofs.Theorems as ima4
use Rattle.ms_block.specs.declared.Reading.{Reading}
use Rattle.ms_block.specs.Block.{samples_in, begun_in, begun, encoded_ms_block, heard}
use Rattle.ms_block.specs.Call.{decode_ms, encode_ms}
use Rattle.peaks.specs.Miss.{miss_in, encoded_miss, encode_ms_miss}
use Rattle.ms_block.specs.Readings.{read_by}
use Rattle.ms_block.specs.Sizes.{Taken}
use Rattle.ms_block.specs.Weave.{place, channel_at, item_at, woven}
use Rattle.peaks.proofs.Ms.{channel-under, channels-at-most}
use Rattle.ms_block.proofs.Round.{in-each}
use Rattle.ms_block.proofs.Sizes.{Shape, shape, even-samples}
use Rattle.ms_block.proofs.Theorems.{decodes-back}
use Rattle.ms_block.proofs.Weave.{placed, channel-lt, in_list, in-strand, woven-length, woven-at, strand-length, strand-at}

-- ---- ima4

-- a series, over any limits and steps
series-peak : (limits : Limits) (steps : List ℕ) (st : State) (xs : List ℤ) → largest (distances xs (predictors limits steps st xs)) ≡ largest_miss limits steps st xs
unfolding largest distances predictors missed
series-peak limits steps st [] = sym (no-miss limits steps st)
series-peak limits steps st (x ∷ xs) =
    let next = then limits steps st x in
    ap (max (distance x next.predictor)) (series-peak limits steps next xs) ∙ sym (miss-first limits steps st x xs)

-- The largest miss of a run is the peak between the samples and what the bytes decode to, from the same state, whose index is at most 88.
pub run-peak : (n : ℕ) → n ≤ 1024 → (st : State) → Good sixteen st → (xs : List ℤ) (bytes : List ℕ) (out : List ℤ)
    → length xs ≡ 64 * n → length bytes ≡ 34 * n → length out ≡ 64 * n
    → (loss_report xs (decode_ima4_run st (encode_ima4_run st xs bytes).buffer out).buffer).back.peak ≡ encode_ima4_run_miss st xs bytes
run-peak n small st good xs bytes out many room size =
    let heard = ap (λ r. r.buffer) (ima4.decodes-back n small st good xs many bytes room out size).2 in
    let ps = predictors sixteen ima_steps st xs in
    ap (λ ys. (loss_report xs ys).back.peak) heard
    ∙ ap (λ r. r.back.peak) (taken xs ps (sym (predictors-length sixteen ima_steps st xs)) (omega (arith, many, small)))
    ∙ series-peak sixteen ima_steps st xs
    ∙ sym (run-miss n small st xs bytes many room)

-- ---- MS blocks

behind-first : (xs : List ℤ) (k : ℕ) → get_or xs (suc k) (pos 0) ≡ get_or (drop 1 xs) k (pos 0)
behind-first [] k = refl
behind-first (x ∷ xs) k = refl

-- over any number of channels that is taken, from any states
module _ (c : ℕ) (samples : List ℤ) (states : List State) (out : List ℕ) (fits : Taken c (length out) (length samples)) where
  is : Shape c (length out) (length samples)
  is = shape c (length out) (length samples) fits

  hc : 0 < c
  hc = omega (arith, is.some)

  abbrev mine : ℕ → List ℤ
  mine = samples_in c samples

  -- what is heard of all channels
  abbrev all : List ℤ
  all = woven 1 c (pos 0) (length samples) (heard c states samples)

  abbrev own_miss : ℕ → ℕ
  own_miss e = largest_miss sixteen ima_steps (begun_in c states samples e) (drop 1 (mine e))

  same : length samples ≡ length all
  same = sym (woven-length 1 c (omega arith) hc (pos 0) (length samples) (heard c states samples))

  few : length samples ≤ 131063
  few = omega (arith, is.fits, is.short, is.some)

  -- how far a frame of a channel is from what is heard of it: frame 0 is heard as it is, and any other at most as far as the channel misses
  frame_apart : (e k : ℕ) → distance (get_or (mine e) k (pos 0)) (get_or (heard c states samples e) k (pos 0)) ≤ own_miss e
  frame_apart e zero = omega (arith, ap nat_abs (+ℤ_invr (get_or (mine e) 0 (pos 0))))
  frame_apart e (suc k) =
      let own = ap (λ (x : ℤ). distance x (get_or (predictors sixteen ima_steps (begun_in c states samples e) (drop 1 (mine e))) k (pos 0))) (behind-first (mine e) k) in
      omega (arith, own, miss-each sixteen ima_steps (begun_in c states samples e) (drop 1 (mine e)) k)

  -- the same at its place
  place-apart : (e k : ℕ) → e < c → place 1 c e k < length samples
      → distance (get_or samples (place 1 c e k) (pos 0)) (get_or all (place 1 c e k) (pos 0)) ≡ distance (get_or (mine e) k (pos 0)) (get_or (heard c states samples e) k (pos 0))
  place-apart e k l h =
      ap₂ distance
      (sym (strand-at 1 c (omega arith) hc (pos 0) samples e k (in-strand 1 c (omega arith) hc (length samples) e k (even-samples is) l h)))
      (woven-at 1 c (omega arith) hc (pos 0) (length samples) (heard c states samples) e k l h)

  abbrev peak : ℕ
  peak = (loss_report samples all).back.peak

  own_is : (e : ℕ) → e < c → miss_in c (begun c states samples) samples e ≡ own_miss e
  unfolding begun
  own_is e l = ap (λ (st : State). largest_miss sixteen ima_steps st (drop 1 (mine e))) (in-each c states (begun_in c states samples) e l is.few)

  no-farther : peak ≤ encoded_miss c states samples
  no-farther =
      let s = one-as-large samples all same few in
      let p = s.place in
      let e = channel_at 1 c p in
      let k = item_at 1 c p in
      let l = channel-lt 1 c (omega arith) hc p in
      cases (ltb p (length samples))
      (λ t.
      let here : distance (get_or samples p (pos 0)) (get_or all p (pos 0)) ≡ distance (get_or (mine e) k (pos 0)) (get_or (heard c states samples e) k (pos 0)) =
      rw (placed 1 c (omega arith) hc p) at (place-apart e k l (rw (placed 1 c (omega arith) hc p) (ltb-true p (length samples) t))) in
      omega (arith, s.apart, here, frame_apart e k, own_is e l, channel-under c (begun c states samples) samples e l))
      (λ t.
      let behind = ltb-false p (length samples) t in
      let both = ap₂ distance (get_or-eq_default samples (pos 0) {n = p} behind) (get_or-eq_default all (pos 0) {n = p} (omega (arith, behind, same))) in
      omega (arith, s.apart, both))

  as-far : encoded_miss c states samples ≤ peak
  as-far =
      channels-at-most c (begun c states samples) samples peak
      (λ e l.
      let own = miss-at-most sixteen ima_steps peak (begun_in c states samples e) (drop 1 (mine e))
      (λ i h.
      let p = place 1 c e (suc i) in
      let long : suc i < length samples / c = omega (arith, h, length-drop 1 (mine e), strand-length 1 c (omega arith) hc (pos 0) samples e) in
      let at = place-apart e (suc i) l (in_list 1 c (omega arith) hc (length samples) e (suc i) (even-samples is) l long) in
      let x-is = ap (λ (x : ℤ). distance x (get_or (predictors sixteen ima_steps (begun_in c states samples e) (drop 1 (mine e))) i (pos 0))) (behind-first (mine e) i) in
      omega (arith, at, x-is, none-larger samples all same few p)) in
      omega (arith, own, own_is e l))

  -- The largest miss of a block is the peak between the samples and what the block decodes to, in a reading that accepts it. Frame 0 is no exception:
  -- it is heard as it is, and has no nibble that could miss.
  pub block-peak : Within sixteen samples → (reading : Reading) → read_by reading c (encoded_ms_block c states samples) 0 ≡ 0 → (back : List ℤ) → length back ≡ length samples
      → (loss_report samples (decode_ms reading c (encode_ms c samples states out).buffer back).buffer).back.peak ≡ encode_ms_miss c samples states out
  unfolding encode_ms_miss
  block-peak within reading accepted back room =
      let decoded = ap (λ r. r.buffer) (decodes-back c samples states out fits within reading accepted back room) in
      let miss : peak ≡ encoded_miss c states samples = omega (arith, no-farther, as-far) in
      ap (λ ys. (loss_report samples ys).back.peak) decoded ∙ miss ∙ rw fits refl

-- A block that is being decoded: what is written and the channels' states, before, after and between its bytes. Assumes nothing.
use mathlib.Core.Path.{◌≡◌, sym, ap, ap₂, ◌∙◌, subst}
use mathlib.Core.Bool.{cond}
use mathlib.Core.List.{List}
use Prim.Native.Nat.{ℕ, suc, ◌+◌, ◌-◌, ◌*◌, ◌/◌, ◌%◌, ◌≤◌, ◌<◌}
use native.Mathlib.Omega.{arith}
use lib.Dec.{ltb, eqb}
use lib.IntN.{ℤ, pos}
use lib.ListN.{length, get_or, set, drop, length-set, length-drop}
use lib.Seq.{get_or-set_same, get_or-set_other, set-set, take_all}
use borrow.Author.Tests.{ltb-true, ltb-false, eqb-true, eqb-false}
use borrow.Table.Steps.{cases}
use Rattle.num.proofs.Lists.{alike}
use Rattle.ima_nibble.specs.Step.{State, zero_state, sixteen}
use Rattle.ima_nibble.specs.Table.{ima_steps}
use Rattle.ima_nibble.specs.Series.{decoded, nibbles_of}
use Rattle.ms_block.specs.Header.{head_of}
use Rattle.ms_block.proofs.Sizes.{Shape, four_bytes, samples-each, even-samples}
use Rattle.ms_block.proofs.Weave.{weaves, singly, in_list, in-strand, strand-at, strand-length}
use Rattle.ms_block.specs.Sizes.{most}
use Rattle.ms_block.specs.Block.{decoded_channel, channel_end, bytes_in, decoded_ms_block, clipped_counts, state_in, counts_of}
use Rattle.ms_decode.specs.Private.{Headed}
use Rattle.ms_block.proofs.OwnBytes.{moved, before, sample, low, high, low-is, high_is, next-is}
use Rattle.ms_block.proofs.Midst.{byte, States, states-first, state-now, states-turn, states-last, Frames, frames-first, frames-turn}
use Rattle.ms_block.proofs.Walk.{Bytes, own, four, own-place, own-inside, room}

-- ---- the headers

-- one channel's more
pub heads-turn : (c : ℕ) (bytes : List ℕ) (ch : ℕ) (out : List ℤ) (states : List State) (st : State) (x : ℤ)
    → ch < length out → ch < length states → st ≡ head_of (bytes_in c bytes ch) → x ≡ st.predictor
    → Headed c bytes ch out states → Headed c bytes (ch + 1) (set out ch x) (set states ch st)
heads-turn c bytes ch out states st x long some st-is x-is h =
    record {
      there =
          λ e l.
          cases (eqb e ch)
          (λ t.
          let same = eqb-true e ch t in
          rw same (
            get_or-set_same states ch st zero_state some ∙ st-is,
            get_or-set_same out ch x (pos 0) long ∙ x-is ∙ ap (λ (s : State). s.predictor) st-is,
          ))
          (λ t.
          let other = eqb-false e ch t in
          let (s-is, o_is) = h.there e (omega (arith, l, other)) in
          (get_or-set_other states ch e st zero_state other ∙ s-is, get_or-set_other out ch e x (pos 0) other ∙ o_is));
      others = λ e l. ap (λ (s : State). s.clipped) (get_or-set_other states ch e st zero_state (omega (arith, l))) ∙ h.others e (omega (arith, l));
    }

-- ---- all channels

abbrev frame_in : ℕ → List ℕ → ℕ → ℕ → ℤ
frame_in c bytes e k = sample (bytes_in c bytes e) k

abbrev before_in : ℕ → List ℕ → ℕ → ℕ → State
before_in c bytes e d = before (bytes_in c bytes e) d

-- the bytes before the place are decoded
pub record Upto (c : ℕ) (bytes : List ℕ) (at : ℕ) (out : List ℤ) (states : List State) : Type 0 where
  pub frames : Frames c (frame_in c bytes) at out
  pub befores : States c (before_in c bytes) at states
  pub others : (e : ℕ) → c ≤ e → (state_in states e).clipped ≡ 0

module _ (c : ℕ) (hc : 0 < c) (bytes : List ℕ) where
  pub first : (out : List ℤ) (states : List State) → Headed c bytes c out states → Upto c bytes (4 * c) out states
  unfolding decoded_channel decoded nibbles_of
  first out states h =
      record {
        frames = frames-first c hc (frame_in c bytes) out (λ e l. (h.there e l).1);
        befores = states-first c hc (before_in c bytes) states (λ e l. (h.there e l).0);
        others = h.others;
      }

  -- a byte, at its place: two samples of its channel, and the state behind them
  pub turn : (ch d : ℕ) (out : List ℤ) (states : List State) (one two : State)
      → ch < c → 4 ≤ d → d < length bytes / c → ch < length states → c * (2 * d - 7) + ch + c < length out
      → let b = get_or bytes (byte c ch d) 0 in
      (s : State) → s ≡ state_in states ch
      → one ≡ moved s (b % 16) → two ≡ moved one (b / 16)
      → Upto c bytes (byte c ch d) out states
      → Upto c bytes (suc (byte c ch d)) (set (set out (c * (2 * d - 7) + ch) one.predictor) (c * (2 * d - 7) + ch + c) two.predictor) (set states ch two)
  turn ch d out states one two l four h room long s s-is one-is two_is u =
      let own = bytes_in c bytes ch in
      let inside : d < length own = omega (arith, h, strand-length 4 c (omega arith) hc 0 bytes ch) in
      let b-is = strand-at 4 c (omega arith) hc 0 bytes ch d h in
      let now-is = s-is ∙ state-now c hc (before_in c bytes) ch d states l four u.befores in
      let low-now : one ≡ low own d four inside = one-is ∙ ap₂ (λ (st : State) (b : ℕ). moved st (b % 16)) now-is (sym b-is) in
      let high-now : two ≡ high own d four inside = two_is ∙ ap₂ (λ (st : State) (b : ℕ). moved st (b / 16)) low-now (sym b-is) in
      record {
        frames =
            frames-turn c hc (frame_in c bytes) ch d out one.predictor two.predictor l four long
            (ap (λ (st : State). st.predictor) low-now ∙ sym (low-is own d four inside))
            (ap (λ (st : State). st.predictor) high-now ∙ sym (high_is own d four inside))
            u.frames;
        befores = states-turn c hc (before_in c bytes) ch d states two l four room (high-now ∙ sym (next-is own d four inside)) u.befores;
        others = λ e k. ap (λ (st : State). st.clipped) (get_or-set_other states ch e two zero_state (omega (arith, k, l))) ∙ u.others e k;
      }

  -- the same where the loops stand: the channel's state is in a variable of its own meanwhile
  pub byte-turn : {g ch start end at : ℕ} (w : Bytes c (length bytes) g ch start end at) (l : at < end) (k : ℕ) (out : List ℤ) (states : List State) (st one two : State) (x y : ℤ)
      → k ≡ c * (2 * own w l - 7) + ch → length out ≡ 2 * length bytes - 7 * c → ch < length states
      → one ≡ moved st (get_or bytes at 0 % 16) → two ≡ moved one (get_or bytes at 0 / 16) → x ≡ one.predictor → y ≡ two.predictor
      → Upto c bytes at out (set states ch st)
      → Upto c bytes (at + 1) (set (set out k x) (k + c) y) (set states ch two)
  byte-turn {g} {ch} {start} {end} {at} w l k out states st one two x y k-is long some one-is two_is x-is y-is u =
      let d = own w l in
      let here = own-place w l in
      let there : suc (byte c ch d) ≡ at + 1 = omega (arith, here) in
      let b-is = ap (λ (p : ℕ). get_or bytes p 0) (sym here) in
      let next =
      turn ch d out (set states ch st) one two w.channel (four w l) (own-inside w l)
      (omega (arith, some, length-set states ch st)) (omega (arith, room w l, long))
      st (sym (get_or-set_same states ch st zero_state some))
      (one-is ∙ ap (λ (b : ℕ). moved st (b % 16)) b-is) (two_is ∙ ap (λ (b : ℕ). moved one (b / 16)) b-is)
      (subst (λ (p : ℕ). Upto c bytes p out (set states ch st)) (sym here) u) in
      rw (k-is, x-is, y-is)
      (subst (λ (p : ℕ). Upto c bytes p (set (set out (c * (2 * d - 7) + ch) one.predictor) (c * (2 * d - 7) + ch + c) two.predictor) (set states ch two)) there
      (subst (λ (sts : List State). Upto c bytes (suc (byte c ch d)) (set (set out (c * (2 * d - 7) + ch) one.predictor) (c * (2 * d - 7) + ch + c) two.predictor) sts) (set-set states ch st two) next))

  -- behind the last byte
  module _ (out : List ℤ) (states : List State) (is : Shape c (length bytes) (length out)) (u : Upto c bytes (length bytes) out states) where
    written : out ≡ decoded_ms_block c bytes
    unfolding decoded_ms_block
    written =
        weaves 1 c (omega arith) hc (pos 0) (2 * length bytes - 7 * c) (λ e. decoded_channel (bytes_in c bytes e)) out is.fits
        (λ e k l b.
        let n = length bytes in
        let inside = in-strand 1 c (omega arith) hc (length out) e k (even-samples is) l (omega (arith, b, is.fits)) in
        let own : (k + 7) / 2 < n / c = omega (arith, inside, samples-each is, four_bytes is) in
        rw (singly c e k) (u.frames e k l (in_list 4 c (omega arith) hc n e ((k + 7) / 2) is.even l own)))

    ended : (e : ℕ) → e < c → state_in states e ≡ channel_end (bytes_in c bytes e)
    unfolding channel_end
    ended e l =
        let own = bytes_in c bytes e in
        let q = length bytes / c in
        let short : length (drop 4 own) ≤ q - 4 = omega (arith, length-drop 4 own, strand-length 4 c (omega arith) hc 0 bytes e) in
        states-last c hc (before_in c bytes) is states u.befores e l
        ∙ ap (λ bs. (decoded sixteen ima_steps (head_of own) (nibbles_of bs)).end) (take_all (q - 4) (drop 4 own) short)

    count-is : (e : ℕ) → (state_in states e).clipped ≡ cond (ltb e c) (channel_end (bytes_in c bytes e)).clipped 0
    count-is e =
        cases (ltb e c)
        (λ t. rw t (ap (λ (st : State). st.clipped) (ended e (ltb-true e c t))))
        (λ t. rw t (u.others e (ltb-false e c t)))

    pub ends : (out ≡ decoded_ms_block c bytes) × (counts_of states ≡ clipped_counts c bytes)
    unfolding counts_of clipped_counts
    ends = (written, alike (λ e. (state_in states e).clipped) (λ e. cond (ltb e c) (channel_end (bytes_in c bytes e)).clipped 0) most 0 (λ e _ _. count-is e))

-- A block that is being repacked, one channel behind the other: a byte more, in a header and behind it, and all of them. Assumes nothing.
use mathlib.Core.Path.{◌≡◌, refl, sym, ap, ap₂, ◌∙◌, subst}
use mathlib.Core.List.{List}
use Prim.Native.Nat.{ℕ, suc, ◌+◌, ◌-◌, ◌*◌, ◌/◌, ◌%◌, ◌≤◌, ◌<◌}
use native.Mathlib.Omega.{arith}
use lib.Dec.{eqb}
use lib.IntN.{ℤ}
use lib.ListN.{length, get_or, set, length-set}
use lib.Seq.{ext_get_or, get_or-set_same, get_or-set_other}
use borrow.Author.Tests.{eqb-true, eqb-false}
use borrow.Table.Steps.{cases}
use Rattle.halves.specs.Halves.{bits_of}
use Rattle.ima_nibble.specs.Step.{State}
use Rattle.ima_nibble.specs.Series.{decoded, encoded, nibbles_of}
use Rattle.ms_block.specs.Header.{head_of}
use Rattle.ms_block.specs.Weave.{place, channel_at, item_at}
use Rattle.ms_block.proofs.Sizes.{Shape, four_bytes}
use Rattle.ms_block.proofs.Weave.{quotient, rest, below, placed, channel-lt, in_list, in-strand, strand-at, strand-length}
use Rattle.ms_block.specs.Block.{decoded_channel, encoded_channel, bytes_in}
use Rattle.ms_block.proofs.OwnBytes as Bytes
use Rattle.ms_block.proofs.OwnBytes.{moved}
use Rattle.ms_block.proofs.OwnSamples as Samples
use Rattle.ms_block.proofs.OwnSamples.{gives}
use Rattle.ms_block.proofs.Round.{decoded-many}
use Rattle.ms_repacked.specs.Private.{Upto}
use Rattle.ms_repacked.specs.Repack.{repacked}
use Rattle.ms_repacked.proofs.Settled.{again, repacked-length, channel-again}

-- ---- one channel's own bytes

-- the two states before byte d, the header's four included
abbrev reading : List ℕ → ℕ → State
reading = Bytes.before

abbrev writing : List ℕ → ℕ → State
writing own d = Samples.before (head_of own) (decoded_channel own) d

module _ (own : List ℕ) (d : ℕ) (four : 4 ≤ d) (h : d < length own) where
  abbrev one : State
  one = Bytes.low own d four h

  abbrev two : State
  two = Bytes.high own d four h

  abbrev wrote : State
  wrote = Samples.moved (writing own d) one.predictor

  both : 2 * d - 6 < length (decoded_channel own)
  both = omega (arith, four, h, decoded-many own)

  again-is : get_or (again own) d 0 ≡ 16 * gives wrote two.predictor + gives (writing own d) one.predictor
  again-is =
      Samples.byte-is (head_of own) (decoded_channel own) d four both
      ∙ ap₂ (λ (x y : ℤ). 16 * gives (Samples.moved (writing own d) x) y + gives (writing own d) x) (Bytes.low-is own d four h) (Bytes.high_is own d four h)

  writing-next : writing own (suc d) ≡ Samples.moved wrote two.predictor
  writing-next =
      Samples.next-is (head_of own) (decoded_channel own) d four both
      ∙ ap₂ (λ (x y : ℤ). Samples.moved (Samples.moved (writing own d) x) y) (Bytes.low-is own d four h) (Bytes.high_is own d four h)

-- ---- all channels

-- before byte d of channel e: what is written, and the channel's two states
pub record Midway (c : ℕ) (block : List ℕ) (e d : ℕ) (out : List ℕ) (read write : State) : Type 0 where
  pub upto : Upto c block e d out
  pub reader : read ≡ reading (bytes_in c block e) d
  pub writer : write ≡ writing (bytes_in c block e) d

module _ {c m : ℕ} (block : List ℕ) (is : Shape c (length block) m) where
  abbrev q : ℕ
  q = length block / c

  hc : 0 < c
  hc = omega (arith, is.some)

  own-length : (e : ℕ) → length (bytes_in c block e) ≡ q
  own-length e = strand-length 4 c (omega arith) hc 0 block e

  pub inside-block : (e d : ℕ) → e < c → d < q → place 4 c e d < length block
  inside-block e d l h = in_list 4 c (omega arith) hc (length block) e d is.even l h

  own-byte : (e d : ℕ) → d < q → get_or (bytes_in c block e) d 0 ≡ get_or block (place 4 c e d) 0
  own-byte e d h = strand-at 4 c (omega arith) hc 0 block e d h

  again-at : (e d : ℕ) → e < c → d < q → get_or (repacked c block) (place 4 c e d) 0 ≡ get_or (again (bytes_in c block e)) d 0
  again-at e d l h =
      let long = ap (λ (n : ℕ). n / c) (repacked-length block is) in
      sym (strand-at 4 c (omega arith) hc 0 (repacked c block) e d (omega (arith, h, long)))
      ∙ ap (λ (bs : List ℕ). get_or bs d 0) (channel-again block is e l)

  -- one byte more
  put_one : (e d x : ℕ) (out : List ℕ) → e < c → d < q → length out ≡ length block → x ≡ get_or (again (bytes_in c block e)) d 0
      → Upto c block e d out → Upto c block e (suc d) (set out (place 4 c e d) x)
  put_one e d x out l h size x-is u f k lf hk before =
      cases (eqb (place 4 c f k) (place 4 c e d))
      (λ t.
      rw (eqb-true (place 4 c f k) (place 4 c e d) t)
      (get_or-set_same out (place 4 c e d) x 0 (omega (arith, size, inside-block e d l h)) ∙ x-is ∙ sym (again-at e d l h)))
      (λ t.
      let other = eqb-false (place 4 c f k) (place 4 c e d) t in
      let apart : q * f + k ≡ q * e + d → ⊥ =
      λ s.
      other (ap₂ (place 4 c)
      (sym (quotient q f k hk) ∙ ap (λ (p : ℕ). p / q) s ∙ quotient q e d h)
      (sym (rest q f k hk) ∙ ap (λ (p : ℕ). p % q) s ∙ rest q e d h)) in
      get_or-set_other out (place 4 c e d) (place 4 c f k) x 0 other ∙ u f k lf hk (omega (arith, before, apart)))

  -- behind the last channel
  pub ends : (out : List ℕ) → length out ≡ length block → Upto c block c 0 out → out ≡ repacked c block
  ends out size u =
      ext_get_or 0 out (repacked c block) (size ∙ sym (repacked-length block is))
      (λ p h.
      let e = channel_at 4 c p in
      let d = item_at 4 c p in
      let there = placed 4 c (omega arith) hc p in
      let l = channel-lt 4 c (omega arith) hc p in
      let k = in-strand 4 c (omega arith) hc (length block) e d is.even l (omega (arith, there, h, size)) in
      rw there at (u e d l k (omega (arith, below q e d c k l))))

  -- ---- a header

  -- its four bytes stand together
  pub fourth : (e : ℕ) → e < c → 4 * e + 4 ≤ length block
  fourth e l = omega (arith, inside-block e 3 l (omega (arith, four_bytes is)))

  module _ (e : ℕ) (l : e < c) where
    head-put : (i x : ℕ) (out : List ℕ) → i < 4 → place 4 c e i ≡ 4 * e + i → length out ≡ length block → x ≡ get_or (again (bytes_in c block e)) i 0
        → Upto c block e i out → Upto c block e (suc i) (set out (4 * e + i) x)
    head-put i x out h there size x-is u =
        subst (λ (p : ℕ). Upto c block e (suc i) (set out p x)) there (put_one e i x out l (omega (arith, h, four_bytes is)) size x-is u)

    abbrev pub four-set : List ℕ → ℕ → ℕ → ℕ → List ℕ
    four-set out low high index = set (set (set (set out (4 * e) low) (4 * e + 1) high) (4 * e + 2) index) (4 * e + 3) 0

    pub header-put : (out : List ℕ) (st : State) (bits : ℕ) → length out ≡ length block → st ≡ head_of (bytes_in c block e) → bits ≡ bits_of st.predictor
        → Upto c block e 0 out → Upto c block e 4 (four-set out (bits % 256) (bits / 256) st.index)
    unfolding encoded_channel
    header-put out st bits size st-is bits_is u =
        let bits-own : bits ≡ bits_of (head_of (bytes_in c block e)).predictor = bits_is ∙ ap (λ (s : State). bits_of s.predictor) st-is in
        let o₁ = set out (4 * e) (bits % 256) in
        let o₂ = set o₁ (4 * e + 1) (bits / 256) in
        let o₃ = set o₂ (4 * e + 2) st.index in
        let e₁ = length-set out (4 * e) (bits % 256) ∙ size in
        let e₂ = length-set o₁ (4 * e + 1) (bits / 256) ∙ e₁ in
        let e₃ = length-set o₂ (4 * e + 2) st.index ∙ e₂ in
        let first : 4 * e + 0 ≡ 4 * e = omega arith in
        let u₁ = head-put 0 (bits % 256) out (omega arith) (omega arith) size (ap (λ (b : ℕ). b % 256) bits-own) u in
        let u₂ = head-put 1 (bits / 256) o₁ (omega arith) (omega arith) e₁ (ap (λ (b : ℕ). b / 256) bits-own) (subst (λ (p : ℕ). Upto c block e 1 (set out p (bits % 256))) first u₁) in
        let u₃ = head-put 2 st.index o₂ (omega arith) (omega arith) e₂ (ap (λ (s : State). s.index) st-is) u₂ in
        head-put 3 0 o₃ (omega arith) (omega arith) e₃ refl u₃

    -- ---- behind the header

    pub start : (out : List ℕ) (st : State) → st ≡ head_of (bytes_in c block e) → Upto c block e 4 out → Midway c block e 4 out st st
    unfolding decoded encoded nibbles_of
    start out st st-is u = record { upto = u; reader = st-is; writer = st-is }

    -- Two nibbles are read, and the nibbles of their samples are written.
    pub turn : (d byte low high : ℕ) (out : List ℕ) (read between after write first second : State) → 4 ≤ d → d < q → length out ≡ length block
        → byte ≡ get_or block (place 4 c e d) 0 → between ≡ moved read (byte % 16) → after ≡ moved between (byte / 16)
        → low ≡ gives write between.predictor → first ≡ moved write low → high ≡ gives first after.predictor → second ≡ moved first high
        → Midway c block e d out read write → Midway c block e (suc d) (set out (place 4 c e d) (16 * high + low)) after second
    turn d byte low high out read between after write first second four h size byte-own between_is after_is low-is' first-is high-is' second_is w =
        let own = bytes_in c block e in
        let inside : d < length own = omega (arith, h, own-length e) in
        let b-is = byte-own ∙ sym (own-byte e d h) in
        let one-is = between_is ∙ ap₂ (λ (s : State) (b : ℕ). moved s (b % 16)) w.reader b-is in
        let two_is = after_is ∙ ap₂ (λ (s : State) (b : ℕ). moved s (b / 16)) one-is b-is in
        let v-is = low-is' ∙ ap₂ (λ (s t : State). gives s t.predictor) w.writer one-is in
        let wrote-is = first-is ∙ ap₂ moved w.writer v-is in
        let u-is = high-is' ∙ ap₂ (λ (s t : State). gives s t.predictor) wrote-is two_is in
        record {
          upto = put_one e d (16 * high + low) out l h size (ap₂ (λ (u v : ℕ). 16 * u + v) u-is v-is ∙ sym (again-is own d four inside)) w.upto;
          reader = two_is ∙ sym (Bytes.next-is own d four inside);
          writer = second_is ∙ ap₂ moved wrote-is u-is ∙ sym (writing-next own d four inside);
        }

    -- behind the last byte
    pub last : (out : List ℕ) (read write : State) → Midway c block e q out read write → Upto c block (e + 1) 0 out
    last out read write w = let behind : q * (e + 1) + 0 ≡ q * e + q = omega arith in λ f k lf hk before. w.upto f k lf hk (omega (arith, before, behind))

-- A block that is being encoded: what is written and the channels' states, before, after and between its bytes. Assumes nothing.
use mathlib.Core.Path.{◌≡◌, refl, sym, ap, ap₂, ◌∙◌, subst}
use mathlib.Core.List.{List}
use Prim.Native.Nat.{ℕ, suc, ◌+◌, ◌-◌, ◌*◌, ◌/◌, ◌%◌, ◌≤◌, ◌<◌}
use native.Mathlib.Omega.{arith}
use lib.Dec.{eqb}
use lib.IntN.{ℤ, pos}
use lib.ListN.{length, get_or, set, take, drop, length-drop, length-set}
use lib.Seq.{get_or-set_same, get_or-set_other, set-set, take_all}
use borrow.Author.Tests.{eqb-true, eqb-false}
use borrow.Table.Steps.{cases}
use Rattle.halves.specs.Halves.{bits_of}
use Rattle.num.proofs.Lists.{as-far, as_long}
use Rattle.ima_nibble.specs.Step.{State, zero_state, reloaded, sixteen}
use Rattle.ima_nibble.specs.Table.{ima_steps}
use Rattle.ima_nibble.specs.Series.{encoded}
use Rattle.ms_block.specs.Sizes.{most, bytes_of}
use Rattle.ms_block.proofs.Sizes.{Shape, four_bytes, samples-each}
use Rattle.ms_block.proofs.Weave.{singly, in_list, strand-at, strand-length, woven-at}
use Rattle.ms_block.specs.Block.{encoded_channel, samples_in, state_in, begun_in, begun, encoded_in, block_from, states_from, encoded_ms_block}
use Rattle.ms_block.proofs.Midst.{byte, in_group, States, states-first, state-now, states-turn, states-last}
use Rattle.ms_block.proofs.OwnSamples.{gives, moved, before, byte-is, next-is}
use Rattle.ms_block.proofs.Round.{each-is, in-each, block-length}
use Rattle.ms_block.proofs.Walk.{Bytes, own, four, own-place, own-inside}

-- ---- all channels

abbrev before_in : ℕ → List ℤ → List State → ℕ → ℕ → State
before_in c samples starts e d = before (state_in starts e) (samples_in c samples e) d

-- the bytes before the place are written, from the states that the block starts from
pub record Upto (c : ℕ) (samples : List ℤ) (starts : List State) (at : ℕ) (out : List ℕ) (states : List State) : Type 0 where
  pub written : take at out ≡ take at (block_from c starts samples)
  pub befores : States c (before_in c samples starts) at states
  pub others : (e : ℕ) → c ≤ e → state_in states e ≡ state_in starts e

pub first : (c : ℕ) → 0 < c → (samples : List ℤ) (starts : List State) (out : List ℕ)
    → take (4 * c) out ≡ take (4 * c) (block_from c starts samples) → Upto c samples starts (4 * c) out starts
unfolding encoded
first c hc samples starts out same =
    record {
      written = same;
      befores = states-first c hc (before_in c samples starts) starts (λ e l. refl);
      others = λ e l. refl;
    }

-- which byte stands at a place
pub block_at : {c n : ℕ} (samples : List ℤ) (starts : List State) → Shape c n (length samples) → (e d : ℕ) → e < c → byte c e d < n
    → get_or (block_from c starts samples) (byte c e d) 0 ≡ get_or (encoded_in c starts samples e).written d 0
unfolding block_from
block_at {c} {n} samples starts is e d l h =
    woven-at 4 c (omega arith) (omega (arith, is.some)) 0 (bytes_of c (length samples)) (λ e. (encoded_in c starts samples e).written) e d l
    (omega (arith, h, is.fits, is.enough))

second-place : (c ch d k : ℕ) → 4 ≤ d → k ≡ c * (2 * d - 7) + ch → k + c ≡ c * (2 * d - 6) + ch
second-place c ch d k four e = let f : 2 * d - 6 ≡ suc (2 * d - 7) = omega (arith, four) in rw f (omega (arith, e))

module _ {c n : ℕ} (samples : List ℤ) (starts : List State) (is : Shape c n (length samples)) where
  hc : 0 < c
  hc = omega (arith, is.some)

  sample-at : (ch i : ℕ) → i < 1 + 2 * (n / c - 4) → get_or (samples_in c samples ch) i (pos 0) ≡ get_or samples (c * i + ch) (pos 0)
  sample-at ch i h =
      strand-at 1 c (omega arith) hc (pos 0) samples ch i (omega (arith, h, samples-each is)) ∙ ap (λ (p : ℕ). get_or samples p (pos 0)) (singly c ch i)

  -- a byte of a channel's two samples x and y, at its place
  pub turn : (ch d : ℕ) (out : List ℕ) (states : List State) (st one two : State) (x y : ℤ) (b : ℕ)
      → ch < c → 4 ≤ d → d < n / c → ch < length states → length out ≡ n
      → x ≡ get_or samples (c * (2 * d - 7) + ch) (pos 0) → y ≡ get_or samples (c * (2 * d - 6) + ch) (pos 0)
      → st ≡ state_in states ch → one ≡ moved st x → two ≡ moved one y → b ≡ 16 * gives one y + gives st x
      → Upto c samples starts (byte c ch d) out states → Upto c samples starts (suc (byte c ch d)) (set out (byte c ch d) b) (set states ch two)
  turn ch d out states st one two x y b l four h some size x-is y-is st-is one-is two_is b-is u =
      let mine = samples_in c samples ch in
      let start = state_in starts ch in
      let inside : 2 * d - 6 < length mine = omega (arith, h, four, strand-length 1 c (omega arith) hc (pos 0) samples ch, samples-each is) in
      let place : byte c ch d < n = in_list 4 c (omega arith) hc n ch d is.even l h in
      let x-own = x-is ∙ sym (sample-at ch (2 * d - 7) (omega (arith, h, four))) in
      let y-own = y-is ∙ sym (sample-at ch (2 * d - 6) (omega (arith, h, four))) in
      let st-own = st-is ∙ state-now c hc (before_in c samples starts) ch d states l four u.befores in
      let one-own = one-is ∙ ap₂ moved st-own x-own in
      let two-own = two_is ∙ ap₂ moved one-own y-own in
      let b-own = b-is ∙ ap₂ (λ (v w : ℕ). 16 * v + w) (ap₂ gives one-own y-own) (ap₂ gives st-own x-own) in
      let b-block = b-own ∙ sym (byte-is start mine d four inside) ∙ sym (block_at samples starts is ch d l place) in
      record {
        written =
            as-far out (block_from c starts samples) 0 (byte c ch d) b (omega (arith, place, size))
            (omega (arith, place, block-length samples is starts)) b-block u.written;
        befores = states-turn c hc (before_in c samples starts) ch d states two l four some (two-own ∙ sym (next-is start mine d four inside)) u.befores;
        others = λ e k. get_or-set_other states ch e two zero_state (omega (arith, k, l)) ∙ u.others e k;
      }

  -- the same where the loops stand: the channel's state is in a variable of its own meanwhile
  pub byte-turn : {g ch start end at : ℕ} (w : Bytes c n g ch start end at) (l : at < end) (k : ℕ) (out : List ℕ) (states : List State) (st one two : State) (x y : ℤ) (b : ℕ)
      → length out ≡ n → ch < length states
      → k ≡ c * (2 * own w l - 7) + ch → x ≡ get_or samples k (pos 0) → y ≡ get_or samples (k + c) (pos 0)
      → one ≡ moved st x → two ≡ moved one y → b ≡ 16 * gives one y + gives st x
      → Upto c samples starts at out (set states ch st) → Upto c samples starts (at + 1) (set out at b) (set states ch two)
  byte-turn {g} {ch} {start} {end} {at} w l k out states st one two x y b size some k-is x-is y-is one-is two_is b-is u =
      let d = own w l in
      let here = own-place w l in
      let second : k + c ≡ c * (2 * d - 6) + ch = second-place c ch d k (four w l) k-is in
      let next =
      turn ch d out (set states ch st) st one two x y b w.channel (four w l) (own-inside w l)
      (omega (arith, some, length-set states ch st)) size
      (x-is ∙ ap (λ (p : ℕ). get_or samples p (pos 0)) k-is) (y-is ∙ ap (λ (p : ℕ). get_or samples p (pos 0)) second)
      (sym (get_or-set_same states ch st zero_state some)) one-is two_is b-is
      (subst (λ (p : ℕ). Upto c samples starts p out (set states ch st)) (sym here) u) in
      let there : suc at ≡ at + 1 = omega arith in
      subst (λ (p : ℕ). Upto c samples starts p (set out at b) (set states ch two)) there
      (subst (λ (sts : List State). Upto c samples starts (suc at) (set out at b) sts) (set-set states ch st two)
      (subst (λ (p : ℕ). Upto c samples starts (suc p) (set out p b) (set (set states ch st) ch two)) here next))

  -- behind the last byte
  module _ (out : List ℕ) (states : List State) (u : Upto c samples starts n out states) where
    ended : (e : ℕ) → e < c → state_in states e ≡ (encoded_in c starts samples e).end
    unfolding encoded_channel
    ended e l =
        let mine = samples_in c samples e in
        let q = n / c in
        let short : length (drop 1 mine) ≤ 2 * (q - 4) = omega (arith, length-drop 1 mine, strand-length 1 c (omega arith) hc (pos 0) samples e, samples-each is) in
        states-last c hc (before_in c samples starts) is states u.befores e l
        ∙ ap (λ xs. (encoded sixteen ima_steps (state_in starts e) xs).end) (take_all (2 * (q - 4)) (drop 1 mine) short)

    pub ends : length out ≡ n → length states ≡ most → (states ≡ states_from c starts samples) × (out ≡ block_from c starts samples)
    unfolding states_from
    ends size some = (
      each-is c starts (λ e. (encoded_in c starts samples e).end) states some ended u.others,
      as_long out (block_from c starts samples) 0 n size (block-length samples is starts) u.written,
    )

-- ---- the headers

-- those of the first k channels are written, and their predictors set
pub record Begun (c : ℕ) (samples : List ℤ) (given : List State) (k : ℕ) (out : List ℕ) (states : List State) : Type 0 where
  pub written : take (4 * k) out ≡ take (4 * k) (encoded_ms_block c given samples)
  pub there : (e : ℕ) → e < k → state_in states e ≡ begun_in c given samples e
  pub others : (e : ℕ) → k ≤ e → state_in states e ≡ state_in given e

pub begun_first : (c : ℕ) (samples : List ℤ) (given : List State) (out : List ℕ) → Begun c samples given 0 out given
begun_first c samples given out = record { written = refl; there = λ e l. absurd (omega (arith, l)); others = λ e l. refl }

-- one place more, counted in another way
next_place : (out xs : List ℕ) (k j x : ℕ) → suc k ≡ j → k < length out → k < length xs → x ≡ get_or xs k 0 → take k out ≡ take k xs → take j (set out k x) ≡ take j xs
next_place out xs k j x e h l is same = subst (λ (i : ℕ). take i (set out k x) ≡ take i xs) e (as-far out xs 0 k x h l is same)

-- four
abbrev pub four-set : List ℕ → ℕ → ℕ → ℕ → ℕ → ℕ → List ℕ
four-set out k x y z w = set (set (set (set out k x) (k + 1) y) (k + 2) z) (k + 3) w

four-places : (out xs : List ℕ) (k x y z w : ℕ) → k + 3 < length xs → length out ≡ length xs
    → x ≡ get_or xs k 0 → y ≡ get_or xs (k + 1) 0 → z ≡ get_or xs (k + 2) 0 → w ≡ get_or xs (k + 3) 0
    → take k out ≡ take k xs → take (k + 4) (four-set out k x y z w) ≡ take (k + 4) xs
four-places out xs k x y z w h e x-is y-is z-is w-is same =
    let o₁ = set out k x in
    let o₂ = set o₁ (k + 1) y in
    let o₃ = set o₂ (k + 2) z in
    let e₁ = length-set out k x ∙ e in
    let e₂ = length-set o₁ (k + 1) y ∙ e₁ in
    let e₃ = length-set o₂ (k + 2) z ∙ e₂ in
    next_place o₃ xs (k + 3) (k + 4) w (omega arith) (omega (arith, h, e₃)) h w-is
    (next_place o₂ xs (k + 2) (k + 3) z (omega arith) (omega (arith, h, e₂)) (omega (arith, h)) z-is
    (next_place o₁ xs (k + 1) (k + 2) y (omega arith) (omega (arith, h, e₁)) (omega (arith, h)) y-is
    (next_place out xs k (k + 1) x (omega arith) (omega (arith, h, e)) (omega (arith, h)) x-is same)))

module _ {c n : ℕ} (samples : List ℤ) (given : List State) (is : Shape c n (length samples)) where
  begun-in : (e : ℕ) → e < c → state_in (begun c given samples) e ≡ begun_in c given samples e
  unfolding begun
  begun-in e l = in-each c given (begun_in c given samples) e l is.few

  -- the first sample of a channel
  pub first-sample : (ch : ℕ) → ch < c → (begun_in c given samples ch).predictor ≡ get_or samples ch (pos 0)
  first-sample ch l =
      let p : c * 0 + ch ≡ ch = omega arith in
      sample-at samples given is ch 0 (omega arith) ∙ ap (λ (i : ℕ). get_or samples i (pos 0)) p

  -- its header in the block
  head_byte : (ch i v : ℕ) → ch < c → i < 4 → get_or (encoded_channel (begun_in c given samples ch) (samples_in c samples ch)).written i 0 ≡ v
      → get_or (encoded_ms_block c given samples) (4 * ch + i) 0 ≡ v
  head_byte ch i v l h e =
      let starts = begun c given samples in
      let hc : 0 < c = omega (arith, l) in
      let p : byte c ch i ≡ 4 * ch + i = ap (byte c ch) (omega arith) ∙ in_group c hc 0 ch i h ∙ omega arith in
      let inside : byte c ch i < n = in_list 4 c (omega arith) hc n ch i is.even l (omega (arith, h, four_bytes is)) in
      ap (λ (q : ℕ). get_or (block_from c starts samples) q 0) (sym p)
      ∙ block_at samples starts is ch i l inside
      ∙ ap (λ st. get_or (encoded_channel st (samples_in c samples ch)).written i 0) (begun-in ch l)
      ∙ e

  pub begun-turn : (ch : ℕ) (out : List ℕ) (states : List State) (bits index : ℕ) (st : State)
      → ch < c → length out ≡ n → ch < length states
      → bits ≡ bits_of (get_or samples ch (pos 0)) → index ≡ (state_in states ch).index → st ≡ reloaded (state_in states ch) (get_or samples ch (pos 0)) index
      → Begun c samples given ch out states
      → Begun c samples given (ch + 1) (four-set out (4 * ch) (bits % 256) (bits / 256) index 0) (set states ch st)
  unfolding encoded_channel
  begun-turn ch out states bits index st l size some bits_is index_is st-is b =
      let xs = encoded_ms_block c given samples in
      let long : length xs ≡ n = block-length samples is (begun c given samples) in
      let bits-own = ap bits_of (first-sample ch l) ∙ sym bits_is in
      let index-own = sym (index_is ∙ ap (λ (s : State). s.index) (b.others ch (omega arith))) in
      let first-is : bits % 256 ≡ get_or xs (4 * ch) 0 =
      sym (head_byte ch 0 (bits % 256) l (omega arith) (ap (λ (v : ℕ). v % 256) bits-own)) ∙ ap (λ (i : ℕ). get_or xs i 0) (omega arith) in
      let four =
      four-places out xs (4 * ch) (bits % 256) (bits / 256) index 0 (omega (arith, l, long, is.enough)) (size ∙ sym long) first-is
      (sym (head_byte ch 1 (bits / 256) l (omega arith) (ap (λ (v : ℕ). v / 256) bits-own)))
      (sym (head_byte ch 2 index l (omega arith) index-own))
      (sym (head_byte ch 3 0 l (omega arith) refl))
      b.written in
      let behind : 4 * ch + 4 ≡ 4 * (ch + 1) = omega arith in
      let own : st ≡ begun_in c given samples ch =
      st-is
      ∙ ap₂ (reloaded (state_in states ch)) (sym (first-sample ch l)) (sym index-own)
      ∙ ap (λ (s : State). reloaded s (get_or (samples_in c samples ch) 0 (pos 0)) (state_in given ch).index) (b.others ch (omega arith)) in
      record {
        written = subst (λ (i : ℕ). take i (four-set out (4 * ch) (bits % 256) (bits / 256) index 0) ≡ take i xs) behind four;
        there =
            λ e h.
            cases (eqb e ch)
            (λ t. rw (eqb-true e ch t) (get_or-set_same states ch st zero_state some ∙ own))
            (λ t. get_or-set_other states ch e st zero_state (eqb-false e ch t) ∙ b.there e (omega (arith, h, eqb-false e ch t)));
        others = λ e h. get_or-set_other states ch e st zero_state (omega (arith, h)) ∙ b.others e (omega (arith, h));
      }

  pub begun_all : (out : List ℕ) (states : List State) → length states ≡ most → Begun c samples given c out states
      → (states ≡ begun c given samples) × (take (4 * c) out ≡ take (4 * c) (encoded_ms_block c given samples))
  unfolding begun
  begun_all out states some b = (each-is c given (begun_in c given samples) states some b.there b.others, b.written)

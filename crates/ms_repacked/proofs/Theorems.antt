-- Demand 3, of repacking: in either reading, for every block that it accepts. All rests on the law of reach and on the definitions of the two
-- MS calls. Assumes nothing.
use mathlib.Core.Path.{◌≡◌, refl, sym, ap, ◌∙◌, subst}
use mathlib.Core.Bool.{Bool, true, false, ◌&&◌, and-eq-true_iff}
use mathlib.Core.List.{List, []}
use mathlib.Core.Logic.{◌↔◌}
use Prim.Native.Nat.{ℕ, ◌-◌, ◌/◌, ◌≤◌, ◌<◌}
use lib.Dec.{eqb}
use lib.IntN.{ℤ}
use lib.ListN.{length}
use native.Mathlib.Omega.{arith}
use borrow.Author.Tests.{eqb-true, eq-eqb}
use Rattle.num.proofs.Lists.{all-at}
use Rattle.num.specs.Outcome.{Outcome, outcome}
use Rattle.ima_nibble.specs.Step.{State, zero_state, lowered, sixteen}
use Rattle.ms_block.specs.declared.Reading.{Reading}
use Rattle.ms_block.specs.declared.Reading.TheVariants.{Lenient}
use Rattle.ms_block.specs.Header.{head_of}
use Rattle.ms_block.specs.Readings.{header_index, sound_headers, read_by}
use Rattle.ms_block.specs.Sizes.{channelled, sized, samples_of, ms_refusal, repack_refusal, Taken}
use Rattle.ms_block.proofs.Sizes.{Shape, shape, passed}
use Rattle.ms_block.specs.Block.{bytes_in, samples_in, decoded_ms_block, state_in, begun_in}
use Rattle.ms_block.specs.Call.{decode_ms}
use Rattle.ms_block.proofs.Round.{channel-begun, samples-many, samples-within, first-within, in-each}
use Rattle.ms_block.proofs.OwnBytes.{head-is}
use Rattle.ms_block.proofs.Readings.{sound-taken, not-refused, read_alike}
use Rattle.ms_block.proofs.Theorems.{own-samples-alone, written-sound}
use Rattle.ms_repacked.specs.Repack.{starts_of, repacked, any_change, repack_ms}
use Rattle.ms_repacked.specs.Written.{Written, SameIndices}
use Rattle.ms_repacked.proofs.Settled.{again, settled, same-channels, samples-shape, repacked-length, channel-again}
use Rattle.ms_repacked.proofs.Unlike.{alike, itself}
use Rattle.ms_repacked.proofs.Written.{by-repacking}

-- ---- of the definitions

-- a block that is repacked is one that the decoder takes, and the second buffer is as long
pub allowed : (c n m : ℕ) → repack_refusal c n m ≡ 0 → Taken c n (samples_of c n) × (m ≡ n)
unfolding repack_refusal ms_refusal
allowed c n m t =
    let (channels, lengths) = passed (channelled c) (sized c n && eqb m n) t in
    let (size, long) = (and-eq-true_iff (sized c n) (eqb m n)).0 lengths in
    (rw (channels, size, eq-eqb (samples_of c n) (samples_of c n) refl) refl, eqb-true m n long)

start_is : {c m : ℕ} (block : List ℕ) → Shape c (length block) m → (e : ℕ) → e < c → (state_in (starts_of c block) e).index ≡ lowered sixteen (header_index block e)
start_is {c} block is e h = ap (λ (st : State). st.index) (in-each c [] (λ e. head_of (bytes_in c block e)) e h is.few ∙ head-is block is e h)

-- the index of a channel that the encoder could have started from
held : {c : ℕ} {block : List ℕ} (w : Written c block) (e : ℕ) → (state_in w.states e).index ≤ 88
held w e = all-at (λ (s : State). s.index ≤ 88) w.states e zero_state (omega arith) w.indices

-- And what the encoder wrote, repacking leaves as it was, channel by channel.
as_written : (c : ℕ) (block : List ℕ) → Written c block → repacked c block ≡ block
as_written c block w =
    let is = shape c (length block) (length w.samples) w.taken in
    same-channels {m = length w.samples} (repacked c block) block (rw (repacked-length block is) is) (sym (repacked-length block is))
    (λ e h.
    let st = begun_in c w.states w.samples e in
    let own = ap (λ (bs : List ℕ). bytes_in c bs e) (sym w.writes) ∙ channel-begun w.samples is e h w.states in
    channel-again block is e h
    ∙ ap again own
    ∙ settled (length block / c - 4) st (samples_in c w.samples e) (samples-many w.samples is e h) (first-within w.samples is e h w.within) (held w e)
    (samples-within c w.samples e w.within)
    ∙ sym own)

-- Two such blocks with the same header indices are encoded alike from the same samples.
as-decoded : (c m : ℕ) (block other : List ℕ) → Shape c (length block) m → Taken c (length block) m → length other ≡ length block
    → SameIndices c block other → decoded_ms_block c block ≡ decoded_ms_block c other → repacked c block ≡ repacked c other
unfolding repacked
as-decoded c m block other is taken long indices same =
    let many = (samples-shape block is).fits ∙ sym is.fits in
    let is' : Shape c (length other) m = rw long is in
    same-channels {c = c} {m = m} (repacked c block) (repacked c other) (rw (repacked-length block is) is)
    (repacked-length other is' ∙ long ∙ sym (repacked-length block is))
    (λ e h.
    own-samples-alone c (length block) (decoded_ms_block c block) (decoded_ms_block c other) (starts_of c block) (starts_of c other)
    (rw many taken) (ap length (sym same)) e h (ap (λ (xs : List ℤ). samples_in c xs e) same)
    (start_is block is e h ∙ ap (lowered sixteen) (indices e h) ∙ sym (start_is other is' e h)))

-- What the encoder could have written has no index above 88,
sound : (c : ℕ) (block : List ℕ) → Written c block → sound_headers c block ≡ true
sound c block w = subst (λ (bs : List ℕ). sound_headers c bs ≡ true) w.writes (written-sound c w.samples w.states block w.taken (λ e h. held w e))

-- so either reading accepts it: it refuses such a block only where the channel number or the lengths do.
pub accepted : (reading : Reading) (c : ℕ) (block : List ℕ) → Written c block → (number : ℕ) → read_by reading c block number ≡ number
accepted reading c block w number = sound-taken c block reading number (sound c block w)

-- ---- of the calls

-- once over the reading, for a block that it accepts
module _ (reading : Reading) (c : ℕ) (block out : List ℕ) (taken : read_by reading c block (repack_refusal c (length block) (length out)) ≡ 0) where
  abbrev once : Outcome Bool (List ℕ)
  once = repack_ms reading c block out

  lengths : repack_refusal c (length block) (length out) ≡ 0
  lengths = not-refused c block reading (repack_refusal c (length block) (length out)) taken

  decodes : Taken c (length block) (samples_of c (length block))
  decodes = (allowed c (length block) (length out) lengths).0

  is : Shape c (length block) (samples_of c (length block))
  is = shape c (length block) (samples_of c (length block)) decodes

  once_is : once ≡ outcome 0 (any_change block (repacked c block)) (repacked c block)
  unfolding repack_ms
  once_is = rw taken refl

  -- What it accepts, it repacks as lenient reading does.
  pub repacks-alike : once ≡ repack_ms Lenient c block out
  unfolding repack_ms
  repacks-alike = let new = repacked c block in read_alike c block reading (repack_refusal c (length block) (length out)) (any_change block new, new) (false, out) taken

  -- It also says whether any byte changed.
  pub says : (once.back ≡ false) ↔ (once.buffer ≡ block)
  says = rw once_is (
    λ t. sym (alike block (repacked c block) (sym (repacked-length block is)) t),
    λ e. rw e (itself block),
  )

  -- Repacking changes nothing exactly when the encoder could have written the block from some samples and starting indices 0 to 88;
  pub exactly : (once.buffer ≡ block) ↔ Written c block
  exactly = rw once_is (
    λ e. subst (Written c) e (by-repacking c (samples_of c (length block)) block is decodes),
    as_written c block,
  )

  -- twice equals once, and the second time says that no byte changed.
  pub twice : (back : List ℕ) → length back ≡ length out → repack_ms reading c once.buffer back ≡ outcome 0 false once.buffer
  unfolding repack_ms
  twice back long =
      let new = repacked c block in
      let size = repacked-length block is in
      let written = by-repacking c (samples_of c (length block)) block is decodes in
      let again = accepted reading c new written (repack_refusal c (length new) (length back)) in
      rw (once_is, again, size, long, lengths, as_written c new written) (ap (λ (b : Bool). outcome 0 b new) (itself new))

-- Two different such blocks, alike in length, channels and header indices, never decode alike.
pub never-alike : (reading : Reading) (c : ℕ) (block other : List ℕ) → Written c block → Written c other → length other ≡ length block → SameIndices c block other
    → (block ≡ other → ⊥) → (before after : List ℤ) → Taken c (length block) (length before) → Taken c (length other) (length after)
    → (decode_ms reading c block before).buffer ≡ (decode_ms reading c other after).buffer → ⊥
unfolding decode_ms
never-alike reading c block other w v long indices apart before after taken taken' same =
    let first = accepted reading c block w (ms_refusal c (length block) (length before)) ∙ taken in
    let second = accepted reading c other v (ms_refusal c (length other) (length after)) ∙ taken' in
    let decoded : decoded_ms_block c block ≡ decoded_ms_block c other = rw (first, second) at same in
    apart (sym (as_written c block w) ∙ as-decoded c (length before) block other (shape c (length block) (length before) taken) taken long indices decoded ∙ as_written c other v)

-- A seek index is as long as it says, its states are read back, and what is decoded or rebuilt by way of it is what whole decoding or a fresh build gives. Assumes nothing.
use mathlib.Core.Path.{◌≡◌, refl, sym, ap, ap₂, ◌∙◌, subst}
use mathlib.Core.Bool.{true}
use mathlib.Core.List.{List, [], ◌∷◌, ◌++◌, append_assoc}
use Prim.Native.Nat.{ℕ, suc, ◌+◌, ◌-◌, ◌*◌, ◌/◌, ◌≤◌, ◌<◌}
use native.Mathlib.Nat.{mul-div-le, mul-le-mul_left, div-eq_of_lt, zero-div}
use native.Mathlib.Omega.{arith}
use lib.IntN.{ℤ}
use lib.ListN.{length, get_or, take, drop, length-drop}
use lib.Seq.{take_at, drop_at}
use borrow.Author.Tests.{le-leb, lt-ltb, eq-eqb, ne_eqb}
use Rattle.num.specs.Lists.{from}
use Rattle.num.specs.Outcome.{Outcome, outcome}
use Rattle.num.proofs.Lists.{length_from, get_or-from, alike}
use Rattle.num.proofs.Outcome.{number_is}
use Rattle.ima_nibble.specs.Step.{State, uncounted, sixteen, In}
use Rattle.ima_nibble.specs.Series.{Done, after, bare}
use Rattle.ima4_block.specs.Block.{decoded_ima4_block}
use Rattle.ima4_block.specs.Run.{run}
use Rattle.ima4_block.specs.Call.{finished, decoded_run, decode_ima4_run}
use Rattle.ima4_block.proofs.Bare.{run-bare}
use Rattle.ima4_block.proofs.Cut.{continued}
use Rattle.ima4_block.proofs.Theorems.{decode-fits}
use Rattle.seek_index.specs.Record.{state_before, states_kept, kept_state, state_bytes, rest_length, record_head, seek_index, rest_in, every_in, state_in, reached, rebuilt}
use Rattle.seek_index.specs.Call.{are_run, index_length, is_index, index_refusal, place_refusal, from_refusal, index_ima4, decoded_from, decode_ima4_from, reindex_ima4}
use Rattle.seek_index.proofs.Before.{onward, same-before, samples-before, before-in}
use Rattle.seek_index.proofs.Bytes.{bytes-length, bytes-append, bytes-bare, state-back}
use Rattle.seek_index.proofs.Kept.{kept_at}
use Rattle.seek_index.proofs.Lengths.{index-taken, from-taken}
use Rattle.seek_index.proofs.Listed.{in_two}

-- ---- the record

-- Two bytes big-endian length of the rest.
pub index-length : (k n : ℕ) (st : State) (bytes : List ℕ) → length (seek_index k n st bytes) ≡ index_length k n
unfolding seek_index
index-length k n st bytes =
    let sts = from (states_kept k n) 0 (kept_state k st bytes) in
    omega (arith, bytes-length sts, length_from (kept_state k st bytes) (states_kept k n) 0)

pub rest-length : (k n : ℕ) (st : State) (bytes : List ℕ) → rest_in (seek_index k n st bytes) ≡ length (drop 2 (seek_index k n st bytes))
unfolding seek_index
rest-length k n st bytes = omega (arith, index-length k n st bytes)

-- None for an empty run.
pub empty : (k : ℕ) → 1 ≤ k → (st : State) (bytes : List ℕ) → seek_index k 0 st bytes ≡ 0 ∷ 2 ∷ 1 ∷ k ∷ []
unfolding seek_index from state_bytes
empty k some st bytes =
    let none : states_kept k 0 ≡ 0 = div-eq_of_lt (omega arith) in
    rw none refl

-- It is one that the calls take.
is-index : (k : ℕ) → 1 ≤ k → k ≤ 64 → (n : ℕ) (st : State) (bytes : List ℕ) → is_index n (seek_index k n st bytes) ≡ true
unfolding seek_index
is-index k some most n st bytes =
    let rest : rest_in (seek_index k n st bytes) ≡ rest_length k n = omega arith in
    rw (le-leb 1 k some, le-leb k 64 most, eq-eqb (length (seek_index k n st bytes)) (index_length k n) (index-length k n st bytes), eq-eqb (rest_in (seek_index k n st bytes)) (rest_length k n) rest)
    refl

module _ (k : ℕ) (some : 1 ≤ k) (n : ℕ) (st : State) (inside : In sixteen st.predictor) (bytes : List ℕ) where
  pub read_back : (i : ℕ) → i < states_kept k n → state_in (seek_index k n st bytes) i ≡ uncounted (state_before st bytes (k * i))
  unfolding seek_index
  read_back i h =
      let m = states_kept k n in
      let sts = from m 0 (kept_state k st bytes) in
      let none : 0 + i ≡ i = omega arith in
      let is = get_or-from (kept_state k st bytes) m 0 i st h ∙ ap (kept_state k st bytes) none in
      let fits : In sixteen (get_or sts i st).predictor = rw is (before-in (k * i) st bytes inside) in
      state-back (record_head k (rest_length k n)) refl sts i st (omega (arith, length_from (kept_state k st bytes) m 0)) fits ∙ ap uncounted is

  every_back : every_in (seek_index k n st bytes) ≡ k
  unfolding seek_index
  every_back = refl

  -- The first is the start state with its index raw, even above 88; the count is not stored.
  pub first-raw : 1 ≤ n → state_in (seek_index k n st bytes) 0 ≡ uncounted st
  unfolding run
  first-raw h =
      let none : k * 0 ≡ 0 = omega arith in
      read_back 0 (subst (λ (q : ℕ). q < states_kept k n) (zero-div k) (kept_at k some n 0 h)) ∙ ap (λ (b : ℕ). uncounted (state_before st bytes b)) none

  -- by way of it, in bytes that start alike
  reaches : (new : List ℕ) (j : ℕ) → j < n → state_before st bytes (k * (j / k)) ≡ state_before st new (k * (j / k))
      → (b : ℕ) → k * (j / k) ≤ b → uncounted (reached (seek_index k n st bytes) new j b) ≡ uncounted (state_before st new b)
  unfolding reached
  reaches new j h same b le =
      let a = k * (j / k) in
      let own = state_before st new a in
      let on : State → State = λ kept. uncounted (state_before kept (drop (34 * a) new) (b - a)) in
      let any = ap (λ (r : Done ℤ). r.end) (run-bare (b - a) (uncounted own) own (drop (34 * a) new) refl) in
      rw every_back (ap on (read_back (j / k) (kept_at k some n j h) ∙ ap uncounted same) ∙ any ∙ ap uncounted (onward st new a b le))

  -- It is decoding the rest from the state before block j, with a count that begins there;
  seeks : (j : ℕ) → j < n → decoded_from n (seek_index k n st bytes) bytes j ≡ decoded_run (n - j) (uncounted (state_before st bytes j)) (drop (34 * j) bytes)
  seeks j h = ap (λ (own : State). decoded_run (n - j) own (drop (34 * j) bytes)) (reaches bytes j h refl j (mul-div-le j k))

  -- and so, but for the count, what whole decoding gives there.
  in-the-whole : (j : ℕ) → j < n → bare (decoded_run n st bytes) ≡ after (decoded_run j st bytes).written (bare (decoded_from n (seek_index k n st bytes) bytes j))
  in-the-whole j h =
      let e : n ≡ j + (n - j) = omega arith in
      let own = state_before st bytes j in
      ap (λ (m : ℕ). bare (decoded_run m st bytes)) e
      ∙ ap bare (continued decoded_ima4_block 34 j (n - j) st bytes)
      ∙ ap (after (decoded_run j st bytes).written) (run-bare (n - j) own (uncounted own) (drop (34 * j) bytes) refl ∙ ap bare (sym (seeks j h)))

module _ (k : ℕ) (some : 1 ≤ k) (n : ℕ) (st : State) (inside : In sixteen st.predictor) (old new : List ℕ) (j : ℕ) (h : j < n)
    (same : (b : ℕ) → b ≤ j → state_before st old b ≡ state_before st new b) where
  -- as many states as stand at or before block j
  abbrev i : ℕ
  i = suc (j / k)

  abbrev all-states : ℕ
  all-states = states_kept k n

  in_parts : (bytes : List ℕ) → seek_index k n st bytes ≡ (record_head k (rest_length k n) ++ state_bytes (from i 0 (kept_state k st bytes))) ++ state_bytes (from (all-states - i) i (kept_state k st bytes))
  unfolding seek_index
  in_parts bytes =
      let xs = from i 0 (kept_state k st bytes) in
      let ys = from (all-states - i) i (kept_state k st bytes) in
      ap (λ (sts : List State). record_head k (rest_length k n) ++ state_bytes sts) (in_two (kept_state k st bytes) i all-states (kept_at k some n j h))
      ∙ ap (λ (bs : List ℕ). record_head k (rest_length k n) ++ bs) (bytes-append xs ys)
      ∙ sym (append_assoc (record_head k (rest_length k n)) (state_bytes xs) (state_bytes ys))

  stays : take (4 + 3 * i) (seek_index k n st old) ≡ record_head k (rest_length k n) ++ state_bytes (from i 0 (kept_state k st new))
  stays =
      let xs = from i 0 (kept_state k st old) in
      let ys = state_bytes (from (all-states - i) i (kept_state k st old)) in
      let front = record_head k (rest_length k n) ++ state_bytes xs in
      let long : length front ≡ 4 + 3 * i = omega (arith, bytes-length xs, length_from (kept_state k st old) i 0) in
      ap (take (4 + 3 * i)) (in_parts old)
      ∙ take_at front ys (4 + 3 * i) long
      ∙ ap (λ (sts : List State). record_head k (rest_length k n) ++ state_bytes sts)
      (alike (kept_state k st old) (kept_state k st new) i 0 (λ p l u. same (k * p) (omega (arith, mul-le-mul_left {m = p} {n = j / k} k (omega arith), mul-div-le j k))))

  anew : state_bytes (from (all-states - i) i (λ e. reached (seek_index k n st old) new j (k * e))) ≡ state_bytes (from (all-states - i) i (kept_state k st new))
  anew =
      let by_way : ℕ → State = λ e. reached (seek_index k n st old) new j (k * e) in
      bytes-bare by_way (all-states - i) i
      ∙ ap state_bytes (alike (λ e. uncounted (by_way e)) (λ e. uncounted (kept_state k st new e)) (all-states - i) i
      (λ p l u. reaches k some n st inside old new j h (same (k * (j / k)) (mul-div-le j k)) (k * p) (mul-le-mul_left {m = j / k} {n = p} k (omega arith))))
      ∙ sym (bytes-bare (kept_state k st new) (all-states - i) i)

  rebuilds : rebuilt n (seek_index k n st old) new j ≡ seek_index k n st new
  unfolding rebuilt seek_index
  rebuilds = ap₂ (λ (xs ys : List ℕ). xs ++ ys) stays anew ∙ sym (in_parts new)

-- ---- the calls

-- an index of `bytes` from st, every k-th state kept, that is built into a buffer
module _ (st : State) (inside : In sixteen st.predictor) (bytes : List ℕ) (k : ℕ) (buffer : List ℕ) (done : (index_ima4 st bytes k buffer).number ≡ 0) where
  abbrev n : ℕ
  n = length bytes / 34

  taken : index_refusal (length bytes) k (length buffer) ≡ 0
  unfolding index_ima4
  taken = sym (number_is (index_refusal (length bytes) k (length buffer)) (state_before st bytes n, seek_index k n st bytes) (st, buffer)) ∙ done

  facts : (n ≤ 1024) × (length bytes ≡ 34 * n) × (1 ≤ k) × (k ≤ 64) × (length buffer ≡ index_length k n)
  facts = index-taken (length bytes) k (length buffer) taken

  built : (index_ima4 st bytes k buffer).buffer ≡ seek_index k n st bytes
  unfolding index_ima4
  built = rw taken refl

  -- It is taken with any bytes of as many blocks, at each of them.
  place : (new : List ℕ) → length new ≡ length bytes → (j : ℕ) → j < n → place_refusal (length new) (seek_index k n st bytes) j ≡ 0
  place new e j h =
      let (few, whole, some, most, _) = facts in
      let run : are_run (length bytes) ≡ true = rw (le-leb n 1024 few, eq-eqb (length bytes) (34 * n) whole) refl in
      rw (e, run, is-index k some most n st bytes, lt-ltb j n h) refl

  -- Decoding from block j to the end by way of an index built from that run and start is done,
  module _ (given : State) (j : ℕ) (part : List ℤ) (h : j < n) (p : length part ≡ 64 * (n - j)) where
    abbrev by_way : Outcome State (List ℤ)
    by_way = decode_ima4_from given bytes (index_ima4 st bytes k buffer).buffer j part

    is-done : by_way ≡ finished (decoded_from n (seek_index k n st bytes) bytes j)
    unfolding decode_ima4_from
    is-done =
        let number = from-taken (length bytes) (seek_index k n st bytes) j (length part) (place bytes refl j h) in
        rw (built, number, eq-eqb (length part) (64 * (n - j)) p) refl

    -- and gives the samples that whole decoding gives there, and its end state but for the count.
    pub decodes-from : (whole : List ℤ) → length whole ≡ 64 * n
        → let all = decode_ima4_run st bytes whole in
        outcome by_way.number (uncounted by_way.back) by_way.buffer ≡ outcome 0 (uncounted all.back) (drop (64 * j) all.buffer)
    decodes-from whole w =
        let (few, size, some, most, _) = facts in
        let before = (decoded_run j st bytes).written in
        let r = decoded_from n (seek_index k n st bytes) bytes j in
        let all = in-the-whole k some n st inside bytes j h in
        let there : drop (64 * j) (before ++ r.written) ≡ r.written = drop_at before r.written (64 * j) (samples-before st bytes j (omega (arith, size))) in
        rw (is-done, decode-fits n few st bytes whole size w)
        (ap₂ (outcome 0) (sym (ap (λ (d : Done ℤ). d.end) all)) (sym (ap (λ (d : Done ℤ). drop (64 * j) d.written) all ∙ there)))

    -- Its count begins at block j, whatever k is: it is decoding the rest as a run of its own, from the state before block j with a count of 0.
    pub counts-from : by_way ≡ decode_ima4_run (uncounted (state_before st bytes j)) (drop (34 * j) bytes) part
    counts-from =
        let (few, size, some, most, _) = facts in
        let rest = drop (34 * j) bytes in
        is-done
        ∙ ap finished (seeks k some n st inside bytes j h)
        ∙ sym (decode-fits (n - j) (omega (arith, few)) (uncounted (state_before st bytes j)) rest part (omega (arith, length-drop (34 * j) bytes, size, h)) p)

  -- After blocks from j on are replaced one for one, rebuilding only the states after j equals a fresh build.
  pub reindexes : (new : List ℕ) → length new ≡ length bytes → (j : ℕ) → j < n → take (34 * j) bytes ≡ take (34 * j) new
      → reindex_ima4 new j (index_ima4 st bytes k buffer).buffer ≡ outcome 0 tt (index_ima4 st new k buffer).buffer
  unfolding reindex_ima4 index_ima4
  reindexes new e j h front =
      let (few, size, some, most, _) = facts in
      let same = same-before st bytes new j (omega (arith, size)) (omega (arith, size, e)) front in
      rw (taken, place new e j h, e, taken) (ap (outcome 0 tt) (rebuilds k some n st inside bytes new j h same))

-- The state of decoding from a block is written only: what is given counts where the call is refused.
module _ (given other : State) (bytes index : List ℕ) (j : ℕ) (out : List ℤ) where
  abbrev number : ℕ
  number = from_refusal (length bytes) index j (length out)

  abbrev made : State × List ℤ
  made = let r = decoded_from (length bytes / 34) index bytes j in (r.end, r.written)

  pub from-any : (decode_ima4_from given bytes index j out).number ≡ 0 → decode_ima4_from given bytes index j out ≡ decode_ima4_from other bytes index j out
  unfolding decode_ima4_from
  from-any done = let zero = sym (number_is number made (given, out)) ∙ done in rw zero refl

  pub from-none : ((decode_ima4_from given bytes index j out).number ≡ 0 → ⊥)
      → outcome (decode_ima4_from given bytes index j out).number other (decode_ima4_from given bytes index j out).buffer ≡ decode_ima4_from other bytes index j out
  unfolding decode_ima4_from
  from-none refused = let other-than = ne_eqb number 0 (λ z. refused (number_is number made (given, out) ∙ z)) in rw other-than refl

-- What the calls do to each other's results: a run whose lengths fit is the series of its blocks. Assumes nothing.
use mathlib.Core.Path.{◌≡◌, refl, ap, ◌∙◌}
use mathlib.Core.List.{List, [], ◌++◌}
use Prim.Native.Nat.{ℕ, ◌+◌, ◌*◌, ◌/◌, ◌≤◌}
use native.Mathlib.Omega.{arith}
use lib.IntN.{ℤ}
use lib.ListN.{length, length-append}
use lib.Seq.{take_all}
use borrow.Author.Tests.{le-leb, eq-eqb}
use Rattle.num.specs.Outcome.{Outcome, outcome}
use Rattle.ima_nibble.specs.Step.{State, sixteen, Good}
use Rattle.ima_nibble.specs.Table.{ima_steps}
use Rattle.ima_nibble.specs.Series.{Done, Within, encoded, predictors}
use Rattle.ima_nibble.proofs.Series.{predictors-length}
use Rattle.ima4_block.specs.Block.{decoded_ima4_block, encoded_ima4_block}
use Rattle.ima4_block.specs.Run.{run}
use Rattle.ima4_block.specs.Call.{ima4_outcome, finished, is_run, decode_ima4, encode_ima4, decode_ima4_run, encode_ima4_run}
use Rattle.ima4_block.proofs.Cut.{single, cut, run_length}
use Rattle.ima4_block.proofs.Lengths.{decodes, encodes}
use Rattle.ima4_block.proofs.Round.{encoded-34, run_end, run-back, run-again}

-- ---- lengths that fit

module _ (n : ℕ) (small : n ≤ 1024) where
  fits : {Y : Type 0} (bytes samples : ℕ) → bytes ≡ 34 * n → samples ≡ 64 * n → (f : ℕ → Done Y) (st : State) (out : List Y)
      → ima4_outcome (is_run bytes samples) (f (bytes / 34)) st out ≡ finished (f n)
  fits bytes samples e h f st out =
      let z : bytes / 34 ≡ n = omega arith in
      rw (z, le-leb n 1024 small, eq-eqb bytes (34 * n) e, eq-eqb samples (64 * n) h)

  pub decode-fits : (st : State) (bytes : List ℕ) (out : List ℤ) → length bytes ≡ 34 * n → length out ≡ 64 * n
      → decode_ima4_run st bytes out ≡ finished (run decoded_ima4_block 34 n st bytes)
  unfolding decode_ima4_run
  decode-fits st bytes out e h = fits (length bytes) (length out) e h (λ k. run decoded_ima4_block 34 k st bytes) st out

  encode-fits : (st : State) (xs : List ℤ) (out : List ℕ) → length xs ≡ 64 * n → length out ≡ 34 * n
      → encode_ima4_run st xs out ≡ finished (run encoded_ima4_block 64 n st xs)
  unfolding encode_ima4_run
  encode-fits st xs out e h = fits (length out) (length xs) h e (λ k. run encoded_ima4_block 64 k st xs) st out

-- ---- there and back

module _ (n : ℕ) (small : n ≤ 1024) (st : State) (good : Good sixteen st) (xs : List ℤ) (many : length xs ≡ 64 * n)
    (bytes : List ℕ) (room : length bytes ≡ 34 * n) where
  -- A run encoded from a state whose index is at most 88 decodes, from that same state, to the encoder's predictor at every sample and to its end state;
  pub decodes-back : (out : List ℤ) → length out ≡ 64 * n
      → let e = encode_ima4_run st xs bytes in
      (e.number ≡ 0)
      × (e.back ≡ (encoded sixteen ima_steps st xs).end)
      × (decode_ima4_run st e.buffer out ≡ outcome 0 e.back (predictors sixteen ima_steps st xs))
  decodes-back out h =
      let r = run encoded_ima4_block 64 n st xs in
      let long = run_length encoded_ima4_block 64 34 encoded-34 n xs many st in
      rw (encode-fits n small st xs bytes many room, run_end n xs many st good, decode-fits n small st r.written out long h)
      (refl, refl, ap finished (run-back n xs many st good))

  -- and encoding those samples from that state gives the same bytes.
  pub encodes-again : Within sixteen xs → encode_ima4_run st (predictors sixteen ima_steps st xs) bytes ≡ encode_ima4_run st xs bytes
  encodes-again within =
      let ps = predictors sixteen ima_steps st xs in
      rw (encode-fits n small st xs bytes many room, encode-fits n small st ps bytes (predictors-length sixteen ima_steps st xs ∙ many) room)
      (ap finished (run-again n xs many st good within))

-- ---- a cut

-- over any call that is a run where the lengths fit
module _ {X Y : Type 0} (call : State → List X → List Y → Outcome State (List Y)) (block : State → List X → Done Y) (size wide : ℕ)
    (is : (n : ℕ) → n ≤ 1024 → (st : State) (xs : List X) (out : List Y) → length xs ≡ size * n → length out ≡ wide * n → call st xs out ≡ finished (run block size n st xs)) where
  parted : (n m : ℕ) → n + m ≤ 1024 → (st : State) (xs ys : List X) (os ps : List Y)
      → length xs ≡ size * n → length ys ≡ size * m → length os ≡ wide * n → length ps ≡ wide * m
      → let first = call st xs os in
      let second = call first.back ys ps in
      call st (xs ++ ys) (os ++ ps) ≡ outcome 0 second.back (first.buffer ++ second.buffer)
  parted n m small st xs ys os ps a b c d =
      let r = run block size n st xs in
      rw (
        is n (omega arith) st xs os a c,
        is m (omega arith) r.end ys ps b d,
        is (n + m) small st (xs ++ ys) (os ++ ps) (length-append xs ys ∙ omega arith) (length-append os ps ∙ omega arith),
      )
      (ap finished (cut block size n xs a st m ys))

module _ (n m : ℕ) (small : n + m ≤ 1024) (st : State) where
  -- A cut moves nothing: decoding a run is decoding its first blocks and then the rest from the state handed back, at every block edge;
  pub decoding-cut : (xs ys : List ℕ) (os ps : List ℤ) → length xs ≡ 34 * n → length ys ≡ 34 * m → length os ≡ 64 * n → length ps ≡ 64 * m
      → let first = decode_ima4_run st xs os in
      let second = decode_ima4_run first.back ys ps in
      decode_ima4_run st (xs ++ ys) (os ++ ps) ≡ outcome 0 second.back (first.buffer ++ second.buffer)
  decoding-cut = parted decode_ima4_run decoded_ima4_block 34 64 decode-fits n m small st

  -- the same for encoding.
  pub encoding-cut : (xs ys : List ℤ) (os ps : List ℕ) → length xs ≡ 64 * n → length ys ≡ 64 * m → length os ≡ 34 * n → length ps ≡ 34 * m
      → let first = encode_ima4_run st xs os in
      let second = encode_ima4_run first.back ys ps in
      encode_ima4_run st (xs ++ ys) (os ++ ps) ≡ outcome 0 second.back (first.buffer ++ second.buffer)
  encoding-cut = parted encode_ima4_run encoded_ima4_block 64 34 encode-fits n m small st

-- ---- a single block

-- A single-block call is the run of one block.
pub decodes-one : (st : State) (bytes : List ℕ) (out : List ℤ) → length bytes ≡ 34 → length out ≡ 64 → decode_ima4 st bytes out ≡ decode_ima4_run st bytes out
decodes-one st bytes out e h =
    rw (decodes st bytes out e h, decode-fits 1 (omega arith) st bytes out e h, single decoded_ima4_block 34 st bytes, take_all 34 bytes (omega arith))

pub encodes_one : (st : State) (xs : List ℤ) (out : List ℕ) → length xs ≡ 64 → length out ≡ 34 → encode_ima4 st xs out ≡ encode_ima4_run st xs out
encodes_one st xs out e h =
    rw (encodes st xs out e h, encode-fits 1 (omega arith) st xs out e h, single encoded_ima4_block 64 st xs, take_all 64 xs (omega arith))

-- ---- a run, call by call

-- No blocks: done, state as given.
pub decodes-none : (st : State) → decode_ima4_run st [] [] ≡ outcome 0 st []
unfolding decode_ima4_run run
decodes-none st = refl

pub encodes-none : (st : State) → encode_ima4_run st [] [] ≡ outcome 0 st []
unfolding encode_ima4_run run
encodes-none st = refl

-- A run is the single-block call on its first block, and then the run of the others from the state that it handed back.
module _ (m : ℕ) (small : 1 + m ≤ 1024) (st : State) where
  pub decodes-in-order : (xs ys : List ℕ) (os ps : List ℤ) → length xs ≡ 34 → length ys ≡ 34 * m → length os ≡ 64 → length ps ≡ 64 * m
      → let first = decode_ima4 st xs os in
      let rest = decode_ima4_run first.back ys ps in
      decode_ima4_run st (xs ++ ys) (os ++ ps) ≡ outcome 0 rest.back (first.buffer ++ rest.buffer)
  decodes-in-order xs ys os ps a b c d = rw (decodes-one st xs os a c) (decoding-cut 1 m small st xs ys os ps a b c d)

  pub encodes-in-order : (xs ys : List ℤ) (os ps : List ℕ) → length xs ≡ 64 → length ys ≡ 64 * m → length os ≡ 34 → length ps ≡ 34 * m
      → let first = encode_ima4 st xs os in
      let rest = encode_ima4_run first.back ys ps in
      encode_ima4_run st (xs ++ ys) (os ++ ps) ≡ outcome 0 rest.back (first.buffer ++ rest.buffer)
  encodes-in-order xs ys os ps a b c d = rw (encodes_one st xs os a c) (encoding-cut 1 m small st xs ys os ps a b c d)

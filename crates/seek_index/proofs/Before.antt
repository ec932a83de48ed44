-- The decoder's state before a block: reached from the state before an earlier one, decided by the blocks before it, and of 16 bits. Assumes nothing.
use mathlib.Core.Path.{◌≡◌, sym, ap, ◌∙◌}
use mathlib.Core.List.{List, [], ◌∷◌, append-nil}
use Prim.Native.Nat.{ℕ, zero, suc, ◌+◌, ◌-◌, ◌*◌, ◌/◌, ◌≤◌}
use native.Mathlib.Omega.{arith}
use lib.IntN.{ℤ}
use lib.ListN.{length, get_or, take, drop, length-drop, take-append-drop}
use lib.Seq.{take-take, length-take-le}
use borrow.Table.Steps.{cases}
use Rattle.halves.proofs.Halves.{bits_fit}
use Rattle.ima_nibble.specs.Step.{State, sixteen, In, step_at, stepped}
use Rattle.ima_nibble.specs.Table.{ima_steps}
use Rattle.ima_nibble.specs.Series.{Done, done, after, decoded, nibbles_of}
use Rattle.ima_nibble.proofs.Bounds.{fits_in}
use Rattle.ima_nibble.proofs.Series.{decoded-length, nibbles-length}
use Rattle.ima_nibble.proofs.Reach.{within}
use Rattle.ima4_block.specs.Header.{header_state, keeps, start_state}
use Rattle.ima4_block.specs.Block.{decoded_ima4_block}
use Rattle.ima4_block.specs.Run.{run}
use Rattle.ima4_block.specs.Call.{decoded_run}
use Rattle.ima4_block.proofs.Cut.{nothing, cut, continued, run_length}
use Rattle.seek_index.specs.Record.{state_before}

module _ (st : State) (bytes : List ℕ) where
  pub onward : (a b : ℕ) → a ≤ b → state_before (state_before st bytes a) (drop (34 * a) bytes) (b - a) ≡ state_before st bytes b
  onward a b h =
      let e : a + (b - a) ≡ b = omega arith in
      sym (ap (λ (r : Done ℤ). r.end) (continued decoded_ima4_block 34 a (b - a) st bytes)) ∙ ap (state_before st bytes) e

  -- what the first b blocks decode to
  pub by-its-blocks : (b : ℕ) → 34 * b ≤ length bytes → decoded_run b st bytes ≡ decoded_run b st (take (34 * b) bytes)
  by-its-blocks b h =
      let xs = take (34 * b) bytes in
      let ys = drop (34 * b) bytes in
      let e : b + 0 ≡ b = omega arith in
      let whole = ap (λ (zs : List ℕ). decoded_run (b + 0) st zs) (take-append-drop (34 * b) bytes) in
      let parts = cut decoded_ima4_block 34 b xs (length-take-le (34 * b) bytes h) st 0 ys in
      ap (λ (m : ℕ). decoded_run m st bytes) (sym e) ∙ sym whole ∙ parts
      ∙ ap (after (decoded_run b st xs).written) (nothing decoded_ima4_block 34 (decoded_run b st xs).end ys)
      ∙ ap (λ (zs : List ℤ). done zs (decoded_run b st xs).end) (append-nil (decoded_run b st xs).written)

-- they are 64 samples each
block-samples : (st : State) (bytes : List ℕ) → length bytes ≡ 34 → length (decoded_ima4_block st bytes).written ≡ 64
unfolding decoded_ima4_block
block-samples st bytes e =
    let nibbles = nibbles_of (drop 2 bytes) in
    omega (arith, decoded-length sixteen ima_steps (start_state st (get_or bytes 0 0) (get_or bytes 1 0)) nibbles, nibbles-length (drop 2 bytes), length-drop 2 bytes)

pub samples-before : (st : State) (bytes : List ℕ) (b : ℕ) → 34 * b ≤ length bytes → length (decoded_run b st bytes).written ≡ 64 * b
samples-before st bytes b h =
    ap (λ (r : Done ℤ). length r.written) (by-its-blocks st bytes b h)
    ∙ run_length decoded_ima4_block 34 64 block-samples b (take (34 * b) bytes) (length-take-le (34 * b) bytes h) st

pub same-before : (st : State) (old new : List ℕ) (j : ℕ) → 34 * j ≤ length old → 34 * j ≤ length new → take (34 * j) old ≡ take (34 * j) new
    → (b : ℕ) → b ≤ j → state_before st old b ≡ state_before st new b
same-before st old new j h l same b le =
    let first : (xs : List ℕ) → take (34 * b) (take (34 * j) xs) ≡ take (34 * b) xs = λ xs. take-take (34 * b) (34 * j) xs (omega arith) in
    ap (λ (r : Done ℤ). r.end)
    (by-its-blocks st old b (omega arith)
    ∙ ap (decoded_run b st) (sym (first old) ∙ ap (take (34 * b)) same ∙ first new)
    ∙ sym (by-its-blocks st new b (omega arith)))

-- ---- 16 bits

decoded-in : (st : State) (vs : List ℕ) → In sixteen st.predictor → In sixteen (decoded sixteen ima_steps st vs).end.predictor
unfolding decoded stepped
decoded-in st [] h = h
decoded-in st (v ∷ vs) h =
    let (l, k) = within h.above h.below (step_at sixteen ima_steps st) v in
    decoded-in (stepped sixteen ima_steps st v) vs (record { above = l; below = k })

start-in : (own : State) (high low : ℕ) → In sixteen own.predictor → In sixteen (start_state own high low).predictor
unfolding start_state
start-in own high low h =
    let bits = 256 * high + low in
    cases (keeps own (header_state own bits)) (λ t. rw t h) (λ t. rw t (fits_in (header_state own bits).predictor (bits_fit (128 * (bits / 128)))))

pub before-in : (b : ℕ) (st : State) (bytes : List ℕ) → In sixteen st.predictor → In sixteen (state_before st bytes b).predictor
unfolding run decoded_ima4_block
before-in zero st bytes h = h
before-in (suc b) st bytes h = before-in b _ (drop 34 bytes) (decoded-in _ _ (start-in st (get_or (take 34 bytes) 0 0) (get_or (take 34 bytes) 1 0) h))

-- What one turn of a loop comes to: a block decoded for its state alone, the blocks between two places, and a state written. Assumes nothing.
use mathlib.Core.Path.{◌≡◌, refl, sym, ap, ap₂, ◌∙◌}
use mathlib.Core.List.{List, ◌∷◌, ◌++◌}
use Prim.Native.Nat.{ℕ, suc, ◌+◌, ◌-◌, ◌*◌, ◌/◌, ◌%◌, ◌≤◌, ◌<◌, min}
use native.Mathlib.Omega.{arith}
use lib.IntN.{ℤ}
use lib.ListN.{length, set, take, drop, length-set, length-drop}
use lib.Seq.{length-take-le}
use Rattle.num.specs.Lists.{from}
use Rattle.num.specs.Outcome.{Outcome, outcome}
use Rattle.num.proofs.Lists.{put, whole}
use Rattle.halves.specs.Halves.{bits_of}
use Rattle.ima_nibble.specs.Step.{State}
use Rattle.ima_nibble.specs.Series.{Done}
use Rattle.ima4_block.specs.Call.{decode_ima4_run}
use Rattle.ima4_block.proofs.Theorems.{decode-fits}
use Rattle.seek_index.specs.Record.{state_before, state_bytes}
use Rattle.seek_index.proofs.Before.{onward, by-its-blocks}

-- the blocks from a to b, lent as bytes from s to e
pub by_part : (own : State) (bytes : List ℕ) (a b s e : ℕ) → s ≡ 34 * a → e ≡ 34 * b → a ≤ b → 34 * b ≤ length bytes
    → let part = take (e - s) (drop s bytes) in
    state_before own part (length part / 34) ≡ state_before own (drop (34 * a) bytes) (b - a)
by_part own bytes a b s e s-is e-is h l =
    let here = drop (34 * a) bytes in
    let long : e - s ≡ 34 * (b - a) = omega arith in
    let part-is : take (e - s) (drop s bytes) ≡ take (34 * (b - a)) here = ap₂ (λ (n m : ℕ). take n (drop m bytes)) long s-is in
    let room : 34 * (b - a) ≤ length here = omega (arith, length-drop (34 * a) bytes) in
    let blocks : length (take (34 * (b - a)) here) / 34 ≡ b - a = omega (arith, length-take-le (34 * (b - a)) here room) in
    ap (λ (xs : List ℕ). state_before own xs (length xs / 34)) part-is
    ∙ ap (state_before own (take (34 * (b - a)) here)) blocks
    ∙ sym (ap (λ (r : Done ℤ). r.end) (by-its-blocks own here (b - a) room))

module _ (st : State) (bytes : List ℕ) where
  -- one block, as a run
  pub next-state : (n i : ℕ) (own next : State) (number : ℕ) (out ys : List ℤ)
      → outcome number next ys ≡ decode_ima4_run own (take (34 * i + 34 - 34 * i) (drop (34 * i) bytes)) out
      → length out ≡ 64
      → i < n
      → 34 * n ≤ length bytes
      → own ≡ state_before st bytes i
      → next ≡ state_before st bytes (i + 1)
  next-state n i own next number out ys is o h l own_is =
      let here = drop (34 * i) bytes in
      let one : 34 * i + 34 - 34 * i ≡ 34 * 1 = omega arith in
      let more : i + 1 - i ≡ 1 = omega arith in
      let room : 34 * 1 ≤ length here = omega (arith, length-drop (34 * i) bytes) in
      let block-is = ap (λ (k : ℕ). decode_ima4_run own (take k here) out) one ∙ decode-fits 1 (omega arith) own (take (34 * 1) here) out (length-take-le (34 * 1) here room) o in
      ap (λ (r : Outcome State (List ℤ)). r.back) (is ∙ block-is)
      ∙ sym (ap (λ (r : Done ℤ). r.end) (by-its-blocks own here 1 room))
      ∙ ap (λ (s : State). state_before s here 1) own_is
      ∙ ap (state_before (state_before st bytes i) here) (sym more)
      ∙ onward st bytes i (i + 1) (omega arith)

  -- from the state before block k i to that before block k (i + 1), or behind the run if it ends before
  pub next-kept : (k n i e : ℕ) (own next : State)
      → length bytes ≡ 34 * n
      → k * i < n
      → e ≡ min (34 * (k * i) + 34 * k) (length bytes)
      → own ≡ state_before st bytes (min (k * i) n)
      → let part = take (e - 34 * (k * i)) (drop (34 * (k * i)) bytes) in
      next ≡ state_before own part (length part / 34)
      → next ≡ state_before st bytes (min (k * (i + 1)) n)
  next-kept k n i e own next l h e-is own_is next-is =
      let more : k * (i + 1) ≡ k * i + k = omega arith in
      let first : min (k * i) n ≡ k * i = omega (arith, h) in
      let part = take (e - 34 * (k * i)) (drop (34 * (k * i)) bytes) in
      next-is
      ∙ ap (λ (s : State). state_before s part (length part / 34)) (own_is ∙ ap (state_before st bytes) first)
      ∙ by_part (state_before st bytes (k * i)) bytes (k * i) (min (k * (i + 1)) n) (34 * (k * i)) e refl (omega (arith, e-is, more, l)) (omega (arith, more, h)) (omega (arith, l))
      ∙ onward st bytes (k * i) (min (k * (i + 1)) n) (omega (arith, more, h))

-- i states of m are written, and then come the others
module _ (f : ℕ → State) (m : ℕ) where
  abbrev pub Filled : List ℕ → ℕ → Type 0
  Filled out i = take (3 * i) out ++ state_bytes (from (m - i) i f) ≡ state_bytes (from m 0 f)

  pub none_filled : (out : List ℕ) → Filled out 0
  none_filled out = let e : m - 0 ≡ m = omega arith in rw e refl

  pub all-filled : (out : List ℕ) → length out ≡ 3 * m → Filled out m → out ≡ state_bytes (from m 0 f)
  unfolding from state_bytes
  all-filled out o filled =
      let rest : m - m ≡ 0 = omega arith in
      sym (whole out (3 * m) (omega arith))
      ∙ ap (λ (k : ℕ). take (3 * m) out ++ state_bytes (from k m f)) (sym rest)
      ∙ filled

  pub one-state-more : (i high low index : ℕ) (out : List ℕ) → length out ≡ 3 * m → i < m
      → high ≡ bits_of (f i).predictor / 256 → low ≡ bits_of (f i).predictor % 256 → index ≡ (f i).index
      → Filled out i → Filled (set (set (set out (3 * i) high) (3 * i + 1) low) (3 * i + 2) index) (i + 1)
  unfolding from state_bytes
  one-state-more i high low index out o h high_is low-is index_is upto =
      let rest : m - i ≡ suc (m - suc i) = omega arith in
      let next : i + 1 ≡ suc i = omega arith in
      let more : 3 * suc i ≡ suc (suc (suc (3 * i))) = omega arith in
      let second : 3 * i + 1 ≡ suc (3 * i) = omega arith in
      let third : 3 * i + 2 ≡ suc (suc (3 * i)) = omega arith in
      let others = state_bytes (from (m - suc i) (suc i) f) in
      let out₁ = set out (3 * i) (bits_of (f i).predictor / 256) in
      let out₂ = set out₁ (suc (3 * i)) (bits_of (f i).predictor % 256) in
      let long₁ = length-set out (3 * i) (bits_of (f i).predictor / 256) in
      let long₂ = length-set out₁ (suc (3 * i)) (bits_of (f i).predictor % 256) in
      rw (next, more, second, third, high_is, low-is, index_is)
      (put out₂ (suc (suc (3 * i))) (f i).index others (omega (arith, long₁, long₂))
      ∙ put out₁ (suc (3 * i)) (bits_of (f i).predictor % 256) ((f i).index ∷ others) (omega (arith, long₁))
      ∙ put out (3 * i) (bits_of (f i).predictor / 256) (bits_of (f i).predictor % 256 ∷ (f i).index ∷ others) (omega arith)
      ∙ ap (λ (k : ℕ). take (3 * i) out ++ state_bytes (from k i f)) (sym rest)
      ∙ upto)

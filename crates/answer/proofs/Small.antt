-- A block no longer than a record's has samples for which there is room, and they stand at the start of the array that they were decoded to. Assumes nothing.
use mathlib.Core.Path.{◌≡◌, refl, sym, ap, ◌∙◌}
use mathlib.Core.Bool.{true}
use mathlib.Core.List.{List, ◌++◌}
use Prim.Native.Nat.{ℕ, ◌≤◌, min}
use native.Mathlib.Omega.{arith}
use lib.Dec.{eqb, leb}
use lib.IntN.{ℤ}
use lib.ListN.{length, take, drop, length-append, length-drop}
use lib.Seq.{take_at, length-take-le}
use borrow.Author.Tests.{eq-eqb, le-leb}
use Rattle.std.specs.Prelude.{Result, IsOk, None}
use Rattle.num.specs.Outcome.{outcome}
use Rattle.refusal.specs.declared.Refusal.{Refusal}
use Rattle.refusal.specs.Refusal.{answered}
use Rattle.refusal.proofs.Done.{answered-done, answered-buffer}
use Rattle.ms_block.specs.declared.Reading.TheVariants.{Lenient}
use Rattle.ms_block.specs.Sizes.{samples_of}
use Rattle.ms_block.proofs.Sizes.{shape}
use Rattle.ms_block.specs.Block.{decoded_ms_block, clipped_counts, no_counts}
use Rattle.ms_block.specs.Call.{decode_ms}
use Rattle.ms_repacked.proofs.Settled.{samples-shape}
use Rattle.loss.specs.declared.Loss.{Loss}
use Rattle.loss.specs.Loss.{report, report_in, report_of, distances, loss_report}
use Rattle.answer.specs.Private.{Small}

module _ (c : ℕ) (block : List ℕ) (small : Small c block) where
  pub samples-are : samples_of c (min (length block) 65536) ≡ samples_of c (length block)
  samples-are = let whole : min (length block) 65536 ≡ length block = omega (arith, small.1) in ap (samples_of c) whole

  pub samples-few : samples_of c (length block) ≤ 8185
  samples-few = omega (arith, small.1, (shape c (length block) (samples_of c (length block)) small.0).some)

  -- an array of so many has room for them
  pub room : (m k : ℕ) → m ≡ samples_of c (min (length block) 65536) → k ≡ 8185 → m ≤ k
  room m k m-is k-is = omega (arith, m-is, k-is, samples-are, samples-few)

  decoded-many : length (decoded_ms_block c block) ≡ samples_of c (length block)
  decoded-many = (samples-shape block (shape c (length block) (samples_of c (length block)) small.0)).fits

  module _ (n : ℕ) (answer : Result (List ℕ) Refusal) (xs out : List ℤ) (n-is : n ≡ samples_of c (length block)) (size : length out ≡ 8185)
      (e : answered (λ ns. ns) no_counts answer xs ≡ decode_ms Lenient c block (take n out)) where
    long : length (take n out) ≡ samples_of c (length block)
    long = length-take-le n out (omega (arith, n-is, size, samples-few)) ∙ n-is

    is-decoded : decode_ms Lenient c block (take n out) ≡ outcome 0 (clipped_counts c block) (decoded_ms_block c block)
    unfolding decode_ms
    is-decoded = rw (long, small.0) refl

    pub done : IsOk answer
    done = answered-done (λ (ns : List ℕ). ns) (clipped_counts c block) (decoded_ms_block c block) no_counts answer xs (e ∙ is-decoded)

    -- what was decoded into the first places of an array, and the rest of it
    pub decodes : (length (xs ++ drop n out) ≡ 8185) × (take (samples_of c (length block)) (xs ++ drop n out) ≡ decoded_ms_block c block)
    decodes =
        let xs-are : xs ≡ decoded_ms_block c block = answered-buffer (λ (ns : List ℕ). ns) no_counts answer xs ∙ ap (λ r. r.buffer) (e ∙ is-decoded) in
        let many = ap length xs-are ∙ decoded-many in
        (length-append xs (drop n out) ∙ omega (arith, many, n-is, size, samples-few, length-drop n out), take_at xs (drop n out) (samples_of c (length block)) many ∙ xs-are)

-- The samples of two such blocks are reported on.
pub reported : (m : ℕ) (xs ys : List ℤ) (report_on : Result Loss Refusal) → length xs ≡ m → length ys ≡ m → m ≤ 8185
    → answered report_in (report 0 None 0) report_on tt ≡ loss_report xs ys → IsOk report_on
unfolding loss_report
reported m xs ys report_on x y few is =
    let alike : eqb (length xs) (length ys) ≡ true = eq-eqb (length xs) (length ys) (x ∙ sym y) in
    let within : leb (length xs) 131063 ≡ true = le-leb (length xs) 131063 (omega (arith, x, few)) in
    answered-done report_in (report_of (distances xs ys)) tt (report 0 None 0) report_on tt (is ∙ rw (alike, within) refl)

-- What is read of the bytes that a reader has, and that the answer to it is the answer to them all. Assumes nothing.
use Rattle.std.proofs.Common.{◌≡◌, ℕ, ◌+◌, ◌<◌, ◌≤◌, List, [], ◌++◌, Some, None, IfSome, false, leb, length, take, arith, inl, inr, refl, sym, ap, ◌∙◌, subst, append-nil, length-take-le, take_all, zero-add, drop}
use Rattle.std.proofs.Math.Seq.{take-append_seam}
use Rattle.std.proofs.lemmas.List.{take-append-le}
use Rattle.std.proofs.Math.Nat.{eq-or-lt_of_le}
use Rattle.std.specs.declared.option.Option.{Option}
use Rattle.std.specs.Io.KnownBytes.{Appends, Consumes, IsAtEnd}
use borrow.Author.Tests.{leb-true, leb-false}
use borrow.Table.Steps.{cases}
use Rattle.ms_block.specs.declared.Reading.{Reading}
use Rattle.record.specs.Record.{well_formed}
use Rattle.record.proofs.Formed.{formed}
use Rattle.text.specs.Text.{Stands}
use Rattle.answer.specs.Answer.{answer_to}

-- What is read is the front of it all, as much as fits.
front : (most n : ℕ) (buf rest all : List ℕ) → length buf ≡ most → n ≤ length buf → all ≡ take n buf ++ rest → (n < length buf → rest ≡ []) → take n buf ≡ take most all
front most n buf rest all size within is end =
    let long = length-take-le n buf within in
    let whole : take most (take n buf) ≡ take n buf = take_all most (take n buf) (omega (arith, long)) in
    elim (eq-or-lt_of_le within) [
      | inl full ↦ sym (ap (take most) is ∙ take-append-le most (take n buf) rest (omega (arith, long)) ∙ whole)
      | inr short ↦ sym (ap (take most) (is ∙ ap (λ l. take n buf ++ l) (end short) ∙ append-nil (take n buf)) ∙ whole)
    ]

-- A record has no more than 4,100 bytes, so that 4,101 tell that there are too many.
many : (input : List ℕ) → 4100 < length input → well_formed input ≡ false
many input far = cases (well_formed input) (λ t. let is = formed input t in absurd (omega (arith, is.few, is.whole))) (λ f. f)

far : (reading : Reading) (all : List ℕ) → answer_to reading (take 4101 all) ≡ answer_to reading all
unfolding answer_to
far reading all =
    cases (leb (length all) 4101)
    (λ t. ap (answer_to reading) (take_all 4101 all (leb-true _ _ t)))
    (λ f.
    let long = leb-false (length all) 4101 f in
    let cut = length-take-le 4101 all (omega (arith, long)) in
    rw (many (take 4101 all) (omega (arith, cut)), many all (omega (arith, long))) refl)

-- As much as fits is gone from the bytes that the reader had.
pub reads : (a b : Option (List ℕ)) (n : ℕ) (buf : List ℕ) → length buf ≡ 4101 → n ≤ length buf → Consumes a b (take n buf) → (n < length buf → IsAtEnd b)
    → IfSome a (λ bytes. Consumes a b (take 4101 bytes))
reads None b n buf size within p end = tt
reads (Some all) None n buf size within p end = absurd p
reads (Some all) (Some rest) n buf size within p end = subst (λ l. all ≡ l ++ rest) (front 4101 n buf rest all size within p end) p

-- What is written is the answer to them all.
pub answers : (reading : Reading) (a b c d : Option (List ℕ)) (n : ℕ) (buf text : List ℕ) → length buf ≡ 4101 → n ≤ length buf → Consumes a b (take n buf) → (n < length buf → IsAtEnd b)
    → text ≡ answer_to reading (take n buf) → Appends c d text → IfSome a (λ bytes. Appends c d (answer_to reading bytes))
answers reading None b c d n buf text size within p end is put = tt
answers reading (Some all) None c d n buf text size within p end is put = absurd p
answers reading (Some all) (Some rest) c d n buf text size within p end is put =
    subst (Appends c d) (is ∙ ap (answer_to reading) (front 4101 n buf rest all size within p end) ∙ far reading all) put

-- The text that is put at the start of an array is its first bytes.
pub text_is : (out text buf : List ℕ) (end : ℕ) → Stands out 0 text end buf → take end buf ≡ text
text_is out text buf end is = ap (take end) is.1 ∙ ap (λ n. take n (text ++ drop (0 + length text) out)) (is.0 ∙ zero-add (length text)) ∙ take-append_seam text (drop (0 + length text) out)

-- What the tests of two lengths say where they failed and where they passed. Assumes nothing.
use mathlib.Core.Path.{◌≡◌, refl}
use mathlib.Core.Bool.{Bool, true, false, not, and-eq-true_iff, true≢false, false≢true}
use mathlib.Core.List.{List}
use Prim.Native.Nat.{ℕ, ◌*◌, ◌/◌, ◌≤◌}
use lib.Dec.{eqb, leb}
use lib.IntN.{ℤ}
use lib.ListN.{length}
use borrow.Author.Tests.{eqb-true, leb-true}
use Rattle.ima_nibble.specs.Step.{State}
use Rattle.ima4_block.specs.Block.{decoded_ima4_block, encoded_ima4_block}
use Rattle.ima4_block.specs.Call.{finished, are_blocks, is_run, decode_ima4, encode_ima4}

pub failed : (is : Bool) → not is ≡ true → is ≡ false
failed true t = absurd (false≢true t)
failed false t = refl

pub passed : (is : Bool) → not is ≡ false → is ≡ true
passed true t = refl
passed false t = absurd (true≢false t)

pub blocks-are : (n bytes samples : ℕ) → are_blocks n bytes samples ≡ true → (bytes ≡ 34 * n) × (samples ≡ 64 * n)
blocks-are n bytes samples t =
    let (b, s) = (and-eq-true_iff (eqb bytes (34 * n)) (eqb samples (64 * n))).0 t in
    (eqb-true bytes (34 * n) b, eqb-true samples (64 * n) s)

pub run-are : (bytes samples : ℕ) → is_run bytes samples ≡ true → (bytes / 34 ≤ 1024) × (bytes ≡ 34 * (bytes / 34)) × (samples ≡ 64 * (bytes / 34))
run-are bytes samples t =
    let (few, are) = (and-eq-true_iff (leb (bytes / 34) 1024) (are_blocks (bytes / 34) bytes samples)).0 t in
    let (b, s) = blocks-are (bytes / 34) bytes samples are in
    (leb-true (bytes / 34) 1024 few, b, s)

-- a call on one block
pub decodes : (st : State) (bytes : List ℕ) (out : List ℤ) → length bytes ≡ 34 → length out ≡ 64 → decode_ima4 st bytes out ≡ finished (decoded_ima4_block st bytes)
unfolding decode_ima4
decodes st bytes out b s = rw (b, s) refl

pub encodes : (st : State) (samples : List ℤ) (out : List ℕ) → length samples ≡ 64 → length out ≡ 34 → encode_ima4 st samples out ≡ finished (encoded_ima4_block st samples)
unfolding encode_ima4
encodes st samples out s b = rw (b, s) refl

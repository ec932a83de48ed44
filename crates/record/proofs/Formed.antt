-- What the tests of a record say where they hold, and the place that its block then has. Assumes nothing.
use mathlib.Core.Path.{◌≡◌, refl}
use mathlib.Core.Bool.{true, ◌&&◌, and-eq-true_iff}
use mathlib.Core.List.{List}
use Prim.Native.Nat.{ℕ, ◌+◌, ◌≤◌}
use native.Mathlib.Omega.{arith}
use lib.Dec.{eqb, leb}
use lib.ListN.{length, take, drop, length-drop}
use lib.Seq.{take_at}
use borrow.Author.Tests.{leb-true, eqb-true}
use Rattle.text.specs.Text.{put}
use Rattle.record.specs.Record.{length_of, version_of, block_of, well_formed}

module _ (input : List ℕ) where
  pub record Formed : Type 0 where
    pub some : 2 ≤ length_of input
    pub few : length_of input ≤ 4098
    pub whole : length input ≡ 2 + length_of input
    pub version : version_of input ≡ 1

  pub formed : well_formed input ≡ true → Formed
  unfolding well_formed
  formed t =
      let n = length_of input in
      let (sizes, version) = (and-eq-true_iff (leb 2 n && leb n 4098 && eqb (length input) (2 + n)) (eqb (version_of input) 1)).0 t in
      let (within, whole) = (and-eq-true_iff (leb 2 n && leb n 4098) (eqb (length input) (2 + n))).0 sizes in
      let (some, few) = (and-eq-true_iff (leb 2 n) (leb n 4098)).0 within in
      record { some = leb-true 2 n some; few = leb-true n 4098 few; whole = eqb-true (length input) (2 + n) whole; version = eqb-true (version_of input) 1 version }

  -- it has four bytes
  pub enough : well_formed input ≡ true → 4 ≤ length input
  enough t = let is = formed t in omega (arith, is.some, is.whole)

  -- its block has room in the array, and stands there when it is put
  pub block-few : Formed → length (block_of input) ≤ 4096
  block-few is = omega (arith, length-drop 4 input, is.few, is.whole)

  pub block-taken : (out : List ℕ) → take (length (block_of input)) (put out 0 (block_of input)) ≡ block_of input
  block-taken out = take_at (block_of input) (drop (0 + length (block_of input)) out) (length (block_of input)) refl

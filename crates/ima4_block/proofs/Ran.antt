-- One turn of a run's loop: what is written is the run of the blocks so far, and the state is its end. Assumes nothing.
use mathlib.Core.Path.{◌≡◌, refl, sym, ap, ◌∙◌}
use mathlib.Core.List.{List, ◌++◌}
use Prim.Native.Nat.{ℕ, ◌+◌, ◌-◌, ◌*◌, ◌<◌}
use native.Mathlib.Nat.{mul-le-mul_left}
use native.Mathlib.Omega.{arith}
use lib.ListN.{length, take, drop, length-drop}
use lib.Seq.{length-take-le, take_all, take-append-add, take-append_seam}
use borrow.Rule.Slice.PartMut.{put_mid}
use Rattle.num.specs.Outcome.{Outcome, outcome}
use Rattle.ima_nibble.specs.Step.{State}
use Rattle.ima_nibble.specs.Series.{Done, done, after}
use Rattle.ima4_block.specs.Call.{finished}
use Rattle.ima4_block.specs.Run.{run}
use Rattle.ima4_block.proofs.Cut.{single, continued}

-- by a call that is `block` where it takes its lengths: `size` of what is read, and `width` of what is written
module _ {X Y : Type 0} (block : State → List X → Done Y) (size width : ℕ) (call : State → List X → List Y → Outcome State (List Y))
    (takes : (st : State) (xs : List X) (out : List Y) → length xs ≡ size → length out ≡ width → call st xs out ≡ finished (block st xs)) where
  -- the part for block i of a list that is n of them
  part_length : {Z : Type 0} (wide n i : ℕ) (zs : List Z) → length zs ≡ wide * n → i < n → length (take (wide * i + wide - wide * i) (drop (wide * i) zs)) ≡ wide
  part_length wide n i zs e h =
      let l = mul-le-mul_left {m = i + 1} {n = n} wide (omega arith) in
      let k : wide * i + wide - wide * i ≡ wide = omega arith in
      rw k (length-take-le wide (drop (wide * i) zs) (omega (arith, length-drop (wide * i) zs, l)))

  module _ (st₀ : State) (xs : List X) where
    -- i blocks are read and written, and the state is st
    abbrev pub Ran : State → ℕ → List Y → Type 0
    Ran st i out = done (take (width * i) out) st ≡ run block size i st₀ xs

    pub none : (out : List Y) → Ran st₀ 0 out
    unfolding run
    none out = let e : width * 0 ≡ 0 = omega arith in rw e refl

    pub one_block : (n i : ℕ) (st next : State) (number : ℕ) (out ys : List Y)
        → outcome number next ys ≡ call st (take (size * i + size - size * i) (drop (size * i) xs)) (take (width * i + width - width * i) (drop (width * i) out))
        → length ys ≡ length (take (width * i + width - width * i) (drop (width * i) out))
        → i < n
        → length xs ≡ size * n
        → length out ≡ width * n
        → Ran st i out
        → Ran next (i + 1) (put_mid (width * i) (width * i + width - width * i) out ys)
    one_block n i st next number out ys is same h x o ran =
        let before = take (width * i) out in
        let here = drop (size * i) xs in
        let zs = drop (width * i + width - width * i) (drop (width * i) out) in
        let l = mul-le-mul_left {m = i} {n = n} width (omega arith) in
        let upto : width * (i + 1) ≡ length before + length ys =
        omega (arith, length-take-le (width * i) out (omega (arith, l)), same ∙ part_length width n i out o h) in
        let front = ap (λ k. take k (before ++ (ys ++ zs))) upto ∙ take-append-add before (ys ++ zs) (length ys) ∙ ap (λ r. before ++ r) (take-append_seam ys zs) in
        let whole : size * i + size - size * i ≡ size = omega arith in
        let block-is = is ∙ takes st _ _ (part_length size n i xs x h) (part_length width n i out o h) ∙ ap (λ k. finished (block st (take k here))) whole in
        ap (λ r. done r next) front
        ∙ ap (λ (r : Outcome State (List Y)). after before (done r.buffer r.back)) block-is
        ∙ ap (after before) (sym (single block size st here))
        ∙ ap (λ (r : Done Y). after r.written (run block size 1 r.end here)) ran
        ∙ sym (continued block size i 1 st₀ xs)

    pub ends : (n i : ℕ) (st : State) (out : List Y) → i ≡ n → length out ≡ width * n → Ran st i out → done out st ≡ run block size n st₀ xs
    ends n i st out e o ran = ap (λ r. done r st) (sym (take_all (width * n) out (omega arith))) ∙ (rw e at ran)

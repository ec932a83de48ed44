-- A run of blocks cut at a block's edge, over any block and size. Assumes nothing.
use mathlib.Core.Path.{◌≡◌, refl, ap, ◌∙◌}
use mathlib.Core.List.{List, [], ◌∷◌, ◌++◌, append-nil, append_assoc}
use Prim.Native.Nat.{ℕ, zero, suc, ◌+◌, ◌*◌}
use native.Mathlib.Omega.{arith}
use lib.ListN.{length, take, drop, length-append, length-drop, take-append-drop}
use lib.Seq.{take_at, drop_at, drop-drop, length-take-le}
use Rattle.ima_nibble.specs.Step.{State}
use Rattle.ima_nibble.specs.Series.{Done, done, after}
use Rattle.ima_nibble.proofs.Series.{after-after}
use Rattle.ima4_block.specs.Run.{run}

-- a list of n blocks by its first block and the others
pub blocks : {X : Type 0} (size : ℕ) {P : ℕ → List X → Type 0}
    → P 0 []
    → ((n : ℕ) (xs ys : List X) → length xs ≡ size → P n ys → P (suc n) (xs ++ ys))
    → (n : ℕ) (xs : List X) → length xs ≡ size * n → P n xs
blocks size none more zero [] e = none
blocks size none more zero (x ∷ xs) e = absurd (omega arith)
blocks size none more (suc n) xs e =
    rw (take-append-drop size xs)
    at (more n (take size xs) (drop size xs) (length-take-le size xs (omega arith))
    (blocks size none more n (drop size xs) (length-drop size xs ∙ omega arith)))

module _ {X Y : Type 0} (block : State → List X → Done Y) (size : ℕ) where
  pub nothing : (st : State) (xs : List X) → run block size 0 st xs ≡ done [] st
  unfolding run
  nothing st xs = refl

  pub first : (n : ℕ) (st : State) (xs ys : List X) → length xs ≡ size
      → run block size (suc n) st (xs ++ ys) ≡ after (block st xs).written (run block size n (block st xs).end ys)
  unfolding run
  first n st xs ys e = rw (take_at xs ys size e, drop_at xs ys size e)

  -- A run of one block is the block.
  pub single : (st : State) (xs : List X) → run block size 1 st xs ≡ block st (take size xs)
  unfolding run
  single st xs = let r = block st (take size xs) in ap (λ ys. done ys r.end) (append-nil r.written)

  -- A run is its first blocks, and then the others from the state handed back.
  pub cut : (n : ℕ) (xs : List X) → length xs ≡ size * n → (st : State) (m : ℕ) (ys : List X)
      → run block size (n + m) st (xs ++ ys) ≡ after (run block size n st xs).written (run block size m (run block size n st xs).end ys)
  cut =
      blocks size
      (λ st m ys. let z : 0 + m ≡ m = omega arith in rw (z, nothing st []))
      (λ n xs zs e h st m ys.
      let r = block st xs in
      let q = run block size n r.end zs in
      let z : suc n + m ≡ suc (n + m) = omega arith in
      rw (z, append_assoc xs zs ys, first n st xs zs e, first (n + m) st xs (zs ++ ys) e)
      (ap (after r.written) (h r.end m ys) ∙ after-after r.written q.written (run block size m q.end ys)))

  -- The same of a list that is not cut, and may be longer.
  pub continued : (n m : ℕ) (st : State) (xs : List X)
      → run block size (n + m) st xs ≡ after (run block size n st xs).written (run block size m (run block size n st xs).end (drop (size * n) xs))
  unfolding run
  continued zero m st xs = let e : 0 + m ≡ m = omega arith in let z : size * 0 ≡ 0 = omega arith in rw (e, z)
  continued (suc n) m st xs =
      let r = block st (take size xs) in
      let q = run block size n r.end (drop size xs) in
      let e : suc n + m ≡ suc (n + m) = omega arith in
      let z : size * suc n ≡ size + size * n = omega arith in
      rw (e, z, ← (drop-drop (size * n) size xs))
      (ap (after r.written) (continued n m r.end (drop size xs)) ∙ after-after r.written q.written (run block size m q.end (drop (size * n) (drop size xs))))

  pub run_length : (wide : ℕ) → ((st : State) (xs : List X) → length xs ≡ size → length (block st xs).written ≡ wide)
      → (n : ℕ) (xs : List X) → length xs ≡ size * n → (st : State) → length (run block size n st xs).written ≡ wide * n
  run_length wide h =
      blocks size
      (λ st. rw (nothing st []) (omega arith))
      (λ n xs ys e k st.
      let r = block st xs in
      rw (first n st xs ys e, length-append r.written (run block size n r.end ys).written, h st xs e, k r.end) (omega arith))

-- Nibbles in bytes, at every byte of a series: what stands there, and the state that it leaves, from the state before it. Over any limits and steps. Assumes nothing.
use mathlib.Core.Path.{◌≡◌, refl, ap}
use mathlib.Core.List.{List, [], ◌∷◌}
use Prim.Native.Nat.{ℕ, zero, suc, ◌+◌, ◌*◌, ◌/◌, ◌%◌, ◌<◌}
use native.Mathlib.Omega.{arith}
use lib.IntN.{ℤ, pos}
use lib.ListN.{length, get_or, take}
use Rattle.ima_nibble.specs.Step.{State, Limits, stepped, emitted}
use Rattle.ima_nibble.specs.Series.{decoded, encoded, nibbles_of, packed}

module _ (limits : Limits) (steps : List ℕ) where
  abbrev moved : State → ℕ → State
  moved = stepped limits steps

  abbrev gives : State → ℤ → ℕ
  gives = emitted limits steps

  -- ---- decoding

  -- the state before byte j
  abbrev pub reads : State → List ℕ → ℕ → State
  reads st bs j = (decoded limits steps st (nibbles_of (take j bs))).end

  abbrev samples : State → List ℕ → List ℤ
  samples st bs = (decoded limits steps st (nibbles_of bs)).written

  pub read_low : (j : ℕ) (st : State) (bs : List ℕ) → j < length bs → get_or (samples st bs) (2 * j) (pos 0) ≡ (moved (reads st bs j) (get_or bs j 0 % 16)).predictor
  unfolding decoded nibbles_of
  read_low j st [] h = absurd (omega arith)
  read_low zero st (b ∷ bs) h = refl
  read_low (suc j) st (b ∷ bs) h =
      let e : 2 * suc j ≡ suc (suc (2 * j)) = omega arith in
      rw e (read_low j (moved (moved st (b % 16)) (b / 16)) bs (omega arith))

  pub read-high : (j : ℕ) (st : State) (bs : List ℕ) → j < length bs → get_or (samples st bs) (2 * j + 1) (pos 0) ≡ (moved (moved (reads st bs j) (get_or bs j 0 % 16)) (get_or bs j 0 / 16)).predictor
  unfolding decoded nibbles_of
  read-high j st [] h = absurd (omega arith)
  read-high zero st (b ∷ bs) h = refl
  read-high (suc j) st (b ∷ bs) h =
      let e : 2 * suc j + 1 ≡ suc (suc (2 * j + 1)) = omega arith in
      rw e (read-high j (moved (moved st (b % 16)) (b / 16)) bs (omega arith))

  pub read_next : (j : ℕ) (st : State) (bs : List ℕ) → j < length bs → reads st bs (suc j) ≡ moved (moved (reads st bs j) (get_or bs j 0 % 16)) (get_or bs j 0 / 16)
  unfolding decoded nibbles_of
  read_next j st [] h = absurd (omega arith)
  read_next zero st (b ∷ bs) h = refl
  read_next (suc j) st (b ∷ bs) h = read_next j (moved (moved st (b % 16)) (b / 16)) bs (omega arith)

  -- ---- encoding

  -- the state before the two samples of byte j
  abbrev pub writes : State → List ℤ → ℕ → State
  writes st xs j = (encoded limits steps st (take (2 * j) xs)).end

  abbrev bytes : State → List ℤ → List ℕ
  bytes st xs = packed (encoded limits steps st xs).written

  -- the nibble of a sample, and the state that it leaves
  abbrev pub then : State → ℤ → State
  then st x = moved st (gives st x)

  later : (j : ℕ) (st : State) (x y : ℤ) (xs : List ℤ) → writes st (x ∷ y ∷ xs) (suc j) ≡ writes (then (then st x) y) xs j
  unfolding encoded
  later j st x y xs =
      let e : 2 * suc j ≡ suc (suc (2 * j)) = omega arith in
      ap (λ (n : ℕ). (encoded limits steps st (take n (x ∷ y ∷ xs))).end) e

  pub written_byte : (j : ℕ) (st : State) (xs : List ℤ) → 2 * j + 1 < length xs
      → let s = writes st xs j in
      let x = get_or xs (2 * j) (pos 0) in
      get_or (bytes st xs) j 0 ≡ 16 * gives (then s x) (get_or xs (2 * j + 1) (pos 0)) + gives s x
  unfolding encoded packed
  written_byte j st [] h = absurd (omega arith)
  written_byte j st (x ∷ []) h = absurd (omega arith)
  written_byte zero st (x ∷ y ∷ xs) h = refl
  written_byte (suc j) st (x ∷ y ∷ xs) h =
      let e : 2 * suc j ≡ suc (suc (2 * j)) = omega arith in
      let f : 2 * suc j + 1 ≡ suc (suc (2 * j + 1)) = omega arith in
      rw (later j st x y xs, f, e) (written_byte j (then (then st x) y) xs (omega arith))

  pub written_next : (j : ℕ) (st : State) (xs : List ℤ) → 2 * j + 1 < length xs
      → writes st xs (suc j) ≡ then (then (writes st xs j) (get_or xs (2 * j) (pos 0))) (get_or xs (2 * j + 1) (pos 0))
  unfolding encoded
  written_next j st [] h = absurd (omega arith)
  written_next j st (x ∷ []) h = absurd (omega arith)
  written_next zero st (x ∷ y ∷ xs) h = refl
  written_next (suc j) st (x ∷ y ∷ xs) h =
      let e : 2 * suc j ≡ suc (suc (2 * j)) = omega arith in
      let f : 2 * suc j + 1 ≡ suc (suc (2 * j + 1)) = omega arith in
      rw (later (suc j) st x y xs, later j st x y xs, f, e) (written_next j (then (then st x) y) xs (omega arith))

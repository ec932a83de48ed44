-- The largest miss of a series: what it is of the predictors, and of two parts, over any limits and steps; and how large it can be. Assumes nothing.
use mathlib.Core.Path.{◌≡◌, refl, ap, ◌∙◌}
use mathlib.Core.List.{List, [], ◌∷◌, ◌++◌}
use Prim.Native.Nat.{ℕ, zero, suc, ◌+◌, ◌*◌, ◌≤◌, ◌<◌, max}
use native.Mathlib.Omega.{arith}
use lib.Dec.{leb→le}
use lib.IntN.{ℤ, pos, negsuc, nat_abs}
use lib.ListN.{length, get_or, take, drop, take-append-drop}
use lib.Seq.{drop-cons, take-add}
use lib.Signed.{mag}
use Rattle.num.proofs.Signed.{apart-le}
use Rattle.num.proofs.Within.{mag-clamp}
use Rattle.loss.specs.Loss.{distance, largest}
use Rattle.ima_nibble.specs.Step.{State, state, reloaded, Limits, sixteen, In, lowered, step_at, exact_sum, predicted, stepped, emitted}
use Rattle.ima_nibble.specs.Series.{Within, encoded, predictors}
use Rattle.peaks.specs.Miss.{missed, misses, largest_miss}
use Rattle.ima_nibble.proofs.Bytes.{writes, then}

module _ (limits : Limits) (steps : List ℕ) where
  abbrev miss : State → ℤ → ℕ
  miss st x = nat_abs (missed limits steps st x)

  abbrev top : State → List ℤ → ℕ
  top = largest_miss limits steps

  abbrev next : State → ℤ → State
  next = then limits steps

  -- ---- a series

  pub no-miss : (st : State) → top st [] ≡ 0
  unfolding largest_miss misses largest
  no-miss st = refl

  pub miss-first : (st : State) (x : ℤ) (xs : List ℤ) → top st (x ∷ xs) ≡ max (miss st x) (top (next st x) xs)
  unfolding largest_miss misses largest
  miss-first st x xs = refl

  -- At each place it is how far the encoder's predictor is from the sample: nowhere farther,
  pub miss-each : (st : State) (xs : List ℤ) (i : ℕ) → distance (get_or xs i (pos 0)) (get_or (predictors limits steps st xs) i (pos 0)) ≤ top st xs
  unfolding missed predictors
  miss-each st [] i = omega arith
  miss-each st (x ∷ xs) zero = omega (arith, miss-first st x xs)
  miss-each st (x ∷ xs) (suc i) = omega (arith, miss-first st x xs, miss-each (next st x) xs i)

  -- and no more than that.
  pub miss-at-most : (k : ℕ) (st : State) (xs : List ℤ) → ((i : ℕ) → i < length xs → distance (get_or xs i (pos 0)) (get_or (predictors limits steps st xs) i (pos 0)) ≤ k) → top st xs ≤ k
  unfolding missed predictors
  miss-at-most k st [] h = omega (arith, no-miss st)
  miss-at-most k st (x ∷ xs) h = omega (arith, miss-first st x xs, h 0 (omega arith), miss-at-most k (next st x) xs (λ i l. h (suc i) (omega (arith, l))))

  -- Of two parts it is the larger of theirs, the second from the state that the first left.
  pub miss-append : (st : State) (xs ys : List ℤ) → top st (xs ++ ys) ≡ max (top st xs) (top (encoded limits steps st xs).end ys)
  unfolding encoded
  miss-append st [] ys = omega (arith, no-miss st)
  miss-append st (x ∷ xs) ys = omega (arith, miss-first st x (xs ++ ys), miss-append (next st x) xs ys, miss-first st x xs)

  -- The first of them miss no more than all.
  pub miss-under : (st : State) (k : ℕ) (xs : List ℤ) → top st (take k xs) ≤ top st xs
  miss-under st k xs = omega (arith, miss-append st (take k xs) (drop k xs), ap (top st) (take-append-drop k xs))

  -- Two samples more, those of byte j.
  pub miss-next : (j : ℕ) (st : State) (xs : List ℤ) → 2 * j + 1 < length xs
      → let s = writes limits steps st xs j in
      let x = get_or xs (2 * j) (pos 0) in
      top st (take (2 * suc j) xs) ≡ max (top st (take (2 * j) xs)) (max (miss s x) (miss (next s x) (get_or xs (2 * j + 1) (pos 0))))
  miss-next j st xs h =
      let s = writes limits steps st xs j in
      let x = get_or xs (2 * j) (pos 0) in
      let y = get_or xs (2 * j + 1) (pos 0) in
      let odd : suc (2 * j) ≡ 2 * j + 1 = omega arith in
      let even : 2 * suc j ≡ 2 * j + 2 = omega arith in
      let behind = drop-cons xs (suc (2 * j)) (pos 0) (omega arith) ∙ ap (λ (i : ℕ). get_or xs i (pos 0) ∷ drop (suc (suc (2 * j))) xs) odd in
      let two = ap (take 2) (drop-cons xs (2 * j) (pos 0) (omega arith) ∙ ap (λ (ys : List ℤ). x ∷ ys) behind) in
      let parts = ap (λ (i : ℕ). take i xs) even ∙ take-add (2 * j) 2 xs ∙ ap (λ (ys : List ℤ). take (2 * j) xs ++ ys) two in
      omega (arith, ap (top st) parts, miss-append st (take (2 * j) xs) (x ∷ y ∷ []), miss-first s x (y ∷ []), miss-first (next s x) y [], no-miss (next (next s x) y))

  -- ---- an index above the last, and another count

  -- A step begins with lowering the index, so it does not matter whether that was done before.
  pub miss-lowered : (st : State) (xs : List ℤ) → top (reloaded st st.predictor (lowered limits st.index)) xs ≡ top st xs
  unfolding largest_miss misses missed stepped step_at
  miss-lowered st [] = refl
  miss-lowered st (x ∷ xs) = let e : lowered limits (lowered limits st.index) ≡ lowered limits st.index = omega arith in rw e

  -- The count moves no miss.
  pub miss-bare : (p : ℤ) (i n k : ℕ) (xs : List ℤ) → misses limits steps (state p i n) xs ≡ misses limits steps (state p i k) xs
  unfolding misses missed stepped step_at
  miss-bare p i n k [] = refl
  miss-bare p i n k (x ∷ xs) =
      let s = next (state p i n) x in
      ap (λ (ms : List ℤ). missed limits steps (state p i k) x ∷ ms) (miss-bare s.predictor s.index s.clipped (next (state p i k) x).clipped xs)

-- ---- how large a miss is

mag-in : (x : ℤ) → In sixteen x → mag x ≤ 32767
mag-in (pos n) h = leb→le n 32767 h.below.le
mag-in (negsuc n) h = leb→le n 32767 h.above.le

-- A miss is between -65,535 and 65,535, whatever the state is.
pub missed-at-most : (steps : List ℕ) (st : State) (x : ℤ) → In sixteen x → nat_abs (missed sixteen steps st x) ≤ 65535
unfolding missed stepped predicted
missed-at-most steps st x h =
    let v = emitted sixteen steps st x in
    omega (arith, apart-le x (stepped sixteen steps st v).predictor, mag-in x h, mag-clamp 32767 (exact_sum (step_at sixteen steps st) st.predictor v))

-- So the largest one of samples of 16 bits is at most 65,535.
pub largest-at-most : (steps : List ℕ) (st : State) (xs : List ℤ) → Within sixteen xs → largest_miss sixteen steps st xs ≤ 65535
largest-at-most steps st [] h = omega (arith, no-miss sixteen steps st)
largest-at-most steps st (x ∷ xs) (h, k) =
    omega (arith, miss-first sixteen steps st x xs, missed-at-most steps st x h, largest-at-most steps (then sixteen steps st x) xs k)

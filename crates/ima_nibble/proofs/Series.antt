-- Nibbles one after another, over any limits and steps: each law is the law of one nibble, from the state that the nibbles before it left.
-- Assumes nothing.
use mathlib.Core.Path.{◌≡◌, refl, sym, ap, ◌∙◌}
use mathlib.Core.List.{List, [], ◌∷◌, ◌++◌, append_assoc}
use Prim.Native.Nat.{ℕ, suc, ◌+◌, ◌-◌, ◌*◌, ◌/◌, ◌%◌, ◌≤◌, ◌<◌}
use native.Mathlib.Omega.{arith}
use lib.IntN.{ℤ}
use lib.ListN.{length}
use Rattle.num.specs.Lists.{All}
use Rattle.ima_nibble.specs.Step.{State, state, reloaded, uncounted, Limits, In, Good, lowered, step_at, stepped, emitted}
use Rattle.ima_nibble.specs.Series.{Done, done, after, bare, Within, decoded, encoded, predictors, nibbles_of, packed}
use Rattle.ima_nibble.proofs.Bounds.{nibble-lt, held}
use Rattle.ima_nibble.proofs.Reach.{within, settles}

pub after-after : {Y : Type 0} (ys zs : List Y) (r : Done Y) → after ys (after zs r) ≡ after (ys ++ zs) r
after-after ys zs r = ap (λ ws. done ws r.end) (sym (append_assoc ys zs r.written))

-- What is the same for any count is the same for two states that are alike but for it.
pub recounted : {X : Type 0} (f : State → X) → ((p : ℤ) (i n k : ℕ) → f (state p i n) ≡ f (state p i k)) → (st other : State) → uncounted st ≡ uncounted other → f st ≡ f other
recounted f same st other e =
    same st.predictor st.index st.clipped other.clipped ∙ ap (λ (s : State). f (reloaded other s.predictor s.index)) e

-- ---- nibbles in bytes

pub packed-length : (n : ℕ) (vs : List ℕ) → length vs ≡ 2 * n → length (packed vs) ≡ n
unfolding packed
packed-length n [] e = omega arith
packed-length n (v ∷ []) e = absurd (omega arith)
packed-length n (v ∷ w ∷ vs) e = let h = packed-length (n - 1) vs (omega arith) in omega arith

pub nibbles-length : (bs : List ℕ) → length (nibbles_of bs) ≡ 2 * length bs
unfolding nibbles_of
nibbles-length [] = refl
nibbles-length (b ∷ bs) = let h = nibbles-length bs in omega arith

-- Nibbles of four bits, an even number of them, are read back from their bytes.
pub unpacked : (n : ℕ) (vs : List ℕ) → length vs ≡ 2 * n → All (λ v. v < 16) vs → nibbles_of (packed vs) ≡ vs
unfolding nibbles_of packed
unpacked n [] e h = refl
unpacked n (v ∷ []) e h = absurd (omega arith)
unpacked n (v ∷ w ∷ vs) e (a, (b, h)) =
    let low : (16 * w + v) % 16 ≡ v = omega arith in
    let high : (16 * w + v) / 16 ≡ w = omega arith in
    rw (low, high) (ap (λ us. v ∷ w ∷ us) (unpacked (n - 1) vs (omega arith) h))

module _ (limits : Limits) (steps : List ℕ) where
  abbrev dec : State → List ℕ → Done ℤ
  dec = decoded limits steps

  abbrev enc : State → List ℤ → Done ℕ
  enc = encoded limits steps

  abbrev preds : State → List ℤ → List ℤ
  preds = predictors limits steps

  abbrev next : State → ℤ → State
  next st x = stepped limits steps st (emitted limits steps st x)

  -- ---- as many, and in two parts

  pub decoded-length : (st : State) (vs : List ℕ) → length (dec st vs).written ≡ length vs
  unfolding decoded
  decoded-length st [] = refl
  decoded-length st (v ∷ vs) = ap suc (decoded-length (stepped limits steps st v) vs)

  pub encoded-length : (st : State) (xs : List ℤ) → length (enc st xs).written ≡ length xs
  unfolding encoded
  encoded-length st [] = refl
  encoded-length st (x ∷ xs) = ap suc (encoded-length (next st x) xs)

  pub encoded-append : (st : State) (xs ys : List ℤ) → enc st (xs ++ ys) ≡ after (enc st xs).written (enc (enc st xs).end ys)
  unfolding encoded
  encoded-append st [] ys = refl
  encoded-append st (x ∷ xs) ys = ap (after (emitted limits steps st x ∷ [])) (encoded-append (next st x) xs ys)

  pub predictors-append : (st : State) (xs ys : List ℤ) → preds st (xs ++ ys) ≡ preds st xs ++ preds (enc st xs).end ys
  unfolding encoded predictors
  predictors-append st [] ys = refl
  predictors-append st (x ∷ xs) ys = ap (λ zs. (next st x).predictor ∷ zs) (predictors-append (next st x) xs ys)

  -- ---- an index above the last

  -- A step begins with lowering the index, so it does not matter whether that was done before.
  pub decoded-lowered : (st : State) (vs : List ℕ) → (dec (reloaded st st.predictor (lowered limits st.index)) vs).written ≡ (dec st vs).written
  unfolding decoded stepped step_at
  decoded-lowered st [] = refl
  decoded-lowered st (v ∷ vs) = let e : lowered limits (lowered limits st.index) ≡ lowered limits st.index = omega arith in rw e

  -- ---- another count

  -- The count moves no sample, no nibble, and neither of the other two numbers.
  pub decoded-bare : (p : ℤ) (i n k : ℕ) (vs : List ℕ) → bare (dec (state p i n) vs) ≡ bare (dec (state p i k) vs)
  unfolding decoded stepped step_at
  decoded-bare p i n k [] = refl
  decoded-bare p i n k (v ∷ vs) =
      let s = stepped limits steps (state p i n) v in
      ap (after (s.predictor ∷ [])) (decoded-bare s.predictor s.index s.clipped (stepped limits steps (state p i k) v).clipped vs)

  pub encoded-bare : (p : ℤ) (i n k : ℕ) (xs : List ℤ) → bare (enc (state p i n) xs) ≡ bare (enc (state p i k) xs)
  unfolding encoded stepped step_at
  encoded-bare p i n k [] = refl
  encoded-bare p i n k (x ∷ xs) =
      let s = next (state p i n) x in
      ap (after (emitted limits steps (state p i k) x ∷ [])) (encoded-bare s.predictor s.index s.clipped (next (state p i k) x).clipped xs)

  -- ---- there and back

  -- What was encoded decodes to the encoder's predictor at every sample, and to its end state.
  pub decodes-back : (st : State) (xs : List ℤ) → dec st (enc st xs).written ≡ done (preds st xs) (enc st xs).end
  unfolding decoded encoded predictors
  decodes-back st [] = refl
  decodes-back st (x ∷ xs) = ap (after ((next st x).predictor ∷ [])) (decodes-back (next st x) xs)

  pub predictors-length : (st : State) (xs : List ℤ) → length (preds st xs) ≡ length xs
  predictors-length st xs =
      ap (λ r. length r.written) (sym (decodes-back st xs)) ∙ decoded-length st (enc st xs).written ∙ encoded-length st xs

  nibbles-lt : (st : State) (xs : List ℤ) → All (λ v. v < 16) (enc st xs).written
  unfolding encoded
  nibbles-lt st [] = tt
  nibbles-lt st (x ∷ xs) = (nibble-lt (step_at limits steps st) st.predictor x, nibbles-lt (next st x) xs)

  pub encoded-unpacked : (n : ℕ) (st : State) (xs : List ℤ) → length xs ≡ 2 * n → nibbles_of (packed (enc st xs).written) ≡ (enc st xs).written
  encoded-unpacked n st xs e = unpacked n (enc st xs).written (encoded-length st xs ∙ e) (nibbles-lt st xs)

  -- ---- within the limits

  stepped-good : (st : State) (v : ℕ) → In limits st.predictor → Good limits (stepped limits steps st v)
  unfolding stepped
  stepped-good st v h =
      let (l, k) = within h.above h.below (step_at limits steps st) v in
      record {
        inside = record { above = l; below = k };
        held = held limits steps st v;
      }

  pub end-good : (st : State) (xs : List ℤ) → Good limits st → Good limits (enc st xs).end
  unfolding encoded
  end-good st [] h = h
  end-good st (x ∷ xs) h = end-good (next st x) xs (stepped-good st (emitted limits steps st x) h.inside)

  pub decoded-within : (st : State) (vs : List ℕ) → In limits st.predictor → Within limits (dec st vs).written
  unfolding decoded
  decoded-within st [] h = tt
  decoded-within st (v ∷ vs) h = let next = (stepped-good st v h).inside in (next, decoded-within (stepped limits steps st v) vs next)

  -- Where every step is at least 4, the predictors are encoded as the samples were.
  pub encodes-again : ((st : State) → 4 ≤ step_at limits steps st) → (st : State) (xs : List ℤ) → In limits st.predictor → Within limits xs → enc st (preds st xs) ≡ enc st xs
  unfolding encoded predictors stepped
  encodes-again big st [] p h = refl
  encodes-again big st (x ∷ xs) p (k, h) =
      let e = settles limits.lowest limits.highest (step_at limits steps st) (big st) st.predictor p.above p.below x k.above k.below in
      rw e (ap (after (emitted limits steps st x ∷ [])) (encodes-again big (next st x) xs (stepped-good st (emitted limits steps st x) p).inside h))

-- The largest miss in the midst of a block and of a run: what was seen so far and what the rest misses is what all samples miss. Assumes nothing.
use mathlib.Core.Path.{◌≡◌, refl, sym, ap, ap₂, ◌∙◌}
use mathlib.Core.List.{List, [], ◌∷◌, ◌++◌}
use Prim.Native.Nat.{ℕ, suc, ◌+◌, ◌-◌, ◌*◌, ◌/◌, ◌≤◌, ◌<◌, max}
use native.Mathlib.Nat.{mul-le-mul_left}
use native.Mathlib.Omega.{arith}
use lib.IntN.{ℤ, pos}
use lib.ListN.{length, get_or, take, drop, length-append, length-drop, take-append-drop, drop_of_length-le}
use lib.Seq.{drop-cons, drop-drop, length-take-le}
use borrow.Author.Tests.{le-leb, eq-eqb}
use Rattle.num.specs.Outcome.{outcome}
use Rattle.loss.specs.Loss.{distance}
use Rattle.ima_nibble.specs.Step.{State, sixteen, lowered, step_at, stepped, emitted}
use Rattle.ima_nibble.specs.Table.{ima_steps}
use Rattle.ima_nibble.specs.Series.{encoded}
use Rattle.peaks.specs.Miss.{missed, largest_miss}
use Rattle.ima_nibble.proofs.Series.{encoded-append}
use Rattle.peaks.proofs.Nibbles.{no-miss, miss-first, miss-append}
use Rattle.ima4_block.specs.Block.{encoded_ima4_block}
use Rattle.ima4_block.specs.Call.{encode_ima4, encode_ima4_run}
use Rattle.peaks.specs.Miss.{encode_ima4_miss, encode_ima4_run_miss}
use Rattle.ima4_block.specs.Run.{run}
use Rattle.ima4_block.proofs.Cut.{blocks, nothing, first}
use Rattle.ima4_block.proofs.Lengths.{encodes}

-- `miss` is what was seen before the k-th sample, `st` the state there, and `all` the largest miss of all samples
abbrev pub SoFar : List ℕ → List ℤ → ℕ → ℕ → State → ℕ → Type 0
SoFar steps samples all k st miss = max miss (largest_miss sixteen steps st (drop k samples)) ≡ all

module _ (steps : List ℕ) (samples : List ℤ) (all : ℕ) where
  -- a sample more
  pub one-missed : (k : ℕ) (st next : State) (v miss more : ℕ) → k < length samples
      → let x = get_or samples k (pos 0) in
      v ≡ emitted sixteen steps st x
      → next ≡ stepped sixteen steps st v
      → more ≡ max miss (distance x next.predictor)
      → SoFar steps samples all k st miss
      → SoFar steps samples all (suc k) next more
  unfolding missed
  one-missed k st next v miss more h v-is next-is more-is seen =
      let x = get_or samples k (pos 0) in
      let next-own = next-is ∙ ap (stepped sixteen steps st) v-is in
      let more-own = more-is ∙ ap (λ (s : State). max miss (distance x s.predictor)) next-own in
      let rest = ap (λ (s : State). largest_miss sixteen steps s (drop (suc k) samples)) next-own in
      let here = ap (largest_miss sixteen steps st) (drop-cons samples k (pos 0) h) ∙ miss-first sixteen steps st x (drop (suc k) samples) in
      omega (arith, seen, here, rest, more-own)

  -- behind the last
  pub all-missed : (k : ℕ) (st : State) (miss : ℕ) → length samples ≤ k → SoFar steps samples all k st miss → miss ≡ all
  all-missed k st miss h seen =
      omega (arith, seen, ap (largest_miss sixteen steps st) (drop_of_length-le samples {i = k} h), no-miss sixteen steps st)

-- ---- a block more

-- the part for block i of a list that is n of them
part_length : {Z : Type 0} (wide n i : ℕ) (zs : List Z) → length zs ≡ wide * n → i < n → length (take (wide * i + wide - wide * i) (drop (wide * i) zs)) ≡ wide
part_length wide n i zs e h =
    let l = mul-le-mul_left {m = i + 1} {n = n} wide (omega arith) in
    let k : wide * i + wide - wide * i ≡ wide = omega arith in
    rw k (length-take-le wide (drop (wide * i) zs) (omega (arith, length-drop (wide * i) zs, l)))

-- a step lowers the index by itself, so behind a sample it does not matter that the block lowered it
lowered-end : (st : State) (xs : List ℤ) → 0 < length xs → (encoded_ima4_block st xs).end ≡ (encoded sixteen ima_steps st xs).end
unfolding encoded_ima4_block encoded stepped step_at
lowered-end st [] h = absurd (omega (arith, h))
lowered-end st (x ∷ xs) h = let e : lowered sixteen (lowered sixteen st.index) ≡ lowered sixteen st.index = omega arith in rw e

-- by the call on it, whose parts are those for block i
pub block-missed : (samples : List ℤ) (all n i : ℕ) (out ys : List ℕ) (st next : State) (number block miss more : ℕ)
    → let xs = take (64 * i + 64 - 64 * i) (drop (64 * i) samples) in
    let bs = take (34 * i + 34 - 34 * i) (drop (34 * i) out) in
    outcome number next ys ≡ encode_ima4 st xs bs
    → block ≡ encode_ima4_miss st xs bs
    → more ≡ max miss block
    → i < n
    → length samples ≡ 64 * n
    → length out ≡ 34 * n
    → SoFar ima_steps samples all (64 * i) st miss
    → SoFar ima_steps samples all (64 * (i + 1)) next more
unfolding encode_ima4_miss
block-missed samples all n i out ys st next number block miss more is block-is more-is h x o seen =
    let here = drop (64 * i) samples in
    let xs = take (64 * i + 64 - 64 * i) here in
    let long = part_length 64 n i samples x h in
    let room = part_length 34 n i out o h in
    let next-own = ap (λ r. r.back) (is ∙ encodes st xs _ long room) ∙ lowered-end st xs (omega (arith, long)) in
    let block-own : block ≡ largest_miss sixteen ima_steps st xs = block-is ∙ rw (long, room) refl in
    let width : 64 * i + 64 - 64 * i ≡ 64 = omega arith in
    let more_of : 64 * i + 64 ≡ 64 * (i + 1) = omega arith in
    let behind : drop (64 * i + 64 - 64 * i) here ≡ drop (64 * (i + 1)) samples = rw width (drop-drop 64 (64 * i) samples ∙ ap (λ (k : ℕ). drop k samples) more_of) in
    let rest = ap₂ (largest_miss sixteen ima_steps) (sym next-own) behind in
    let parts = ap (largest_miss sixteen ima_steps st) (sym (take-append-drop (64 * i + 64 - 64 * i) here)) ∙ miss-append sixteen ima_steps st xs (drop (64 * i + 64 - 64 * i) here) in
    omega (arith, seen, parts, rest, block-own, more-is)

-- ---- the calls

-- where the lengths fit
pub run-miss : (n : ℕ) → n ≤ 1024 → (st : State) (xs : List ℤ) (out : List ℕ) → length xs ≡ 64 * n → length out ≡ 34 * n
    → encode_ima4_run_miss st xs out ≡ largest_miss sixteen ima_steps st xs
unfolding encode_ima4_run_miss
run-miss n small st xs out x o =
    let z : length out / 34 ≡ n = omega (arith, o) in
    rw (z, le-leb n 1024 small, eq-eqb (length out) (34 * n) o, eq-eqb (length xs) (64 * n) x) refl

-- the state behind a run, from any state
run_ends : (n : ℕ) (xs : List ℤ) → length xs ≡ 64 * n → (st : State) → (run encoded_ima4_block 64 n st xs).end ≡ (encoded sixteen ima_steps st xs).end
unfolding encoded
run_ends =
    blocks 64
    (λ st. rw (nothing encoded_ima4_block 64 st []))
    (λ n xs ys e h st.
    rw (first encoded_ima4_block 64 n st xs ys e, lowered-end st xs (omega (arith, e)), encoded-append sixteen ima_steps st xs ys) (h (encoded sixteen ima_steps st xs).end))

encoded_back : (n : ℕ) → n ≤ 1024 → (st : State) (xs : List ℤ) (out : List ℕ) → length xs ≡ 64 * n → length out ≡ 34 * n
    → (encode_ima4_run st xs out).back ≡ (encoded sixteen ima_steps st xs).end
unfolding encode_ima4_run
encoded_back n small st xs out x o =
    let z : length out / 34 ≡ n = omega (arith, o) in
    rw (z, le-leb n 1024 small, eq-eqb (length out) (34 * n) o, eq-eqb (length xs) (64 * n) x) (run_ends n xs x st)

-- A cut moves no miss: that of a run is the larger of its parts', the second from the state that the first handed back.
pub miss-cut : (n m : ℕ) → n + m ≤ 1024 → (st : State) (xs ys : List ℤ) (os ps : List ℕ)
    → length xs ≡ 64 * n → length ys ≡ 64 * m → length os ≡ 34 * n → length ps ≡ 34 * m
    → encode_ima4_run_miss st (xs ++ ys) (os ++ ps) ≡ max (encode_ima4_run_miss st xs os) (encode_ima4_run_miss (encode_ima4_run st xs os).back ys ps)
miss-cut n m small st xs ys os ps a b c d =
    let back = encoded_back n (omega (arith, small)) st xs os a c in
    run-miss (n + m) small st (xs ++ ys) (os ++ ps) (length-append xs ys ∙ omega (arith, a, b)) (length-append os ps ∙ omega (arith, c, d))
    ∙ miss-append sixteen ima_steps st xs ys
    ∙ ap₂ max (sym (run-miss n (omega (arith, small)) st xs os a c))
    (sym (run-miss m (omega (arith, small)) _ ys ps b d ∙ ap (λ s. largest_miss sixteen ima_steps s ys) back))

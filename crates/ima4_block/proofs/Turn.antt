-- One turn of a block's loop: what is written, then what the rest of the block comes to, is what the whole block comes to. Assumes nothing.
use mathlib.Core.Path.{◌≡◌, refl, sym, ap, ◌∙◌}
use mathlib.Core.List.{List, [], ◌∷◌}
use Prim.Native.Nat.{ℕ, suc, ◌+◌, ◌*◌, ◌/◌, ◌%◌, ◌<◌, ◌≤◌}
use native.Mathlib.Omega.{arith}
use lib.IntN.{ℤ, pos}
use lib.ListN.{length, get_or, set, take, drop, length-set, drop_of_length-le}
use lib.Seq.{drop-cons}
use Rattle.num.proofs.Lists.{put, whole}
use Rattle.ima_nibble.specs.Step.{State, sixteen, stepped, emitted}
use Rattle.ima_nibble.specs.Series.{Done, done, after, decoded, encoded, nibbles_of, packed}

-- one place is written
put_one : {Y : Type 0} (out : List Y) (q : ℕ) (y : Y) (r : Done Y) → q < length out → after (take (suc q) (set out q y)) r ≡ after (take q out) (after (y ∷ []) r)
put_one out q y r h = ap (λ ys. done ys r.end) (put out q y r.written h)

-- all are written
pub all : {Y : Type 0} (out : List Y) (n : ℕ) (st : State) → length out ≤ n → after (take n out) (done [] st) ≡ done out st
all out n st h = ap (λ ys. done ys st) (whole out n h)

module _ (steps : List ℕ) where
  -- what a block's bytes from its k-th on decode to
  abbrev pub samples_from : ℕ → State → List ℕ → Done ℤ
  samples_from k st bytes = decoded sixteen steps st (nibbles_of (drop (k + 2) bytes))

  -- a byte is two nibbles, and so two samples
  pub two-samples : (st first second : State) (bytes : List ℕ) (out : List ℤ) (k : ℕ)
      → first ≡ stepped sixteen steps st (get_or bytes (k + 2) 0 % 16)
      → second ≡ stepped sixteen steps first (get_or bytes (k + 2) 0 / 16)
      → k + 2 < length bytes
      → 2 * k + 1 < length out
      → after (take (2 * (k + 1)) (set (set out (2 * k) first.predictor) (2 * k + 1) second.predictor)) (samples_from (k + 1) second bytes)
      ≡ after (take (2 * k) out) (samples_from k st bytes)
  unfolding decoded nibbles_of
  two-samples st first second bytes out k low high h l =
      let b = get_or bytes (k + 2) 0 in
      let more : 2 * (k + 1) ≡ suc (suc (2 * k)) = omega arith in
      let odd : 2 * k + 1 ≡ suc (2 * k) = omega arith in
      let next : k + 1 + 2 ≡ suc (k + 2) = omega arith in
      let a = stepped sixteen steps st (b % 16) in
      let c = stepped sixteen steps a (b / 16) in
      let rest = decoded sixteen steps c (nibbles_of (drop (suc (k + 2)) bytes)) in
      rw (more, odd, next, high, low)
      (put_one (set out (2 * k) a.predictor) (suc (2 * k)) c.predictor rest (omega (arith, length-set out (2 * k) a.predictor))
      ∙ put_one out (2 * k) a.predictor (after (c.predictor ∷ []) rest) (omega arith)
      ∙ ap (λ (bs : List ℕ). after (take (2 * k) out) (decoded sixteen steps st (nibbles_of bs))) (sym (drop-cons bytes (k + 2) 0 h)))

  -- behind a block's last byte
  pub no-samples : (st : State) (bytes : List ℕ) → length bytes ≡ 34 → samples_from 32 st bytes ≡ done [] st
  unfolding decoded nibbles_of
  no-samples st bytes e = rw (drop_of_length-le bytes {i = 34} (omega arith)) refl

  -- what a block's samples from the 2k-th on are encoded to
  abbrev pub bytes_from : ℕ → State → List ℤ → Done ℕ
  bytes_from k st samples = let r = encoded sixteen steps st (drop (2 * k) samples) in done (packed r.written) r.end

  -- two samples are two nibbles, and so a byte
  pub one_byte : (st first second : State) (samples : List ℤ) (out : List ℕ) (k v w : ℕ)
      → v ≡ emitted sixteen steps st (get_or samples (2 * k) (pos 0))
      → first ≡ stepped sixteen steps st v
      → w ≡ emitted sixteen steps first (get_or samples (2 * k + 1) (pos 0))
      → second ≡ stepped sixteen steps first w
      → 2 * k + 1 < length samples
      → k + 2 < length out
      → after (take (k + 1 + 2) (set out (k + 2) (16 * w + v))) (bytes_from (k + 1) second samples) ≡ after (take (k + 2) out) (bytes_from k st samples)
  unfolding encoded packed
  one_byte st first second samples out k v w low moved high moved₂ h l =
      let even : 2 * (k + 1) ≡ suc (suc (2 * k)) = omega arith in
      let odd : 2 * k + 1 ≡ suc (2 * k) = omega arith in
      let next : k + 1 + 2 ≡ suc (k + 2) = omega arith in
      let x = get_or samples (2 * k) (pos 0) in
      let y = get_or samples (suc (2 * k)) (pos 0) in
      let v' = emitted sixteen steps st x in
      let a = stepped sixteen steps st v' in
      let w' = emitted sixteen steps a y in
      let rest = encoded sixteen steps (stepped sixteen steps a w') (drop (suc (suc (2 * k))) samples) in
      let two = drop-cons samples (2 * k) (pos 0) (omega arith) ∙ ap (λ (xs : List ℤ). x ∷ xs) (drop-cons samples (suc (2 * k)) (pos 0) (omega arith)) in
      rw (even, next, moved₂, high, moved, low, odd)
      (put_one out (k + 2) (16 * w' + v') (done (packed rest.written) rest.end) l
      ∙ ap (λ (xs : List ℤ). after (take (k + 2) out) (let r = encoded sixteen steps st xs in done (packed r.written) r.end)) (sym two))

  -- behind the last two
  pub no_bytes : (st : State) (samples : List ℤ) → length samples ≡ 64 → bytes_from 32 st samples ≡ done [] st
  unfolding encoded packed
  no_bytes st samples e = rw (drop_of_length-le samples {i = 64} (omega arith)) refl

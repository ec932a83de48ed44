-- Nibbles one after another, each from the state that the one before it left, and the bytes that hold them. Assumes nothing.
use Rattle.std.specs.Prelude.{List, [], ◌∷◌, ◌++◌, ℕ, ◌+◌, ◌*◌, ◌/◌, ◌%◌, ℤ}
use Rattle.num.specs.Lists.{All}
use Rattle.ima_nibble.specs.Step.{State, uncounted, Limits, In, stepped, emitted}

-- What is written, and the state that is handed back.
pub record Done (Y : Type 0) : Type 0 where
  pub written : List Y
  pub end : State

abbrev pub done : {Y : Type 0} → List Y → State → Done Y
done ys st = record { written = ys; end = st }

-- The same behind what was written before.
abbrev pub after : {Y : Type 0} → List Y → Done Y → Done Y
after ys r = done (ys ++ r.written) r.end

-- The same but for the count.
abbrev pub bare : {Y : Type 0} → Done Y → Done Y
bare r = done r.written (uncounted r.end)

-- Each nibble gives a sample, the new predictor.
unfoldable pub decoded : Limits → List ℕ → State → List ℕ → Done ℤ
decoded limits steps st [] = done [] st
decoded limits steps st (v ∷ vs) = let next = stepped limits steps st v in after (next.predictor ∷ []) (decoded limits steps next vs)

-- Each sample gives a nibble, and the state moves as in decoding.
unfoldable pub encoded : Limits → List ℕ → State → List ℤ → Done ℕ
encoded limits steps st [] = done [] st
encoded limits steps st (x ∷ xs) = let v = emitted limits steps st x in after (v ∷ []) (encoded limits steps (stepped limits steps st v) xs)

-- The encoder's predictor at every sample.
unfoldable pub predictors : Limits → List ℕ → State → List ℤ → List ℤ
predictors limits steps st [] = []
predictors limits steps st (x ∷ xs) = let next = stepped limits steps st (emitted limits steps st x) in next.predictor ∷ predictors limits steps next xs

-- Samples within the limits.
abbrev pub Within : Limits → List ℤ → Type 0
Within limits xs = All (In limits) xs

-- The nibbles of bytes, low half first.
unfoldable pub nibbles_of : List ℕ → List ℕ
nibbles_of [] = []
nibbles_of (b ∷ bs) = b % 16 ∷ b / 16 ∷ nibbles_of bs

-- The bytes of nibbles, two a byte. A last one alone would be the low half.
unfoldable pub packed : List ℕ → List ℕ
packed [] = []
packed (v ∷ []) = v ∷ []
packed (v ∷ w ∷ vs) = (16 * w + v) ∷ packed vs

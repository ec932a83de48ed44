-- What private functions promise of a nibble's change, and of two sums, one behind the other. Assumes nothing.
use Rattle.std.specs.Prelude.{◌≡◌, Bool, cond, ℕ, ℤ, pos, negsuc, neg_ℤ, ◌+ℤ◌}
use Rattle.num.specs.Clamp.{clamp, outside}
use Rattle.ima_nibble.specs.Step.{bit, d, tallied}

-- What a nibble adds to a predictor: d, or d negated.
abbrev pub change : ℕ → ℕ → ℤ
change s v = cond (bit 8 v) (neg_ℤ (pos (d s v))) (pos (d s v))

abbrev pub held : ℤ → ℤ
held x = clamp (negsuc 32767) (pos 32767) x

abbrev pub leaves : ℤ → Bool
leaves x = outside (negsuc 32767) (pos 32767) x

-- Where the first comes to, where x brings that to, and the count behind both.
abbrev pub HeldTwice : ℤ → ℤ → ℕ → ℤ → ℤ → ℕ → Type 0
HeldTwice sum x n first second count =
    (first ≡ held sum)
    × (second ≡ held (held sum +ℤ x))
    × (count ≡ tallied 4294967295 (leaves (held sum +ℤ x)) (tallied 4294967295 (leaves sum) n))

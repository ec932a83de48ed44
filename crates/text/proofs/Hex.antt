-- Bytes in hex have two digits each: how long they are, and the two behind those of the bytes before. Assumes nothing.
use mathlib.Core.Path.{◌≡◌, refl, ap}
use mathlib.Core.List.{List, [], ◌∷◌, ◌++◌}
use Prim.Native.Nat.{ℕ, ◌+◌, ◌*◌, ◌/◌, ◌%◌, ◌<◌}
use native.Mathlib.Omega.{arith}
use native.Mathlib.Numerals.{add-one}
use lib.ListN.{length, get_or, take}
use lib.Seq.{take-suc}
use Rattle.text.specs.Text.{digit, hex}

pub hex-length : (bytes : List ℕ) → length (hex bytes) ≡ 2 * length bytes
unfolding hex
hex-length [] = refl
hex-length (b ∷ bytes) = omega (arith, hex-length bytes)

hex-one : (bytes : List ℕ) (b : ℕ) → hex (bytes ++ (b ∷ [])) ≡ hex bytes ++ (digit (b / 16) ∷ (digit (b % 16) ∷ []))
unfolding hex
hex-one [] b = refl
hex-one (a ∷ bytes) b = ap (λ (ds : List ℕ). digit (a / 16) ∷ (digit (a % 16) ∷ ds)) (hex-one bytes b)

pub hex-more : (bytes : List ℕ) (i high low : ℕ)
    → i < length bytes
    → high ≡ digit (get_or bytes i 0 / 16)
    → low ≡ digit (get_or bytes i 0 % 16)
    → hex (take (i + 1) bytes) ≡ hex (take i bytes) ++ (high ∷ (low ∷ []))
hex-more bytes i high low h high-is low-is = rw (add-one i, take-suc bytes i 0 h, high-is, low-is) (hex-one (take i bytes) (get_or bytes i 0))

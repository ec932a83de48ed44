-- What a program prints, byte by byte, and how it comes to stand in a buffer. Assumes nothing.
use Rattle.std.specs.Prelude.{◌≡◌, Bool, cond, List, [] as nothing, ◌∷◌ as ◌then◌, ◌++◌, ℕ, zero, suc, ◌+◌, ◌-◌, ◌/◌, ◌%◌, ltb, leb, length, take, drop}
use Prim.Native.Char.{code}
use Prim.Native.String.{String, [], ◌∷◌}
use Rattle.text.specs.declared.Sheet.{Sheet}

-- The bytes of a text.
abbrev pub ascii : String → List ℕ
ascii [] = nothing
ascii (c ∷ s) = code c then ascii s

-- A digit below 16: `0` to `9`, then `A` to `F`.
abbrev pub digit : ℕ → ℕ
digit d = cond (ltb d 10) (48 + d) (55 + d)

-- Bytes in upper-case hex.
unfoldable pub hex : List ℕ → List ℕ
hex nothing = nothing
hex (b then bs) = digit (b / 16) then (digit (b % 16) then hex bs)

-- A number in decimal, with no zeros in front; of one with more digits than `most`, the last ones.
unfoldable pub decimal_in : ℕ → ℕ → List ℕ
decimal_in zero n = nothing
decimal_in (suc most) n = cond (ltb n 10) nothing (decimal_in most (n / 10)) ++ (digit (n % 10) then nothing)

-- A number n has no more than n + 1 digits.
unfoldable pub decimal : ℕ → List ℕ
decimal n = decimal_in (suc n) n

-- Lines end in one newline.
abbrev pub line : List ℕ → List ℕ
line text = text ++ ascii "\n"

-- A buffer with a text put at a place of it, and what stood before and behind left as it was.
abbrev pub put : List ℕ → ℕ → List ℕ → List ℕ
put out at text = take at out ++ (text ++ drop (at + length text) out)

-- A text has room from a place on if there are bytes enough. One that does not is not put: the buffer stays as it was,
abbrev pub has_room : List ℕ → ℕ → List ℕ → Bool
has_room out at text = leb (length text) (length out - at)

unfoldable pub put_in : List ℕ → ℕ → List ℕ → List ℕ
put_in out at text = cond (has_room out at text) (put out at text) out

-- and so does the place, which is behind the text otherwise.
unfoldable pub place_after : List ℕ → ℕ → List ℕ → ℕ
place_after out at text = cond (has_room out at text) (at + length text) at

-- A text that was put at a place, and the place behind it.
abbrev pub Stands : List ℕ → ℕ → List ℕ → ℕ → List ℕ → Type 0
Stands out at text place buffer = (place ≡ at + length text) × (buffer ≡ put out at text)

-- Text put on a sheet: the buffer is the same one, and the text is put in it at the place of the sheet.
abbrev pub Puts : List ℕ → Sheet → Sheet → Type 0
Puts text old new = (new.out.ghost_name ≡ old.out.ghost_name) × (new.at ≡ place_after old.out.now old.at text) × (new.out.now ≡ put_in old.out.now old.at text)

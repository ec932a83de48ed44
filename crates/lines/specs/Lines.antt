-- The lines that a program prints. Assumes nothing.
use Rattle.std.specs.Prelude.{List, ◌++◌, Option, None, Some, ℕ}
use Rattle.loss.specs.Loss.{Report}
use Rattle.text.specs.Text.{ascii, decimal, line}

-- It prints `refused N`;
abbrev pub refusal_line : ℕ → List ℕ
refusal_line number = line (ascii "refused " ++ decimal number)

-- or `same` if no byte changed;
abbrev pub same_line : List ℕ
same_line = line (ascii "same")

-- or else `changed C first F peak P`, F being `-` if none differ.
abbrev pub place_text : Option ℕ → List ℕ
place_text None = ascii "-"
place_text (Some k) = decimal k

abbrev pub change_line : Report (Option ℕ) → List ℕ
change_line r = line (ascii "changed " ++ decimal r.count ++ ascii " first " ++ place_text r.first ++ ascii " peak " ++ decimal r.peak)

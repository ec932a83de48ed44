-- Complemented and not negated, -4 belongs to the mu-law code 0x7f. Assumes nothing.
use mathlib.Core.Path.{◌≡◌, refl}
use lib.IntN.{negsuc}
use Rattle.num.specs.Bits.{digits_in, bit_length}
use Rattle.g711.specs.Law.{mu_law, segment, four_bits, code_of}

pub minus-four : code_of mu_law (negsuc 3) ≡ 0x7f
unfolding code_of segment four_bits bit_length digits_in
minus-four = refl

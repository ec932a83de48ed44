-- The nibble and the next state are the encoder's, and each has its place in the number. Assumes nothing.
use Rattle.std.proofs.Common.{arith}
use Rattle.std.proofs.lemmas.Int.{to_z-of_z}
use Rattle.ima_nibble.proofs.Bounds.{narrow-is}
use Rattle.sweep.specs.Answers.{answer_of}
use Rattle.sweep.proofs.answer_of.Goals as goal

pub returns : goal.returns
unfolding answer_of
returns c = grind (arith, to_z-of_z, narrow-is)

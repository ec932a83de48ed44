-- A state of the code as one of the definitions, the zero state, and equality. Assumes nothing.
use Rattle.std.specs.Prelude.{Bool, false, ◌&&◌, eqb, ℤ, pos, negsuc}
use Rattle.adpcm_ima.specs.declared.AdpcmImaState.{AdpcmImaState}
use Rattle.ima_nibble.specs.Step.{State}

abbrev pub state_of : AdpcmImaState → State
state_of s = record { predictor = s.predictor; index = s.step_index; clipped = s.clipped }

abbrev pub zeroed : AdpcmImaState
zeroed = record { predictor = pos 0; step_index = 0; clipped = 0 }

-- Equality, by field.
abbrev pub same_z : ℤ → ℤ → Bool
same_z (pos a) (pos b) = eqb a b
same_z (pos a) (negsuc b) = false
same_z (negsuc a) (pos b) = false
same_z (negsuc a) (negsuc b) = eqb a b

abbrev pub same_state : State → State → Bool
same_state s t = same_z s.predictor t.predictor && eqb s.index t.index && eqb s.clipped t.clipped

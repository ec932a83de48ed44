-- A wide state of the code as one of the definitions, and the zero state. Assumes nothing.
use Rattle.std.specs.Prelude.{pos}
use Rattle.ima_nibble.specs.Step.{State}
use Rattle.ima_step.specs.declared.Wide.{Wide}

abbrev pub wide_of : Wide → State
wide_of w = record { predictor = w.predictor; index = w.index; clipped = w.clipped }

abbrev pub zero_wide : Wide
zero_wide = record { predictor = pos 0; index = 0; clipped = 0 }

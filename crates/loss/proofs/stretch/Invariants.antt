-- Each turn keeps what one place more shows. Assumes nothing.
use Rattle.std.proofs.Common.{◌≤◌}
use Rattle.loss.specs.Loss.{distances}
use Rattle.loss.specs.Private.{rest}
use Rattle.loss.proofs.Kept.{Kept}
use Rattle.loss.proofs.stretch.Given as goal

abbrev pub invariant-loop-i : goal.invariant-loop-i
invariant-loop-i l = record { kept : Kept (distances l.before l.after) (rest l.before l.after l.i) l.count l.largest; few : l.count ≤ l.i }

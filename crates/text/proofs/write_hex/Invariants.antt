-- The digits of the bytes so far stand at the front. Assumes nothing.
use Rattle.std.proofs.Common.{◌≡◌, ◌*◌, take}
use Rattle.text.specs.Text.{hex}
use Rattle.text.proofs.write_hex.Given as goal

abbrev pub invariant-loop-k : goal.invariant-loop-k
invariant-loop-k l = take (2 * l.k) l.digits ≡ hex (take l.k l.bytes)

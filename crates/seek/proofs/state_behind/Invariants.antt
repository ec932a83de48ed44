-- `next` is the state before block `i`.
use Rattle.std.proofs.Common.{◌≡◌}
use Rattle.adpcm_ima.specs.View.{state_of}
use Rattle.seek_index.specs.Record.{state_before}
use Rattle.seek.proofs.state_behind.Given as goal

abbrev pub invariant-loop-i : goal.invariant-loop-i
invariant-loop-i l = state_of l.next ≡ state_before (state_of l.fn.state) l.buf l.i

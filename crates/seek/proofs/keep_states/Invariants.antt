-- The states so far are written, and the one before the next block that has one kept is in `next`.
use Rattle.std.proofs.Common.{◌≡◌, ◌*◌, ◌/◌, length, min}
use Rattle.adpcm_ima.specs.View.{state_of}
use Rattle.seek_index.specs.Record.{state_before, states_kept}
use Rattle.seek_index.proofs.Turn.{Filled}
use Rattle.seek.proofs.keep_states.Given as goal

abbrev pub invariant-loop-i : goal.invariant-loop-i
invariant-loop-i l = record {
  filled : Filled (λ e. state_before (state_of l.fn.state) l.buf (l.k * e)) l.m l.out l.i;
  before : state_of l.next ≡ state_before (state_of l.fn.state) l.buf (min (l.k * l.i) (length l.buf / 34));
  size : length l.out ≡ 3 * l.m;
  many : l.m ≡ states_kept l.k (length l.buf / 34);
}

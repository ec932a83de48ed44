-- The bytes before the place are written, and each channel's state is behind its own of them; within a channel's bytes that channel's state is in `wide`.
use Rattle.std.proofs.Common.{◌≡◌, map, length, ◌<◌}
use Rattle.std.proofs.Math.ListN.{set}
use Rattle.adpcm_ima.specs.View.{state_of}
use Rattle.ima_step.specs.View.{wide_of}
use Rattle.ms_block.specs.Sizes.{most}
use Rattle.ms_block.proofs.Walk.{Groups, Channels, Bytes}
use Rattle.ms_encode.proofs.Write.{Upto}
use Rattle.ms_encode.proofs.groups.Given as goal

abbrev pub invariant-loop-i : goal.invariant-loop-i
invariant-loop-i l = record {
  written : Upto l.c l.samples (map state_of l.fn.starts) l.i l.out_buf (set (map state_of l.states) l.ch (wide_of l.wide));
  walk : Bytes l.c l.n l.g l.ch l.at l.end l.i;
  some : length l.states ≡ most;
  low : l.wide.index < 256;
}

abbrev pub invariant-loop-ch : goal.invariant-loop-ch
invariant-loop-ch l = record {
  written : Upto l.c l.samples (map state_of l.fn.starts) l.at l.out_buf (map state_of l.states);
  walk : Channels l.c l.n l.g l.ch l.at;
  some : length l.states ≡ most;
}

abbrev pub invariant-block : goal.invariant-block
invariant-block l = record {
  written : Upto l.c l.samples (map state_of l.fn.starts) l.at l.out_buf (map state_of l.states);
  walk : Groups l.c l.n l.g-iterator.start l.at;
  some : length l.states ≡ most;
}

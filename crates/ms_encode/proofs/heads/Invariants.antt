-- The headers of the channels so far are written, and their predictors set.
use Rattle.std.proofs.Common.{◌≡◌, map, length}
use Rattle.adpcm_ima.specs.View.{state_of}
use Rattle.ms_block.specs.Sizes.{most}
use Rattle.ms_block.proofs.Sizes.{Shape}
use Rattle.ms_encode.proofs.Write.{Begun}
use Rattle.ms_encode.proofs.heads.Given as goal

abbrev pub invariant-loop-ch : goal.invariant-loop-ch
invariant-loop-ch l = record {
  written : Begun l.c l.samples (map state_of l.fn.given) l.ch l.out_buf (map state_of l.states);
  shape : Shape l.c (length l.initial.out_buf) (length l.samples);
  some : length l.states ≡ most;
}

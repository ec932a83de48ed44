-- The headers of the channels before ch are read.
use Rattle.std.proofs.Common.{◌≡◌, map, length}
use Rattle.ima_step.specs.View.{wide_of}
use Rattle.ms_block.specs.Sizes.{most}
use Rattle.ms_block.proofs.Sizes.{Shape}
use Rattle.ms_decode.specs.Private.{Headed}
use Rattle.ms_decode.proofs.heads.Given as goal

abbrev pub invariant-loop-ch : goal.invariant-loop-ch
invariant-loop-ch l = record {
  headed : Headed l.c l.buf l.ch l.out_samples (map wide_of l.wides);
  shape : Shape l.c (length l.buf) (length l.initial.out_samples);
  size : length l.wides ≡ most;
}

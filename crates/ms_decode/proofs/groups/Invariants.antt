-- Between the bytes of a channel, between the channels of a group and between the groups: what stands before the place is decoded.
use Rattle.std.proofs.Common.{◌≡◌, map, length, set}
use Rattle.ima_step.specs.View.{wide_of}
use Rattle.ms_block.specs.Sizes.{most}
use Rattle.ms_block.proofs.Walk.{Groups, Channels, Bytes}
use Rattle.ms_decode.proofs.Read.{Upto}
use Rattle.ms_decode.proofs.groups.Given as goal

abbrev pub invariant-loop-i : goal.invariant-loop-i
invariant-loop-i l = record {
  upto : Upto l.c l.buf l.i l.out_samples (set (map wide_of l.wides) l.ch (wide_of l.wide));
  place : Bytes l.c l.n l.g l.ch l.at l.end l.i;
  size : length l.wides ≡ most;
}

abbrev pub invariant-loop-ch : goal.invariant-loop-ch
invariant-loop-ch l = record {
  upto : Upto l.c l.buf l.at l.out_samples (map wide_of l.wides);
  place : Channels l.c l.n l.g l.ch l.at;
  size : length l.wides ≡ most;
}

abbrev pub invariant-block : goal.invariant-block
invariant-block l = record {
  upto : Upto l.c l.buf l.at l.out_samples (map wide_of l.wides);
  place : Groups l.c l.n l.g-iterator.start l.at;
  size : length l.wides ≡ most;
}

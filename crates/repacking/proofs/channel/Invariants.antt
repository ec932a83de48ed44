-- Each byte before this one is read by one state and written by another.
use Rattle.ima_step.specs.View.{wide_of}
use Rattle.ms_repacked.proofs.Midway.{Midway}
use Rattle.repacking.proofs.channel.Given as goal

abbrev pub invariant-loop-d : goal.invariant-loop-d
invariant-loop-d l = record {
  midway : Midway l.c l.block l.ch l.d l.out (wide_of l.reads) (wide_of l.writes);
}

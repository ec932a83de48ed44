-- All channels before this one are written.
use Rattle.ms_repacked.specs.Private.{Upto}
use Rattle.repacking.proofs.repack_adpcm_ima_ms.Given as goal

abbrev pub invariant-loop-ch : goal.invariant-loop-ch
invariant-loop-ch l = Upto l.c l.block l.ch 0 l.out

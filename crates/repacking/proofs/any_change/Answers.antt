-- Two blocks differ where they are not one list. Assumes nothing.
use Rattle.std.proofs.Common.{◌∙◌}
use Rattle.ms_repacked.proofs.Unlike.{differ}
use Rattle.repacking.proofs.any_change.Goals as goal

pub returns : goal.returns
returns c = c.ne.ensures ∙ differ _ _ c.requires

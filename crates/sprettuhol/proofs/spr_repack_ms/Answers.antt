-- What is told of the block repacked is stored.
use Rattle.ms_block.specs.declared.Reading.TheVariants.{Strict}
use Rattle.sprettuhol.proofs.Told.{told-change}
use Rattle.sprettuhol.proofs.spr_repack_ms.Goals as goal

pub returns : goal.returns
returns c = told-change Strict _ _ _ _ _ _ _ _ _ c.repack_adpcm_ima_ms-change.ensures c.as_number.ensures c.tell.ensures

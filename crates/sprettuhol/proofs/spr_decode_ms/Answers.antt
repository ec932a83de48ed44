-- The counts of the block decoded are stored.
use Rattle.ms_block.specs.declared.Reading.TheVariants.{Strict}
use Rattle.sprettuhol.proofs.Told.{told-counts}
use Rattle.sprettuhol.proofs.spr_decode_ms.Goals as goal

pub returns : goal.returns
returns c = told-counts Strict _ _ _ _ _ _ _ _ c.decode_adpcm_ima_ms-counts.ensures c.tell.ensures

-- The counts of the block decoded are stored.
use Rattle.ms_block.specs.declared.Reading.TheVariants.{Lenient}
use Rattle.sprettuhol.proofs.Told.{told-counts}
use Rattle.sprettuhol.proofs.spr_decode_ms_lenient.Goals as goal

pub returns : goal.returns
returns c = told-counts Lenient _ _ _ _ _ _ _ _ c.decode_adpcm_ima_ms-counts.ensures c.tell.ensures

-- The table is the list of the law's samples, by one equation that is computed over all 256. Assumes nothing.
use Rattle.std.proofs.Common.{refl, rules}
use Rattle.num.specs.Lists.{from}
use Rattle.g711.specs.declared.ulaw.TheConstants.{ULAW_VALUES}
use Rattle.g711.specs.Law.{mu_law, sample_of}
use Rattle.g711.proofs.Read.{read}
use Rattle.g711.proofs.ulaw.decode_ulaw.Goals as goal

pub returns : goal.returns
unfolding from sample_of
returns c = read mu_law ULAW_VALUES c.args.encoded (search rules) (search rules) refl

-- The table is the list of the law's samples, by one equation that is computed over all 256. Assumes nothing.
use Rattle.std.proofs.Common.{refl, rules}
use Rattle.num.specs.Lists.{from}
use Rattle.g711.specs.declared.alaw.TheConstants.{ALAW_VALUES}
use Rattle.g711.specs.Law.{a_law, sample_of}
use Rattle.g711.proofs.Read.{read}
use Rattle.g711.proofs.alaw.decode_alaw.Goals as goal

pub returns : goal.returns
unfolding from sample_of
returns c = read a_law ALAW_VALUES c.args.encoded (search rules) (search rules) refl

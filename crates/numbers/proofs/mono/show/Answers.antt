use Rattle.std.proofs.Common.{rules}
use Rattle.numbers.proofs.Done.{mono_decoded, mono_repacked}
use Rattle.numbers.proofs.mono.show.Goals as goal

pub unwrap-requires : goal.unwrap-requires
unwrap-requires g c = search (rules, mono_decoded)

pub unwrap-changed-requires : goal.unwrap-changed-requires
unwrap-changed-requires g c = search (rules, mono_repacked)

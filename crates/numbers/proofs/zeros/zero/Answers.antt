use Rattle.std.proofs.Common.{rules}
use Rattle.numbers.proofs.Done.{decoded}
use Rattle.numbers.proofs.zeros.zero.Goals as goal

pub unwrap-requires : goal.unwrap-requires
unwrap-requires g c = search (rules, decoded)

use Rattle.std.proofs.Common.{rules}
use Rattle.demo.proofs.Done.{decoded}
use Rattle.demo.proofs.cut.decode_apart.Goals as goal

pub unwrap-state-requires : goal.unwrap-state-requires
unwrap-state-requires g c = search (rules, decoded 1)

pub unwrap-requires : goal.unwrap-requires
unwrap-requires g c = search (rules, decoded 1)

pub unwrap-requires-2 : goal.unwrap-requires-2
unwrap-requires-2 g c = search (rules, decoded 1)

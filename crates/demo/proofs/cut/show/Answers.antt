use Rattle.std.proofs.Common.{rules}
use Rattle.demo.proofs.Done.{encoded, decoded}
use Rattle.demo.proofs.cut.show.Goals as goal

pub unwrap-requires : goal.unwrap-requires
unwrap-requires g c = search (rules, encoded)

pub unwrap-requires-2 : goal.unwrap-requires-2
unwrap-requires-2 g c = search (rules, decoded 2)

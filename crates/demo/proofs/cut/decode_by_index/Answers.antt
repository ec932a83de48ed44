use Rattle.std.proofs.Common.{rules}
use Rattle.demo.proofs.Done.{index-done, by_index}
use Rattle.demo.proofs.cut.decode_by_index.Goals as goal

pub unwrap-requires : goal.unwrap-requires
unwrap-requires g c = search (rules, index-done)

pub unwrap-requires-2 : goal.unwrap-requires-2
unwrap-requires-2 g c = search (rules, by_index)

-- Repacking over C: whether any byte changed is a number, which a refusal leaves as it was. Assumes nothing.
use Rattle.std.specs.Prelude.{Bool, cond, List, ℕ}
use Rattle.num.specs.Outcome.{Outcome, outcome_by}
use Rattle.ms_block.specs.declared.Reading.{Reading}
use Rattle.ms_repacked.specs.Repack.{repack_ms}

-- 1 for a block that changed, 0 for one that is the same.
abbrev pub number_of : Bool → ℕ
number_of changed = cond changed 1 0

unfoldable pub repack_call : Reading → ℕ → List ℕ → List ℕ → ℕ → Outcome ℕ (List ℕ)
repack_call reading c block out given = let r = repack_ms reading c block out in outcome_by r.number (number_of r.back, r.buffer) (given, out)

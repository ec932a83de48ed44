-- Decoding MS blocks over C: the counts are numbers that the caller lends, which a refusal leaves as they were. Assumes nothing.
use Rattle.std.specs.Prelude.{List, ℕ, ℤ}
use Rattle.num.specs.Outcome.{Outcome, outcome_by}
use Rattle.ms_block.specs.declared.Reading.{Reading}
use Rattle.ms_block.specs.Call.{decode_ms}

unfoldable pub decode_call : Reading → ℕ → List ℕ → List ℤ → List ℕ → Outcome (List ℕ) (List ℤ)
decode_call reading c block out given = let r = decode_ms reading c block out in outcome_by r.number (r.back, r.buffer) (given, out)

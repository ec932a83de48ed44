-- What the encoder answers, as one number, for every sample from one state. Assumes nothing.
use Rattle.std.specs.Prelude.{cond, List, ℕ, ◌+◌, ◌*◌, eqb, ℤ, pos, nat_abs, ◌+ℤ◌, length}
use Rattle.std.proofs.Math.IntN.{sub_ℕ}
use Rattle.num.specs.Lists.{from}
use Rattle.num.specs.Outcome.{Outcome, outcome_by}
use Rattle.ima_nibble.specs.Step.{State, sixteen, stepped, emitted}
use Rattle.ima_nibble.specs.Table.{ima_steps}

-- The nibble in the lowest byte, the next index in the byte above it, the next predictor and 32768 in the two above that.
abbrev pub answer_number : ℕ → State → ℕ
answer_number v next = v + 256 * next.index + 65536 * nat_abs (next.predictor +ℤ pos 32768)

unfoldable pub answer_of : List ℕ → State → ℤ → ℕ
answer_of steps st x = let v = emitted sixteen steps st x in answer_number v (stepped sixteen steps st v)

-- The answers to -32768, -32767 and so on to 32767.
abbrev pub answers_of : State → List ℕ
answers_of st = from 65536 0 (λ k. answer_of ima_steps st (sub_ℕ k 32768))

-- A buffer of another length is refused by 2, and left as it is.
abbrev pub sweep_call : State → List ℕ → Outcome Unit (List ℕ)
sweep_call st out = outcome_by (cond (eqb (length out) 65536) 0 2) (tt, answers_of st) (tt, out)

-- What a call tells beside its buffer, over C: it is stored in a place that the caller lends. Assumes nothing.
use Rattle.std.specs.Prelude.{ℕ, Result, Ok, Err}
use Rattle.refusal.specs.declared.Refusal.{Refusal}
use Rattle.refusal.specs.Refusal.{refusal_number}

-- What a call tells, seen through a view.
abbrev pub seen : {Told Stored : Type 0} → (Told → Stored) → Result Told Refusal → Result Stored Refusal
seen view (Ok told) = Ok (view told)
seen view (Err refusal) = Err refusal

-- Where the call is done, 0 and what it tells; and where it is refused, its number and what was there.
abbrev pub stored : {Stored : Type 0} → Stored → Result Stored Refusal → ℕ × Stored
stored given (Ok told) = (0, told)
stored given (Err refusal) = (refusal_number refusal, given)

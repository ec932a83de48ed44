-- Why a call refuses, as the number that callers hear. Assumes nothing.
use Rattle.std.specs.Prelude.{ℕ, Result, Ok, Err}
use Rattle.num.specs.Outcome.{Outcome, outcome}
use Rattle.refusal.specs.declared.Refusal.{Refusal}
use Rattle.refusal.specs.declared.Refusal.TheVariants.{Channels, Lengths, Blocks, Record, Index, StepIndex}
use Rattle.refusal.specs.declared.Refused.{Refused}

-- The number of each case: 1 for a channel number, 2 for lengths of MS or of the report, 3 for those of ima4, 4 for a record, 5 for an index, and 8 for a
-- step index above 88.
abbrev pub refusal_number : Refusal → ℕ
refusal_number Channels = 1
refusal_number Lengths = 2
refusal_number Blocks = 3
refusal_number Record = 4
refusal_number Index = 5
refusal_number StepIndex = 8

-- A test comes to 0 where it passes.
abbrev pub number_in : {X : Type 0} → Result X Refusal → ℕ
number_in (Ok x) = 0
number_in (Err refusal) = refusal_number refusal

-- What callers hear of a call that hands back what it was given by value. Done: 0, and what comes back, as `view` sees it. Refused: the number, and what
-- was given.
abbrev pub hears : {X Back : Type 0} → (X → Back) → Result X (Refused X) → ℕ × Back
hears view (Ok x) = (0, view x)
hears view (Err refused) = (refusal_number refused.refusal, view refused.given)

-- What such a call comes to, with what its buffer holds at the end.
abbrev pub handed : {X Back Buffer : Type 0} → (X → Back) → Result X (Refused X) → Buffer → Outcome Back Buffer
handed view answer buffer = outcome (hears view answer).0 (hears view answer).1 buffer

-- The same of a call that was given nothing by value. `none` stands for what comes back where it is refused.
abbrev pub answered : {X Back Buffer : Type 0} → (X → Back) → Back → Result X Refusal → Buffer → Outcome Back Buffer
answered view none (Ok x) buffer = outcome 0 (view x) buffer
answered view none (Err refusal) buffer = outcome (refusal_number refusal) none buffer

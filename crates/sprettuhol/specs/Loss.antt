-- The loss report as three numbers that the caller lends. Assumes nothing.
use Rattle.std.specs.Prelude.{List, Option, None, Some, ℕ, ℤ}
use Rattle.num.specs.Outcome.{Outcome, outcome_by}
use Rattle.loss.specs.Loss.{Report, report, loss_report}

-- UINT32_MAX for none
abbrev pub or_max : Option ℕ → ℕ
or_max None = 4294967295
or_max (Some k) = k

abbrev pub numbers_of : Report (Option ℕ) → Report ℕ
numbers_of r = report r.count (or_max r.first) r.peak

-- A refusal leaves the three numbers as they were.
unfoldable pub loss_call : List ℤ → List ℤ → Report ℕ → Outcome (Report ℕ) Unit
loss_call before after given = let r = loss_report before after in outcome_by r.number (numbers_of r.back, tt) (given, tt)

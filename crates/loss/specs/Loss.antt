-- The loss report of two sample runs. Assumes nothing.
use Rattle.std.specs.Prelude.{cond, ◌&&◌, List, [], ◌∷◌, Option, None, Some, ℕ, suc, ◌+◌, max, eqb, leb, ℤ, nat_abs, ◌-ℤ◌, length}
use Rattle.num.specs.Outcome.{Outcome, outcome_by}
use Rattle.loss.specs.declared.Loss.{Loss}

-- The absolute difference of two samples, and those of two runs, place by place.
abbrev pub distance : ℤ → ℤ → ℕ
distance x y = nat_abs (x -ℤ y)

unfoldable pub distances : List ℤ → List ℤ → List ℕ
distances [] ys = []
distances (x ∷ xs) [] = []
distances (x ∷ xs) (y ∷ ys) = distance x y ∷ distances xs ys

-- How many places differ,
unfoldable pub count_of : List ℕ → ℕ
count_of [] = 0
count_of (d ∷ ds) = cond (eqb d 0) 0 1 + count_of ds

-- the first of them counted from 0 (or none),
unfoldable pub first_from : ℕ → List ℕ → Option ℕ
first_from i [] = None
first_from i (d ∷ ds) = cond (eqb d 0) (first_from (suc i) ds) (Some i)

abbrev pub first_of : List ℕ → Option ℕ
first_of ds = first_from 0 ds

-- the largest absolute difference, 0 if none.
unfoldable pub largest : List ℕ → ℕ
largest [] = 0
largest (d ∷ ds) = max d (largest ds)

-- The report: how many places differ, the first of them, and the peak. The first is a place or none here, and a number over C.
pub record Report (Place : Type 0) : Type 0 where
  pub count : ℕ
  pub first : Place
  pub peak : ℕ

abbrev pub report : {Place : Type 0} → ℕ → Place → ℕ → Report Place
report count first peak = record { count = count; first = first; peak = peak }

-- What the struct of the code says.
abbrev pub report_in : Loss → Report (Option ℕ)
report_in loss = report loss.count loss.first loss.peak

-- The peak is the true one: the largest difference, whatever it is.
abbrev pub report_of : List ℕ → Report (Option ℕ)
report_of ds = report (count_of ds) (first_of ds) (largest ds)

-- Two sample runs of equal length, 0 to 131,063; any others are refused by 2,
abbrev pub loss_refusal : ℕ → ℕ → ℕ
loss_refusal n m = cond (eqb n m && leb n 131063) 0 2

-- and then there is nothing to report.
unfoldable pub loss_report : List ℤ → List ℤ → Outcome (Report (Option ℕ)) Unit
loss_report before after =
    outcome_by (loss_refusal (length before) (length after)) (report_of (distances before after), tt) (report 0 None 0, tt)

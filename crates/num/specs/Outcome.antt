-- What a call that can refuse comes to. Assumes nothing.
use Rattle.std.specs.Prelude.{◌≡◌, cond, ℕ, eqb}

-- The number that it answers, what comes back beside it, and what its buffer holds at the end.
pub record Outcome (Back Buffer : Type 0) : Type 0 where
  pub number : ℕ
  pub back : Back
  pub buffer : Buffer

abbrev pub outcome : {Back Buffer : Type 0} → ℕ → Back → Buffer → Outcome Back Buffer
outcome number back buffer = record { number = number; back = back; buffer = buffer }

-- 0: done, and both are as made. Any other number: only that, and both are as given.
abbrev pub outcome_by : {Back Buffer : Type 0} → ℕ → Back × Buffer → Back × Buffer → Outcome Back Buffer
outcome_by number made given = cond (eqb number 0) (outcome 0 made.0 made.1) (outcome number given.0 given.1)

-- A view loses nothing: two things that look the same through it are the same.
abbrev pub Faithful : {X Y : Type 0} → (X → Y) → Type 0
Faithful {X} view = (x y : X) → view x ≡ view y → x ≡ y

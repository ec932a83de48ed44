-- A list that is given by a rule: what stands at each of its places; and what holds of all that a list has. Assumes nothing.
use Rattle.std.specs.Prelude.{List, [], ◌∷◌, ℕ, zero, suc}

-- f at each of n numbers in turn, from i on
unfoldable pub from : {X : Type 0} → ℕ → ℕ → (ℕ → X) → List X
from zero i f = []
from (suc n) i f = f i ∷ from n (suc i) f

-- P of each
abbrev pub All : {X : Type 0} → (X → Type 0) → List X → Type 0
All P [] = Unit
All P (x ∷ xs) = P x × All P xs

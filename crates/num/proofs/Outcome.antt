-- One input has one outcome: a contract that equates a call's outcome with its definition leaves nothing open, if what comes back is looked at
-- through a view that loses nothing. Assumes nothing.
use mathlib.Core.Path.{◌≡◌, refl, sym, ap, ap₂, ◌∙◌}
use mathlib.Core.List.{[], ◌∷◌, map, head-eq_of_cons-eq, tail-eq_of_cons-eq}
use Prim.Native.Nat.{ℕ}
use native.Mathlib.Omega.{arith}
use lib.Dec.{eqb}
use lib.ListN.{length}
use borrow.Author.Tests.{eqb-true, ne_eqb}
use borrow.Table.Steps.{cases}
use Rattle.num.specs.Outcome.{Outcome, outcome, outcome_by, Faithful}

-- The number of a call's outcome is the number that it is decided by,
module _ {Back Buffer : Type 0} (number : ℕ) (made given : Back × Buffer) where
  pub number_is : (outcome_by number made given).number ≡ number
  number_is = cases (eqb number 0) (λ t. rw t (sym (eqb-true number 0 t))) (λ t. rw t refl)

  -- and a refusal leaves all else as given.
  pub as-given : ((outcome_by number made given).number ≡ 0 → ⊥) → outcome_by number made given ≡ outcome number given.0 given.1
  as-given refused = rw (ne_eqb number 0 (λ z. refused (number_is ∙ z))) refl

-- Two results that are allowed for one input coincide: in the number, in what comes back, and in what the buffer holds.
pub coincide : {X Back Buffer : Type 0} (view : X → Back) → Faithful view → (allowed : Outcome Back Buffer)
    → (n n' : ℕ) (x x' : X) (ys ys' : Buffer) → outcome n (view x) ys ≡ allowed → outcome n' (view x') ys' ≡ allowed
    → (n ≡ n') × (x ≡ x') × (ys ≡ ys')
coincide view faithful allowed n n' x x' ys ys' is is' =
    let same = is ∙ sym is' in
    (ap (λ r. r.number) same, faithful x x' (ap (λ r. r.back) same), ap (λ r. r.buffer) same)

-- A view of every item is one of the list.
pub map-faithful : {X Y : Type 0} (view : X → Y) → Faithful view → Faithful (map view)
map-faithful view faithful [] [] e = refl
map-faithful view faithful [] (y ∷ ys) e = absurd (omega (arith, ap length e))
map-faithful view faithful (x ∷ xs) [] e = absurd (omega (arith, ap length e))
map-faithful view faithful (x ∷ xs) (y ∷ ys) e =
    ap₂ (λ z zs. z ∷ zs) (faithful x y (head-eq_of_cons-eq e)) (map-faithful view faithful xs ys (tail-eq_of_cons-eq e))

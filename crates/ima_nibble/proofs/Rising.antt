-- The step table passes its test, so each of its steps is from 7 to 32767: a list that rises stays above its first number and below its last.
-- Assumes nothing.
use mathlib.Core.Path.{◌≡◌, refl, sym, subst}
use mathlib.Core.Bool.{true, ◌&&◌, and-eq-true_iff}
use mathlib.Core.List.{List, [], ◌∷◌}
use Prim.Native.Nat.{ℕ, zero, suc, ◌<◌, ◌≤◌}
use native.Mathlib.Omega.{arith}
use lib.Dec.{T, ltb, eqb}
use lib.ListN.{length, get_or}
use borrow.Author.Tests.{ltb-true, eqb-true}
use Rattle.ima_nibble.specs.Step.{State, sixteen, lowered, step_at}
use Rattle.ima_nibble.specs.Table.{rises_to, rises, ima_steps}

-- The table has 89 entries, and rises strictly from 7 to 32767.
pub table-rises : rises 89 7 32767 ima_steps ≡ true
unfolding ima_steps
table-rises = refl

between : (x last : ℕ) (xs : List ℕ) → rises_to x last xs ≡ true → (i : ℕ) → i < length (x ∷ xs) → (x ≤ get_or (x ∷ xs) i 0) × (get_or (x ∷ xs) i 0 ≤ last)
between x last [] t zero h = (omega arith, omega (arith, eqb-true x last t))
between x last [] t (suc i) h = absurd (omega arith)
between x last (y ∷ ys) t zero h =
    let (l, r) = (and-eq-true_iff (ltb x y) (rises_to y last ys)).0 t in
    (omega arith, omega (arith, ltb-true x y l, between y last ys r 0 (omega arith)))
between x last (y ∷ ys) t (suc i) h =
    let (l, r) = (and-eq-true_iff (ltb x y) (rises_to y last ys)).0 t in
    let (low, high) = between y last ys r i (omega arith) in
    (omega (arith, ltb-true x y l), high)

-- the same of a list that passed the test
entries : (n first last : ℕ) (xs : List ℕ) → rises n first last xs ≡ true → (i : ℕ) → i < n → (first ≤ get_or xs i 0) × (get_or xs i 0 ≤ last)
entries n first last [] t i h = absurd (subst T (sym t) tt)
entries n first last (x ∷ xs) t i h =
    let (u, r) = (and-eq-true_iff (eqb (length (x ∷ xs)) n && eqb x first) (rises_to x last xs)).0 t in
    let (l, f) = (and-eq-true_iff (eqb (length (x ∷ xs)) n) (eqb x first)).0 u in
    let (low, high) = between x last xs r i (omega (arith, eqb-true (length (x ∷ xs)) n l)) in
    (omega (arith, eqb-true x first f), high)

-- Every step that a state can have, its index lowered, is from 7 to 32767.
pub step-within : (st : State) → (7 ≤ step_at sixteen ima_steps st) × (step_at sixteen ima_steps st ≤ 32767)
unfolding step_at ima_steps
step-within st = entries 89 7 32767 ima_steps refl (lowered sixteen st.index) (omega arith)

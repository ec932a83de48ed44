-- The largest number of a list: none is larger, and it is at most what all are at most. Assumes nothing.
use mathlib.Core.Path.{refl}
use mathlib.Core.List.{List, [], ◌∷◌}
use Prim.Native.Nat.{ℕ, zero, suc, ◌≤◌, ◌<◌}
use native.Mathlib.Omega.{arith}
use lib.ListN.{length, get_or}
use Rattle.num.specs.Lists.{from}
use Rattle.loss.specs.Loss.{largest}
use Rattle.num.proofs.Lists.{length_from, table}

-- None is larger,
pub item-under : (ns : List ℕ) (i : ℕ) → get_or ns i 0 ≤ largest ns
unfolding largest
item-under [] i = omega arith
item-under (n ∷ ns) zero = omega arith
item-under (n ∷ ns) (suc i) = omega (arith, item-under ns i)

-- and it is at most what all are at most.
pub at_most : (k : ℕ) (ns : List ℕ) → ((i : ℕ) → i < length ns → get_or ns i 0 ≤ k) → largest ns ≤ k
unfolding largest
at_most k [] h = omega arith
at_most k (n ∷ ns) h = omega (arith, h 0 (omega arith), at_most k ns (λ i l. h (suc i) (omega (arith, l))))

-- of a list that is given by a rule
module _ (f : ℕ → ℕ) (n : ℕ) where
  abbrev all : List ℕ
  all = from n 0 f

  pub rule-under : (i : ℕ) → i < n → f i ≤ largest all
  rule-under i h = omega (arith, item-under all i, table f all n refl i 0 h)

  pub rule-at-most : (k : ℕ) → ((i : ℕ) → i < n → f i ≤ k) → largest all ≤ k
  rule-at-most k h =
      at_most k all (λ i l. let small : i < n = omega (arith, l, length_from f n 0) in omega (arith, h i small, table f all n refl i 0 small))

-- What is kept of the places that were looked at, put together with what the definitions say of those that are left, is what they say of all places.
-- Assumes nothing.
use mathlib.Core.Path.{◌≡◌, refl, sym, ap, ap₂, ◌∙◌}
use mathlib.Core.Bool.{cond}
use mathlib.Core.List.{List, [], ◌∷◌, ◌++◌}
use Prim.Native.Nat.{ℕ, ◌+◌, max}
use native.Mathlib.Omega.{arith}
use lib.Dec.{eqb}
use lib.IntN.{ℤ}
use lib.ListN.{length, drop}
use lib.Seq.{drop-drop, drop_at}
use Rattle.loss.specs.Loss.{distances, count_of, first_from, first_of, largest}
use Rattle.loss.specs.Private.{rest, Sees}
use Rattle.loss.proofs.Places.{count-append, largest-append, first-behind, distances-append, distances-length}

-- ---- how many differ, and by how much at most

module _ (all : List ℕ) where
  pub record Kept (left : List ℕ) (count most : ℕ) : Type 0 where
    pub many : count + count_of left ≡ count_of all
    pub top : max most (largest left) ≡ largest all

  pub none : Kept all 0 0
  none = record { many = omega arith; top = omega arith }

  -- one place more
  pub one_more : {left left' : List ℕ} {count most d one most' : ℕ} → left ≡ d ∷ left' → one ≡ cond (eqb d 0) 0 1 → most' ≡ max most d
      → Kept left count most → Kept left' (count + one) most'
  unfolding count_of largest
  one_more is one-is most-is k =
      let counts = ap count_of is in
      let tops = ap largest is in
      record { many = omega (arith, k.many); top = omega (arith, k.top) }

  -- a stretch more
  pub more : (here there us vs : List ℤ) {xs ys : List ℤ} {count most c m most' : ℕ}
      → length here ≡ length there
      → xs ≡ here ++ us
      → ys ≡ there ++ vs
      → Sees (distances here there) c m
      → most' ≡ max most m
      → Kept (distances xs ys) count most
      → Kept (distances us vs) (count + c) most'
  more here there us vs same xs-is ys-is s most-is k =
      let is = ap₂ distances xs-is ys-is ∙ distances-append here there us vs same in
      let counts = ap count_of is ∙ count-append (distances here there) (distances us vs) in
      let tops = ap largest is ∙ largest-append (distances here there) (distances us vs) in
      record { many = omega (arith, k.many, s.counts); top = omega (arith, k.top, s.tops) }

  -- none is left
  pub seen : {left : List ℕ} {count most : ℕ} → left ≡ [] → Kept left count most → Sees all count most
  unfolding count_of largest
  seen gone k = record { counts = omega (arith, k.many, ap count_of gone); tops = omega (arith, k.top, ap largest gone) }

-- ---- where the first place that differs is looked for; as long as none is known of, all are alike up to those that are left

module _ (xs ys : List ℤ) where
  pub record Leads (us vs : List ℤ) (count alike : ℕ) : Type 0 where
    pub first : first_from alike (rest xs ys alike) ≡ first_of (distances xs ys)
    pub even : count ≡ 0 → (us ≡ drop alike xs) × (vs ≡ drop alike ys)

  pub begins : Leads xs ys 0 0
  begins = record { first = refl; even = λ e. (refl, refl) }

  -- a stretch more, where no place of it differs
  pub leads-on : (here there : List ℤ) {us vs us' vs' : List ℤ} {count alike c m : ℕ}
      → length here ≡ length there
      → us ≡ here ++ us'
      → vs ≡ there ++ vs'
      → Sees (distances here there) c m
      → count + c ≡ 0
      → Leads us vs count alike
      → Leads us' vs' (count + c) (alike + length here)
  leads-on here there {us} {vs} {us'} {vs'} {count} {alike} same us-is vs-is s e l =
      let (from, from₂) = l.even (omega arith) in
      let past : drop (alike + length here) xs ≡ us' = sym (drop-drop (length here) alike xs) ∙ ap (drop (length here)) (sym from ∙ us-is) ∙ drop_at here us' (length here) refl in
      let past₂ : drop (alike + length here) ys ≡ vs' = sym (drop-drop (length here) alike ys) ∙ ap (drop (length here)) (sym from₂ ∙ vs-is) ∙ drop_at there vs' (length here) (sym same) in
      let behind : rest xs ys alike ≡ distances here there ++ distances us' vs' = ap₂ distances (sym from ∙ us-is) (sym from₂ ∙ vs-is) ∙ distances-append here there us' vs' same in
      record {
        first =
            ap₂ (λ (zs ws : List ℤ). first_from (alike + length here) (distances zs ws)) past past₂
            ∙ ap (λ (n : ℕ). first_from (alike + n) (distances us' vs')) (sym (distances-length here there same))
            ∙ sym (first-behind (distances here there) (distances us' vs') alike (omega (arith, s.counts)))
            ∙ ap (first_from alike) (sym behind)
            ∙ l.first;
        even = λ z. (sym past, sym past₂);
      }

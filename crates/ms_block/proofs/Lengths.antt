-- The refusal of a block and a second buffer, from that of the block alone. Assumes nothing.
use mathlib.Core.Path.{◌≡◌, refl, ap, ◌∙◌}
use mathlib.Core.Bool.{Bool, true, false, cond, ◌&&◌, and-true}
use Prim.Native.Nat.{ℕ, ◌*◌, min}
use native.Mathlib.Omega.{arith}
use lib.Dec.{eqb, leb}
use borrow.Author.Tests.{eq-eqb, leb-true}
use borrow.Table.Steps.{cases}
use Rattle.ms_block.specs.Sizes.{channelled, sized, samples_of, refused_by, ms_refusal, repack_refusal}

-- A block longer than is allowed is refused whatever its samples are said to be.
of-block : (c n : ℕ) → ms_refusal c n (samples_of c (min n 65536)) ≡ refused_by c (sized c n)
unfolding ms_refusal
of-block c n =
    ap (refused_by c) {x = sized c n && eqb (samples_of c (min n 65536)) (samples_of c n)} {y = sized c n}
    (cases (leb n 65535)
    (λ t.
    let whole : min n 65536 ≡ n = omega (arith, leb-true n 65535 t) in
    rw (whole, eq-eqb (samples_of c n) (samples_of c n) refl) (and-true (sized c n)))
    (λ t. rw t (cases (leb (4 * c) n) (λ s. rw s refl) (λ s. rw s refl))))

over : (a b fit : Bool) (k : ℕ) → k ≡ cond a (cond b 0 2) 1 → (k ≡ 0 → ⊥) → k ≡ cond a (cond (b && fit) 0 2) 1
over true true fit k e h = absurd (h e)
over true false fit k e h = e
over false b fit k e h = e

under : (a b fit : Bool) (k : ℕ) → k ≡ cond a (cond b 0 2) 1 → k ≡ 0 → ◌≡◌ {A = ℕ} (cond a (cond (b && fit) 0 2) 1) (cond fit 0 2)
under true true fit k e h = refl
under true false fit k e h = absurd (omega (arith, e, h))
under false b fit k e h = absurd (omega (arith, e, h))

module _ (c n m k : ℕ) (is : k ≡ ms_refusal c n (samples_of c (min n 65536))) where
  pub refused : (k ≡ 0 → ⊥) → k ≡ repack_refusal c n m
  unfolding repack_refusal
  refused h = over (channelled c) (sized c n) (eqb m n) k (is ∙ of-block c n) h

  pub fits : k ≡ 0 → repack_refusal c n m ≡ cond (eqb m n) 0 2
  unfolding repack_refusal
  fits h = under (channelled c) (sized c n) (eqb m n) k (is ∙ of-block c n) h

-- The scope's table of lengths and the one of two to eight channels, as equations of the general definitions.
-- Block length n: mono 4 to 65,535; stereo 8 to 65,528, divisible by 8; samples 2n-7, 2n-14. Assumes nothing.
use mathlib.Core.Path.{◌≡◌, refl, ap, ◌∙◌}
use mathlib.Core.Bool.{Bool, true, false, ◌&&◌, and-true, and-false, and-eq-true_iff}
use mathlib.Core.Logic.{◌↔◌, inl, inr}
use Prim.Native.Nat.{ℕ, ◌+◌, ◌-◌, ◌*◌, ◌/◌, ◌%◌, ◌≤◌}
use native.Mathlib.Nat.{le_of_mul-le-mul_left}
use native.Mathlib.Omega.{arith}
use lib.Dec.{eqb, leb}
use borrow.Author.Tests.{eqb-true, leb-true, le-leb, ne_eqb}
use borrow.Table.Steps.{cases}
use Rattle.num.proofs.Tests.{leb-same}
use Rattle.ms_block.specs.Sizes.{channelled, sized, Grouped, samples_of, refused_by}
use Rattle.ms_block.proofs.Sizes.{lengths}
use Rattle.ms_block.proofs.Weave.{Even, rest, rounds}

-- Channels: 1 to 8.
pub channels : (c : ℕ) → (channelled c ≡ true) ↔ ((1 ≤ c) × (c ≤ 8))
channels c = (
  λ t. let (some, few) = (and-eq-true_iff (leb 1 c) (leb c 8)).0 t in (leb-true 1 c some, leb-true c 8 few),
  λ (some, few). rw (le-leb 1 c some, le-leb c 8 few) refl,
)

-- 1 is tested before 2: any other channel number is refused by 1, whatever the lengths.
pub channels-first : (c : ℕ) (fit : Bool) → channelled c ≡ false → refused_by c fit ≡ 1
channels-first c fit t = rw t refl

-- Mono: 4 to 65,535.
pub mono-sized : (n : ℕ) → sized 1 n ≡ (leb 4 n && leb n 65535)
mono-sized n = and-true (leb 4 n && leb n 65535)

-- Stereo: 8 to 65,528, divisible by 8.
pub stereo-sized : (n : ℕ) → sized 2 n ≡ (leb 8 n && leb n 65528 && eqb (n % 8) 0)
stereo-sized n =
    cases (eqb (n % 8) 0)
    (λ t.
    let whole = eqb-true (n % 8) 0 t in
    rw (leb-same n 65535 n 65528 (λ h. omega arith) (λ h. omega arith)))
    (λ t. rw (t, and-false (leb 8 n && leb n 65535), and-false (leb 8 n && leb n 65528)))

-- Samples: mono 2n-7, stereo 2n-14.
pub mono-samples : (n : ℕ) → samples_of 1 n ≡ 2 * n - 7
mono-samples n = refl

pub stereo-samples : (n : ℕ) → samples_of 2 n ≡ 2 * n - 14
stereo-samples n = refl

-- ---- from two channels up

module _ (c n : ℕ) (two : 2 ≤ c) where
  -- a length that is taken is that of whole rounds,
  in-rounds : Even 4 c n → n ≡ 4 * (c * (n / (4 * c)))
  in-rounds (inl o) = absurd (omega (arith, two, o))
  in-rounds (inr o) = rounds 4 c (omega arith) (omega (arith, two)) n o

  -- the first of which are the headers
  by-groups : sized c n ≡ true → Grouped c n
  by-groups t =
      let (enough, short, even) = lengths c n t in
      let all = in-rounds even in
      let q = n / (4 * c) in
      let some : c * 1 ≤ c * q = omega (arith, enough, all) in
      let more : q ≡ 1 + (q - 1) = omega (arith, le_of_mul-le-mul_left {m = 1} {n = q} some (omega (arith, two))) in
      record {
        groups = q - 1;
        whole = all ∙ ap (λ (k : ℕ). 4 * (c * k)) more ∙ omega arith;
        short = short;
      }

  of-groups : Grouped c n → sized c n ≡ true
  of-groups g =
      let even : n % (4 * c) ≡ 0 = ap (λ (k : ℕ). k % (4 * c)) (omega (arith, g.whole)) ∙ rest (4 * c) (1 + g.groups) 0 (omega (arith, two)) in
      rw (le-leb (4 * c) n (omega (arith, g.whole)), le-leb n 65535 g.short, ne_eqb c 1 (λ e. omega (arith, e, two)), even) refl

-- Block length is the channel number times four, times one or more, up to 65,535;
pub from-two-sized : (c n : ℕ) → 2 ≤ c → (sized c n ≡ true) ↔ Grouped c n
from-two-sized c n two = (by-groups c n two, of-groups c n two)

-- frames are 1 plus 8 per group.
pub from-two-samples : (c n : ℕ) (g : Grouped c n) → samples_of c n ≡ c * (1 + 8 * g.groups)
from-two-samples c n g = omega (arith, g.whole)

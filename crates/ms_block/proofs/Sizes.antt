-- What is known of the lengths of a call that is not refused. Assumes nothing.
use mathlib.Core.Path.{◌≡◌, refl, ap, ◌∙◌}
use mathlib.Core.Bool.{Bool, true, false, cond, ◌&&◌, ◌||◌, and-eq-true_iff}
use mathlib.Core.Logic.{◌⊎◌, inl, inr}
use Prim.Native.Nat.{ℕ, ◌+◌, ◌-◌, ◌*◌, ◌/◌, ◌%◌, ◌≤◌, ◌<◌}
use lib.Dec.{eqb, leb}
use native.Mathlib.Nat.{le_of_mul-le-mul_left}
use native.Mathlib.Omega.{arith}
use borrow.Author.Tests.{eqb-true, leb-true}
use borrow.Table.Steps.{cases}
use Rattle.ms_block.specs.Sizes.{most, channelled, sized, samples_of, ms_refusal}
use Rattle.ms_block.proofs.Weave.{Even, quotient, rest, shared}

pub record Shape (c n m : ℕ) : Type 0 where
  pub some : 1 ≤ c
  pub few : c ≤ most
  pub enough : 4 * c ≤ n
  pub short : n ≤ 65535
  pub even : Even 4 c n
  pub fits : m ≡ 2 * n - 7 * c

pub passed : (a b : Bool) → ◌≡◌ {A = ℕ} (cond a (cond b 0 2) 1) 0 → (a ≡ true) × (b ≡ true)
passed true true t = (refl, refl)
passed true false t = absurd (omega (arith, t))
passed false b t = absurd (omega (arith, t))

either : (c k : ℕ) → (eqb c 1 || eqb k 0) ≡ true → (c ≡ 1) ⊎ (k ≡ 0)
either c k t = cases (eqb c 1) (λ e. inl (eqb-true c 1 e)) (λ e. inr (eqb-true k 0 (rw e at t)))

-- of a length that is taken
pub lengths : (c n : ℕ) → sized c n ≡ true → (4 * c ≤ n) × (n ≤ 65535) × Even 4 c n
lengths c n t =
    let (within, even) = (and-eq-true_iff (leb (4 * c) n && leb n 65535) (eqb c 1 || eqb (n % (4 * c)) 0)).0 t in
    let (enough, short) = (and-eq-true_iff (leb (4 * c) n) (leb n 65535)).0 within in
    (leb-true (4 * c) n enough, leb-true n 65535 short, either c (n % (4 * c)) even)

pub shape : (c n m : ℕ) → ms_refusal c n m ≡ 0 → Shape c n m
unfolding ms_refusal
shape c n m t =
    let (channels, fit) = passed (channelled c) (sized c n && eqb m (samples_of c n)) t in
    let (some, few) = (and-eq-true_iff (leb 1 c) (leb c most)).0 channels in
    let (is, fits) = (and-eq-true_iff (sized c n) (eqb m (samples_of c n))).0 fit in
    let (enough, short, even) = lengths c n is in
    record {
      some = leb-true 1 c some;
      few = leb-true c most few;
      enough = enough;
      short = short;
      even = even;
      fits = eqb-true m (samples_of c n) fits;
    }

-- ---- what each channel has

module _ {c n m : ℕ} (is : Shape c n m) where
  hc : 0 < c
  hc = omega (arith, is.some)

  pub bytes-all : n ≡ c * (n / c)
  bytes-all = shared 4 c (omega arith) hc n is.even

  pub four_bytes : 4 ≤ n / c
  four_bytes = le_of_mul-le-mul_left (omega (arith, is.enough, bytes-all)) hc

  -- a sample, and two more for each byte behind the header
  pub samples-all : m ≡ c * (1 + 2 * (n / c - 4))
  samples-all =
      let q : n / c ≡ 4 + (n / c - 4) = omega (arith, four_bytes) in
      let e = bytes-all ∙ ap (λ (k : ℕ). c * k) q in
      is.fits ∙ omega (arith, e)

  pub samples-each : m / c ≡ 1 + 2 * (n / c - 4)
  samples-each =
      let e : m ≡ c * (1 + 2 * (n / c - 4)) + 0 = omega (arith, samples-all) in
      ap (λ (k : ℕ). k / c) e ∙ quotient c (1 + 2 * (n / c - 4)) 0 hc

  pub even-samples : Even 1 c m
  even-samples =
      let e : m ≡ c * (1 + 2 * (n / c - 4)) + 0 = omega (arith, samples-all) in
      let o : 1 * c ≡ c = omega arith in
      inr (rw o (ap (λ (k : ℕ). k % c) e ∙ rest c (1 + 2 * (n / c - 4)) 0 hc))

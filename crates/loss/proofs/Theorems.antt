-- What the report says of equal runs, and of no others; and that its peak is the true one. Assumes nothing.
use mathlib.Core.Path.{◌≡◌, refl, sym, ap, ap₂, ◌∙◌}
use mathlib.Core.List.{List, [], ◌∷◌}
use Rattle.std.specs.Prelude.{Option, None, Some, Result}
use Prim.Native.Nat.{ℕ, zero, suc, ◌≤◌}
use native.Mathlib.Omega.{arith}
use lib.Dec.{eqb, leb}
use lib.IntN.{ℤ, pos, negsuc, nat_abs, ◌+ℤ◌, ◌-ℤ◌, +ℤ_idl, +ℤ_invr, -ℤ-+ℤ_cancel}
use lib.ListN.{length, get_or}
use mir.Syntax.{w16}
use mir.Val.{SFits}
use borrow.Author.Tests.{eqb-true, leb-true, leb-false}
use borrow.Table.Steps.{cases}
use Rattle.num.specs.Lists.{All}
use Rattle.num.specs.Outcome.{Outcome, outcome, Faithful}
use Rattle.num.proofs.Lists.{all-at}
use Rattle.loss.specs.declared.Loss.{Loss}
use Rattle.refusal.specs.declared.Refusal.{Refusal}
use Rattle.refusal.specs.Refusal.{answered}
use Rattle.refusal.proofs.Coincide.{answered-coincide}
use Rattle.loss.specs.Loss.{Report, report_in, distance, distances, count_of, first_from, largest, report, report_of, loss_report}
use Rattle.loss.proofs.Places.{distance-lt, taken}

-- ---- two samples

size-0 : (z : ℤ) → nat_abs z ≡ 0 → z ≡ pos 0
size-0 (pos n) e = ap pos e
size-0 (negsuc n) e = absurd (omega arith)

met : (x y : ℤ) → distance x y ≡ 0 → x ≡ y
met x y e = sym (-ℤ-+ℤ_cancel x y) ∙ ap (λ (z : ℤ). z +ℤ y) (size-0 (x -ℤ y) e) ∙ +ℤ_idl y

itself : (x : ℤ) → distance x x ≡ 0
itself x = ap nat_abs (+ℤ_invr x)

-- ---- two runs

none_differ : (xs ys : List ℤ) → length xs ≡ length ys → count_of (distances xs ys) ≡ 0 → xs ≡ ys
unfolding distances count_of
none_differ [] [] l e = refl
none_differ [] (y ∷ ys) l e = absurd (omega arith)
none_differ (x ∷ xs) [] l e = absurd (omega arith)
none_differ (x ∷ xs) (y ∷ ys) l e =
    cases (eqb (distance x y) 0)
    (λ t. ap₂ ◌∷◌ (met x y (eqb-true (distance x y) 0 t)) (none_differ xs ys (omega arith) (omega (arith, rw t at e))))
    (λ t. absurd (omega (arith, rw t at e)))

nothing : (xs : List ℤ) (i : ℕ)
    → (count_of (distances xs xs) ≡ 0) × (first_from i (distances xs xs) ≡ None) × (largest (distances xs xs) ≡ 0)
unfolding distances count_of first_from largest
nothing [] i = (refl, refl, refl)
nothing (x ∷ xs) i = let (c, f, l) = nothing xs (suc i) in rw (itself x) (omega arith, f, omega arith)

module _ (xs ys : List ℤ) (same : length xs ≡ length ys) (few : length xs ≤ 131063) where
  -- The count is 0 only where the two runs are equal,
  pub equal-if-none : (loss_report xs ys).back.count ≡ 0 → xs ≡ ys
  equal-if-none e = none_differ xs ys same (ap (λ r. r.back.count) (sym (taken xs ys same few)) ∙ e)

  -- and where they are, nothing is reported: no place differs, there is no first one, and the peak is 0.
  pub none-if-equal : xs ≡ ys → loss_report xs ys ≡ outcome 0 (report 0 None 0) tt
  none-if-equal e =
      let (c, f, l) = nothing xs 0 in
      taken xs ys same few ∙ ap (λ (zs : List ℤ). outcome 0 (report_of (distances xs zs)) tt) (sym e) ∙ rw (c, f, l) refl

-- ---- the peak

-- A place where two runs are that far apart. Behind their end both read as 0.
pub record Somewhere (xs ys : List ℤ) (d : ℕ) : Type 0 where
  pub place : ℕ
  pub apart : distance (get_or xs place (pos 0)) (get_or ys place (pos 0)) ≡ d

nowhere-more : (xs ys : List ℤ) → length xs ≡ length ys → (i : ℕ) → distance (get_or xs i (pos 0)) (get_or ys i (pos 0)) ≤ largest (distances xs ys)
unfolding distances largest
nowhere-more [] [] l i = omega arith
nowhere-more [] (y ∷ ys) l i = absurd (omega arith)
nowhere-more (x ∷ xs) [] l i = absurd (omega arith)
nowhere-more (x ∷ xs) (y ∷ ys) l zero = omega arith
nowhere-more (x ∷ xs) (y ∷ ys) l (suc i) = omega (arith, nowhere-more xs ys (omega arith) i)

somewhere : (xs ys : List ℤ) → length xs ≡ length ys → Somewhere xs ys (largest (distances xs ys))
unfolding distances largest
somewhere [] [] l = record { place = 0; apart = refl }
somewhere [] (y ∷ ys) l = absurd (omega arith)
somewhere (x ∷ xs) [] l = absurd (omega arith)
somewhere (x ∷ xs) (y ∷ ys) l =
    let d = distance x y in
    let most = largest (distances xs ys) in
    let s = somewhere xs ys (omega arith) in
    cases (leb d most)
    (λ t. record { place = suc s.place; apart = omega (arith, s.apart, leb-true d most t) })
    (λ t. record { place = 0; apart = omega (arith, leb-false d most t) })

module _ (xs ys : List ℤ) (same : length xs ≡ length ys) (few : length xs ≤ 131063) where
  peak-is : (loss_report xs ys).back.peak ≡ largest (distances xs ys)
  peak-is = ap (λ r. r.back.peak) (taken xs ys same few)

  -- The peak is the true one: the runs are nowhere farther apart,
  pub none-larger : (i : ℕ) → distance (get_or xs i (pos 0)) (get_or ys i (pos 0)) ≤ (loss_report xs ys).back.peak
  none-larger i = rw peak-is (nowhere-more xs ys same i)

  -- and somewhere they are as far apart.
  pub one-as-large : Somewhere xs ys (loss_report xs ys).back.peak
  one-as-large = rw peak-is (somewhere xs ys same)

  -- Of samples of 16 bits it is at most 65,535,
  pub at-most-65535 : All (SFits w16) xs → All (SFits w16) ys → (loss_report xs ys).back.peak ≤ 65535
  at-most-65535 f g =
      let s = one-as-large in
      let fits : SFits w16 (pos 0) = record { sfits = omega arith } in
      let p = all-at (SFits w16) xs s.place (pos 0) fits f in
      let q = all-at (SFits w16) ys s.place (pos 0) fits g in
      omega (arith, s.apart, distance-lt p q)

-- and a click from one end to the other is that, either way round.
pub click-up : loss_report (negsuc 32767 ∷ []) (pos 32767 ∷ []) ≡ outcome 0 (report 1 (Some 0) 65535) tt
unfolding loss_report distances count_of first_from largest
click-up = refl

pub click-down : loss_report (pos 32767 ∷ []) (negsuc 32767 ∷ []) ≡ outcome 0 (report 1 (Some 0) 65535) tt
unfolding loss_report distances count_of first_from largest
click-down = refl

-- ---- one result

-- The view of the struct loses nothing.
pub loss-faithful : Faithful report_in
loss-faithful x y e = λ i. record { count = (e i).count; first = (e i).first; peak = (e i).peak }

-- Two results that the report allows for one input coincide.
pub loss-coincide : (allowed : Outcome (Report (Option ℕ)) Unit) (r s : Result Loss Refusal)
    → answered report_in (report 0 None 0) r tt ≡ allowed
    → answered report_in (report 0 None 0) s tt ≡ allowed
    → r ≡ s
loss-coincide allowed r s is is' = (answered-coincide report_in loss-faithful allowed (report 0 None 0) r s tt tt is is').0

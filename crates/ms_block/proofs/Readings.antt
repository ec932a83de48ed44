-- What either reading makes of a block: where 8 is given, and where it is not. Assumes nothing.
use mathlib.Core.Path.{◌≡◌, refl, sym}
use mathlib.Core.Bool.{true, false, and-eq-true_iff}
use mathlib.Core.List.{List}
use Prim.Native.Nat.{ℕ, zero, suc, ◌<◌, ◌≤◌}
use native.Mathlib.Omega.{arith}
use lib.Dec.{eqb, ltb, leb}
use borrow.Author.Tests.{eqb-true, ne_eqb, leb-true, le-leb, ltb-true, ltb-false}
use borrow.Table.Steps.{cases}
use Rattle.num.specs.Outcome.{outcome_by}
use Rattle.ms_block.specs.declared.Reading.{Reading}
use Rattle.ms_block.specs.declared.Reading.TheVariants.{Strict, Lenient}
use Rattle.ms_block.specs.Readings.{header_index, sound_headers, read_by}

-- ---- sound headers

-- Headers are sound exactly when no channel used has an index above 88.
pub sound-if : (c : ℕ) (block : List ℕ) → ((e : ℕ) → e < c → header_index block e ≤ 88) → sound_headers c block ≡ true
unfolding sound_headers
sound-if zero block h = refl
sound-if (suc c) block h = rw (sound-if c block (λ e l. h e (omega (arith, l))), le-leb (header_index block c) 88 (h c (omega arith))) refl

pub sound-at : (c : ℕ) (block : List ℕ) → sound_headers c block ≡ true → (e : ℕ) → e < c → header_index block e ≤ 88
unfolding sound_headers
sound-at zero block t e l = absurd (omega (arith, l))
sound-at (suc c) block t e l =
    let (others, last) = (and-eq-true_iff (sound_headers c block) (leb (header_index block c) 88)).0 t in
    cases (ltb e c)
    (λ s. sound-at c block others e (ltb-true e c s))
    (λ s.
    let same : e ≡ c = omega (arith, l, ltb-false e c s) in
    rw same (leb-true (header_index block c) 88 last))

-- one index above 88 is enough
pub unsound : (c : ℕ) (block : List ℕ) (e : ℕ) → e < c → 88 < header_index block e → sound_headers c block ≡ false
unsound c block e l h = cases (sound_headers c block) (λ t. absurd (omega (arith, h, sound-at c block t e l))) (λ t. t)

-- ---- the number

module _ (c : ℕ) (block : List ℕ) where
  -- 1 and 2 come before 8: a call that they refuse is refused by them, whatever the indices.
  pub others-first : (reading : Reading) (number : ℕ) → (number ≡ 0 → ⊥) → read_by reading c block number ≡ number
  others-first Strict number h = rw (ne_eqb number 0 h) refl
  others-first Lenient number h = refl

  -- 8 is given only for its cause: where no index is above 88, neither reading refuses more than channels and lengths do;
  pub sound-taken : (reading : Reading) (number : ℕ) → sound_headers c block ≡ true → read_by reading c block number ≡ number
  sound-taken Strict number t = cases (eqb number 0) (λ z. rw (z, t) (sym (eqb-true number 0 z))) (λ z. rw z refl)
  sound-taken Lenient number t = refl

  -- and always then.
  pub always-8 : (e : ℕ) → e < c → 88 < header_index block e → read_by Strict c block 0 ≡ 8
  always-8 e l h = rw (unsound c block e l h) refl

  -- What a reading accepts, the channels and lengths have not refused,
  pub not-refused : (reading : Reading) (number : ℕ) → read_by reading c block number ≡ 0 → number ≡ 0
  not-refused Strict number t = cases (eqb number 0) (λ z. eqb-true number 0 z) (λ z. rw z at t)
  not-refused Lenient number t = t

  -- and what it makes of a call is then what lenient reading makes of it.
  pub read_alike : {Back Buffer : Type 0} (reading : Reading) (number : ℕ) (made given : Back × Buffer) → read_by reading c block number ≡ 0
      → outcome_by (read_by reading c block number) made given ≡ outcome_by (read_by Lenient c block number) made given
  read_alike reading number made given t = rw (t, not-refused reading number t) refl

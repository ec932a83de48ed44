-- The law of reach, over a step and two limits: what the encoder emits is what comes back. Assumes nothing.
use mathlib.Core.Path.{◌≡◌, refl, sym, ap, ◌∙◌}
use mathlib.Core.Bool.{true, false, not, cond, ◌&&◌, and-eq-true_iff, false≢true, true≢false}
use Prim.Native.Nat.{ℕ, ◌/◌, ◌<◌, ◌≤◌}
use lib.Dec.{eqb}
use lib.IntN.{ℤ, pos, ◌+ℤ◌, ◌-ℤ◌}
use lib.Signed.{lt_z, le_z, ◌≤ℤ◌, lt_z_yes, ≤ℤ_refl, <ℤ_irrefl}
use borrow.Author.Tests.{eq-eqb, ne_eqb}
use borrow.Table.Steps.{cases}
use Rattle.num.proofs.Shift.{≤ℤ-trans, put_on, rise, fall}
use Rattle.num.proofs.Within.{clamp-within}
use Rattle.ima_nibble.specs.Step.{bit, m, d, predicted, nibble_of, needed, reachable}
use Rattle.ima_nibble.proofs.Bounds.{nibble-lt}
use Rattle.ima_nibble.proofs.Distance.{emits-at, returns}

-- A decoded sample is within the limits, at any step.
pub within : {lowest highest p : ℤ} → lowest ≤ℤ p → p ≤ℤ highest → (s v : ℕ) → (lowest ≤ℤ predicted lowest highest s p v) × (predicted lowest highest s p v ≤ℤ highest)
unfolding predicted
within {p} above below s v = clamp-within (≤ℤ-trans above below) (cond (bit 8 v) (p -ℤ pos (d s v)) (p +ℤ pos (d s v)))

module _ (lowest highest : ℤ) (s : ℕ) (4≤s : 4 ≤ s) (p : ℤ) (above : lowest ≤ℤ p) (below : p ≤ℤ highest) where
  -- What the encoder emits, from any sample within the limits, is reachable.
  pub emits : (x : ℤ) → lowest ≤ℤ x → x ≤ℤ highest → reachable lowest highest s p (nibble_of s p x) ≡ true
  emits x l h =
      let (a, low) = fall above in
      let (b, high) = rise below in
      let e = put_on p x in
      rw e at (emits-at lowest highest s 4≤s p a b low high (x -ℤ p) (rw e l) (rw e h))

  -- What a reachable nibble decodes to is encoded to that nibble.
  comes_back : (v : ℕ) → v < 16 → reachable lowest highest s p v ≡ true → nibble_of s p (predicted lowest highest s p v) ≡ v
  comes_back v h t =
      let (a, low) = fall above in
      let (b, high) = rise below in
      returns lowest highest s 4≤s p a b low high v h t

  -- Encoding what a nibble decodes to gives that nibble again exactly when the nibble is reachable.
  pub again : (v : ℕ) → v < 16 → eqb (nibble_of s p (predicted lowest highest s p v)) v ≡ reachable lowest highest s p v
  again v h =
      let x = predicted lowest highest s p v in
      let (l, k) = within above below s v in
      let t = emits x l k in
      cases (reachable lowest highest s p v)
      (λ e. rw e (eq-eqb (nibble_of s p x) v (comes_back v h e)))
      (λ e. rw e (ne_eqb (nibble_of s p x) v (λ q. true≢false (sym (rw q at t) ∙ e))))

  -- So decoding a reachable nibble, encoding the sample and decoding again moves nothing.
  pub rests : (v : ℕ) → v < 16 → reachable lowest highest s p v ≡ true → predicted lowest highest s p (nibble_of s p (predicted lowest highest s p v)) ≡ predicted lowest highest s p v
  rests v h t = ap (predicted lowest highest s p) (comes_back v h t)

  -- And whatever was encoded, from any sample, is decoded and encoded to itself.
  pub settles : (x : ℤ) → lowest ≤ℤ x → x ≤ℤ highest → nibble_of s p (predicted lowest highest s p (nibble_of s p x)) ≡ nibble_of s p x
  settles x l h = comes_back (nibble_of s p x) (nibble-lt s p x) (emits x l h)

  -- So nibble 8 is never emitted where s/8 is 0, as at step 7; there it decodes like 0.
  pub no-eight : s / 8 ≡ 0 → (x : ℤ) → lowest ≤ℤ x → x ≤ℤ highest → nibble_of s p x ≡ 8 → ⊥
  unfolding reachable
  no-eight z x l h e =
      let t = rw e at (emits x l h) in
      let n = ((and-eq-true_iff (le_z lowest (p -ℤ pos (needed s 8)) && lt_z lowest p) (not (eqb 8 8 && eqb (s / 8) 0))).0 t).1 in
      false≢true (rw (eq-eqb (s / 8) 0 z) at n)

  pub like-zero : s / 8 ≡ 0 → predicted lowest highest s p 8 ≡ predicted lowest highest s p 0
  unfolding predicted m
  like-zero z = rw z refl

-- Nor is any negative nibble emitted from the lower limit.
pub no-negative : (lowest highest : ℤ) (s : ℕ) → 4 ≤ s → (x : ℤ) → lowest ≤ℤ x → x ≤ℤ highest → bit 8 (nibble_of s lowest x) ≡ false
unfolding reachable
no-negative lowest highest s 4≤s x l h =
    let v = nibble_of s lowest x in
    let t = emits lowest highest s 4≤s lowest (≤ℤ_refl lowest) (≤ℤ-trans l h) x l h in
    cases (bit 8 v)
    (λ e.
    let (u, n) = (and-eq-true_iff (le_z lowest (lowest -ℤ pos (needed s v)) && lt_z lowest lowest) (not (eqb v 8 && eqb (s / 8) 0))).0 (rw e at t) in
    let above = ((and-eq-true_iff (le_z lowest (lowest -ℤ pos (needed s v))) (lt_z lowest lowest)).0 u).1 in
    absurd (<ℤ_irrefl (lt_z_yes {a = lowest} (rw above tt))))
    (λ e. e)

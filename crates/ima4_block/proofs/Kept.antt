-- A decoder at its own header keeps its state: the header drops the predictor's low seven bits, so the predictor is the header's and at most 127 more.
-- Assumes nothing.
use mathlib.Core.Path.{◌≡◌, refl, sym, ap, subst}
use mathlib.Core.Bool.{true}
use Prim.Native.Nat.{ℕ, suc, ◌+◌, ◌-◌, ◌*◌, ◌/◌, ◌%◌, ◌≤◌, ◌<◌, min}
use native.Mathlib.Omega.{arith}
use lib.Dec.{leb→le, le→leb}
use lib.Ieee.Bits.{is_true}
use lib.IntN.{ℤ, pos, negsuc, ◌+ℤ◌, ◌-ℤ◌}
use lib.Signed.{le_z, ◌≤ℤ◌}
use borrow.Author.Tests.{lt-ltb, le-ltb, eq-eqb, ne_eqb}
use borrow.Table.Steps.{cases}
use Rattle.halves.specs.Halves.{from_bits, bits_of}
use Rattle.num.proofs.Shift.{shift_le}
use Rattle.num.proofs.Within.{clamp-under, clamp-over}
use Rattle.ima_nibble.specs.Step.{State, sixteen, In, Good}
use Rattle.ima4_block.specs.Header.{header_bits, header_state, saturated, near, keeps, start_state}

-- the header's predictor, and what it dropped
abbrev top : ℤ → ℤ
top p = from_bits (128 * (bits_of p / 128))

dropped : (p : ℤ) → In sixteen p → p ≡ top p +ℤ pos (bits_of p % 128)
dropped (pos n) h =
    let k = leb→le n 32767 h.below.le in
    rw (lt-ltb (128 * (n / 128)) 32768 (omega arith)) (ap pos (omega arith))
dropped (negsuc n) h =
    let k = leb→le n 32767 h.above.le in
    let b = 65535 - n in
    let t = 128 * (b / 128) in
    rw (le-ltb t 32768 (omega arith), lt-ltb (b % 128) (suc (65535 - t)) (omega arith)) (ap negsuc (omega arith))

near-above : (x : ℤ) (r : ℕ) → r ≤ 127 → In sixteen (x +ℤ pos r) → near (x +ℤ pos r) x ≡ true
near-above x r le h =
    let p = x +ℤ pos r in
    let low : (x -ℤ pos 127) ≤ℤ p = record { le = rw (shift_le x (negsuc 126) (pos r)) tt } in
    let high : p ≤ℤ (x +ℤ pos 127) = record { le = rw (shift_le x (pos r) (pos 127)) (le→leb r 127 le) } in
    rw (is_true (le_z (saturated (x -ℤ pos 127)) p) (clamp-under h.above h.below (x -ℤ pos 127) low).le)
    (is_true (le_z p (saturated (x +ℤ pos 127))) (clamp-over h.above h.below (x +ℤ pos 127) high).le)

keeps-own : (st : State) → Good sixteen st → keeps st (header_state st (header_bits st)) ≡ true
keeps-own st h =
    let x = st.predictor in
    let e = dropped x h.inside in
    let p : header_bits st / 128 ≡ bits_of x / 128 = omega (arith, h.held) in
    let i : min (header_bits st % 128) 88 ≡ st.index = omega (arith, h.held) in
    rw (p, i, eq-eqb st.index st.index refl)
    (subst (λ z. near z (top x) ≡ true) (sym e) (near-above (top x) (bits_of x % 128) (omega arith) (subst (In sixteen) e h.inside)))

-- A state within the limits is kept at its own header.
pub kept : (st : State) → Good sixteen st → start_state st (header_bits st / 256) (header_bits st % 256) ≡ st
unfolding start_state
kept st h =
    let whole : 256 * (header_bits st / 256) + header_bits st % 256 ≡ header_bits st = omega arith in
    rw (whole, keeps-own st h)

-- An incoming index above 88, as 200, always reloads.
pub reloads : (own : State) (high low : ℕ) → 88 < own.index → start_state own high low ≡ header_state own (256 * high + low)
unfolding start_state
reloads own high low h = rw (ne_eqb own.index (min ((256 * high + low) % 128) 88) (λ e. omega arith)) refl

-- The count is the decoder's own at every header.
pub count-stays : (own : State) (high low : ℕ) → (start_state own high low).clipped ≡ own.clipped
unfolding start_state
count-stays own high low = cases (keeps own (header_state own (256 * high + low))) (λ e. rw e refl) (λ e. rw e refl)

-- A sum that is not outside is its own clamp, and is not counted. Assumes nothing.
use Rattle.std.proofs.Common.{◌≡◌, ◌≤◌, ℕ, ℤ, pos, negsuc, ◌+ℤ◌, ◌≤ℤ◌, false, sym, arith}
use Rattle.std.proofs.lemmas.Int.{to_z-of_z, ints}
use Rattle.num.proofs.Within.{clamp-inside, clamp-within}
use Rattle.ima_nibble.specs.Step.{tallied}
use Rattle.ima_step.specs.Private.{held, leaves}
use Rattle.ima_step.proofs.sums.hold_both.Goals as goal
use Rattle.ima_step.proofs.sums.hold_both.Goals.{Else-outside-2}

-- what is held is within 16 bits
within : (x : ℤ) → (negsuc 32767 ≤ℤ held x) × (held x ≤ℤ pos 32767)
within = clamp-within {a = negsuc 32767} {b = pos 32767} (record { le = tt })

module _ (y x : ℤ) (e : leaves y ≡ false) where
  once : y ≡ held y
  once = sym (clamp-inside (negsuc 32767) (pos 32767) y e)

  twice : leaves (y +ℤ x) ≡ false → y +ℤ x ≡ held (held y +ℤ x)
  twice f = rw (← once) (sym (clamp-inside (negsuc 32767) (pos 32767) (y +ℤ x) f))

  none : (n : ℕ) → n ≤ 4294967295 → leaves (y +ℤ x) ≡ false → n ≡ tallied 4294967295 (leaves (held y +ℤ x)) (tallied 4294967295 (leaves y) n)
  none n h f = rw (← once, e, f) (omega arith)

-- what the two tests say
first-inside : (c : Else-outside-2) → leaves (c.args.predictor +ℤ c.args.one.by) ≡ false
first-inside c = grind (arith, to_z-of_z)

second-inside : (c : Else-outside-2) → leaves (c.args.predictor +ℤ c.args.one.by +ℤ c.args.two.by) ≡ false
second-inside c = grind (arith, to_z-of_z)

pub overflow_cast-second : goal.overflow_cast-second
overflow_cast-second c =
    let sum = c.args.predictor +ℤ c.args.one.by in
    let two = twice sum c.args.two.by (first-inside c) (second-inside c) in
    let (low, high) = within (held sum +ℤ c.args.two.by) in
    grind (arith, ints)

pub returns : goal.returns
returns c =
    let sum = c.args.predictor +ℤ c.args.one.by in
    let e = first-inside c in
    let f = second-inside c in
    let one = once sum c.args.two.by e in
    let two = twice sum c.args.two.by e f in
    let (low, high) = within sum in
    let (low₂, high₂) = within (held sum +ℤ c.args.two.by) in
    (omega (arith, ints), omega (arith, ints), none sum c.args.two.by e c.args.clipped (omega arith) f)

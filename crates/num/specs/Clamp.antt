-- A number held between two limits. Assumes nothing.
use Rattle.std.specs.Prelude.{Bool, cond, ◌||◌, ℤ}
use Rattle.std.specs.Int.Signed.{lt_z}

-- A number below the lower limit becomes that limit, and one above the upper limit becomes that one.
abbrev pub clamp : ℤ → ℤ → ℤ → ℤ
clamp lowest highest x = cond (lt_z x lowest) lowest (cond (lt_z highest x) highest x)

-- A number outside the limits is below the lower one or above the upper one. A limit itself is not outside.
unfoldable pub outside : ℤ → ℤ → ℤ → Bool
outside lowest highest x = lt_z x lowest || lt_z highest x

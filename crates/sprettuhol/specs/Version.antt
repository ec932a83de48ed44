-- The version of the library. Assumes nothing.
use Rattle.std.specs.Prelude.{ℕ, ◌+◌, ◌*◌}

-- 10,000 for each major number, 100 for each minor one, 1 for each patch. This is 0.6.0.
abbrev pub version : ℕ
version = 10000 * 0 + 100 * 6 + 0

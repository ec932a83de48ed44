-- What both decoders share: a table that is the list of the law's samples has the sample of each code, as the machine reads it.
-- Assumes nothing.
use mathlib.Core.Path.{◌≡◌, ◌∙◌}
use mathlib.Core.List.{List}
use Prim.Native.Nat.{ℕ, ◌<◌}
use lib.IntN.{ℤ, pos}
use lib.ListN.{get_or}
use lib.Signed.{mag}
use mir.Syntax.{w16}
use mir.Val.{to_z, of_z}
use mir.ValLaws.{to_z-of_z}
use Rattle.num.specs.Lists.{from}
use Rattle.num.proofs.Lists.{table}
use Rattle.g711.specs.Law.{Law, sample_of}

pub read : (law : Law) (xs : List ℤ) (code : ℕ) → code < 256 → mag (get_or xs code (pos 0)) < 32768 → xs ≡ from 256 0 (sample_of law) → to_z w16 (of_z w16 (get_or xs code (pos 0))) ≡ sample_of law code
read law xs code h f e = to_z-of_z w16 _ (record { sfits = f }) ∙ table (sample_of law) xs 256 e code (pos 0) h

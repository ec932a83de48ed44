-- A place has at most ten digits. Assumes nothing.
use Rattle.std.proofs.Common.{rules}
use Rattle.text.proofs.Decimal.{ten-digits}
use Rattle.lines.proofs.put_place.Goals as goal

pub returns-in-Some : goal.returns-in-Some
returns-in-Some c = rw c.in-Some.is (c.put_decimal.ensures, ten-digits _ (search rules))

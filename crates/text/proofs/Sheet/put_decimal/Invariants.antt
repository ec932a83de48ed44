-- A turn takes the last digit of what is left, so what is left and then the digits behind it is the number. Assumes nothing.
use Rattle.std.proofs.Common.{◌≡◌, suc, ◌^◌, ◌<◌, ◌++◌, length, drop}
use Rattle.text.specs.Text.{decimal}
use Rattle.text.proofs.Sheet.put_decimal.Given as goal

abbrev pub invariant-loop-rest : goal.invariant-loop-rest
invariant-loop-rest l = record {
  digits : decimal l.rest ++ drop (suc l.first) l.digits ≡ decimal l.n;
  few : l.rest < 10 ^ suc l.first;
  room : l.first < 10;
  size : length l.digits ≡ 10;
}

abbrev pub decreases-loop-rest : goal.decreases-loop-rest
decreases-loop-rest l = l.first

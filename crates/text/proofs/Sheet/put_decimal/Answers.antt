-- A turn puts the last digit of what is left before the digits behind it, and in the end these are the number. Assumes nothing.
use Rattle.std.proofs.Common.{ℕ, ◌/◌, ◌++◌, drop, slice_set, ap, ◌∙◌, arith, length-set}
use Rattle.text.specs.Text.{decimal, put_in, place_after}
use Rattle.text.proofs.Decimal.{tenth, not_last, first-digit, next-digit}
use Rattle.text.proofs.Sheet.put_decimal.Goals as goal

pub loop-rest-preserved : goal.loop-rest-preserved
loop-rest-preserved c =
    let l = c.loop-rest in
    let inv = l.invariant in
    let d = c.digit.result in
    -- there is a place before it
    let before = not_last l.first l.rest c.loop-rest-test.true inv.few in
    record {
      digits =
          ap (λ (k : ℕ). decimal (l.rest / 10) ++ drop k (slice_set l.digits l.first d)) before
          ∙ next-digit l.digits l.first d (omega arith) l.rest c.loop-rest-test.true c.digit.ensures
          ∙ inv.digits;
      few = rw before (tenth l.first l.rest inv.few);
      room = omega arith;
      size = length-set l.digits l.first d ∙ inv.size;
    }

pub returns : goal.returns
returns c =
    let s = c.args.self.now in
    let l = c.loop-rest in
    let last = c.digit-2 in
    let is = first-digit l.digits l.first last.result (omega arith) 10 l.rest l.invariant.size (omega arith) last.ensures ∙ l.invariant.digits in
    let (same, place, buffer) = c.put.ensures in
    (same, place ∙ ap (place_after s.out.now s.at) is, buffer ∙ ap (put_in s.out.now s.at) is)

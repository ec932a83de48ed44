-- Each turn keeps what one stretch more shows. Assumes nothing.
use Rattle.std.proofs.Common.{◌≡◌, ◌+◌, ◌≤◌, length}
use Rattle.loss.specs.Loss.{distances}
use Rattle.loss.proofs.Kept.{Kept, Leads}
use Rattle.loss.proofs.look.Given as goal

abbrev pub invariant-loop-xs : goal.invariant-loop-xs
invariant-loop-xs l =
    let xs = l.xs-iterator.a in
    let ys = l.xs-iterator.b in
    record {
      sizes : (xs.size ≡ 128) × (ys.size ≡ 128);
      same : length xs.rest.now ≡ length ys.rest.now;
      kept : Kept (distances l.before l.after) (distances xs.rest.now ys.rest.now) l.count l.largest;
      leads : Leads l.before l.after xs.rest.now ys.rest.now l.count l.alike;
      few : l.count + length xs.rest.now ≤ length l.before;
      within : l.alike + length xs.rest.now ≤ length l.before;
    }

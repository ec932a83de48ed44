-- Behind the two tests, what was seen of the places is what is reported. Assumes nothing.
use Rattle.std.proofs.Common.{arith}
use Rattle.loss.proofs.Places.{reports}
use Rattle.loss.proofs.loss_report.Goals as goal

pub returns : goal.returns
returns c =
    let a = c.args in
    let all = c.look-all in
    reports a.before.now a.after.now (omega arith) (omega arith) all.result.alike all.ensures.0 c.first_from.ensures all.ensures.1

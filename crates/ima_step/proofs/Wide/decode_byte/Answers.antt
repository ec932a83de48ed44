-- What one nibble makes of a state is what the next begins with. Assumes nothing.
use Rattle.std.proofs.Common.{◌/◌, ◌%◌, rules}
use Rattle.std.proofs.lemmas.Int.{to_z-of_z}
use mir.Syntax.{w16}
use mir.Val.{SFits}
use Rattle.ima_step.specs.View.{wide_of}
use Rattle.ima_step.proofs.Twice.{twice-is}
use Rattle.ima_step.proofs.Wide.decode_byte.Goals as goal

pub returns : goal.returns
returns c =
    let a = c.args in
    let f : SFits w16 a.self.predictor = search rules in
    let between = c.next-between in
    let low = c.low_nibble-low.ensures in
    let high = c.high_nibble-high.ensures in
    twice-is a.steps.now (wide_of a.self) (a.byte % 16) (a.byte / 16) c.at-first.result.index between.result.index c.of-one.result.by c.of-two.result.by c.at-first.ensures (rw low at between.ensures) between.result.held (rw (c.step.ensures, low) at c.of-one.ensures) (rw (c.step-2.ensures, high) at c.of-two.ensures) (rw (to_z-of_z w16 _ f) at c.hold_both.ensures)

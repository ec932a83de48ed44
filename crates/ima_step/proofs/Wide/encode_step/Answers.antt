-- Every part is the definition's of the same step and difference. Assumes nothing.
use Rattle.std.proofs.Common.{Bool, ap, ◌∙◌, rules, arith}
use Rattle.std.proofs.lemmas.Int.{to_z-of_z}
use mir.Syntax.{w16, w32}
use mir.Val.{SFits}
use Rattle.ima_nibble.specs.Step.{tallied}
use Rattle.ima_step.specs.View.{wide_of}
use Rattle.ima_step.proofs.Encoding.{coded-is}
use Rattle.ima_step.proofs.Wide.encode_step.Goals as goal

pub returns : goal.returns
returns c =
    let a = c.args in
    let f : SFits w16 a.self.predictor = search rules in
    let g : SFits w16 c.towards-moved.result.predictor = search rules in
    let k : SFits w32 c.difference-x.result = search rules in
    let x-is = rw (to_z-of_z w16 _ c.ranges.sample, to_z-of_z w16 _ f) at c.difference-x.ensures.0 in
    let r-is = rw (to_z-of_z w32 _ k) at c.unsigned_abs-r.ensures.value in
    let side-is = rw (to_z-of_z w32 _ k) at c.sign.ensures.0 in
    let four-is = rw c.from.ensures at c.takes-four.ensures.0 in
    let taken-is = rw c.from-2.ensures at c.greedy_take.ensures.0 in
    let moves = rw (to_z-of_z w32 _ k, to_z-of_z w16 _ f, c.from-3.ensures) at c.towards-moved.ensures in
    let count-is = c.tally.ensures ∙ ap (λ (b : Bool). tallied 4294967295 b a.self.clipped) moves.1 in
    let (emits, behind) = coded-is a.steps.now (wide_of a.self) a.sample c.difference-x.result c.at-from.result.index c.step-s.result c.unsigned_abs-r.result c.sign.result c.reach_count.result c.takes-four.result c.reach_count-above.result c.greedy_take.result c.at-from.ensures c.step-s.ensures x-is r-is side-is c.reach_count.ensures.0 four-is c.reach_count-above.ensures.0 taken-is moves.0 c.raise.ensures count-is in
    (emits, omega arith, rw (to_z-of_z w16 _ g) behind)

-- A turn writes the next answer, so what is written and then the rest of the answers is all of them. Assumes nothing.
use Rattle.std.proofs.Common.{◌≡◌, ℕ, ap, ◌∙◌, arith, rules}
use Rattle.std.proofs.Math.IntN.{sub_ℕ}
use Rattle.std.proofs.Math.ListN.{length-set}
use Rattle.std.proofs.lemmas.Int.{to_z-of_z}
use mir.Syntax.{w16}
use mir.Val.{SFits}
use Rattle.num.proofs.Lists.{one_more}
use Rattle.ima_nibble.specs.Step.{State}
use Rattle.ima_nibble.specs.Table.{ima_steps}
use Rattle.ima_step.specs.View.{wide_of}
use Rattle.sweep.specs.Answers.{answer_of}
use Rattle.sweep.proofs.sweep_encode.Goals as goal

abbrev rule : State → ℕ → ℕ
rule st k = answer_of ima_steps st (sub_ℕ k 32768)

pub loop-k-preserved : goal.loop-k-preserved
unfolding ima_steps
loop-k-preserved c =
    let w = wide_of c.from-wide.result in
    let k = c.loop-k.k in
    let out = c.loop-k.answers in
    let inv = c.loop-k.invariant in
    let g : SFits w16 c.sample.result = search rules in
    let is : c.answer_of.result ≡ rule w k = c.answer_of.ensures ∙ ap (answer_of ima_steps w) (to_z-of_z w16 _ g ∙ c.sample.ensures) in
    record {
      written = one_more (rule w) 65536 k out c.answer_of.result inv.whole (omega arith) is inv.written;
      whole = length-set out k c.answer_of.result ∙ inv.whole;
    }

-- It asks about the block alone, and then about the second buffer.
use Rattle.std.proofs.Common.{◌≡◌, sym, ap, ◌∙◌, rules, refl, eq-eqb, ne_eqb}
use Rattle.refusal.specs.Refusal.{refusal_number, number_in}
use Rattle.refusal.proofs.Numbers.{number-not-0}
use Rattle.ms_block.specs.Sizes.{ms_refusal}
use Rattle.ms_block.proofs.Lengths.{refused, fits}
use Rattle.ms_layout.proofs.check_repack.Goals as goal

pub returns-in_err-check : goal.returns-in_err-check
returns-in_err-check c =
    let a = c.args in
    let r = c.in_err-check.field-0.0 in
    let whole = refused a.channels a.bytes a.others (refusal_number r) (c.in_err-check.ensures ∙ ap (ms_refusal a.channels a.bytes) c.samples.ensures) (number-not-0 r) in
    let handed : number_in c.from_residual.result ≡ refusal_number r = search rules in
    handed ∙ whole

pub returns-then-others-bytes : goal.returns-then-others-bytes
returns-then-others-bytes c =
    let a = c.args in
    sym (fits a.channels a.bytes a.others 0 (c.in_ok-check.ensures ∙ ap (ms_refusal a.channels a.bytes) c.samples.ensures) refl ∙ rw (eq-eqb a.others a.bytes c.if-others-bytes.true) refl)

pub returns-else-others-bytes : goal.returns-else-others-bytes
returns-else-others-bytes c =
    let a = c.args in
    sym (fits a.channels a.bytes a.others 0 (c.in_ok-check.ensures ∙ ap (ms_refusal a.channels a.bytes) c.samples.ensures) refl ∙ rw (ne_eqb a.others a.bytes c.if-others-bytes.false) refl)

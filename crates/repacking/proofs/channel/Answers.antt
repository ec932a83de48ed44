-- A byte is read by one state and written by another, and no other place is touched.
use Rattle.std.proofs.Common.{◌≡◌, length, ℕ, suc, ◌+◌, ◌*◌, ◌/◌, ◌%◌, refl, sym, ap, ◌∙◌, subst, get_or, arith, rules, w16, FitsSigned, to_z, of_z}
use Rattle.std.proofs.Math.Facts.{to_z-of_z}
use Rattle.std.proofs.Math.ListN.{set}
use Rattle.ima_nibble.specs.Step.{state, sixteen, stepped, emitted}
use Rattle.ima_nibble.specs.Table.{ima_steps}
use Rattle.ima_step.specs.View.{wide_of}
use Rattle.ima_step.proofs.Twice.{behind}
use Rattle.ms_block.specs.Weave.{place}
use Rattle.ms_block.proofs.Sizes.{shape}
use Rattle.ms_repacked.proofs.Midway.{Midway, start, turn}
use Rattle.repacking.proofs.channel.Goals as goal

pub loop-d-init : goal.loop-d-init
loop-d-init c =
    let is = shape _ _ _ c.requires.0.0 in
    let made = c.header.ensures in
    record {
      midway = start c.args.block.now is c.args.ch c.requires.1 c.header.new.out (wide_of c.from-reads.result) (c.from-reads.ensures.0 ∙ made.0) made.1;
    }

pub loop-d-preserved : goal.loop-d-preserved
unfolding ima_steps
loop-d-preserved c =
    let a = c.args in
    let is = shape _ _ _ c.requires.0.0 in
    let loop = c.loop-d in
    let p = place 4 a.c a.ch loop.d in
    let read = wide_of loop.reads in
    let write = wide_of loop.writes in
    let byte = get_or a.block.now p 0 in
    let pair = c.decode_byte-pair in
    let first = c.encode_step-first in
    let second = c.encode_step-second in
    let f : FitsSigned w16 pair.result.first = search rules in
    let g : FitsSigned w16 pair.result.second = search rules in
    let between = stepped sixteen ima_steps read (byte % 16) in
    let y = to_z w16 (of_z w16 pair.result.second) in
    let index = c.index_after-index in
    let after = state y index.result pair.result.clipped in
    let after_is = behind ima_steps read (byte % 16) (byte / 16) y index.result pair.result.clipped (to_z-of_z g ∙ pair.ensures.1) index.ensures pair.ensures.2 in
    let first-is = first.ensures.0 ∙ ap (emitted sixteen ima_steps write) (to_z-of_z f ∙ pair.ensures.0) in
    let written = c.pack in
    let packed : written.result ≡ 16 * second.result.nibble + first.result.nibble = written.ensures ∙ omega (arith, first.ensures.1, second.ensures.1) in
    let next : suc loop.d ≡ loop.d + 1 = omega arith in
    let Behind : ℕ → ℕ → Type 0 = λ d byte. Midway a.c a.block.now a.ch d (set loop.out p byte) after (wide_of second.result.next) in
    let same : length loop.out ≡ length a.block.now = omega arith in
    let once =
    turn a.block.now is a.ch c.requires.1 loop.d byte first.result.nibble second.result.nibble loop.out
    read between after write (wide_of first.result.next) (wide_of second.result.next)
    (omega arith) (omega arith) same refl refl after_is first-is first.ensures.2 second.ensures.0 second.ensures.2 loop.invariant.midway in
    record {
      midway = subst (λ (d : ℕ). Behind d written.result) next (subst (Behind (suc loop.d)) (sym packed) once);
    }

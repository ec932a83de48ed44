-- An iteration reads one channel's header.
use Rattle.std.proofs.Common.{◌≡◌, ◌<◌, ◌∙◌, ℕ, map, length, refl, sym, ap, arith, rules, length-set}
use Rattle.std.proofs.lemmas.List.{length-map}
use mir.Syntax.{w16}
use mir.Val.{SFits, to_z, of_z}
use mir.ValLaws.{to_z-of_z}
use Rattle.num.specs.Lists.{from}
use Rattle.num.proofs.Lists.{all-at, all_from, map-set}
use Rattle.ima_nibble.specs.Step.{State, zero_state}
use Rattle.ima_step.specs.View.{wide_of}
use Rattle.ms_block.specs.Sizes.{most}
use Rattle.ms_block.proofs.Sizes.{shape, samples-all}
use Rattle.ms_block.proofs.OwnBytes.{head-is}
use Rattle.ms_decode.proofs.Read.{heads-turn}
use Rattle.ms_decode.proofs.heads.Goals as goal

pub loop-ch-init : goal.loop-ch-init
unfolding from
loop-ch-init c =
    let a = c.args in
    let zero = wide_of c.from-wides.result in
    let none : zero.clipped ≡ 0 = ap (λ (st : State). st.clipped) (c.from-wides.ensures.0 ∙ c.head.ensures) in
    let all = all_from (λ (k : ℕ). zero) (λ (st : State). st.clipped ≡ 0) (λ k. none) most 0 in
    record {
      headed = record {
        there = λ e l. absurd (omega arith);
        others = λ e l. all-at (λ (st : State). st.clipped ≡ 0) (from most 0 (λ (k : ℕ). zero)) e zero_state refl all;
      };
      shape = shape a.c (length a.buf.now) (length a.out_samples.now) c.requires;
      size = refl;
    }

pub loop-ch-preserved : goal.loop-ch-preserved
loop-ch-preserved c =
    let a = c.args in
    let inv = c.loop-ch.invariant in
    let ch = c.loop-ch.ch in
    let h : ch < a.c = omega arith in
    let out = c.loop-ch.out_samples in
    let wides = c.loop-ch.wides in
    let wide = c.from-wide.result in
    let x = to_z w16 (of_z w16 wide.predictor) in
    let f : SFits w16 wide.predictor = search rules in
    let is = inv.shape in
    let st-is = c.from-wide.ensures.0 ∙ c.head-in-loop-ch.ensures ∙ sym (head-is a.buf.now is ch h) in
    let turn = heads-turn a.c a.buf.now ch out (map wide_of wides) (wide_of wide) x (omega (arith, samples-all is)) (omega (arith, is.few, length-map wides wide_of)) st-is (to_z-of_z w16 _ f) inv.headed in
    record {
      headed = rw (map-set wide_of wides ch wide) turn;
      shape = is;
      size = length-set wides ch wide ∙ inv.size;
    }

-- A turn writes one channel's header, and sets its predictor.
use Rattle.std.proofs.Common.{◌≡◌, map, length, ℕ, ◌/◌, ◌<◌, ℤ, pos, ◌∙◌, sym, ap, ap₂, subst, rules, arith, get_or}
use Rattle.std.proofs.lemmas.Int.{to_z-of_z}
use mir.Syntax.{w16}
use mir.Val.{SFits}
use Rattle.halves.specs.Halves.{bits_of}
use lib.ListN.{length-set, length-map, get_or-map}
use Rattle.num.proofs.Lists.{map-set}
use Rattle.ima_nibble.specs.Step.{State, reloaded}
use Rattle.adpcm_ima.specs.View.{state_of, zeroed}
use Rattle.ms_block.proofs.Sizes.{shape}
use Rattle.ms_encode.proofs.Write.{Begun, begun_first, begun-turn, begun_all}
use Rattle.ms_encode.proofs.heads.Goals as goal

pub loop-ch-init : goal.loop-ch-init
loop-ch-init c =
    let a = c.args in
    record {
      written = begun_first a.c a.samples.now (map state_of a.given) a.out_buf.now;
      shape = shape a.c (length a.out_buf.now) (length a.samples.now) c.requires;
      some = search rules;
    }

pub loop-ch-preserved : goal.loop-ch-preserved
loop-ch-preserved c =
    let a = c.args in
    let samples = a.samples.now in
    let loop = c.loop-ch in
    let inv = loop.invariant in
    let ch = loop.ch in
    let out = loop.out_buf in
    let states = loop.states in
    let st = get_or states ch zeroed in
    let low = c.low_half in
    let high = c.high_half in
    let bits = c.bits_of-bits in
    let high-is : high.result ≡ bits.result / 256 = high.ensures ∙ omega (arith, bits.ensures.1) in
    let f : SFits w16 (get_or samples ch (pos 0)) = search rules in
    let first = to_z-of_z w16 _ f in
    let is = inv.shape in
    let some : ch < length (map state_of states) = omega (arith, is.few, length-map states state_of) in
    let own = get_or-map state_of states ch zeroed in
    let turn =
    begun-turn samples (map state_of a.given) is ch out (map state_of states) bits.result st.step_index (state_of c.reload.result) (omega arith) loop.auto.out_buf some
    (bits.ensures.0 ∙ ap bits_of first)
    (ap (λ (s : State). s.index) (sym own))
    (c.reload.ensures ∙ ap₂ (λ (s : State) (z : ℤ). reloaded s z st.step_index) (sym own) first)
    inv.written in
    record {
      written = rw (map-set state_of states ch c.reload.result, low.ensures, high-is) turn;
      shape = is;
      some = length-set states ch c.reload.result ∙ inv.some;
    }

pub returns : goal.returns
returns c =
    let a = c.args in
    let inv = c.loop-ch.invariant in
    let all : c.loop-ch.ch ≡ a.c = omega arith in
    begun_all a.samples.now (map state_of a.given) inv.shape c.loop-ch.out_buf (map state_of c.loop-ch.states) (length-map c.loop-ch.states state_of ∙ inv.some)
    (subst (λ (k : ℕ). Begun a.c a.samples.now (map state_of a.given) k c.loop-ch.out_buf (map state_of c.loop-ch.states)) all inv.written)

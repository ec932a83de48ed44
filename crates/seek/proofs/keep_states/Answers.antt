-- A turn writes a state, and goes on to the state before the next block that has one kept.
use Rattle.std.proofs.Common.{◌≡◌, ℕ, ◌+◌, ◌*◌, ◌/◌, ◌%◌, min, length, sym, ap, subst, ◌∙◌, rules, arith}
use Rattle.std.proofs.lemmas.Int.{to_z-of_z}
use mir.Syntax.{w16}
use mir.Val.{SFits}
use lib.ListN.{set, length-set}
use Rattle.num.specs.Lists.{from}
use Rattle.halves.specs.Halves.{bits_of}
use Rattle.ima_nibble.specs.Step.{State}
use Rattle.adpcm_ima.specs.View.{state_of}
use Rattle.ima4_block.specs.Run.{run}
use Rattle.seek_index.specs.Record.{state_before, states_kept, state_bytes}
use Rattle.seek_index.proofs.Kept.{kept-before, all-kept}
use Rattle.seek_index.proofs.Turn.{next-kept, Filled, none_filled, one-state-more, all-filled}
use Rattle.seek.proofs.keep_states.Goals as goal

pub loop-i-init : goal.loop-i-init
unfolding run
loop-i-init c =
    let a = c.args in
    let k = a.k in
    let bytes = a.buf.now in
    let none : min (k * 0) (length bytes / 34) ≡ 0 = omega arith in
    let f : ℕ → State = λ e. state_before (state_of a.state) bytes (k * e) in
    record {
      filled = none_filled f (length a.out.now / 3) a.out.now;
      before = ap (state_before (state_of a.state) bytes) (sym none);
      size = omega (arith, c.requires);
      many = omega (arith, c.requires);
    }

pub loop-i-preserved : goal.loop-i-preserved
loop-i-preserved c =
    let a = c.args in
    let pre = c.requires in
    let loop = c.loop-i in
    let inv = loop.invariant in
    let k = a.k in
    let bytes = a.buf.now in
    let i = loop.i in
    let st = state_of a.state in
    let out = loop.out in
    let n = length bytes / 34 in
    let m = length a.out.now / 3 in
    let f : ℕ → State = λ e. state_before st bytes (k * e) in
    let few = kept-before k pre.2 n i (omega (arith, c.loop-i-test.true, inv.many)) in
    let here : state_of loop.next ≡ f i = inv.before ∙ ap (state_before st bytes) (omega (arith, few)) in
    let fits : SFits w16 loop.next.predictor = search rules in
    let bits-of = c.bits_of-bits.ensures in
    let bits : c.bits_of-bits.result ≡ bits_of (f i).predictor = bits-of.0 ∙ ap bits_of (to_z-of_z w16 _ fits) ∙ ap (λ (s : State). bits_of s.predictor) here in
    let high : c.high_half.result ≡ bits_of (f i).predictor / 256 = omega (arith, c.high_half.ensures, bits, bits-of.1) in
    let low = c.low_half.ensures ∙ ap (λ (b : ℕ). b % 256) bits in
    let index = ap (λ (s : State). s.index) here in
    let out₁ = set out (3 * i) c.high_half.result in
    let out₂ = set out₁ (3 * i + 1) c.low_half.result in
    record {
      filled = one-state-more f m i c.high_half.result c.low_half.result loop.next.step_index out inv.size (omega arith) high low index inv.filled;
      before = next-kept st bytes k n i c.min-end.result (state_of loop.next) (state_of c.state_behind-next.result) pre.1 few c.min-end.ensures inv.before c.state_behind-next.ensures;
      size = length-set out₂ (3 * i + 2) loop.next.step_index ∙ length-set out₁ (3 * i + 1) c.low_half.result ∙ length-set out (3 * i) c.high_half.result ∙ inv.size;
      many = inv.many;
    }

pub returns : goal.returns
returns c =
    let a = c.args in
    let loop = c.loop-i in
    let inv = loop.invariant in
    let k = a.k in
    let n = length a.buf.now / 34 in
    let m = length a.out.now / 3 in
    let f : ℕ → State = λ e. state_before (state_of a.state) a.buf.now (k * e) in
    let last : loop.i ≡ states_kept k n = omega (arith, c.loop-i-test.false, inv.many) in
    let count : loop.i ≡ m = last ∙ sym inv.many in
    let all : min (k * loop.i) n ≡ n = rw last (omega (arith, all-kept k c.requires.2 n)) in
    let filled = all-filled f m loop.out inv.size (subst (λ (i : ℕ). Filled f m loop.out i) count inv.filled) in
    (filled ∙ ap (λ (j : ℕ). state_bytes (from j 0 f)) inv.many, inv.before ∙ ap (state_before (state_of a.state) a.buf.now) all)

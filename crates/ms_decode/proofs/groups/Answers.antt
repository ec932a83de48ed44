-- A byte gives two samples of its channel, at their places, and moves that channel's state alone; between the bytes the loops only pass on from
-- whom to whom.
use Rattle.std.proofs.Common.{◌≡◌, ◌∙◌, ℕ, ◌+◌, ◌-◌, ◌*◌, ◌/◌, ◌%◌, ◌<◌, map, length, get_or, ℤ, refl, sym, ap, subst, arith, rules, length-set}
use Rattle.std.proofs.lemmas.List.{length-map}
use mir.Syntax.{w16}
use mir.Val.{SFits, to_z, of_z}
use mir.ValLaws.{to_z-of_z}
use Rattle.num.proofs.Lists.{map-set, map-kept}
use Rattle.ima_nibble.specs.Step.{state, sixteen, stepped}
use Rattle.ima_nibble.specs.Table.{ima_steps}
use Rattle.ima_step.specs.View.{wide_of, zero_wide}
use Rattle.ima_step.proofs.Twice.{behind}
use Rattle.ms_block.proofs.Sizes.{Shape, shape}
use Rattle.ms_block.proofs.Walk.{Bytes, groups-first, bytes-first, bytes_next, channels-next, own, frame_is, room}
use Rattle.ms_decode.proofs.Read.{Upto, first, byte-turn, ends}
use Rattle.ms_decode.proofs.groups.Goals as goal

pub overflow_mul-at : goal.overflow_mul-at
overflow_mul-at c = let is = shape c.args.c _ _ c.requires.0 in omega (arith, is.few)

pub block-init : goal.block-init
block-init c =
    let a = c.args in
    let is = shape a.c (length a.buf.now) (length a.out_samples.now) c.requires.0 in
    let zeroth : c.into_iter-g-iterator.result.start ≡ 0 = search rules in
    record {
      upto = first a.c (omega (arith, is.some)) a.buf.now a.out_samples.now (map wide_of a.heads) c.requires.1;
      place = rw zeroth (groups-first (subst (Shape a.c (length a.buf.now)) is.fits is));
      size = search rules;
    }

pub loop-i-init : goal.loop-i-init
loop-i-init c =
    let a = c.args in
    let ch = c.loop-ch.ch in
    let inv = c.loop-ch.invariant in
    record {
      upto = subst (Upto a.c a.buf.now c.loop-ch.at c.loop-ch.out_samples) (map-kept wide_of c.loop-ch.wides ch zero_wide) inv.upto;
      place = bytes-first c.in-Some.g ch c.loop-ch.at c.min-end.result inv.place (omega arith) c.if-at-n.false c.min-end.ensures;
      size = inv.size;
    }

-- where the two samples of a byte go
places : {c n g ch start end at : ℕ} (w : Bytes c n g ch start end at) (l : at < end) → let k = c * (8 * g + 1 + 2 * (at - start)) + ch in
    (k ≡ c * (2 * own w l - 7) + ch) × (k + c < 2 * n - 7 * c)
places {c} {n} {g} {ch} w l =
    let k-is = ap (λ (f : ℕ). c * f + ch) (sym (frame_is w l)) in
    (k-is, omega (arith, k-is, room w l))

pub bounds-out_samples-k : goal.bounds-out_samples-k
bounds-out_samples-k c = let inv = c.loop-i.invariant in omega (arith, places inv.place (omega arith), shape c.args.c _ _ c.requires.0)

pub bounds-out_samples-k-in-loop-i : goal.bounds-out_samples-k-in-loop-i
bounds-out_samples-k-in-loop-i c =
    let inv = c.loop-i.invariant in
    omega (arith, places inv.place (omega arith), shape c.args.c _ _ c.requires.0, length-set {A = ℤ})

pub loop-i-preserved : goal.loop-i-preserved
unfolding ima_steps
loop-i-preserved c =
    let a = c.args in
    let pair = c.decode_byte-pair.result in
    let (first-is, second_is, clipped-is) = c.decode_byte-pair.ensures in
    let index = c.index_after-index in
    let f : SFits w16 pair.first = search rules in
    let s : SFits w16 pair.second = search rules in
    let inv = c.loop-i.invariant in
    let w = inv.place in
    let g = c.in-Some.g in
    let ch = c.loop-ch.ch in
    let start = c.loop-ch.at in
    let i = c.loop-i.i in
    let h : i < c.min-end.result = omega arith in
    let k = a.c * (8 * g + 1 + 2 * (i - start)) + ch in
    let out = c.loop-i.out_samples in
    let wides = map wide_of c.loop-ch.wides in
    let wide = wide_of c.loop-i.wide in
    let byte = get_or a.buf.now i 0 in
    let between = stepped sixteen ima_steps wide (byte % 16) in
    let x = to_z w16 (of_z w16 pair.first) in
    let y = to_z w16 (of_z w16 pair.second) in
    let next = state y index.result pair.clipped in
    let next-is = behind ima_steps wide (byte % 16) (byte / 16) y index.result pair.clipped (to_z-of_z w16 _ s ∙ second_is) index.ensures clipped-is in
    let long : length out ≡ 2 * length a.buf.now - 7 * a.c = omega (arith, shape a.c _ _ c.requires.0) in
    let some : ch < length wides = omega (arith, w.channel, w.block.few, length-map c.loop-ch.wides wide_of, inv.size) in
    record {
      upto =
          byte-turn a.c (omega (arith, w.channel)) a.buf.now w h k out wides wide between next x y
          (places w h).0 long some refl next-is (to_z-of_z w16 _ f ∙ first-is) refl inv.upto;
      place = bytes_next g ch start c.min-end.result i w h;
      size = inv.size;
    }

pub loop-ch-preserved : goal.loop-ch-preserved
loop-ch-preserved c =
    let wides = c.loop-ch.wides in
    let ch = c.loop-ch.ch in
    let inv = c.loop-i.invariant in
    let all : c.loop-i.i ≡ c.min-end.result = omega arith in
    record {
      upto = rw (map-set wide_of wides ch c.loop-i.wide, ← all) inv.upto;
      place = rw (← all) (channels-next c.in-Some.g ch c.loop-ch.at c.min-end.result c.loop-i.i inv.place (omega arith));
      size = length-set wides ch c.loop-i.wide ∙ inv.size;
    }

pub returns-then-at-n : goal.returns-then-at-n
returns-then-at-n c =
    let a = c.args in
    let n = length a.buf.now in
    let inv = c.loop-ch.invariant in
    let is = inv.place.block in
    let wides = map wide_of c.loop-ch.wides in
    let long : 2 * n - 7 * a.c ≡ length c.loop-ch.out_samples = omega (arith, shape a.c _ _ c.requires.0) in
    ends a.c (omega (arith, is.some)) a.buf.now c.loop-ch.out_samples wides (subst (Shape a.c n) long is)
    (subst (λ (p : ℕ). Upto a.c a.buf.now p c.loop-ch.out_samples wides) c.if-at-n.true inv.upto)

-- Two samples of a channel give the byte at its place, and move that channel's state alone; between the bytes the loops only pass on from whom to whom.
use Rattle.std.proofs.Common.{◌≡◌, map, length, ℕ, ◌*◌, ◌+◌, ◌-◌, ◌<◌, pos, ◌∙◌, sym, ap, ap₂, subst, rules, arith, get_or}
use Rattle.std.proofs.lemmas.Int.{to_z-of_z}
use mir.Syntax.{w16}
use mir.Val.{SFits, to_z, of_z}
use lib.ListN.{set, length-set, length-map}
use Rattle.num.proofs.Lists.{map-set, map-kept}
use Rattle.ima_nibble.specs.Step.{sixteen, stepped}
use Rattle.ima_nibble.specs.Table.{ima_steps}
use Rattle.ima_nibble.proofs.Bounds.{moved-lt, narrow_below}
use Rattle.ima_step.specs.View.{wide_of}
use Rattle.adpcm_ima.specs.View.{state_of, zeroed}
use Rattle.ms_block.specs.Sizes.{most}
use Rattle.ms_block.proofs.Sizes.{Shape, shape}
use Rattle.ms_block.proofs.Walk.{Bytes, groups-first, bytes-first, bytes_next, channels-next, own, frame_is, room}
use Rattle.ms_encode.proofs.Write.{Upto, first, byte-turn, ends}
use Rattle.ms_encode.proofs.groups.Goals as goal

-- where the two samples of a byte stand
places : {c n g ch start end at : ℕ} (w : Bytes c n g ch start end at) (l : at < end) → let k = c * (8 * g + 1 + 2 * (at - start)) + ch in
    (k ≡ c * (2 * own w l - 7) + ch) × (k + c < 2 * n - 7 * c)
places {c} {n} {g} {ch} w l =
    let k-is = ap (λ (f : ℕ). c * f + ch) (sym (frame_is w l)) in
    (k-is, omega (arith, k-is, room w l))

pub overflow_mul-at : goal.overflow_mul-at
overflow_mul-at c = let is = shape c.args.c (length c.args.out_buf.now) (length c.args.samples.now) c.requires.0 in omega arith

pub block-init : goal.block-init
block-init c =
    let a = c.args in
    let is = shape a.c (length a.out_buf.now) (length a.samples.now) c.requires.0 in
    let some : length a.starts ≡ most = search rules in
    let zeroth : c.into_iter-g-iterator.result.start ≡ 0 = search rules in
    record {
      written = first a.c (omega (arith, is.some)) a.samples.now (map state_of a.starts) a.out_buf.now c.requires.1;
      walk = rw zeroth (groups-first (subst (Shape a.c (length a.out_buf.now)) is.fits is));
      some = some;
    }

pub loop-i-init : goal.loop-i-init
loop-i-init c =
    let loop = c.loop-ch in
    let ch = loop.ch in
    let inv = loop.invariant in
    let left : loop.at ≡ length c.args.out_buf.now → ⊥ = λ e. omega arith in
    let kept = map-kept state_of loop.states ch zeroed ∙ ap (set (map state_of loop.states) ch) (sym c.from-wide.ensures.0) in
    record {
      written = subst (Upto c.args.c c.args.samples.now (map state_of c.args.starts) loop.at loop.out_buf) kept inv.written;
      walk = bytes-first c.in-Some.g ch loop.at c.min-end.result inv.walk (omega arith) left c.min-end.ensures;
      some = inv.some;
      low = c.from-wide.ensures.1;
    }

pub bounds-samples-k : goal.bounds-samples-k
bounds-samples-k c = let inv = c.loop-i.invariant in omega (arith, shape c.args.c _ _ c.requires.0, places inv.walk (omega arith))

pub bounds-samples-k-in-loop-i : goal.bounds-samples-k-in-loop-i
bounds-samples-k-in-loop-i c = let inv = c.loop-i.invariant in omega (arith, shape c.args.c _ _ c.requires.0, places inv.walk (omega arith))

pub loop-i-preserved : goal.loop-i-preserved
unfolding ima_steps
loop-i-preserved c =
    let a = c.args in
    let samples = a.samples.now in
    let loop = c.loop-i in
    let inv = loop.invariant in
    let i = loop.i in
    let h : i < c.min-end.result = omega arith in
    let g = c.in-Some.g in
    let ch = c.loop-ch.ch in
    let start = c.loop-ch.at in
    let k = a.c * (8 * g + 1 + 2 * (i - start)) + ch in
    let states = c.loop-ch.states in
    let w = wide_of loop.wide in
    let one = c.encode_step-first in
    let two = c.encode_step-second in
    let mid = wide_of one.result.next in
    let end = wide_of two.result.next in
    let byte = c.pack in
    let placed = places inv.walk h in
    let f : SFits w16 (get_or samples k (pos 0)) = search rules in
    let s : SFits w16 (get_or samples (k + a.c) (pos 0)) = search rules in
    let x = to_z w16 (of_z w16 (get_or samples k (pos 0))) in
    let y = to_z w16 (of_z w16 (get_or samples (k + a.c) (pos 0))) in
    let one-is = one.ensures.2 ∙ ap (stepped sixteen ima_steps w) one.ensures.0 in
    let two-is = two.ensures.2 ∙ ap (stepped sixteen ima_steps mid) two.ensures.0 in
    let some : ch < length (map state_of states) = omega (arith, inv.walk.channel, inv.walk.block.few, length-map states state_of, inv.some) in
    let is = shape a.c (length a.out_buf.now) (length samples) c.requires.0 in
    let size : length loop.out_buf ≡ length a.out_buf.now = omega arith in
    let byte-is : byte.result ≡ 16 * two.result.nibble + one.result.nibble = byte.ensures ∙ omega (arith, one.ensures.1, two.ensures.1) in
    record {
      written =
          byte-turn samples (map state_of a.starts) is inv.walk h k loop.out_buf (map state_of states) w mid end x y byte.result size some
          placed.0 (to_z-of_z w16 _ f) (to_z-of_z w16 _ s) one-is two-is (byte-is ∙ ap₂ (λ (v u : ℕ). 16 * v + u) two.ensures.0 one.ensures.0) inv.written;
      walk = bytes_next g ch start c.min-end.result i inv.walk h;
      some = inv.some;
      low = moved-lt ima_steps mid end two.result.nibble two.ensures.2;
    }

pub loop-ch-preserved : goal.loop-ch-preserved
loop-ch-preserved c =
    let loop = c.loop-i in
    let inv = loop.invariant in
    let states = c.loop-ch.states in
    let ch = c.loop-ch.ch in
    let st = c.narrow.ensures ∙ narrow_below (wide_of loop.wide) inv.low in
    let all : loop.i ≡ c.min-end.result = omega arith in
    let back = ap (set (map state_of states) ch) (sym st) ∙ sym (map-set state_of states ch c.narrow.result) in
    record {
      written = rw (← all) (subst (Upto c.args.c c.args.samples.now (map state_of c.args.starts) loop.i loop.out_buf) back inv.written);
      walk = rw (← all) (channels-next c.in-Some.g ch c.loop-ch.at c.min-end.result loop.i inv.walk (omega arith));
      some = length-set states ch c.narrow.result ∙ inv.some;
    }

pub returns-then-at-n : goal.returns-then-at-n
returns-then-at-n c =
    let a = c.args in
    let loop = c.loop-ch in
    let inv = loop.invariant in
    let starts = map state_of a.starts in
    let states = map state_of loop.states in
    let is = shape a.c (length a.out_buf.now) (length a.samples.now) c.requires.0 in
    let size : length loop.out_buf ≡ length a.out_buf.now = omega arith in
    let all : loop.at ≡ length a.out_buf.now = omega arith in
    ends a.samples.now starts is loop.out_buf states (subst (λ (p : ℕ). Upto a.c a.samples.now starts p loop.out_buf states) all inv.written) size (length-map loop.states state_of ∙ inv.some)

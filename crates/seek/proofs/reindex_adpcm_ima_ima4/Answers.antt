-- It goes on from the kept state to the next one, and keeps the states from there on.
use Rattle.std.proofs.Common.{◌≡◌, ℕ, suc, ◌+◌, ◌-◌, ◌*◌, ◌/◌, List, ◌++◌, length, take, drop, sym, ap, ap₂, ◌∙◌, arith}
use Rattle.num.specs.Lists.{from}
use Rattle.num.specs.Outcome.{outcome}
use Rattle.ima_nibble.specs.Step.{State}
use Rattle.adpcm_ima.specs.View.{state_of}
use Rattle.seek_index.specs.Record.{state_before, states_kept, kept_states, state_bytes, every_in, reached, rebuilt}
use Rattle.seek_index.specs.Call.{reindex_ima4}
use Rattle.seek_index.proofs.Bytes.{put-behind}
use Rattle.seek_index.proofs.Lengths.{place-taken, place_kept}
use Rattle.seek_index.proofs.After.{states-after, room_after}
use Rattle.seek.proofs.reindex_adpcm_ima_ima4.Goals as goal

pub keep_states-requires : goal.keep_states-requires
keep_states-requires c =
    let a = c.args in
    let (few, whole, some, most, long, h) = place-taken (length a.buf.now) a.index.now a.from (sym c.in_ok-check_place.ensures) in
    let kept = place_kept (length a.buf.now) a.index.now a.from (few, whole, some, most, long, h) in
    room_after (every_in a.index.now) some most (length a.buf.now / 34) (state_of c.state_in.result) a.buf.now a.index.now a.from c.min-next.result whole few h long kept.1 c.min-next.ensures

pub returns : goal.returns
unfolding reindex_ima4 rebuilt reached
returns c =
    let a = c.args in
    let bytes = a.buf.now in
    let index = a.index.now in
    let j = a.from in
    let k = every_in index in
    let i = j / k in
    let own = state_of c.state_in.result in
    let next = c.min-next.result in
    let kept = c.keep_states in
    let n = length bytes / 34 in
    let t = sym c.in_ok-check_place.ensures in
    let (few, whole, some, most, long, h) = place-taken (length bytes) index j t in
    let before = place_kept (length bytes) index j (few, whole, some, most, long, h) in
    let rest = take (length bytes - next) (drop next bytes) in
    let states =
    kept.ensures.0
    ∙ ap (λ (st : State). state_bytes (kept_states k (length rest / 34) st rest)) c.state_behind-state.ensures
    ∙ ap state_bytes (states-after k some n own bytes j next whole h c.min-next.ensures)
    ∙ ap (λ (st : State). state_bytes (from (states_kept k n - suc i) (suc i) (λ e. state_before st (drop (34 * (k * i)) bytes) (k * e - k * i)))) c.state_in.ensures in
    let front : 7 + 3 * i ≡ 4 + 3 * suc i = omega arith in
    rw t
    (ap (outcome 0 tt)
    (put-behind (7 + 3 * i) index kept.new.out before.1 ∙ ap₂ (λ (p : ℕ) (xs : List ℕ). take p index ++ xs) front states))

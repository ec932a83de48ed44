-- It goes on from the kept state to block `from`, and from there to the end.
use Rattle.std.proofs.Common.{◌≡◌, ℕ, ◌-◌, ◌*◌, ◌/◌, List, length, take, drop, refl, sym, ap, ◌∙◌, arith, length-drop}
use lib.IntN.{ℤ}
use lib.Seq.{take_all}
use Rattle.refusal.proofs.Done.{handed-done}
use Rattle.ima_nibble.specs.Step.{State, uncounted}
use Rattle.adpcm_ima.specs.View.{state_of}
use Rattle.ima4_block.specs.Call.{finished, decoded_run, decode_ima4_run}
use Rattle.ima4_block.proofs.Theorems.{decode-fits}
use Rattle.seek_index.specs.Record.{state_before, every_in, reached}
use Rattle.seek_index.specs.Call.{from_refusal, decode_ima4_from}
use Rattle.seek_index.proofs.Lengths.{place-taken, place_kept, from-done}
use Rattle.seek_index.proofs.Turn.{by_part}
use Rattle.seek.proofs.decode_adpcm_ima_ima4_from.Goals as goal

-- the run's call on the rest is done
rest-done : (st : State) (bytes index : List ℕ) (j : ℕ) (out : List ℤ) → from_refusal (length bytes) index j (length out) ≡ 0
    → decode_ima4_run st (take (length bytes - 34 * j) (drop (34 * j) bytes)) out ≡ finished (decoded_run (length bytes / 34 - j) st (drop (34 * j) bytes))
rest-done st bytes index j out taken =
    let rest = drop (34 * j) bytes in
    let n = length bytes / 34 in
    let (placed, samples) = from-done (length bytes) index j (length out) taken in
    let (few, whole, _, _, _, h) = place-taken (length bytes) index j placed in
    let long = length-drop (34 * j) bytes in
    ap (λ (xs : List ℕ). decode_ima4_run st xs out) (take_all (length bytes - 34 * j) rest (omega (arith, long)))
    ∙ decode-fits (n - j) (omega (arith, few)) st rest out (omega (arith, long, whole, h)) samples

pub unwrap-requires : goal.unwrap-requires
unwrap-requires c =
    let a = c.args in
    let call = c.decode_adpcm_ima_ima4_run in
    handed-done state_of _ _ call.result call.new.out_samples
    (call.ensures ∙ rest-done _ a.buf.now a.index.now a.from a.out_samples.now (sym c.in_ok-check_from.ensures))

pub returns : goal.returns
unfolding decode_ima4_from reached
returns c =
    let a = c.args in
    let bytes = a.buf.now in
    let j = a.from in
    let n = length bytes / 34 in
    let k = every_in a.index.now in
    let taken : from_refusal (length bytes) a.index.now j (length a.out_samples.now) ≡ 0 = sym c.in_ok-check_from.ensures in
    let placed = place-taken (length bytes) a.index.now j (from-done (length bytes) a.index.now j (length a.out_samples.now) taken).0 in
    let (_, whole, _, _, _, h) = placed in
    let before = place_kept (length bytes) a.index.now j placed in
    let call = c.decode_adpcm_ima_ima4_run in
    let part = by_part (state_of c.state_in.result) bytes (k * (j / k)) j (34 * (k * (j / k))) (34 * j) refl refl before.0 (omega (arith, whole, h)) in
    let reaches = c.state_behind-behind.ensures ∙ part ∙ ap (λ (st : State). state_before st (drop (34 * (k * (j / k))) bytes) (j - k * (j / k))) c.state_in.ensures in
    let start = c.recount-start.ensures ∙ ap uncounted reaches in
    rw taken
    ((rw c.unwrap.ensures at call.ensures)
    ∙ rest-done _ bytes a.index.now j a.out_samples.now taken
    ∙ ap (λ (st : State). finished (decoded_run (n - j) st (drop (34 * j) bytes))) start)

-- It writes the head, and then the states of the whole run.
use Rattle.std.proofs.Common.{◌≡◌, ℕ, ◌-◌, ◌/◌, List, ◌++◌, length, sym, ap, ap₂, ◌∙◌, arith}
use Rattle.num.specs.Outcome.{outcome}
use Rattle.seek_index.specs.Record.{rest_length, record_head, seek_index}
use Rattle.seek_index.specs.Call.{index_ima4}
use Rattle.seek_index.proofs.Lengths.{index-taken}
use Rattle.seek_index.proofs.Bytes.{put-behind}
use Rattle.seek.proofs.index_adpcm_ima_ima4.Goals as goal

pub returns : goal.returns
unfolding index_ima4 seek_index
returns c =
    let a = c.args in
    let t = sym c.in_default.ensures in
    let (few, _, _, most, sized) = index-taken (length a.buf.now) a.every (length a.index.now) t in
    let index = c.put_head.new.index in
    let kept = c.keep_states in
    let same : length index ≡ length a.index.now = c.put_head.auto.index in
    let rest : length a.index.now - 2 ≡ rest_length a.every (length a.buf.now / 34) = omega (arith, sized) in
    let head = c.put_head.ensures ∙ ap (record_head a.every) rest in
    let record_is = put-behind 4 index kept.new.out (omega (arith, same, sized)) ∙ ap₂ (λ (xs ys : List ℕ). xs ++ ys) head kept.ensures.0 in
    rw t (ap₂ (outcome 0) kept.ensures.1 record_is)

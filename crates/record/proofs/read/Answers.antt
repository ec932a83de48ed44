-- The block of a record that is well formed has room in the array. Assumes nothing.
use Rattle.std.proofs.Common.{◌≡◌, ◌-◌, ◌++◌, length, take, drop, refl, sym, ap, ◌∙◌, rules, arith, length-drop, zero-add}
use lib.Seq.{take_all}
use Rattle.num.specs.Outcome.{outcome}
use Rattle.record.specs.Record.{channels_of, read_record}
use Rattle.record.proofs.Formed.{formed, block-few}
use Rattle.record.proofs.read.Goals as goal

pub slice_bounds-copy_from_slice-end : goal.slice_bounds-copy_from_slice-end
slice_bounds-copy_from_slice-end c =
    let input = c.args.input.now in
    let is = formed input (sym c.well_formed-2.ensures ∙ c.if-not-well_formed.false) in
    let all = take_all (length input - 4) (drop 4 input) (omega (arith, length-drop 4 input)) in
    omega (arith, ap length all, block-few input is)

pub returns : goal.returns
unfolding read_record
returns c =
    let input = c.args.input.now in
    let out = c.args.block.now in
    let given = take (length input - 4) (drop 4 input) in
    let all = take_all (length input - 4) (drop 4 input) (omega (arith, length-drop 4 input)) in
    let copied : c.copy_from_slice.new.self ≡ given = search rules in
    let is : outcome 0 (channels_of input, length given) (given ++ drop (length given) out) ≡ read_record input out =
    rw (sym c.well_formed-2.ensures ∙ c.if-not-well_formed.false, all, zero-add (length (drop 4 input))) refl in
    rw copied is

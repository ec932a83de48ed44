-- The samples of both blocks are as many, and the report is on them alone.
use Rattle.std.proofs.Common.{◌≡◌, ℕ, ◌≤◌, sym, arith}
use lib.Seq.{length-take-le}
use Rattle.answer.proofs.Small.{samples-are, samples-few, room, reported}
use Rattle.answer.proofs.Repacked.put_loss.Goals as goal

pub slice_bounds-before-end : goal.slice_bounds-before-end
slice_bounds-before-end c = let block = c.args.self in room block.channels block.given.now block.small _ _ c.samples-m.ensures c.samples_of-before.ensures.0

pub slice_bounds-loss_report-end : goal.slice_bounds-loss_report-end
slice_bounds-loss_report-end c =
    let block = c.args.self in
    sym (length-take-le c.samples-m.result c.samples_of-before.result (room block.channels block.given.now block.small _ _ c.samples-m.ensures c.samples_of-before.ensures.0))

pub slice_bounds-after-end : goal.slice_bounds-after-end
slice_bounds-after-end c = let block = c.args.self in room block.channels block.given.now block.small _ _ c.samples-m.ensures c.samples_of-after.ensures.0

pub slice_bounds-loss_report-end-2 : goal.slice_bounds-loss_report-end-2
slice_bounds-loss_report-end-2 c =
    let block = c.args.self in
    sym (length-take-le c.samples-m.result c.samples_of-after.result (room block.channels block.given.now block.small _ _ c.samples-m.ensures c.samples_of-after.ensures.0))

pub unwrap-requires : goal.unwrap-requires
unwrap-requires c =
    let block = c.args.self in
    let m = c.samples-m.result in
    let fits : (k : ℕ) → k ≡ 8185 → m ≤ k = λ k. room block.channels block.given.now block.small m k c.samples-m.ensures in
    reported m _ _ c.loss_report.result
    (length-take-le m c.samples_of-before.result (fits _ c.samples_of-before.ensures.0))
    (length-take-le m c.samples_of-after.result (fits _ c.samples_of-after.ensures.0))
    (omega (arith, c.samples-m.ensures, samples-are block.channels block.given.now block.small, samples-few block.channels block.given.now block.small))
    c.loss_report.ensures

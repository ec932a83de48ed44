-- The record is read, and then its block is answered to.
use Rattle.std.proofs.Common.{List, ℕ, sym, subst, arith}
use lib.Seq.{length-take-le}
use Rattle.text.specs.Text.{Stands}
use Rattle.answer.proofs.Asked.{none, asked}
use Rattle.answer.proofs.answer.Goals as goal

pub slice_bounds-block-end : goal.slice_bounds-block-end
slice_bounds-block-end c =
    let a = c.args in
    let zeros = c.zero_bytes-block in
    let block = asked a.reading a.input.now zeros.result c.read.new.block c.in-Ok.record zeros.ensures c.in-Ok.ensures in
    omega (arith, block.few, block.long)

pub slice_bounds-answer_block-end : goal.slice_bounds-answer_block-end
slice_bounds-answer_block-end c =
    let a = c.args in
    let zeros = c.zero_bytes-block in
    let block = asked a.reading a.input.now zeros.result c.read.new.block c.in-Ok.record zeros.ensures c.in-Ok.ensures in
    sym (length-take-le c.in-Ok.record.length c.read.new.block (omega (arith, block.few, block.long)))

pub returns-in-Ok-clause-stands : goal.returns-in-Ok-clause-stands
returns-in-Ok-clause-stands c =
    let a = c.args in
    let zeros = c.zero_bytes-block in
    let answer = c.answer_block in
    let block = asked a.reading a.input.now zeros.result c.read.new.block c.in-Ok.record zeros.ensures c.in-Ok.ensures in
    subst (λ (text : List ℕ). Stands a.out.now 0 text answer.result answer.new.out) (sym block.asks) answer.ensures

pub returns-in-Err-clause-stands : goal.returns-in-Err-clause-stands
returns-in-Err-clause-stands c =
    let a = c.args in
    let zeros = c.zero_bytes-block in
    let put = c.put_refusal in
    let is = none a.reading a.input.now zeros.result c.read.new.block c.in-Err.malformed c.in-Err.ensures in
    subst (λ (text : List ℕ). Stands a.out.now 0 text put.result put.new.out) (sym is) (rw c.number.ensures at put.ensures)

-- The new block stands at the start of its array, and what is put is of it.
use Rattle.std.proofs.Common.{List, ℕ, ◌++◌, length, drop, sym, subst, arith}
use lib.Seq.{length-take-le}
use Rattle.text.specs.Text.{Stands}
use Rattle.answer.proofs.Made.{refuses, made}
use Rattle.answer.proofs.answer_block.Goals as goal

pub invariant_of-repacked : goal.invariant_of-repacked
invariant_of-repacked c =
    let a = c.args in
    let r = c.repack_adpcm_ima_ms in
    let zeros = c.zero_bytes-made in
    let n = length a.block.now in
    let new = made a.reading a.channels a.block.now zeros.result r.new.out c.in-Ok.changed c.requires zeros.ensures c.in-Ok.ensures in
    record { small = new.small; alike = length-take-le n (r.new.out ++ drop n zeros.result) (omega (arith, c.requires, new.size)) }

pub returns-in-Ok : goal.returns-in-Ok
returns-in-Ok c =
    let a = c.args in
    let r = c.repack_adpcm_ima_ms in
    let zeros = c.zero_bytes-made in
    let put = c.put_lines in
    let new = made a.reading a.channels a.block.now zeros.result r.new.out c.in-Ok.changed c.requires zeros.ensures c.in-Ok.ensures in
    subst (λ (text : List ℕ). Stands a.out.now 0 text put.result put.new.out) (sym new.says) put.ensures

pub returns-in-Err : goal.returns-in-Err
returns-in-Err c =
    let a = c.args in
    let r = c.repack_adpcm_ima_ms in
    let zeros = c.zero_bytes-made in
    let put = c.put_refusal in
    let is = refuses a.reading a.channels a.block.now zeros.result r.new.out c.in-Err.refusal c.requires zeros.ensures c.in-Err.ensures in
    subst (λ (text : List ℕ). Stands a.out.now 0 text put.result put.new.out) (sym is) (rw c.number.ensures at put.ensures)

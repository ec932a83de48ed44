-- Where nothing changed, one word stands.
use Rattle.std.proofs.Common.{◌≡◌, Bool, [], length, sym, subst, rules, arith}
use Rattle.text.specs.Text.{Stands}
use Rattle.text.proofs.Behind.{stands-none, stands-more}
use Rattle.lines.specs.Lines.{same_line}
use Rattle.answer.specs.Answer.{loss_of, first_line}
use Rattle.answer.proofs.Repacked.put_first_line.Goals as goal

pub returns : goal.returns
returns c =
    let block = c.args.self in
    let out = c.args.out.now in
    let same = c.put.new.self in
    let room : length out ≡ 8245 = search rules in
    let stands = stands-more out 0 [] same_line 0 same.at out same.out.now (omega (arith, room)) (stands-none out 0) c.put.ensures.1 c.put.ensures.2 in (
      subst (λ (b : Bool). Stands out 0 (first_line b (loss_of block.channels block.given.now block.made.now)) same.at same.out.now) (sym c.if-changed.false) stands,
      omega (arith, stands.0),
    )

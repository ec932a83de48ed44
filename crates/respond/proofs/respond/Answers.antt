use Rattle.std.proofs.Common.{rules, arith, ◌≡◌, take}
use Rattle.std.proofs.lemmas.Result.{on_ok_weaker}
use Rattle.answer.specs.Answer.{answer_to}
use Rattle.respond.proofs.Known.{reads, answers, text_is}
use Rattle.respond.proofs.respond.Goals as goal

pub returns-clause-reads : goal.returns-clause-reads
returns-clause-reads g c =
    let read = c.in_ok-n.ensures in
    let gone = reads (g.R.Read.remaining c.args.input.now) (g.R.Read.remaining c.read_full.new.input) c.in_ok-n.n c.read_full.new.buf (omega (arith, read.room)) read.within read.bytes read.end in
    on_ok_weaker c.write_all.result (λ _. gone) c.write_all.ensures.bytes

pub returns-clause-answers : goal.returns-clause-answers
returns-clause-answers g c =
    let read = c.in_ok-n.ensures in
    let made = c.answer-end.ensures in
    let text = answer_to c.args.reading (take c.in_ok-n.n c.read_full.new.buf) in
    let is : take c.answer-end.result c.answer-end.new.out ≡ text = search (rules, text_is) in
    on_ok_weaker c.write_all.result
    (answers c.args.reading (g.R.Read.remaining c.args.input.now) (g.R.Read.remaining c.read_full.new.input) (g.W.Write.contents c.args.output.now) (g.W.Write.contents c.write_all.new.self) c.in_ok-n.n c.read_full.new.buf _ (omega (arith, read.room)) read.within read.bytes read.end is)
    c.write_all.ensures.bytes

-- The first line, and then the new block, which stands behind it.
use Rattle.std.proofs.Common.{◌≡◌, ◌++◌, length, rules, arith}
use lib.ListN.{length-append}
use Rattle.text.specs.Text.{ascii, hex}
use Rattle.text.proofs.Behind.{stands-more, stands-next}
use Rattle.text.proofs.Hex.{hex-length}
use Rattle.answer.specs.Answer.{loss_of, first_line}
use Rattle.answer.proofs.Repacked.put_lines.Goals as goal

pub returns : goal.returns
returns c =
    let block = c.args.self in
    let out = c.args.out.now in
    let line = c.put_first_line-at in
    let digits = c.put_hex in
    let last = c.put in
    let bytes = block.made.now in
    let first = first_line c.args.changed (loss_of block.channels block.given.now bytes) in
    let (s₁, few) = line.ensures in
    let room : length out ≡ 8245 = search rules in
    let l₁ = length-append first (hex bytes) in
    let l₂ = length-append (first ++ hex bytes) (ascii "\n") in
    let s₂ =
    stands-more out 0 first (hex bytes) line.result digits.new.self.at line.new.out digits.new.self.out.now (omega (arith, room, few, hex-length bytes, block.alike, block.small.1, l₁, s₁.0)) s₁ digits.ensures.1 digits.ensures.2 in
    stands-next out 0 (first ++ hex bytes) (ascii "\n") digits.new.self last.new.self
    (omega (arith, room, few, hex-length bytes, block.alike, block.small.1, l₁, l₂, s₁.0)) s₂ last.ensures

-- Three texts, each behind the one before. Assumes nothing.
use Rattle.std.proofs.Common.{◌≡◌, [], ◌++◌, length, arith, rules, length-append}
use Rattle.text.specs.Text.{ascii, decimal}
use Rattle.text.proofs.Behind.{stands-none, stands-more, stands-next}
use Rattle.text.proofs.Decimal.{ten-digits}
use Rattle.lines.proofs.put_refusal.Goals as goal

pub returns : goal.returns
returns c =
    let out = c.args.out.now in
    let room : length out ≡ 8245 = search rules in
    let number = c.args.number in
    let few = ten-digits number (search rules) in
    let word = c.put in
    let end = c.put_decimal in
    let last = c.put-2 in
    let t₁ = ascii "refused " in
    let t₂ = t₁ ++ decimal number in
    let l₂ = length-append t₁ (decimal number) in
    let l₃ = length-append t₂ (ascii "\n") in
    let s₁ = stands-more out 0 [] t₁ 0 word.new.self.at out word.new.self.out.now (omega arith) (stands-none out 0) word.ensures.1 word.ensures.2 in
    let s₂ = stands-next out 0 t₁ (decimal number) word.new.self end.new.self (omega arith) s₁ (rw c.from.ensures at end.ensures) in
    stands-next out 0 t₂ (ascii "\n") end.new.self last.new.self (omega arith) s₂ last.ensures

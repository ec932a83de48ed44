-- Seven texts, each behind the one before. Assumes nothing.
use Rattle.std.proofs.Common.{◌≡◌, [], ◌++◌, length, arith, rules, length-append}
use Rattle.text.specs.Text.{ascii, decimal}
use Rattle.text.proofs.Behind.{stands-none, stands-more, stands-next}
use Rattle.text.proofs.Decimal.{ten-digits}
use Rattle.lines.specs.Lines.{place_text}
use Rattle.lines.proofs.put_change.Goals as goal

pub returns : goal.returns
returns c =
    let loss = c.args.loss in
    let out = c.args.out.now in
    let room : length out ≡ 8245 = search rules in
    let few₁ = ten-digits loss.count (search rules) in
    let few₂ = c.put_place.ensures.1 in
    let few₃ = ten-digits loss.peak (search rules) in
    let word = c.put in
    let count = c.put_decimal in
    let second = c.put-2 in
    let place = c.put_place in
    let third = c.put-3 in
    let peak = c.put_decimal-2 in
    let last = c.put-4 in
    let t₁ = ascii "changed " in
    let t₂ = t₁ ++ decimal loss.count in
    let t₃ = t₂ ++ ascii " first " in
    let t₄ = t₃ ++ place_text loss.first in
    let t₅ = t₄ ++ ascii " peak " in
    let t₆ = t₅ ++ decimal loss.peak in
    let l₂ = length-append t₁ (decimal loss.count) in
    let l₃ = length-append t₂ (ascii " first ") in
    let l₄ = length-append t₃ (place_text loss.first) in
    let l₅ = length-append t₄ (ascii " peak ") in
    let l₆ = length-append t₅ (decimal loss.peak) in
    let l₇ = length-append t₆ (ascii "\n") in
    let s₁ = stands-more out 0 [] t₁ 0 word.new.self.at out word.new.self.out.now (omega arith) (stands-none out 0) word.ensures.1 word.ensures.2 in
    let s₂ = stands-next out 0 t₁ (decimal loss.count) word.new.self count.new.self (omega arith) s₁ count.ensures in
    let s₃ = stands-next out 0 t₂ (ascii " first ") count.new.self second.new.self (omega arith) s₂ second.ensures in
    let s₄ = stands-next out 0 t₃ (place_text loss.first) second.new.self place.new.sheet (omega arith) s₃ place.ensures.0 in
    let s₅ = stands-next out 0 t₄ (ascii " peak ") place.new.sheet third.new.self (omega arith) s₄ third.ensures in
    let s₆ = stands-next out 0 t₅ (decimal loss.peak) third.new.self peak.new.self (omega arith) s₅ (rw c.from.ensures at peak.ensures) in
    let s₇ = stands-next out 0 t₆ (ascii "\n") peak.new.self last.new.self (omega arith) s₆ last.ensures in
    (s₇, omega (arith, s₇.0))

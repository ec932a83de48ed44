-- Where there is no room nothing is put, and else all of the text. Assumes nothing.
use Rattle.std.proofs.Common.{◌≡◌, ◌-◌, ◌<◌, length, refl, ◌∙◌, arith, rules}
use Rattle.std.proofs.lemmas.List.Edits.{paste_all}
use Rattle.std.proofs.lemmas.Slice.{put_mid-paste}
use Rattle.text.proofs.Behind.{not-put, was-put}
use Rattle.text.proofs.Sheet.put.Goals as goal

pub returns-then-end-self : goal.returns-then-end-self
returns-then-end-self c =
    let s = c.args.self.now in
    let text = c.args.text.now in
    let end = c.saturating_add-end.result in
    let size : length s.out.now < 9223372036854775808 = search rules in
    let copied : c.copy_from_slice.new.self ≡ text = search rules in
    let stands = put_mid-paste s.at (end - s.at) s.out.now c.copy_from_slice.new.self text (length text) copied (omega arith) refl ∙ paste_all s.out.now s.at text (length text) refl in
    let (place, buffer) = was-put s.out.now s.at text (omega arith) end _ (omega arith, stands) in
    (refl, place, buffer)

pub returns-else-end-self : goal.returns-else-end-self
returns-else-end-self c =
    let s = c.args.self.now in
    let (place, buffer) = not-put s.out.now s.at c.args.text.now (omega arith) in
    (refl, place, buffer)

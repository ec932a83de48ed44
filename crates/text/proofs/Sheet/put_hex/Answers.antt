-- Where there is no room nothing is put, and else all of the digits. Assumes nothing.
use Rattle.std.proofs.Common.{◌+◌, ◌-◌, ◌*◌, ◌<◌, length, refl, ◌∙◌, arith, rules}
use Rattle.std.proofs.lemmas.List.Edits.{paste_all}
use Rattle.std.proofs.lemmas.Slice.{put_mid-paste}
use Rattle.text.specs.Text.{hex}
use Rattle.text.proofs.Behind.{not-put, was-put}
use Rattle.text.proofs.Hex.{hex-length}
use Rattle.text.proofs.Sheet.put_hex.Goals as goal

pub returns-then-end-self : goal.returns-then-end-self
returns-then-end-self c =
    let s = c.args.self.now in
    let text = hex c.args.bytes.now in
    let n = hex-length c.args.bytes.now in
    let end = c.saturating_add-end.result in
    let size : length s.out.now < 9223372036854775808 = search rules in
    let stands = put_mid-paste s.at (end - s.at) s.out.now c.write_hex.new.digits text (length text) c.write_hex.ensures (omega (arith, n)) refl ∙ paste_all s.out.now s.at text (length text) refl in
    let (place, buffer) = was-put s.out.now s.at text (omega (arith, n)) (s.at + 2 * length c.args.bytes.now) _ (omega (arith, n), stands) in
    (refl, place, buffer)

pub returns-else-end-self : goal.returns-else-end-self
returns-else-end-self c =
    let s = c.args.self.now in
    let bytes = c.args.bytes.now in
    let (place, buffer) = not-put s.out.now s.at (hex bytes) (omega (arith, hex-length bytes)) in
    (refl, place, buffer)

-- A turn writes the two digits of one byte more, and in the end they are all that there is. Assumes nothing.
use Rattle.std.proofs.Common.{◌≡◌, ◌+◌, ◌*◌, ◌++◌, [], ◌∷◌, take, slice_set, refl, sym, ap, ◌∙◌, arith, length-set}
use Rattle.std.proofs.lemmas.List.{take_more_set}
use mathlib.Core.List.{List, append_assoc}
use Prim.Native.Nat.{ℕ}
use lib.Seq.{take_all}
use Rattle.text.specs.Text.{hex}
use Rattle.text.proofs.Hex.{hex-more}
use Rattle.text.proofs.write_hex.Goals as goal

pub loop-k-init : goal.loop-k-init
unfolding hex
loop-k-init c = refl

pub loop-k-preserved : goal.loop-k-preserved
loop-k-preserved c =
    let bytes = c.args.bytes.now in
    let l = c.loop-k in
    let high = c.digit in
    let low = c.digit-in-loop-k in
    let once = slice_set l.digits (2 * l.k) high.result in
    let twice : 2 * (l.k + 1) ≡ 2 * l.k + 1 + 1 = omega arith in
    ap (λ (n : ℕ). take n (slice_set once (2 * l.k + 1) low.result)) twice
    ∙ take_more_set once (2 * l.k + 1) low.result (omega (arith, length-set l.digits (2 * l.k) high.result))
    ∙ ap (λ (ds : List ℕ). ds ++ (low.result ∷ [])) (take_more_set l.digits (2 * l.k) high.result (omega arith) ∙ ap (λ (ds : List ℕ). ds ++ (high.result ∷ [])) l.invariant)
    ∙ append_assoc (hex (take l.k bytes)) (high.result ∷ []) (low.result ∷ [])
    ∙ sym (hex-more bytes l.k high.result low.result (omega arith) high.ensures low.ensures)

pub returns : goal.returns
returns c =
    let bytes = c.args.bytes.now in
    let l = c.loop-k in
    sym (take_all (2 * l.k) l.digits (omega arith)) ∙ l.invariant ∙ ap hex (take_all l.k bytes (omega arith))

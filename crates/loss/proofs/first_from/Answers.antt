-- The first pair of two that differ is the first place. Assumes nothing.
use Rattle.std.proofs.Common.{◌≡◌, ◌+◌, ◌-◌, length, take, drop, ap, ◌∙◌, arith, rules, length-drop}
use Rattle.std.specs.Prelude.{option_map, position, zip}
use Rattle.std.proofs.lemmas.Iterator.{YieldsList-from_zip, YieldsList-from_slice}
use Rattle.std.proofs.lemmas.Iterator.Search.{position_from_yields_List}
use lib.Seq.{take_all}
use borrow.Author.Tests.{tests}
use Rattle.loss.specs.Private.{differ}
use Rattle.loss.proofs.Places.{first-place}
use Rattle.loss.proofs.first_from.Goals as goal

pub returns : goal.returns
returns c =
    let start = c.args.start in
    let before = c.args.before.now in
    let after = c.args.after.now in
    let xs = take (length before - start) (drop start before) in
    let ys = take (length after - start) (drop start after) in
    let found : c.position.result ≡ position differ (zip xs ys) =
    position_from_yields_List differ c.position.new.self _ c.position.result c.position.ensures.ran
    (YieldsList-from_zip (YieldsList-from_slice xs cc) (YieldsList-from_slice ys c.zip.ensures.second.0))
    (λ x b q k. search (rules, tests)) in
    let moved : c.map.result ≡ option_map (λ k. start + k) c.position.result = search rules in
    moved
    ∙ ap (option_map (λ k. start + k)) found
    ∙ first-place xs ys start
    ∙ rw (take_all (length before - start) (drop start before) (omega (arith, length-drop start before)), take_all (length after - start) (drop start after) (omega (arith, length-drop start after)))

-- Every header is tested.
use Rattle.std.proofs.Common.{rules, tests, arith, ◌∙◌}
use Rattle.std.proofs.lemmas.Iterator.{YieldsList-from_range}
use Rattle.std.proofs.lemmas.Iterator.Search.{all_from_yields_List}
use Rattle.ms_reading.proofs.Headers.{sound, each_sound}
use Rattle.ms_reading.proofs.sound_headers.Goals as goal

pub returns : goal.returns
returns c =
    let a = c.args in
    all_from_yields_List (sound a.block.now) _ _ _ c.all.ensures.ran (YieldsList-from_range 0 a.channels a.channels (cc) (omega arith)) (λ x b q k. search (rules, tests))
    ∙ each_sound a.block.now a.channels

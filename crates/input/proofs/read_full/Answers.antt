use Rattle.std.proofs.Common.{◌≡◌, ◌+◌, ◌-◌, length, arith, rules, le_refl}
use Rattle.std.proofs.lemmas.Slice.{take-put_mid_below}
use Rattle.input.proofs.Known.{kept, more}
use Rattle.input.proofs.read_full.Goals as goal
use Rattle.input.proofs.read_full.Goals.{in-Ok, in-Err}

pub loop-preserved : goal.loop-preserved
loop-preserved g c =
    let inv = c.loop.invariant in
    let at = c.loop.done in
    let old = c.loop.buf in
    let new = c.read.new.buf in
    elim c.match-read.branch [
      | in-Ok w ↦
          let read = w.in-Ok.ensures in
          let on : c.match-read.done ≡ at + w.in-Ok.n = omega arith in
          record {
            within = search rules;
            bytes = rw on (more _ _ _ at _ w.in-Ok.n old new inv.within read.bound.0 inv.bytes read.bytes.0);
          }
      | in-Err w ↦
          let same = take-put_mid_below at (length old - at) old new at (le_refl _) inv.within in
          let stays : c.match-read.done ≡ at = omega arith in
          record { within = search rules; bytes = rw stays (kept _ _ _ _ _ inv.bytes w.in-Err.ensures.bytes same) }
    ]

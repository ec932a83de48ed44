-- A turn keeps what one stretch more shows, until none is left. Assumes nothing.
use Rattle.std.proofs.Common.{◌≡◌, ◌∙◌, length, ap, arith, length-append}
use mathlib.Core.Logic.{⊎_elim}
use Rattle.loss.specs.Loss.{distances}
use Rattle.loss.specs.Private.{Sees}
use Rattle.loss.proofs.Kept.{more, leads-on, seen}
use Rattle.loss.proofs.Places.{gone}
use Rattle.loss.proofs.look.Goals as goal
use Rattle.loss.proofs.look.Goals.{then-count-eq0, else-count-eq0}

pub loop-xs-preserved : goal.loop-xs-preserved
loop-xs-preserved c =
    let before = c.args.before.now in
    let after = c.args.after.now in
    let l = c.loop-xs in
    let inv = l.invariant in
    let xs = c.in-Some.xs.now in
    let ys = c.in-Some.ys.now in
    let us = c.next.new.self.a.rest.now in
    let vs = c.next.new.self.b.rest.now in
    let (first, second) = rw c.in-Some.is at c.next.ensures.steps in
    let same : length xs ≡ length ys = omega arith in
    let parts = ap length first.1.0 ∙ length-append xs us in
    let parts₂ = ap length second.1.0 ∙ length-append ys vs in
    let found : Sees (distances xs ys) c.from-count.result c.stretch-seen.result.largest = rw c.from-count.ensures c.stretch-seen.ensures.0 in
    record {
      sizes = (first.0 ∙ inv.sizes.0, second.0 ∙ inv.sizes.1);
      same = omega arith;
      kept = more (distances before after) xs ys us vs same first.1.0 second.1.0 found c.max-largest.ensures inv.kept;
      leads =
          elim c.if-count-eq0.branch [
            | then-count-eq0 w ↦ rw w.alike-is (leads-on before after xs ys same first.1.0 second.1.0 found w.if-count-eq0.true inv.leads)
            | else-count-eq0 w ↦ rw w.alike-is (record { first = inv.leads.first; even = λ e. absurd (w.if-count-eq0.false e) })
          ];
      few = omega (arith, c.stretch-seen.ensures.1);
      within = elim c.if-count-eq0.branch [ then-count-eq0 w ↦ omega arith | else-count-eq0 w ↦ omega arith ];
    }

pub returns : goal.returns
returns c =
    let before = c.args.before.now in
    let after = c.args.after.now in
    let l = c.loop-xs in
    let inv = l.invariant in
    let us = l.xs-iterator.a.rest.now in
    let vs = l.xs-iterator.b.rest.now in
    let none : length us ≡ 0 = ⊎_elim (λ p. p.1.1.0) (λ p. omega (arith, p.1.1.0)) (rw c.in-None.is at c.next.ensures.steps) in
    (seen (distances before after) (gone us vs inv.same 0 (omega arith)) inv.kept, inv.leads.first, omega arith)

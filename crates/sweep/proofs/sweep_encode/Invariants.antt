-- The answers before k are written.
use Rattle.std.proofs.Common.{◌≡◌, length}
use Rattle.std.proofs.Math.IntN.{sub_ℕ}
use Rattle.num.proofs.Lists.{Upto}
use Rattle.ima_nibble.specs.Table.{ima_steps}
use Rattle.ima_step.specs.View.{wide_of}
use Rattle.sweep.specs.Answers.{answer_of}
use Rattle.sweep.proofs.sweep_encode.Given as goal

abbrev pub invariant-loop-k : goal.invariant-loop-k
invariant-loop-k l = record {
  written : Upto (λ k. answer_of ima_steps (wide_of l.wide) (sub_ℕ k 32768)) 65536 l.answers l.k;
  whole : length l.answers ≡ 65536;
}

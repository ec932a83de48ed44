-- A call that reads a block in either reading, and answers by its lengths and then by its headers. Assumes nothing.
use mathlib.Core.Path.{◌≡◌, sym, ap, ◌∙◌}
use mathlib.Core.List.{List}
use Prim.Native.Nat.{ℕ}
use Rattle.num.specs.Outcome.{outcome, outcome_by}
use Rattle.refusal.specs.declared.Refusal.{Refusal}
use Rattle.refusal.specs.Refusal.{refusal_number}
use Rattle.refusal.proofs.Numbers.{number-not-0, refuses}
use Rattle.ms_block.specs.declared.Reading.{Reading}
use Rattle.ms_block.specs.Readings.{read_by}
use Rattle.ms_block.proofs.Readings.{others-first}

module _ (reading : Reading) (c : ℕ) (block : List ℕ) {Back Buffer : Type 0} (made given : Back × Buffer) where
  abbrev pub Refuses : Refusal → ℕ → Type 0
  Refuses r number = outcome (refusal_number r) given.0 given.1 ≡ outcome_by (read_by reading c block number) made given

  -- What the lengths refuse is refused by their number, whatever the headers;
  pub by_lengths : (r : Refusal) (number : ℕ) → refusal_number r ≡ number → Refuses r number
  by_lengths r number is =
      sym (refuses r made given)
      ∙ ap (λ n. outcome_by n made given) (sym (others-first c block reading (refusal_number r) (number-not-0 r)))
      ∙ ap (λ n. outcome_by (read_by reading c block n) made given) is

  -- what the headers refuse, by theirs;
  pub by_headers : (r : Refusal) (number : ℕ) → 0 ≡ number → refusal_number r ≡ read_by reading c block 0 → Refuses r number
  by_headers r number taken is =
      sym (refuses r made given)
      ∙ ap (λ n. outcome_by n made given) (is ∙ ap (read_by reading c block) taken)

  -- and what neither refuses is done.
  pub by_none : (number : ℕ) → 0 ≡ number → 0 ≡ read_by reading c block 0 → outcome 0 made.0 made.1 ≡ outcome_by (read_by reading c block number) made given
  by_none number taken is = ap (λ n. outcome_by n made given) (is ∙ ap (read_by reading c block) taken)

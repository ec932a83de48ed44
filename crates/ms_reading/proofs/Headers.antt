-- A test of every header by its number is that of the headers. Assumes nothing.
use mathlib.Core.Path.{◌≡◌, refl, sym, ap, ◌∙◌}
use mathlib.Core.Bool.{Bool, ◌&&◌, and-true}
use mathlib.Core.List.{List, ◌∷◌, [], map, ◌++◌}
use Prim.Native.Nat.{ℕ, zero, suc}
use native.Mathlib.Omega.{arith}
use lib.Dec.{leb}
use Rattle.std.specs.List.{list_all, range_with_len}
use Rattle.std.proofs.Common.{add-one}
use Rattle.std.proofs.lemmas.List.Folds.{list_all-append, list_all-map}
use Rattle.std.proofs.lemmas.List.FromFn.{map-range_with_len_more}
use Rattle.ms_block.specs.Readings.{header_index, sound_headers}

module _ (block : List ℕ) where
  abbrev pub sound : ℕ → Bool
  sound e = leb (header_index block e) 88

  next : (c : ℕ) → map sound (range_with_len 0 (suc c)) ≡ map sound (range_with_len 0 c) ++ (sound c ∷ [])
  next c = rw add-one at (map-range_with_len_more {X = Bool} sound 0 c c (omega arith))

  pub each_sound : (c : ℕ) → list_all sound (range_with_len 0 c) ≡ sound_headers c block
  unfolding sound_headers
  each_sound zero = refl
  each_sound (suc c) =
      sym (list_all-map (λ b. b) sound (range_with_len 0 (suc c)))
      ∙ ap (list_all (λ b. b)) (next c)
      ∙ list_all-append (λ b. b) (map sound (range_with_len 0 c)) (sound c ∷ [])
      ∙ ap (λ b. list_all (λ b. b) (map sound (range_with_len 0 c)) && b) (and-true (sound c))
      ∙ ap (λ b. b && sound c) (list_all-map (λ b. b) sound (range_with_len 0 c) ∙ each_sound c)

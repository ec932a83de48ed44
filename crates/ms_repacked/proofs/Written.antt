-- What repacking gives, the encoder could have written. Assumes nothing.
use mathlib.Core.Path.{refl, sym, ◌∙◌}
use mathlib.Core.Bool.{cond}
use mathlib.Core.List.{List, []}
use Prim.Native.Nat.{ℕ, ◌≤◌}
use lib.Dec.{ltb}
use lib.ListN.{length}
use native.Mathlib.Omega.{arith}
use borrow.Table.Steps.{cases}
use Rattle.num.proofs.Lists.{all_from, length_from}
use Rattle.ima_nibble.specs.Step.{State}
use Rattle.ms_block.specs.Header.{head_of}
use Rattle.ms_block.specs.Sizes.{most, Taken}
use Rattle.ms_block.proofs.Sizes.{Shape}
use Rattle.ms_block.specs.Block.{bytes_in, decoded_ms_block, state_in}
use Rattle.ms_repacked.specs.Repack.{starts_of, repacked}
use Rattle.ms_repacked.specs.Written.{Written}
use Rattle.ms_repacked.proofs.Settled.{head-held, block_in, samples-shape, repacked-length}

starts-held : (c : ℕ) (block : List ℕ) (e : ℕ) → (cond (ltb e c) (head_of (bytes_in c block e)) (state_in [] e)).index ≤ 88
starts-held c block e = cases (ltb e c) (λ t. rw t (head-held (bytes_in c block e))) (λ t. rw t (omega arith))

-- From the samples and indices that it was written from.
pub by-repacking : (c m : ℕ) (block : List ℕ) → Shape c (length block) m → Taken c (length block) m → Written c (repacked c block)
unfolding repacked
by-repacking c m block is taken =
    let many = (samples-shape block is).fits ∙ sym is.fits in
    record {
      samples = decoded_ms_block c block;
      states = starts_of c block;
      within = block_in c block;
      channels = length_from _ most 0;
      indices = all_from _ (λ (st : State). st.index ≤ 88) (starts-held c block) most 0;
      taken = rw (repacked-length block is, many) taken;
      writes = refl;
    }

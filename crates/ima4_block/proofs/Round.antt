-- A block, and then a run of them, encoded and decoded again: the header is one that the decoder keeps, so the nibbles of all blocks are one series.
-- Assumes nothing.
use mathlib.Core.Path.{◌≡◌, refl, ap, ◌∙◌}
use mathlib.Core.List.{List, [], ◌++◌}
use Prim.Native.Nat.{ℕ, suc, ◌*◌, min}
use native.Mathlib.Omega.{arith}
use lib.IntN.{ℤ}
use lib.ListN.{length}
use Rattle.num.proofs.Lists.{all_split}
use Rattle.ima_nibble.specs.Step.{State, sixteen, In, Good}
use Rattle.ima_nibble.specs.Table.{ima_steps}
use Rattle.ima_nibble.specs.Series.{Done, done, after, Within, encoded, predictors, packed}
use Rattle.ima_nibble.proofs.Rising.{step-within}
use Rattle.ima_nibble.proofs.Series.{packed-length, encoded-length, predictors-length}
use Rattle.ima_nibble.proofs.Series.{encoded-append, predictors-append, decodes-back, encoded-unpacked, end-good, encodes-again}
use Rattle.ima4_block.specs.Header.{ima4_header, lowered_state}
use Rattle.ima4_block.proofs.Kept.{kept}
use Rattle.ima4_block.specs.Block.{decoded_ima4_block, encoded_ima4_block}
use Rattle.ima4_block.specs.Run.{run}
use Rattle.ima4_block.proofs.Cut.{blocks, nothing, first}

abbrev enc : State → List ℤ → Done ℕ
enc = encoded sixteen ima_steps

abbrev preds : State → List ℤ → List ℤ
preds = predictors sixteen ima_steps

-- ---- lengths

pub encoded-34 : (st : State) (xs : List ℤ) → length xs ≡ 64 → length (encoded_ima4_block st xs).written ≡ 34
unfolding encoded_ima4_block
encoded-34 st xs e = ap (λ n. suc (suc n)) (packed-length 32 (enc (lowered_state st) xs).written (encoded-length sixteen ima_steps (lowered_state st) xs ∙ e))

-- ---- one block

module _ (st : State) (good : Good sixteen st) where
  -- a state that is lowered already
  plain : (xs : List ℤ) → encoded_ima4_block st xs ≡ done (ima4_header st ++ packed (enc st xs).written) (enc st xs).end
  unfolding encoded_ima4_block
  plain xs = let e : min st.index 88 ≡ st.index = omega (arith, good.held) in rw e

  pub block-end : (xs : List ℤ) → (encoded_ima4_block st xs).end ≡ (enc st xs).end
  block-end xs = ap (λ r. r.end) (plain xs)

  pub good-end : (xs : List ℤ) → Good sixteen (enc st xs).end
  good-end xs = end-good sixteen ima_steps st xs good

  pub block_back : (xs : List ℤ) → length xs ≡ 64 → decoded_ima4_block st (encoded_ima4_block st xs).written ≡ done (preds st xs) (enc st xs).end
  unfolding decoded_ima4_block
  block_back xs e = rw (plain xs, kept st good, encoded-unpacked sixteen ima_steps 32 st xs e) (decodes-back sixteen ima_steps st xs)

  pub block-again : (xs : List ℤ) → Within sixteen xs → encoded_ima4_block st (preds st xs) ≡ encoded_ima4_block st xs
  block-again xs h =
      rw (plain xs, plain (preds st xs), encodes-again sixteen ima_steps (λ st. omega (arith, step-within st)) st xs good.inside h)

-- ---- a run

-- the first block hands on the state that the series has there
enc-first : (n : ℕ) (st : State) → Good sixteen st → (xs ys : List ℤ) → length xs ≡ 64
    → run encoded_ima4_block 64 (suc n) st (xs ++ ys) ≡ after (encoded_ima4_block st xs).written (run encoded_ima4_block 64 n (enc st xs).end ys)
enc-first n st good xs ys e = rw (← (block-end st good xs)) (first encoded_ima4_block 64 n st xs ys e)

pub run_end : (n : ℕ) (xs : List ℤ) → length xs ≡ 64 * n → (st : State) → Good sixteen st → (run encoded_ima4_block 64 n st xs).end ≡ (enc st xs).end
unfolding encoded
run_end =
    blocks 64
    (λ st good. rw (nothing encoded_ima4_block 64 st []))
    (λ n xs ys e h st good.
    rw (enc-first n st good xs ys e, encoded-append sixteen ima_steps st xs ys) (h (enc st xs).end (good-end st good xs)))

pub run-back : (n : ℕ) (xs : List ℤ) → length xs ≡ 64 * n → (st : State) → Good sixteen st
    → run decoded_ima4_block 34 n st (run encoded_ima4_block 64 n st xs).written ≡ done (preds st xs) (enc st xs).end
unfolding encoded predictors
run-back =
    blocks 64
    (λ st good. nothing decoded_ima4_block 34 st _)
    (λ n xs ys e h st good.
    let t = (enc st xs).end in
    rw (
      enc-first n st good xs ys e,
      encoded-append sixteen ima_steps st xs ys,
      predictors-append sixteen ima_steps st xs ys,
      first decoded_ima4_block 34 n st (encoded_ima4_block st xs).written (run encoded_ima4_block 64 n t ys).written (encoded-34 st xs e),
      block_back st good xs e,
    )
    (ap (after (preds st xs)) (h t (good-end st good xs))))

pub run-again : (n : ℕ) (xs : List ℤ) → length xs ≡ 64 * n → (st : State) → Good sixteen st → Within sixteen xs
    → run encoded_ima4_block 64 n st (preds st xs) ≡ run encoded_ima4_block 64 n st xs
unfolding predictors
run-again =
    blocks 64
    (λ st good within. refl)
    (λ n xs ys e h st good within.
    let t = (enc st xs).end in
    let (l, r) = all_split (In sixteen) xs ys within in
    rw (
      predictors-append sixteen ima_steps st xs ys,
      enc-first n st good xs ys e,
      first encoded_ima4_block 64 n st (preds st xs) (preds t ys) (predictors-length sixteen ima_steps st xs ∙ e),
      block-again st good xs l,
      block-end st good xs,
    )
    (ap (after (encoded_ima4_block st xs).written) (h t (good-end st good xs) r)))

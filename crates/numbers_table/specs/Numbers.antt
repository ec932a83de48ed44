-- 'Numbers to hold' of the scope: those that are marked P, as one table, in the scope's order and under its words. A row has what a
-- definition gives, and what the scope says. Each definition is the one that a call's contract equates its whole answer with, for all inputs
-- (adpcm_ima, g711, ms_decode, repacking), so what the table says of the definitions holds of the calls. Assumes nothing.
use Rattle.std.specs.Prelude.{false, List, [], ◌∷◌, ℕ, ℤ, pos, neg_ℤ}
use Rattle.num.specs.Outcome.{outcome}
use Rattle.g711.specs.Law.{mu_law, a_law, sample_of, code_of}
use Rattle.ima_nibble.specs.Step.{State, state, sixteen, stepped, emitted}
use Rattle.ima_nibble.specs.Table.{ima_steps}
use Rattle.ms_block.specs.declared.Reading.TheVariants.{Strict}
use Rattle.ms_block.specs.Block.{no_counts}
use Rattle.ms_block.specs.Call.{decode_ms}
use Rattle.ms_repacked.specs.Repack.{repack_ms}

-- ---- Tables

-- A row, whose two sides are of one type, which may be another in each row.
infix 68 ◌gives◌
pub data Row : Type 1 where
  ◌gives◌ : {Y : Type 0} → Y → Y → Row

-- A column: one thing of each row's type. The left column is what the definitions give, and the right one what the scope says.
abbrev pub Column : List Row → Type 0
Column [] = Unit
Column (◌gives◌ {Y} x y ∷ rows) = Y × Column rows

abbrev pub left_column : (rows : List Row) → Column rows
left_column [] = tt
left_column (x gives y ∷ rows) = (x, left_column rows)

abbrev pub right_column : (rows : List Row) → Column rows
right_column [] = tt
right_column (x gives y ∷ rows) = (y, right_column rows)

-- ---- What the rows ask

abbrev pub unclipped : ℤ → ℕ → State
unclipped p i = state p i 0

-- Decoding a nibble gives the next state, whose predictor is the sample.
abbrev pub decode : State → ℕ → State
decode = stepped sixteen ima_steps

-- Encoding a sample gives a nibble, and the next state.
abbrev pub encode : State → ℤ → ℕ × State
encode st x = let v = emitted sixteen ima_steps st x in (v, stepped sixteen ima_steps st v)

abbrev pub mono : List ℕ
mono = 0x00 ∷ 0x00 ∷ 0x00 ∷ 0x00 ∷ 0x17 ∷ []

-- The buffers that the two calls are lent, with something else in them.
abbrev pub samples : List ℤ
samples = pos 1 ∷ pos 1 ∷ pos 1 ∷ []

abbrev pub bytes : List ℕ
bytes = 1 ∷ 1 ∷ 1 ∷ 1 ∷ 1 ∷ []

-- ---- The table

abbrev pub numbers : List Row
numbers =
    -- State is (predictor, index); none of these steps is clipped but one.
    -- decode (0,0): 7 gives 11, index 8; 15 gives -11, index 8; 8 gives 0, index 0.
    decode (unclipped (pos 0) 0) 7 gives unclipped (pos 11) 8 ∷
    decode (unclipped (pos 0) 0) 15 gives unclipped (neg_ℤ (pos 11)) 8 ∷
    decode (unclipped (pos 0) 0) 8 gives unclipped (pos 0) 0 ∷
    -- decode (0,255): 0 gives 4095, index 87. decode (0,88): 7 gives 32767, index 88. The sum is 61,436.
    decode (unclipped (pos 0) 255) 0 gives unclipped (pos 4095) 87 ∷
    decode (unclipped (pos 0) 88) 7 gives state (pos 32767) 88 1 ∷
    -- encode (0,0): 0 gives 0; -1 gives 9 and (-1,0); 32767 gives 7 and (11,8).
    (encode (unclipped (pos 0) 0) (pos 0)).0 gives 0 ∷
    encode (unclipped (pos 0) 0) (neg_ℤ (pos 1)) gives (9, unclipped (neg_ℤ (pos 1)) 0) ∷
    encode (unclipped (pos 0) 0) (pos 32767) gives (7, unclipped (pos 11) 8) ∷
    -- encode (32758,0): 32767 gives 5 and (32766,4).
    encode (unclipped (pos 32758) 0) (pos 32767) gives (5, unclipped (pos 32766) 4) ∷
    -- mono `00 00 00 00 17` decodes to 0, 11, 17 and repacks to itself.
    decode_ms Strict 1 mono samples gives outcome 0 no_counts (pos 0 ∷ pos 11 ∷ pos 17 ∷ []) ∷
    repack_ms Strict 1 mono bytes gives outcome 0 false mono ∷
    -- mu-law 0x7f decodes to 0, and 0 encodes to 0xff. A-law 0xd5 decodes to 8.
    sample_of mu_law 0x7f gives pos 0 ∷
    code_of mu_law (pos 0) gives 0xff ∷
    sample_of a_law 0xd5 gives pos 8 ∷
    []
